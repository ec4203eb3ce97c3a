-- What typed text gives.
use Rattle.std.proofs.Common.{◌≡◌, ℕ, ◌≤◌, ltb, List, [], ◌∷◌, ◌++◌, length, take, drop, map, Some, None, Err, Option, Result, sym, refl, ap, ◌∙◌, arith}
use Rattle.std.specs.Option.{ok_or}
use Rattle.std.specs.Char.{to_ascii_uppercase}
use Rattle.std.proofs.lemmas.List.{get_or-take, length-take-le}
use Rattle.std.proofs.lemmas.Bool.{le-ltb, cond-false}
use Rattle.std.proofs.lemmas.Bool.Decides.{nat_tests}
use Rattle.label.specs.Labels.{label_of}
use Rattle.label.specs.Typed.{kept_length, typed_byte, typed_bytes, raised, or_no_label, typed_label}
use Rattle.label.specs.declared.fault.TextFault.{TextFault}
use Rattle.label.specs.declared.fault.TextFault.TheVariants.{NoLabel}
use Rattle.label.specs.declared.label.Label.{Label}

or_no_label_lem : (o : Option Label) → ok_or o NoLabel ≡ or_no_label o
or_no_label_lem (Some l) = refl
or_no_label_lem None = refl

raised_is : (b : ℕ) → to_ascii_uppercase b ≡ raised b
raised_is b = grind (arith, nat_tests)

-- the bytes that stand in a text, raised, and blanks behind them
abbrev filled : (kept : List ℕ) → List ℕ
filled kept = map to_ascii_uppercase (kept ++ drop (length kept) (32 ∷ 32 ∷ 32 ∷ 32 ∷ 32 ∷ 32 ∷ 32 ∷ 32 ∷ []))

-- they are the bytes typed, where the text itself is kept
filled_typed : (kept : List ℕ) → length kept ≤ 8 → filled kept ≡ typed_bytes kept (length kept)
filled_typed [] h = refl
filled_typed (a ∷ []) h = simp raised_is
filled_typed (a ∷ b ∷ []) h = simp raised_is
filled_typed (a ∷ b ∷ c ∷ []) h = simp raised_is
filled_typed (a ∷ b ∷ c ∷ d ∷ []) h = simp raised_is
filled_typed (a ∷ b ∷ c ∷ d ∷ e ∷ []) h = simp raised_is
filled_typed (a ∷ b ∷ c ∷ d ∷ e ∷ f ∷ []) h = simp raised_is
filled_typed (a ∷ b ∷ c ∷ d ∷ e ∷ f ∷ g ∷ []) h = simp raised_is
filled_typed (a ∷ b ∷ c ∷ d ∷ e ∷ f ∷ g ∷ i ∷ []) h = simp raised_is
filled_typed (a ∷ b ∷ c ∷ d ∷ e ∷ f ∷ g ∷ i ∷ j ∷ _) h = absurd (omega arith)

typed_byte_taken : (text : List ℕ) (n i : ℕ) → typed_byte (take n text) n i ≡ typed_byte text n i
typed_byte_taken text n i = grind (arith, nat_tests, get_or-take)

typed_taken : (text : List ℕ) (n : ℕ) → typed_bytes (take n text) n ≡ typed_bytes text n
typed_taken text n = simp typed_byte_taken

-- a text of at most eight bytes gives what its eight bytes are
pub typed_is : (text kept copy bytes : List ℕ) (o : Option Label) (r : Result Label TextFault) → kept ≡ take (kept_length text) text → copy ≡ kept → length kept ≤ 8
    → bytes ≡ map to_ascii_uppercase (copy ++ drop (length kept) (32 ∷ 32 ∷ 32 ∷ 32 ∷ 32 ∷ 32 ∷ 32 ∷ 32 ∷ []))
    → o ≡ label_of bytes → r ≡ ok_or o NoLabel → r ≡ typed_label text
typed_is text kept copy bytes o r k p le b q u =
    let few : kept_length text ≤ length text = omega arith in
    let n : length kept ≡ kept_length text = ap length k ∙ length-take-le _ text few in
    let z = cond-false (ltb 8 (kept_length text)) (Err NoLabel) (or_no_label (label_of (typed_bytes text (kept_length text)))) (le-ltb 8 (kept_length text) (omega arith)) in
    let all : bytes ≡ typed_bytes text (kept_length text) =
    b ∙ ap (λ xs. map to_ascii_uppercase (xs ++ drop (length kept) (32 ∷ 32 ∷ 32 ∷ 32 ∷ 32 ∷ 32 ∷ 32 ∷ 32 ∷ []))) p
    ∙ filled_typed kept le ∙ ap (λ xs. typed_bytes xs (length kept)) k ∙ ap (typed_bytes (take (kept_length text) text)) n ∙ typed_taken text (kept_length text) in
    u ∙ or_no_label_lem o ∙ ap or_no_label (q ∙ ap label_of all) ∙ sym z
