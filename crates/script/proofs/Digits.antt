-- Bytes and the digits that write them.
use Rattle.std.proofs.Common.{◌≡◌, ℕ, suc, ◌*◌, ◌/◌, ◌%◌, ◌<◌, ◌≢◌, ◌⊎◌, List, [], ◌∷◌, ◌++◌, length, get_or, drop, refl, sym, ap, ◌∙◌, inl, inr, arith}
use Rattle.std.proofs.lemmas.List.{length-append, append-nil}
use Rattle.script.specs.Hex.{digit_of, hex_of, NotDigit, WritesNone}

length-hex_of : (bs : List ℕ) → length (hex_of bs) ≡ 2 * length bs
length-hex_of [] = refl
length-hex_of (b ∷ bs) = let rest = length-hex_of bs in omega arith

two_more : (read digits rest : List ℕ) (b : ℕ) → length digits ≡ 2 → digit_of (b / 16) ≡ get_or digits 0 0 → digit_of (b % 16) ≡ get_or digits 1 0
    → hex_of read ++ (digits ++ rest) ≡ hex_of (read ++ b ∷ []) ++ rest
two_more [] (h ∷ l ∷ []) rest b two high low = cc
two_more [] [] rest b two high low = absurd (omega arith)
two_more [] (h ∷ []) rest b two high low = absurd (omega arith)
two_more [] (h ∷ l ∷ x ∷ xs) rest b two high low = absurd (omega arith)
two_more (x ∷ xs) digits rest b two high low = ap (λ (t : List ℕ). digit_of (x / 16) ∷ digit_of (x % 16) ∷ t) (two_more xs digits rest b two high low)

-- the bytes read so far with one more, where that is written by the next two digits
pub turn : (text read after left digits rest : List ℕ) (b : ℕ) → text ≡ hex_of read ++ left → left ≡ digits ++ rest → length digits ≡ 2
    → digit_of (b / 16) ≡ get_or digits 0 0 → digit_of (b % 16) ≡ get_or digits 1 0 → after ≡ read ++ b ∷ [] → text ≡ hex_of after ++ rest
turn text read after left digits rest b form next two high low more =
    let step = two_more read digits rest b two high low in
    cc

-- a text with an odd number of characters writes nothing, but for `-`
pub odd_none : (text : List ℕ) → length text % 2 ≢ 0 → (text ≡ 45 ∷ [] → ⊥) → WritesNone text
odd_none text odd other bytes small (inl written) = let e = length-hex_of bytes in let l = ap length written in omega arith
odd_none text odd other bytes small (inr dash) = other dash.0

-- no bytes are written by digits and then two characters of which one is no digit
stray : (read digits rest bytes : List ℕ) → length digits ≡ 2 → NotDigit (get_or digits 0 0) ⊎ NotDigit (get_or digits 1 0)
    → ((k : ℕ) → get_or bytes k 0 < 256) → hex_of bytes ≡ hex_of read ++ (digits ++ rest) → ⊥
stray [] (h ∷ l ∷ []) rest (b ∷ bs) two odd small e =
    let few : b < 256 = small 0 in
    elim odd [
      | inl no-high ↦ no-high (b / 16) (omega arith) (ap (λ (t : List ℕ). get_or t 0 0) e)
      | inr no-low ↦ no-low (b % 16) (omega arith) (ap (λ (t : List ℕ). get_or t 1 0) e)
    ]
stray [] [] rest bytes two odd small e = omega arith
stray [] (h ∷ []) rest bytes two odd small e = omega arith
stray [] (h ∷ l ∷ x ∷ xs) rest bytes two odd small e = omega arith
stray [] (h ∷ l ∷ []) rest [] two odd small e = let l = ap length e in omega arith
stray (x ∷ xs) digits rest [] two odd small e = let l = ap length e in omega arith
stray (x ∷ xs) digits rest (b ∷ bs) two odd small e = stray xs digits rest bs two odd (λ k. small (suc k)) (ap (drop 2) e)

-- so a text of this form with an even number of characters writes nothing
pub stray_none : (text read left digits rest : List ℕ) → text ≡ hex_of read ++ left → left ≡ digits ++ rest → length digits ≡ 2 → length text % 2 ≡ 0
    → NotDigit (get_or digits 0 0) ⊎ NotDigit (get_or digits 1 0) → WritesNone text
stray_none text read left digits rest form next two even odd bytes small (inl written) =
    stray read digits rest bytes two odd small (written ∙ form ∙ ap (λ (t : List ℕ). hex_of read ++ t) next)
stray_none text read left digits rest form next two even odd bytes small (inr dash) = let l = ap length dash.0 in omega arith

-- where fewer than two characters of an even number are left, none is
pub whole : (text read rest : List ℕ) → text ≡ hex_of read ++ rest → length text % 2 ≡ 0 → length rest < 2 → hex_of read ≡ text
whole text read [] form even few = sym (append-nil (hex_of read)) ∙ sym form
whole text read (c ∷ cs) form even few =
    let e = length-hex_of read in
    let l = ap length form ∙ length-append (hex_of read) (c ∷ cs) in
    absurd (omega arith)
