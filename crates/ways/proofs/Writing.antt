-- Writing a list into a buffer from both of its ends.
use Rattle.std.proofs.Common.{◌≡◌, ℕ, ◌+◌, ◌-◌, ◌<◌, ◌≤◌, List, [], ◌∷◌, ◌++◌, length, take, drop, set, sym, ap, ◌∙◌, append_assoc, arith}
use lib.Seq.{take-append_seam, drop-append_seam}
use Rattle.std.proofs.lemmas.List.{take-set-le, drop-set-lt, take_more_set, drop-set, take-append-drop}

module _ {X : Type 0} (out : List X) (x : X) (front back : ℕ) where
  -- the last element that is left
  pub write_back : (mid all : List X) → front < back → back ≤ length out → take front out ++ ((mid ++ x ∷ []) ++ drop back out) ≡ all
      → take front (set out (back - 1) x) ++ (mid ++ drop (back - 1) (set out (back - 1) x)) ≡ all
  write_back mid all lt le e =
      let one : back - 1 + 1 ≡ back = omega arith in
      let kept = take-set-le front out (back - 1) x (omega arith) in
      let end : drop (back - 1) (set out (back - 1) x) ≡ x ∷ drop back out = drop-set out (back - 1) x (omega arith) ∙ ap (λ (k : ℕ). x ∷ drop k out) one in
      ap (λ (ys : List X). ys ++ (mid ++ drop (back - 1) (set out (back - 1) x))) kept
      ∙ ap (λ (ys : List X). take front out ++ (mid ++ ys)) end
      ∙ sym (ap (λ (ys : List X). take front out ++ ys) (append_assoc mid (x ∷ []) (drop back out)))
      ∙ e

  -- the first element that is left
  pub write_front : (mid all : List X) → front < back → back ≤ length out → take front out ++ ((x ∷ mid) ++ drop back out) ≡ all
      → take (front + 1) (set out front x) ++ (mid ++ drop back (set out front x)) ≡ all
  write_front mid all lt le e =
      ap (λ (ys : List X). ys ++ (mid ++ drop back (set out front x))) (take_more_set out front x (omega arith))
      ∙ ap (λ (ys : List X). (take front out ++ x ∷ []) ++ (mid ++ ys)) (drop-set-lt back out front x lt)
      ∙ append_assoc (take front out) (x ∷ []) (mid ++ drop back out)
      ∙ e

  -- the only element that is left
  pub write_last : (all : List X) → front + 1 ≡ back → back ≤ length out → take front out ++ ((x ∷ []) ++ drop back out) ≡ all → set out front x ≡ all
  write_last all one le e =
      sym (take-append-drop (front + 1) (set out front x))
      ∙ ap (λ (k : ℕ). take (front + 1) (set out front x) ++ drop k (set out front x)) one
      ∙ write_front [] all (omega arith) le e

-- a buffer that begins with what was written, and goes on as before
pub written_front : {X : Type 0} (out old all : List X) (n : ℕ) → length all ≡ n → out ≡ all ++ drop n old → (take n out ≡ all) × (drop n out ≡ drop n old)
written_front {X} out old all n l e = (
  ap (take n) e ∙ sym (ap (λ (k : ℕ). take k (all ++ drop n old)) l) ∙ take-append_seam all (drop n old),
  ap (drop n) e ∙ sym (ap (λ (k : ℕ). drop k (all ++ drop n old)) l) ∙ drop-append_seam all (drop n old),
)
