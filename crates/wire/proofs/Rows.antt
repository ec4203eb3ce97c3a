-- A column by the frames of its senders: what comes from a sender past the last frame is missing.
use Rattle.std.proofs.Common.{◌≡◌, ℕ, zero, suc, ◌+◌, min, Bool, List, [], ◌∷◌, map, length, take, count_by, Option, sym, refl, ap, ◌∙◌, arith}
use Rattle.std.specs.List.{range_with_len}
use Rattle.std.proofs.Math.Seq.{take-nil}
use Rattle.std.proofs.lemmas.List.{take_min}
use Rattle.slot.specs.Codings.{Coding}
use Rattle.wire.specs.Boxes.{from}
use Rattle.wire.specs.Frames.{sent}
use Rattle.wire.specs.Slots.{slot_from, column, holds, count, or_else, kept, first_with}
use Rattle.wire.specs.declared.frame.Frame.{Frame}
use Rattle.wire.proofs.Counts.{one, count_cons}

module _ {K : Type 0} (c : Coding K) (n s : ℕ) where
  -- what stands in the slot of a frame
  abbrev at : Option Frame → Option K
  at f = slot_from c n s (sent f)

  -- row f a says that the frames stand at the places from a on
  abbrev Row : (ℕ → Option K) → ℕ → List (Option Frame) → Type 0
  Row f a fs = (k : ℕ) → f (a + k) ≡ slot_from c n s (from (map sent fs) k)

  head_of : (f : ℕ → Option K) (a : ℕ) (fs : List (Option Frame)) → Row f a fs → f a ≡ slot_from c n s (from (map sent fs) 0)
  head_of f a fs h = let e : a + 0 ≡ a = omega arith in ap f (sym e) ∙ h 0

  tail_of : (f : ℕ → Option K) (a : ℕ) (x : Option Frame) (fs : List (Option Frame)) → Row f a (x ∷ fs) → Row f (a + 1) fs
  tail_of f a x fs h k = let e : a + 1 + k ≡ a + suc k = omega arith in ap f e ∙ h (suc k)

  none_of : (f : ℕ → Option K) (a : ℕ) → Row f a [] → Row f (a + 1) []
  none_of f a h k = let e : a + 1 + k ≡ a + suc k = omega arith in ap f e ∙ h (suc k)

  count_row : (v : K) (f : ℕ → Option K) (a m : ℕ) (fs : List (Option Frame)) → Row f a fs
      → count_by (holds c v) (map f (range_with_len a m)) ≡ count_by (holds c v) (map at (take m fs))
  count_row v f a zero fs h = refl
  count_row v f a (suc m) [] h =
      omega (
        arith,
        count_cons (holds c v) (f a) (map f (range_with_len (a + 1) m)),
        ap (λ o. one (holds c v o)) (head_of f a [] h),
        count_row v f (a + 1) m [] (none_of f a h),
        ap (λ (xs : List (Option Frame)). count_by (holds c v) (map at xs)) (take-nil m),
      )
  count_row v f a (suc m) (x ∷ fs) h =
      omega (
        arith,
        count_cons (holds c v) (f a) (map f (range_with_len (a + 1) m)),
        count_cons (holds c v) (at x) (map at (take m fs)),
        ap (λ o. one (holds c v o)) (head_of f a (x ∷ fs) h),
        count_row v f (a + 1) m fs (tail_of f a x fs h),
      )

  first_row : (P : K → Bool) (f : ℕ → Option K) (a m : ℕ) (fs : List (Option Frame)) → Row f a fs
      → first_with P (map f (range_with_len a m)) ≡ first_with P (map at (take m fs))
  first_row P f a zero fs h = refl
  first_row P f a (suc m) [] h =
      ap (λ o. or_else (kept P o) (first_with P (map f (range_with_len (a + 1) m)))) (head_of f a [] h)
      ∙ first_row P f (a + 1) m [] (none_of f a h) ∙ ap (λ (xs : List (Option Frame)). first_with P (map at xs)) (take-nil m)
  first_row P f a (suc m) (x ∷ fs) h =
      ap (λ o. or_else (kept P o) (first_with P (map f (range_with_len (a + 1) m)))) (head_of f a (x ∷ fs) h)
      ∙ ap (or_else (kept P (at x))) (first_row P f (a + 1) m fs (tail_of f a x fs h))

  row : (fs : List (Option Frame)) → Row (λ i. slot_from c n s (from (map sent fs) i)) 0 fs
  row fs i = let e : 0 + i ≡ i = omega arith in ap (λ j. slot_from c n s (from (map sent fs) j)) e

  front : (fs : List (Option Frame)) (k : ℕ) → length fs ≡ 16 → k ≡ min n 16 → take n fs ≡ take k fs
  front fs k size e = sym (take_min n fs) ∙ ap (λ j. take j fs) (ap (min n) size ∙ sym e)

  pub column_count : (v : K) (fs : List (Option Frame)) (k : ℕ) → length fs ≡ 16 → k ≡ min n 16
      → count c v (column c n s (map sent fs)) ≡ count_by (holds c v) (map at (take k fs))
  column_count v fs k size e = count_row v _ 0 n fs (row fs) ∙ ap (λ xs. count_by (holds c v) (map at xs)) (front fs k size e)

  pub column_first : (P : K → Bool) (fs : List (Option Frame)) (k : ℕ) → length fs ≡ 16 → k ≡ min n 16
      → first_with P (column c n s (map sent fs)) ≡ first_with P (map at (take k fs))
  column_first P fs k size e = first_row P _ 0 n fs (row fs) ∙ ap (λ xs. first_with P (map at xs)) (front fs k size e)
