-- The rounds of a grading, by what came in them.
use Rattle.std.proofs.Common.{◌≡◌, ℕ, ◌+◌, ◌-◌, ◌*◌, ◌≤◌, false, ◌&&◌, eqb, ltb, List, length, get_or, take, drop, replicate, Some, None, Option, sym, refl, ap, ◌∙◌, ⊎_elim, arith, take_at}
use Rattle.std.specs.List.{range_with_len}
use Rattle.std.proofs.lemmas.List.FromFn.{get_or-map-range_with_len}
use Rattle.std.proofs.lemmas.Bool.{cases_lt, cond-false, and_left, le-ltb}
use Rattle.slot.specs.Codings.{Coding, Lawful}
use Rattle.wire.specs.Boxes.{Box, from}
use Rattle.wire.specs.Slots.{slot_of, slot_from, slotted, column, reaches}
use Rattle.wire.proofs.Slotted.{slotted-length, slotted-read}
use Rattle.grading.specs.Grades.{grade_value, sure}
use Rattle.grading.specs.Gradings.{heard_from, voted_for, grade_by, unless_distrusted, tabled, sure_marks, grade_kept, ByRounds}
use Rattle.grading.specs.declared.grade.Grade.TheVariants.{Zero}
use Rattle.grading.proofs.Grades.{kept_is, first_of_none, no_votes, graded_by}

-- a slot past the last is missing
pub slot_past : {K : Type 0} (c : Coding K) (n s : ℕ) (frame : List ℕ) → n ≤ s → slot_of c n s frame ≡ None
slot_past c n s frame h =
    cond-false (ltb s n && eqb (length frame) (c.wide * n)) (c.reads (take c.wide (drop (c.wide * s) frame))) None
    (and_left (ltb s n) (eqb (length frame) (c.wide * n)) (le-ltb s n h))

from_past : {K : Type 0} (c : Coding K) (n s : ℕ) → n ≤ s → (o : Option (List ℕ)) → slot_from c n s o ≡ None
from_past c n s h None = refl
from_past c n s h (Some frame) = slot_past c n s frame h

module _ {K : Type 0} (c : Coding K) (l : Lawful c) where
  -- the slots at the start of a table
  pub tabled_front : (f : ℕ → Option K) (n : ℕ) → take (c.wide * n) (tabled c f n) ≡ slotted c f n
  tabled_front f n = take_at (slotted c f n) (replicate (128 - c.wide * n) 0) (c.wide * n) (slotted-length c l f n)

  -- there is no sender past the last
  pub past_zero : (n t s : ℕ) (box : Box) → n ≤ s → grade_by c n t box s ≡ Zero
  past_zero n t s box h =
      no_votes c l n t (column c n s box)
      (first_of_none (reaches c (n - t) (column c n s box) None) (λ i. slot_from c n s (from box i)) (λ i. from_past c n s h (from box i)) (range_with_len 0 n))
      (first_of_none (reaches c (t + 1) (column c n s box) None) (λ i. slot_from c n s (from box i)) (λ i. from_past c n s h (from box i)) (range_with_len 0 n))

  -- a grade that is kept in the table is that grade
  pub grade_kept_lem : (n t : ℕ) → n ≤ 16 → (box : Box) (s : ℕ)
      → grade_kept (get_or (sure_marks c n t box) s false) (slot_of c n s (take (c.wide * n) (tabled c (λ q. grade_value (grade_by c n t box q)) n))) ≡ grade_by c n t box s
  unfolding sure_marks
  grade_kept_lem n t few box s =
      let f = λ (q : ℕ). grade_value (grade_by c n t box q) in
      let marks = sure_marks c n t box in
      ⊎_elim
      (λ lt.
      ap (grade_kept (get_or marks s false)) (ap (slot_of c n s) (tabled_front f n) ∙ slotted-read c l f n s lt)
      ∙ ap (λ b. grade_kept b (f s)) (get_or-map-range_with_len (λ q. sure (grade_by c n t box q)) 0 16 s s false (omega arith) (omega arith))
      ∙ kept_is (grade_by c n t box s))
      (λ past. ap (grade_kept (get_or marks s false)) (slot_past c n s (take (c.wide * n) (tabled c f n)) past) ∙ sym (past_zero n t s box past))
      (cases_lt s n)

  pub by_rounds : ByRounds c
  by_rounds = record {
    first = λ crew own distrusted. refl;
    second = λ crew own distrusted one. tabled_front (unless_distrusted distrusted (heard_from c one)) crew.n;
    third = λ crew own distrusted one two. tabled_front (unless_distrusted distrusted (voted_for c crew.n crew.t two)) crew.n;
    grades = λ crew own distrusted one two three s. grade_kept_lem crew.n crew.t crew.few three s;
    counted = λ crew box s. graded_by c l crew.n crew.t (column c crew.n s box) (omega (arith, crew.enough));
    silent = λ crew own distrusted one two three. refl;
    still = λ crew own distrusted one two three more. refl;
  }
