-- Votes and grades by counts.
use Rattle.std.proofs.Common.{◌≡◌, ℕ, ◌+◌, ◌-◌, ◌<◌, ◌≤◌, Bool, List, [], ◌∷◌, map, Some, None, Option, sym, refl, ap, subst, ◌∙◌, ⊎_elim, arith}
use Rattle.std.proofs.lemmas.Bool.{cases_lt}
use Rattle.slot.specs.Codings.{Coding, Lawful}
use Rattle.wire.specs.Slots.{count, first_with, vote}
use Rattle.wire.specs.Votes.{Voted}
use Rattle.wire.proofs.Votes.{voted, cases_same}
use Rattle.grading.specs.Grades.{grade_value, sure, alone, only, or_lower, grade_of, GradedBy}
use Rattle.grading.specs.Gradings.{grade_kept}
use Rattle.grading.specs.declared.grade.Grade.{Grade}
use Rattle.grading.specs.declared.grade.Grade.TheVariants.{Two, One, Zero}

-- a grade by whether it is 2, and its value
pub kept_is : {K : Type 0} (g : Grade K) → grade_kept (sure g) (grade_value g) ≡ g
kept_is (Two v) = refl
kept_is (One v) = refl
kept_is Zero = refl

pub value_none : {K : Type 0} (g : Grade K) → grade_value g ≡ None → g ≡ Zero
value_none (Two v) e = let z : ◌≡◌ {A = ℕ} 0 1 = cc in absurd (omega arith)
value_none (One v) e = let z : ◌≡◌ {A = ℕ} 0 1 = cc in absurd (omega arith)
value_none Zero e = refl

-- slots that are all missing have no vote
pub first_of_none : {K : Type 0} (p : K → Bool) (f : ℕ → Option K) → ((i : ℕ) → f i ≡ None) → (xs : List ℕ) → first_with p (map f xs) ≡ None
first_of_none p f h [] = refl
first_of_none p f h (x ∷ xs) = rw (h x) (first_of_none p f h xs)

module _ {K : Type 0} (c : Coding K) (l : Lawful c) where
  pub votes : (q : ℕ) (out : Option K) (col : List (Option K)) → Voted c q out col (vote c q out col)
  votes q out col = voted c l q out col (vote c q out col) refl

  -- a value that enough slots hold is voted for, or another is
  pub vote_none : (q : ℕ) (col : List (Option K)) (v : K) → 1 ≤ q → q ≤ count c v col → vote c q None col ≡ None → ⊥
  vote_none q col v some h e =
      let o : ◌≡◌ {A = Option K} None (Some v) = (votes q None col).none e v h (omega arith) in
      let z : ◌≡◌ {A = ℕ} 0 1 = cc in
      omega arith

  -- no value is held by n - t
  none_high : (n t : ℕ) (col : List (Option K)) → t < n → vote c (n - t) None col ≡ None → (w : K) → count c w col < n - t
  none_high n t col h e w = ⊎_elim (λ lt. lt) (λ ge. absurd (vote_none (n - t) col w (omega arith) ge e)) (cases_lt (count c w col) (n - t))

  alone_by : (n t : ℕ) (col : List (Option K)) (v : K) → ((w : K) → count c w col < n - t) → vote c (t + 1) None col ≡ Some v
      → (o : Option K) → vote c (t + 1) (Some v) col ≡ o → GradedBy c n t col (alone v o)
  alone_by n t col v high e None d =
      (high, (votes (t + 1) None col).enough v e, λ w h. let o = (votes (t + 1) (Some v) col).none d w h (omega arith) in cc)
  alone_by n t col v high e (Some u) d =
      let ours = (votes (t + 1) None col).enough v e in
      let theirs = (votes (t + 1) (Some v) col).enough u d in
      let other : u ≡ v → ⊥ = λ s. (votes (t + 1) (Some v) col).other u d (ap Some (sym s)) in
      (high, λ w h. ⊎_elim (λ s. (u, theirs, λ x. other (x ∙ s))) (λ ne. (v, ours, λ x. ne (sym x))) (cases_same c l w v))

  only_by : (n t : ℕ) (col : List (Option K)) → ((w : K) → count c w col < n - t) → (o : Option K) → vote c (t + 1) None col ≡ o → GradedBy c n t col (only c (t + 1) col o)
  only_by n t col high None e = (high, λ v h. absurd (vote_none (t + 1) col v (omega arith) h e))
  only_by n t col high (Some v) e = alone_by n t col v high e (vote c (t + 1) (Some v) col) refl

  low_by : (n t : ℕ) (col : List (Option K)) → t < n → (o : Option K) → vote c (n - t) None col ≡ o
      → GradedBy c n t col (or_lower o (only c (t + 1) col (vote c (t + 1) None col)))
  low_by n t col h None e = only_by n t col (none_high n t col h e) (vote c (t + 1) None col) refl
  low_by n t col h (Some v) e = (votes (n - t) None col).enough v e

  -- a grade is what the counts say
  pub graded_by : (n t : ℕ) (col : List (Option K)) → t < n → GradedBy c n t col (grade_of c n t col)
  graded_by n t col h = low_by n t col h (vote c (n - t) None col) refl

  pub graded_is : (n t : ℕ) (col : List (Option K)) (g : Grade K) → t < n → g ≡ grade_of c n t col → GradedBy c n t col g
  graded_is n t col g h e = subst (GradedBy c n t col) (sym e) (graded_by n t col h)

  -- where nothing is voted for, the grade is 0
  pub no_votes : (n t : ℕ) (col : List (Option K)) → vote c (n - t) None col ≡ None → vote c (t + 1) None col ≡ None → grade_of c n t col ≡ Zero
  no_votes n t col high low = rw (high, low)
