-- The grade of one sender, from its slot in the round-3 frames.
use Rattle.std.specs.Prelude.{◌≡◌, ℕ, ◌+◌, ◌-◌, ◌<◌, ◌≤◌, Bool, true, false, List, Some, None, Option, codes, ◌≢◌}
use Rattle.std.specs.Fmt.{◌++?◌}
use Rattle.slot.specs.Codings.{Coding}
use Rattle.wire.specs.Slots.{count, vote}
use Rattle.grading.specs.declared.grade.Grade.{Grade}
use Rattle.grading.specs.declared.grade.Grade.TheVariants.{Two, One, Zero}

-- each grade by its number and its value
abbrev pub grade_number : {K : Type 0} → Grade K → ℕ
grade_number (Two v) = 2
grade_number (One v) = 1
grade_number Zero = 0

abbrev pub grade_value : {K : Type 0} → Grade K → Option K
grade_value (Two v) = Some v
grade_value (One v) = Some v
grade_value Zero = None

-- is it grade 2?
abbrev pub sure : {K : Type 0} → Grade K → Bool
sure (Two v) = true
sure (One v) = false
sure Zero = false

-- the text of a grade, where that of its value is known: its number and, behind a colon, its value
abbrev pub shown : {K : Type 0} → (K → Option (List ℕ)) → Grade K → Option (List ℕ)
shown text (Two v) = Some (codes "2:") ++? text v
shown text (One v) = Some (codes "1:") ++? text v
shown text Zero = Some (codes "0")

-- grade 1 with v, unless another value is carried often enough too
abbrev pub alone : {K : Type 0} → K → Option K → Grade K
alone v None = One v
alone v (Some w) = Zero

-- grade 1 where exactly one value is carried by at least q frames
abbrev pub only : {K : Type 0} → Coding K → ℕ → List (Option K) → Option K → Grade K
only c q col None = Zero
only c q col (Some v) = alone v (vote c q (Some v) col)

-- grade 2 where a value is carried often enough, else the lower grade
abbrev pub or_lower : {K : Type 0} → Option K → Grade K → Grade K
or_lower None g = g
or_lower (Some v) g = Two v

-- grade 2 with a value that at least n - t frames carry; else grade 1 where exactly one is carried by at least t + 1
abbrev pub grade_of : {K : Type 0} → Coding K → ℕ → ℕ → List (Option K) → Grade K
grade_of c n t col = or_lower (vote c (n - t) None col) (only c (t + 1) col (vote c (t + 1) None col))

-- The same by counts alone. Grade 2 with v: at least n - t frames carry v. Grade 1 with v: no value is carried by so many,
-- at least t + 1 carry v, and no other value so many. Grade 0: no value is carried by n - t, and beside each that
-- t + 1 carry there is another one.
abbrev pub GradedBy : {K : Type 0} → Coding K → ℕ → ℕ → List (Option K) → Grade K → Type 0
GradedBy c n t col (Two v) = n - t ≤ count c v col
GradedBy {K} c n t col (One v) = ((w : K) → count c w col < n - t) × (t + 1 ≤ count c v col) × ((w : K) → t + 1 ≤ count c w col → w ≡ v)
GradedBy {K} c n t col Zero = ((w : K) → count c w col < n - t) × ((v : K) → t + 1 ≤ count c v col → (w : K) × (t + 1 ≤ count c w col) × (w ≢ v))
