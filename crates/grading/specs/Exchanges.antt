-- Whole exchanges of n units, and what grading promises of them.
use Rattle.std.specs.Prelude.{◌≡◌, ℕ, Bool, true, false, List, Some, Option, slice_index_or}
use Rattle.slot.specs.Codings.{Coding}
use Rattle.wire.specs.Boxes.{Box}
use Rattle.wire.specs.Crews.{SameCrew}
use Rattle.wire.specs.Runs.{ran, Takes, Played}
use Rattle.wire.specs.Units.{Honest, Faults}
use Rattle.grading.specs.Grades.{grade_value}
use Rattle.grading.specs.Gradings.{begun, after, frame_of, grade_at}
use Rattle.wire.specs.declared.crew.Crew.{Crew}
use Rattle.grading.specs.declared.grade.Grade.{Grade}
use Rattle.grading.specs.declared.grade.Grade.TheVariants.{Two, Zero}
use Rattle.grading.specs.declared.grading.Grading.{Grading}

-- what each unit starts with: its crew, its value and whom it distrusts
pub record Start (K : Type 0) : Type 0 where
  pub crew : ℕ → Crew
  pub own : ℕ → K
  pub distrusted : ℕ → List Bool

abbrev pub starting : {K : Type 0} → Start K → ℕ → Grading K
starting st i = begun (st.crew i) (st.own i) (st.distrusted i)

abbrev pub Distrusts : {K : Type 0} → Start K → ℕ → ℕ → Type 0
Distrusts st i s = slice_index_or (st.distrusted i) s false ≡ true

abbrev pub Trusts : {K : Type 0} → Start K → ℕ → ℕ → Type 0
Trusts st i s = slice_index_or (st.distrusted i) s false ≡ false

-- An exchange of three rounds of n units, at most t of them faulty. Every honest unit sends its frames, the same to all,
-- and takes every honest unit's, its own too; what came to it from the others is anything.
pub record Exchange {K : Type 0} (c : Coding K) (n t : ℕ) (honest : List Bool) (st : Start K) (box : ℕ → ℕ → Box) : Type 0 where
  pub faults : Faults n t honest
  pub same : SameCrew n t honest st.crew
  pub takes : Takes (frame_of c) (after c) 3 honest (starting st) box

-- the grade that sender s has at unit i after the exchange
abbrev pub grade_held : {K : Type 0} → Coding K → Start K → (ℕ → ℕ → Box) → ℕ → ℕ → Grade K
grade_held c st box i s = grade_at c (ran (after c) (starting st i) (box i) 3) s

-- What an exchange promises the honest units, whatever the faulty ones send.
pub record Broadcast {K : Type 0} (c : Coding K) (honest : List Bool) (st : Start K) (box : ℕ → ℕ → Box) : Type 0 where
  -- an honest sender that no honest unit distrusts has grade 2 with its value at every honest unit
  pub honest_sender : (s : ℕ) → Honest honest s → ((i : ℕ) → Honest honest i → Trusts st i s) →
      (i : ℕ) → Honest honest i → grade_held c st box i s ≡ Two (st.own s)
  -- grade 2 with v at one is grade 1 or 2 with v at all
  pub two_is_seen : (s i j : ℕ) (v : K) → Honest honest i → Honest honest j →
      grade_held c st box i s ≡ Two v → grade_value (grade_held c st box j s) ≡ Some v
  -- grades 1 and 2 at two units have the same value
  pub one_value_lem : (s i j : ℕ) (v w : K) → Honest honest i → Honest honest j →
      grade_value (grade_held c st box i s) ≡ Some v → grade_value (grade_held c st box j s) ≡ Some w → v ≡ w
  -- a sender that every honest unit distrusts has grade 0 at every honest unit
  pub all_distrust : (s : ℕ) → ((i : ℕ) → Honest honest i → Distrusts st i s) →
      (i : ℕ) → Honest honest i → grade_held c st box i s ≡ Zero

pub record GradedBroadcast {K : Type 0} (c : Coding K) : Type 0 where
  -- every exchange keeps the promise
  pub keeps : (n t : ℕ) (honest : List Bool) (st : Start K) (box : ℕ → ℕ → Box) → Exchange c n t honest st box → Broadcast c honest st box
  -- and whatever the faulty units send, there is an exchange in which they send it
  pub exists : (n t : ℕ) (honest : List Bool) (st : Start K) → Faults n t honest → SameCrew n t honest st.crew →
      (lie : ℕ → ℕ → ℕ → Option (List ℕ)) → Played (frame_of c) (after c) 3 honest (starting st) lie
