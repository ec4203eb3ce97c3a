-- Worked examples of grading: n = 4, t = 1.
use Rattle.std.specs.Prelude.{◌≡◌, ℕ, zero, suc, Bool, true, false, List, [], ◌∷◌, replicate, Some, None, Option}
use Rattle.std.proofs.Common.{lit≤}
use Rattle.slot.specs.Codings.{Coding}
use Rattle.slot.specs.declared.position.Position.{Position}
use Rattle.wire.specs.Boxes.{Box}
use Rattle.wire.specs.Slots.{slotted}
use Rattle.grading.specs.Exchanges.{Start, starting, Exchange, grade_held}
use Rattle.grading.specs.Gradings.{heard_from, grade_by, after, frame_of}
use Rattle.wire.specs.declared.crew.Crew.{Crew}
use Rattle.grading.specs.declared.grade.Grade.{Grade}
use Rattle.grading.specs.declared.grade.Grade.TheVariants.{Two, One, Zero}
use Rattle.grading.specs.declared.grading.Grading.{Grading}

-- positions
abbrev pub position5 : Position
position5 = record { value = 5; ok = λ _. true }

abbrev pub position9 : Position
position9 = record { value = 9; ok = λ _. true }

-- one slot of four: slot 0, and slot 3
abbrev pub in_first : {K : Type 0} → Option K → ℕ → Option K
in_first o zero = o
in_first o (suc s) = None

abbrev pub in_last : {K : Type 0} → Option K → ℕ → Option K
in_last o zero = None
in_last o (suc zero) = None
in_last o (suc (suc zero)) = None
in_last o (suc (suc (suc s))) = o

-- the grade of sender 0 where the four round-3 frames carry these in slot 0
abbrev pub grade_of_four : {K : Type 0} → Coding K → Option K → Option K → Option K → Option K → Grade K
grade_of_four c p q r s =
    grade_by c 4 1 (Some (slotted c (in_first p) 4) ∷ Some (slotted c (in_first q) 4) ∷ Some (slotted c (in_first r) 4) ∷ Some (slotted c (in_first s) 4) ∷ []) 0

pub record GradeTable {K : Type 0} (c : Coding K) (v w : K) : Type 0 where
  pub three_carry : grade_of_four c (Some v) (Some v) (Some v) None ≡ Two v
  pub two_carry : grade_of_four c (Some v) (Some v) None None ≡ One v
  pub two_and_two : grade_of_four c (Some v) (Some v) (Some w) (Some w) ≡ Zero
  pub one_carries : grade_of_four c (Some v) None None None ≡ Zero

-- a crew of four, at most one of them faulty, for units 0, 1 and 2
abbrev pub crew_of_four : ℕ → Crew
crew_of_four zero = record { n = 4; t = 1; own = 0; few = lit≤ tt; enough = lit≤ tt; member = lit≤ tt }
crew_of_four (suc zero) = record { n = 4; t = 1; own = 1; few = lit≤ tt; enough = lit≤ tt; member = lit≤ tt }
crew_of_four (suc (suc i)) = record { n = 4; t = 1; own = 2; few = lit≤ tt; enough = lit≤ tt; member = lit≤ tt }

-- units 0, 1 and 2 are honest
abbrev pub three_honest : List Bool
three_honest = true ∷ true ∷ true ∷ false ∷ []

abbrev pub of_three : {X : Type 0} → X → X → X → ℕ → X
of_three x y z zero = x
of_three x y z (suc zero) = y
of_three x y z (suc (suc i)) = z

-- Unit 3 tells two stories of its own value. In round 1 it sends v to units 0 and 1, and w to unit 2. In round 2 it says to
-- unit 0 that it has v, to the others that it has w; so only unit 0 sees v in three frames and votes for it. In round 3
-- it votes for v to units 0 and 2, and for nothing to unit 1.
module _ {K : Type 0} (c : Coding K) (v w : K) where
  -- the honest units' own values are v, w and v, and they distrust nobody
  abbrev pub story_start : Start K
  story_start = record { crew = crew_of_four; own = of_three v w v; distrusted = λ i. replicate 16 false }

  abbrev pub story_one : ℕ → Box
  story_one i = Some (frame_of c (starting story_start 0)) ∷ Some (frame_of c (starting story_start 1)) ∷ Some (frame_of c (starting story_start 2))
      ∷ Some (c.writes (of_three v v w i)) ∷ []

  abbrev pub after_one : ℕ → Grading K
  after_one i = after c (starting story_start i) (story_one i)

  abbrev pub story_two : ℕ → Box
  story_two i = Some (frame_of c (after_one 0)) ∷ Some (frame_of c (after_one 1)) ∷ Some (frame_of c (after_one 2))
      ∷ Some (slotted c (in_last (Some (of_three v w w i))) 4) ∷ []

  abbrev pub after_two : ℕ → Grading K
  after_two i = after c (after_one i) (story_two i)

  abbrev pub story_three : ℕ → Box
  story_three i = Some (frame_of c (after_two 0)) ∷ Some (frame_of c (after_two 1)) ∷ Some (frame_of c (after_two 2))
      ∷ Some (slotted c (in_last (of_three (Some v) None (Some v) i)) 4) ∷ []

  abbrev pub story_box : ℕ → ℕ → Box
  story_box i zero = story_one i
  story_box i (suc zero) = story_two i
  story_box i (suc (suc k)) = story_three i

  -- this is an exchange; two honest units were told different values; grades 1 and 0 stand side by side, and the honest
  -- units' own values have grade 2
  pub record TwoStories : Type 0 where
    pub exchange : Exchange c 4 1 three_honest story_start story_box
    pub told_first : heard_from c (story_box 0 0) 3 ≡ Some v
    pub told_last : heard_from c (story_box 2 0) 3 ≡ Some w
    pub grade_one : grade_held c story_start story_box 0 3 ≡ One v
    pub grade_zero : grade_held c story_start story_box 1 3 ≡ Zero
    pub grade_one_again : grade_held c story_start story_box 2 3 ≡ One v
    pub honest_two : grade_held c story_start story_box 0 1 ≡ Two w
