-- Worked examples of the two lines.
use Rattle.std.specs.Prelude.{◌≡◌, ℕ, List, [], ◌∷◌, map, Some, None, Option}
use Rattle.slot.specs.Positions.{position_near, position_bytes}
use Rattle.trim.specs.Iterations.{graded_iterations}
use Rattle.lines.specs.Gradeds.{graded_model}
use Rattle.lines.specs.Halvings.{halving_model}
use Rattle.rehearsal.specs.Gradings.{crew_of_four}

-- a frame with a position, or nothing
abbrev pub sends : Option ℕ → Option (List ℕ)
sends None = None
sends (Some v) = Some (position_bytes (position_near v))

-- the position of unit 0 after one round of halving on a span of 11, with n = 4 and t = 1, where these came
abbrev pub halved_once : List (Option ℕ) → ℕ
halved_once came = halving_model.result (halving_model.after (halving_model.begun (crew_of_four 0) 11 2) (map sends came))

pub record LineTable : Type 0 where
  -- 2, 4, 6, 9 gives 5; and 2, 4, 6 with one missing gives 3
  pub all_came : halved_once (Some 2 ∷ Some 4 ∷ Some 6 ∷ Some 9 ∷ []) ≡ 5
  pub one_missing : halved_once (Some 2 ∷ Some 4 ∷ Some 6 ∷ None ∷ []) ≡ 3
  -- one above the span counts as 1 too
  pub one_past : halved_once (Some 2 ∷ Some 4 ∷ Some 6 ∷ Some 12 ∷ []) ≡ 3
  -- the rounds of halving for spans 2, 3, 5 and 6
  pub halving_counts : map (halving_model.count 4 1) (2 ∷ 3 ∷ 5 ∷ 6 ∷ []) ≡ 0 ∷ 1 ∷ 2 ∷ 3 ∷ []
  -- the graded line with n = 16 and t = 2: span 7 takes 1 iteration, span 8 takes 2, of three rounds each
  pub graded_seven : graded_iterations 16 2 7 ≡ 1
  pub graded_eight : graded_iterations 16 2 8 ≡ 2
  pub graded_counts : map (graded_model.count 16 2) (7 ∷ 8 ∷ []) ≡ 3 ∷ 6 ∷ []
