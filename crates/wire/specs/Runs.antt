-- Runs of n units in rounds: in each round a unit sends one frame to all, and goes on by the box of what came.
use Rattle.std.specs.Prelude.{◌≡◌, ℕ, zero, suc, ◌<◌, Bool, false, List, length, Some, Option, slice_index_or}
use Rattle.wire.specs.Boxes.{Box, from}
use Rattle.wire.specs.Units.{Honest}

-- the state after k rounds, of which the first brought box 0
abbrev pub ran : {S : Type 0} → (S → Box → S) → S → (ℕ → Box) → ℕ → S
ran after s box zero = s
ran after s box (suc k) = after (ran after s box k) (box k)

-- Every honest unit takes in each of so many rounds the frame of every honest unit, its own too. box i k is what came to
-- unit i in round k, counted from 0; the places of the faulty units hold anything, to each receiver something else.
abbrev pub Takes : {S : Type 0} → (S → List ℕ) → (S → Box → S) → ℕ → List Bool → (ℕ → S) → (ℕ → ℕ → Box) → Type 0
Takes frame after rounds honest start box = (i j k : ℕ) → Honest honest i → Honest honest j → k < rounds →
    from (box i k) j ≡ Some (frame (ran after (start j) (box j) k))

-- A run in which the faulty units send what `lie` says: lie i k j is what j sends to i in round k.
pub record Played {S : Type 0} (frame : S → List ℕ) (after : S → Box → S) (rounds : ℕ) (honest : List Bool) (start : ℕ → S)
    (lie : ℕ → ℕ → ℕ → Option (List ℕ)) : Type 0 where
  pub box : ℕ → ℕ → Box
  pub takes : Takes frame after rounds honest start box
  pub lied : (i j k : ℕ) → j < length honest → slice_index_or honest j false ≡ false → from (box i k) j ≡ lie i k j
