-- n units, known by their numbers from 0, of which at most t are faulty.
use Rattle.std.specs.Prelude.{◌≡◌, ℕ, ◌+◌, ◌*◌, ◌≤◌, Bool, true, false, not, List, length, count_by, slice_index_or}

-- unit i is honest: it follows the protocol. The list has an entry for each unit.
abbrev pub Honest : List Bool → ℕ → Type 0
Honest honest i = slice_index_or honest i false ≡ true

pub record Faults (n t : ℕ) (honest : List Bool) : Type 0 where
  -- an entry for each unit
  pub size : length honest ≡ n
  -- at most t are faulty
  pub few : count_by not honest ≤ t
  pub enough : 3 * t + 1 ≤ n
