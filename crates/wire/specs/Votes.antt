-- What a vote says of the counts.
use Rattle.std.specs.Prelude.{◌≡◌, ℕ, ◌≤◌, List, Some, None, Option, ◌≢◌}
use Rattle.slot.specs.Codings.{Coding}
use Rattle.wire.specs.Slots.{count}

-- Of the slots of a column: a value that is given is held by at least q of them and by one, and is not the one left out;
-- and where none is given, no other value is held by so many.
pub record Voted {K : Type 0} (c : Coding K) (q : ℕ) (out : Option K) (col : List (Option K)) (r : Option K) : Type 0 where
  pub enough : (v : K) → r ≡ Some v → q ≤ count c v col
  pub held : (v : K) → r ≡ Some v → 1 ≤ count c v col
  pub other : (v : K) → r ≡ Some v → out ≢ Some v
  pub none : r ≡ None → (v : K) → q ≤ count c v col → 1 ≤ count c v col → out ≡ Some v
