-- What came in a round.
use Rattle.std.specs.Prelude.{ℕ, List, None, Option, slice_index_or}

-- at each sender's place its frame, or nothing
abbrev pub Box : Type 0
Box = List (Option (List ℕ))

-- what came from a sender; nothing from one that has no place
abbrev pub from : Box → ℕ → Option (List ℕ)
from box s = slice_index_or box s None
