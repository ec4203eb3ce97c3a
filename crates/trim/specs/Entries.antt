-- A unit's list.
use Rattle.std.specs.Prelude.{ℕ, cond, List, map, Some, None, Option, nat_le}
use Rattle.slot.specs.declared.position.Position.{Position}
use Rattle.slot.specs.Positions.{number_of}
use Rattle.trim.specs.declared.list.UnitList.{UnitList}

-- what a slot adds: its position's number; 1 where it is missing, or its position is above the span
abbrev pub entry_of : ℕ → Option Position → ℕ
entry_of span None = 1
entry_of span (Some p) = cond (nat_le (number_of p) span) (number_of p) 1

-- the list
abbrev pub entries : UnitList → List ℕ
entries l = map (entry_of (number_of l.span)) l.slots.now
