-- Which numbers make a crew.
use Rattle.std.specs.Prelude.{◌≡◌, ℕ, ◌+◌, ◌*◌, Bool, cond, ◌&&◌, List, Some, None, Ok, Err, Option, Result, nat_le, nat_lt}
use Rattle.wire.specs.Units.{Honest}
use Rattle.wire.specs.declared.crew.Crew.{Crew}
use Rattle.wire.specs.declared.fault.CrewFault.{CrewFault}
use Rattle.wire.specs.declared.fault.CrewFault.TheVariants.{Units, Faulty, Own}

-- the first cause for which n, t and the own number make no crew: n is not 1 to 16, 3t + 1 is above n, the own number is
-- not below n
abbrev pub crew_fault : ℕ → ℕ → ℕ → Option CrewFault
crew_fault n t own =
    cond (nat_le 1 n && nat_le n 16) (cond (nat_le (3 * t + 1) n) (cond (nat_lt own n) None (Some Own)) (Some Faulty)) (Some Units)

-- a crew of these numbers where there is no cause against it, else the first cause
abbrev pub CrewMade : ℕ → ℕ → ℕ → Result Crew CrewFault → Type 0
CrewMade n t own (Ok crew) = (crew_fault n t own ≡ None) × (crew.n ≡ n) × (crew.t ≡ t) × (crew.own ≡ own)
CrewMade n t own (Err fault) = crew_fault n t own ≡ Some fault

-- the honest units' crews have the same n and t, and each one's own number
abbrev pub SameCrew : ℕ → ℕ → List Bool → (ℕ → Crew) → Type 0
SameCrew n t honest crew = (i : ℕ) → Honest honest i → ((crew i).n ≡ n) × ((crew i).t ≡ t) × ((crew i).own ≡ i)
