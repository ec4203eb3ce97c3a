-- How far the honest units' positions are apart, and between which they lie.
use Rattle.std.specs.Prelude.{ℕ, ◌+◌, ◌≤◌, Bool, List}
use Rattle.wire.specs.Units.{Honest}

-- the honest units' positions lie in lo to hi
abbrev pub Within : List Bool → (ℕ → ℕ) → ℕ → ℕ → Type 0
Within honest p lo hi = (i : ℕ) → Honest honest i → (lo ≤ p i) × (p i ≤ hi)

-- any two honest units' positions differ by at most D
abbrev pub Spread : List Bool → (ℕ → ℕ) → ℕ → Type 0
Spread honest p D = (i j : ℕ) → Honest honest i → Honest honest j → p i ≤ p j + D

-- every honest unit's position q lies between two honest units' positions p
abbrev pub Between : List Bool → (ℕ → ℕ) → (ℕ → ℕ) → Type 0
Between honest p q = (i : ℕ) → Honest honest i → (a : ℕ) × (b : ℕ) × Honest honest a × Honest honest b × (p a ≤ q i) × (q i ≤ p b)
