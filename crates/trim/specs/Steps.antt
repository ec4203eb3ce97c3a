-- One step of each line at honest units.
use Rattle.std.specs.Prelude.{◌≡◌, ℕ, ◌+◌, ◌-◌, ◌*◌, ◌/◌, ◌≤◌, Bool, cond, List, [], ◌∷◌, length, ◌==◌, slice_index}
use Rattle.wire.specs.Spreads.{Within}
use Rattle.wire.specs.Units.{Honest, Faults}
use Rattle.trim.specs.Trims.{halving_step, graded_step}

-- a unit's entry in a list
abbrev pub entry : List ℕ → ℕ → ℕ
entry xs i = slice_index xs i

-- two lists have the same entries of the honest units
abbrev pub Shared : List Bool → List ℕ → List ℕ → Type 0
Shared honest xs ys = (i : ℕ) → Honest honest i → entry xs i ≡ entry ys i

-- at how many places two lists differ
abbrev pub differences : List ℕ → List ℕ → ℕ
differences [] ys = 0
differences (x ∷ xs) [] = 0
differences (x ∷ xs) (y ∷ ys) = cond (x == y) 0 1 + differences xs ys

-- a ÷ m, rounded up
abbrev pub ceil : ℕ → ℕ → ℕ
ceil a m = (a + (m - 1)) / m

-- a step leads to no position outside the honest units' entries
abbrev pub Inside : (ℕ → List ℕ → ℕ) → Type 0
Inside step = (n t : ℕ) (honest : List Bool) → Faults n t honest → (xs : List ℕ) → length xs ≡ n → (lo hi : ℕ) → Within honest (entry xs) lo hi
    → (lo ≤ step t xs) × (step t xs ≤ hi)

pub record Steps : Type 0 where
  -- neither step leads outside the honest units' entries
  pub halving_inside : Inside halving_step
  pub graded_inside : Inside graded_step
  -- halving leaves two units at most half the honest units' spread apart, rounded up
  pub halving_near : (n t : ℕ) (honest : List Bool) → Faults n t honest → (xs ys : List ℕ) → length xs ≡ n → length ys ≡ n → Shared honest xs ys
      → (lo hi : ℕ) → Within honest (entry xs) lo hi → halving_step t xs ≤ halving_step t ys + ceil (hi - lo) 2
  -- means of lists that differ at k places are at most k × the honest units' spread ÷ (n - 2t) apart, rounded up
  pub graded_near : (n t : ℕ) (honest : List Bool) → Faults n t honest → (xs ys : List ℕ) → length xs ≡ n → length ys ≡ n → Shared honest xs ys
      → (lo hi : ℕ) → Within honest (entry xs) lo hi → (k : ℕ) → differences xs ys ≤ k → graded_step t xs ≤ graded_step t ys + ceil (k * (hi - lo)) (n - 2 * t)
