-- How many rounds the halving line takes, and how many iterations the graded line.
use Rattle.std.specs.Prelude.{◌≡◌, ℕ, zero, suc, ◌+◌, ◌-◌, ◌*◌, ◌^◌, ◌<◌, ◌≤◌, max, Bool, cond, nat_le}
use Rattle.trim.specs.Steps.{ceil}

-- half, rounded up, k times
abbrev pub halves : ℕ → ℕ → ℕ
halves D zero = D
halves D (suc k) = halves (ceil D 2) k

-- the greatest of g 0 to g f
abbrev pub most : (ℕ → ℕ) → ℕ → ℕ
most g zero = g 0
most g (suc f) = max (most g f) (g (suc f))

-- the greatest spread that r iterations can leave of a spread D, where m entries are left of each list and the lists can
-- differ at f units, at each of them in one iteration
abbrev pub worst : ℕ → ℕ → ℕ → ℕ → ℕ
worst m D zero f = D
worst m D (suc r) f = most (λ k. worst m (ceil (k * D) m) r (f - k)) f

-- the first number from k on that passes a test; where none of so many does, the next one
abbrev pub first_from : (ℕ → Bool) → ℕ → ℕ → ℕ
first_from p zero k = k
first_from p (suc more) k = cond (p k) k (first_from p more (suc k))

-- the least k with 2 ^ k at least wide
abbrev pub doublings : ℕ → ℕ
doublings wide = first_from (λ k. nat_le wide (2 ^ k)) wide 0

-- the rounds of the halving line
abbrev pub halving_rounds : ℕ → ℕ
halving_rounds span = doublings (span - 1)

-- the least number of iterations that leave at most 1 of a spread D
abbrev pub iterations : ℕ → ℕ → ℕ → ℕ
iterations m D f = first_from (λ r. nat_le (worst m D r f) 1) (f + 1) 0

-- the iterations of the graded line
abbrev pub graded_iterations : ℕ → ℕ → ℕ → ℕ
graded_iterations n t span = iterations (n - 2 * t) (span - 1) t

-- k is the least number of which P holds
pub record Least (P : ℕ → Type 0) (k : ℕ) : Type 0 where
  pub holds : P k
  pub none_below : (j : ℕ) → j < k → P j → ⊥

-- What rounds and iterations leave of a spread, and how many are taken.
pub record Worsts : Type 0 where
  -- a spread of at most 2 ^ k, halved k times, is at most 1
  pub halves_end : (D k : ℕ) → D ≤ 2 ^ k → halves D k ≤ 1
  -- a smaller spread and fewer units leave no more
  pub worst_more : (m D E r f g : ℕ) → 0 < m → D ≤ E → f ≤ g → worst m D r f ≤ worst m E r g
  -- one iteration in which the lists differ at k units
  pub worst_one : (m D r f k : ℕ) → k ≤ f → worst m (ceil (k * D) m) r (f - k) ≤ worst m D (suc r) f
  -- with more iterations than units at which lists can differ, nothing is left
  pub worst_none : (m D r f : ℕ) → 0 < m → f < r → worst m D r f ≡ 0
  -- the stated counts are the least that suffice, and small
  pub halving_rounds_lem : (span : ℕ) → Least (λ k. span - 1 ≤ 2 ^ k) (halving_rounds span)
  pub halving_few : (span : ℕ) → span ≤ 2047 → halving_rounds span ≤ 11
  pub graded_iterations_lem : (n t span : ℕ) → 2 * t < n → Least (λ r. worst (n - 2 * t) (span - 1) r t ≤ 1) (graded_iterations n t span)
  pub graded_few : (n t span : ℕ) → 2 * t < n → graded_iterations n t span ≤ t + 1
