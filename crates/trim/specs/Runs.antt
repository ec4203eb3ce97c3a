-- Whole runs of the two lines.
use Rattle.std.specs.Prelude.{◌≡◌, ℕ, zero, suc, ◌+◌, ◌-◌, ◌*◌, ◌<◌, ◌≤◌, Bool, true, false, cond, not, List, map, length, None, count_by, Option, ◌≢◌, slice_index_or}
use Rattle.slot.specs.declared.position.Position.{Position}
use Rattle.slot.specs.Positions.{position_at}
use Rattle.wire.specs.Spreads.{Within, Spread, Between}
use Rattle.wire.specs.Units.{Honest, Faults}
use Rattle.trim.specs.Trims.{halving_step, graded_step}
use Rattle.trim.specs.Iterations.{halves, worst, halving_rounds, graded_iterations}
use Rattle.trim.specs.Entries.{entry_of}

-- what bounds the honest units' positions p bounds their positions q
abbrev pub Bounded : List Bool → (ℕ → ℕ) → (ℕ → ℕ) → Type 0
Bounded honest p q = (lo hi : ℕ) → Within honest p lo hi → Within honest q lo hi

-- What holds of the honest units' positions p before a line and q after it.
pub record Settled (honest : List Bool) (p q : ℕ → ℕ) : Type 0 where
  pub close : Spread honest q 1
  pub between : Between honest p q
  pub bounded : Bounded honest p q

-- R rounds of a line with this step, or R iterations. p r i is unit i's position after r of them, and slots r i what unit i
-- has for the next one, by sender: the position of each honest unit, and anything for the others.
pub record LineRun (n t span R : ℕ) (honest : List Bool) (p : ℕ → ℕ → ℕ) (slots : ℕ → ℕ → List (Option Position)) (step : ℕ → List ℕ → ℕ) : Type 0 where
  pub faults : Faults n t honest
  pub short : span ≤ 2047
  pub starts : Within honest (p 0) 1 span
  pub size : (r i : ℕ) → r < R → Honest honest i → length (slots r i) ≡ n
  pub gets : (r i j : ℕ) → r < R → Honest honest i → Honest honest j → slice_index_or (slots r i) j None ≡ position_at (p r j)
  pub moves : (r i : ℕ) → r < R → Honest honest i → p (suc r) i ≡ step t (map (entry_of span) (slots r i))

-- R rounds of the halving line
abbrev pub HalvingRun : ℕ → ℕ → ℕ → ℕ → List Bool → (ℕ → ℕ → ℕ) → (ℕ → ℕ → List (Option Position)) → Type 0
HalvingRun n t span R honest p slots = LineRun n t span R honest p slots halving_step

-- R iterations of the graded line. What honest units have can differ only at units that are marked for the iteration, and
-- no unit is marked for two.
pub record GradedRun (n t span R : ℕ) (honest : List Bool) (p : ℕ → ℕ → ℕ) (slots : ℕ → ℕ → List (Option Position)) (differs : ℕ → ℕ → Bool) : Type 0 where
  pub line : LineRun n t span R honest p slots graded_step
  pub agrees : (r i j s : ℕ) → r < R → Honest honest i → Honest honest j → differs r s ≡ false → slice_index_or (slots r i) s None ≡ slice_index_or (slots r j) s None
  pub once : (r q s : ℕ) → r < R → q < R → differs r s ≡ true → differs q s ≡ true → r ≡ q

-- how many numbers below n are marked
abbrev pub marked : (ℕ → Bool) → ℕ → ℕ
marked d zero = 0
marked d (suc n) = cond (d 0) 1 0 + marked (λ s. d (suc s)) n

-- two honest units have unequal lists in the iteration after r
abbrev pub Unequal : List Bool → ℕ → (ℕ → ℕ → List (Option Position)) → ℕ → Type 0
Unequal honest span slots r =
    (i : ℕ) × (j : ℕ) × Honest honest i × Honest honest j × (map (entry_of span) (slots r i) ≢ map (entry_of span) (slots r j))

-- Every run of the halving line, and every run of the graded line.
pub record Runs : Type 0 where
  -- however long it is, no honest unit leaves the honest units' positions at its start
  pub halving_stays : (n t span R : ℕ) (honest : List Bool) (p : ℕ → ℕ → ℕ) (slots : ℕ → ℕ → List (Option Position))
      → HalvingRun n t span R honest p slots → Bounded honest (p 0) (p R)
  pub graded_stays : (n t span R : ℕ) (honest : List Bool) (p : ℕ → ℕ → ℕ) (slots : ℕ → ℕ → List (Option Position)) (differs : ℕ → ℕ → Bool)
      → GradedRun n t span R honest p slots differs → Bounded honest (p 0) (p R)
  -- each round leaves at most half the spread, rounded up
  pub halving_spread : (n t span R : ℕ) (honest : List Bool) (p : ℕ → ℕ → ℕ) (slots : ℕ → ℕ → List (Option Position))
      → HalvingRun n t span R honest p slots → (D : ℕ) → Spread honest (p 0) D → Spread honest (p R) (halves D R)
  -- where at most f units are faulty, R iterations leave at most the worst spread
  pub graded_spread : (n t span R : ℕ) (honest : List Bool) (p : ℕ → ℕ → ℕ) (slots : ℕ → ℕ → List (Option Position)) (differs : ℕ → ℕ → Bool)
      → GradedRun n t span R honest p slots differs → (f : ℕ) → count_by not honest ≤ f → (D : ℕ) → Spread honest (p 0) D
      → Spread honest (p R) (worst (n - 2 * t) D R f)
  -- where at most f units are faulty, honest units have unequal lists in at most f iterations
  pub graded_unequal : (n t span R : ℕ) (honest : List Bool) (p : ℕ → ℕ → ℕ) (slots : ℕ → ℕ → List (Option Position)) (differs : ℕ → ℕ → Bool)
      → GradedRun n t span R honest p slots differs → (f : ℕ) → count_by not honest ≤ f → (unequal : ℕ → Bool)
      → ((r : ℕ) → r < R → unequal r ≡ true → Unequal honest span slots r) → marked unequal R ≤ f
  -- after the stated rounds the honest units are at most 1 apart, between two of their positions at the start
  pub halving_settles : (n t span : ℕ) (honest : List Bool) (p : ℕ → ℕ → ℕ) (slots : ℕ → ℕ → List (Option Position))
      → HalvingRun n t span (halving_rounds span) honest p slots → Settled honest (p 0) (p (halving_rounds span))
  pub graded_settles : (n t span : ℕ) (honest : List Bool) (p : ℕ → ℕ → ℕ) (slots : ℕ → ℕ → List (Option Position)) (differs : ℕ → ℕ → Bool)
      → GradedRun n t span (graded_iterations n t span) honest p slots differs → Settled honest (p 0) (p (graded_iterations n t span))
