-- Stations as numbers below n. Station 0 is the root, and `up` leads one leg towards it.
use Rattle.std.specs.Prelude.{◌≡◌, ℕ, zero, suc, ◌+◌, ◌-◌, ◌<◌, ◌≤◌, ◌⊎◌}

-- a tree: the root has depth 1, and `up` leads from every other station to one that is one less deep
pub record Rooted (n : ℕ) (up depth : ℕ → ℕ) : Type 0 where
  pub some : 0 < n
  pub top : depth 0 ≡ 1
  pub inside : (i : ℕ) → i < n → up i < n
  pub deeper : (i : ℕ) → 0 < i → i < n → depth i ≡ depth (up i) + 1

-- k legs towards the root
abbrev pub climb : (ℕ → ℕ) → ℕ → ℕ → ℕ
climb up zero x = x
climb up (suc k) x = climb up k (up x)

-- the climb from x comes to w
abbrev pub AboveAt : (ℕ → ℕ) → (ℕ → ℕ) → ℕ → ℕ → Type 0
AboveAt up depth w x = (depth w ≤ depth x) × (climb up (depth x - depth w) x ≡ w)

-- x is one leg below y
abbrev pub UnderAt : ℕ → (ℕ → ℕ) → ℕ → ℕ → Type 0
UnderAt n up x y = (0 < x) × (x < n) × (up x ≡ y)

-- x and y are joined by a leg
abbrev pub LegAt : ℕ → (ℕ → ℕ) → ℕ → ℕ → Type 0
LegAt n up x y = UnderAt n up y x ⊎ UnderAt n up x y

-- m is the deepest station above both u and v
abbrev pub MeetAt : ℕ → (ℕ → ℕ) → (ℕ → ℕ) → ℕ → ℕ → ℕ → Type 0
MeetAt n up depth m u v = (m < n) × AboveAt up depth m u × AboveAt up depth m v × ((c : ℕ) → AboveAt up depth c u → AboveAt up depth c v → AboveAt up depth c m)
