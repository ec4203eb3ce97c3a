-- Parents that lead to a given root. A depth of 0 says that a station has none yet.
use Rattle.std.specs.Prelude.{◌≡◌, ℕ, ◌+◌, ◌<◌, ◌≤◌, ◌⊎◌, List, length, ◌≢◌, slice_index, slice_index_or}

abbrev pub Unset : List ℕ → Type 0
Unset ds = (k : ℕ) → k < length ds → slice_index ds k ≡ 0

-- x has its parent: one that is one less deep and is joined to it
abbrev pub Linked : List ℕ → List ℕ → List ℕ → ℕ → Type 0
Linked js ups ds x = (slice_index ups x < length js) × (0 < slice_index ds (slice_index ups x)) × (slice_index ds x ≡ slice_index ds (slice_index ups x) + 1)
    × (((0 < x) × (slice_index ups x ≡ slice_index js x)) ⊎ ((0 < slice_index ups x) × (slice_index js (slice_index ups x) ≡ x)))

-- The stations with a depth are those from the root to cur: each but the root is linked, each but cur is
-- the parent of the one that it is joined to, and none lies below cur.
pub record Turned (js : List ℕ) (root : ℕ) (ups ds : List ℕ) (cur : ℕ) : Type 0 where
  pub top : slice_index_or ds root 0 ≡ 1
  pub own : slice_index_or ups root 0 ≡ root
  pub here : 0 < slice_index ds cur
  pub later : (k : ℕ) → k < cur → slice_index ds k ≡ 0
  pub low : (k : ℕ) → k < length js → slice_index ds k ≤ 1024
  pub linked : (x : ℕ) → x < length js → 0 < slice_index ds x → (x ≢ root) → Linked js ups ds x
  pub turned : (k : ℕ) → cur < k → k < length js → 0 < slice_index ds k → (0 < slice_index ds (slice_index js k)) × (slice_index ups (slice_index js k) ≡ k)

-- the stations below k all have a depth
pub record Settling (js : List ℕ) (root : ℕ) (ups ds : List ℕ) (k : ℕ) : Type 0 where
  pub top : slice_index_or ds root 0 ≡ 1
  pub own : slice_index_or ups root 0 ≡ root
  pub low : (x : ℕ) → x < length js → slice_index ds x ≤ 1024 + k
  pub done : (x : ℕ) → x < k → 0 < slice_index ds x
  pub linked : (x : ℕ) → x < length js → 0 < slice_index ds x → (x ≢ root) → Linked js ups ds x
  pub legs : (x : ℕ) → 0 < x → x < length js → 0 < slice_index ds x → ((0 < slice_index ds (slice_index js x)) × (slice_index ups (slice_index js x) ≡ x)) ⊎ (slice_index ups x ≡ slice_index js x)

-- every station is linked, and every leg of the file leads from a station to its parent
pub record Settled (js : List ℕ) (root : ℕ) (ups ds : List ℕ) : Type 0 where
  pub top : slice_index_or ds root 0 ≡ 1
  pub own : slice_index_or ups root 0 ≡ root
  pub linked : (x : ℕ) → x < length js → (x ≢ root) → Linked js ups ds x
  pub legs : (x : ℕ) → 0 < x → x < length js → (slice_index ups (slice_index js x) ≡ x) ⊎ (slice_index ups x ≡ slice_index js x)
