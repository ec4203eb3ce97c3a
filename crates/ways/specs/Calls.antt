-- What the calls of a plan answer, in labels, legs and ways.
use Rattle.std.specs.Prelude.{◌≡◌, ℕ, ◌-◌, ◌<◌, ◌≤◌, ◌⊎◌, List, ◌∷◌, length, take, drop, Some, None, Option, slice_index_or}
use Rattle.label.specs.declared.label.Label.{Label}
use Rattle.tree.specs.declared.Station.{Station}
use Rattle.tree.specs.Ways.{Way}
use Rattle.tree.specs.Stations.{station_label}
use Rattle.tree.specs.Caves.{Holds, Leg, root_label, Depth, Deepest, AtDepth}
use Rattle.tree.specs.Walks.{walk_labels}
use Rattle.tree.specs.WalkLaws.{FirstPlace}

-- the indices of both labels, or nothing where the plan lacks one of them
abbrev pub BothFound : List Station → Label → Label → Option (ℕ × ℕ) → Type 0
BothFound ps a b (Some p) = ((p.0 < length ps) × (station_label ps p.0 ≡ a)) × ((p.1 < length ps) × (station_label ps p.1 ≡ b))
BothFound ps a b None = Holds ps a → Holds ps b → ⊥

-- the depth of a label, or nothing where the plan lacks it
abbrev pub DepthTold : List Station → Label → Option ℕ → Type 0
DepthTold ps a (Some d) = Depth ps a d
DepthTold ps a None = Holds ps a → ⊥

-- the deepest station above both, or nothing where the plan lacks one of them
abbrev pub DeepestTold : List Station → Label → Label → Option Label → Type 0
DeepestTold ps a b (Some m) = Deepest ps m a b
DeepestTold ps a b None = Holds ps a → Holds ps b → ⊥

-- the station at depth k on the way from the root to a (a itself where that way is shorter), or nothing where the plan
-- lacks a or k is 0
abbrev pub AtDepthTold : List Station → Label → ℕ → Option Label → Type 0
AtDepthTold ps a k (Some s) = AtDepth ps a k s
AtDepthTold ps a k None = Holds ps a → 0 < k → ⊥

-- the way from a to b at the front of the buffer, by its count, and what stands behind it kept; or nothing written where
-- the plan lacks one of them
pub record WayTold (ps : List Station) (a b : Label) (before after : List Label) (r : Option ℕ) : Type 0 where
  pub written : (n : ℕ) → r ≡ Some n → (xs : List Label) × ((take n after ≡ a ∷ xs) × Way (Leg ps) a xs b)
  pub behind : (n : ℕ) → r ≡ Some n → drop n after ≡ drop n before
  pub within : (n : ℕ) → r ≡ Some n → n ≤ 1024
  pub lacking : r ≡ None → Holds ps a → Holds ps b → ⊥
  pub untouched : r ≡ None → after ≡ before

-- b stands for a: a itself, or the root where the plan lacks a
abbrev pub CountsAs : List Station → Label → Label → Type 0
CountsAs ps a b = (Holds ps a × (b ≡ a)) ⊎ ((Holds ps a → ⊥) × (b ≡ root_label ps))

-- r is the first place on the walk of what stands for a
pub record Placed (ps : List Station) (a : Label) (r : ℕ) : Type 0 where
  pub first : (b : Label) → CountsAs ps a b → FirstPlace (walk_labels ps) b r

-- the walk's entry at place k, counted from 1, or the root where the walk has no such place
abbrev pub entry_at : List Station → ℕ → Label
entry_at ps k = slice_index_or (walk_labels ps) (k - 1) (root_label ps)
