-- A plan in the words of the cave: labels, legs and ways. Nothing here speaks of indices but `Holds` and `Leg`, which
-- say what stations and legs a plan has.
use Rattle.std.specs.Prelude.{◌≡◌, ℕ, ◌+◌, ◌<◌, ◌≤◌, ◌⊎◌, List, length}
use Rattle.label.specs.declared.label.Label.{Label}
use Rattle.label.specs.Orders.{Lower}
use Rattle.tree.specs.declared.Station.{Station}
use Rattle.tree.specs.Trees.{LegAt}
use Rattle.tree.specs.Ways.{Way, OnWay}
use Rattle.tree.specs.Stations.{station_label, parent_of, Canonical}

-- the plan has a station with this label
abbrev pub Holds : List Station → Label → Type 0
Holds ps a = (i : ℕ) × ((i < length ps) × (station_label ps i ≡ a))

-- the stations with these labels are joined by a leg
abbrev pub Leg : List Station → Label → Label → Type 0
Leg ps a b = (i : ℕ) × (j : ℕ) × (station_label ps i ≡ a) × (station_label ps j ≡ b) × LegAt (length ps) (parent_of ps) i j

abbrev pub root_label : List Station → Label
root_label ps = station_label ps 0

-- r is the station with the lowest label
pub record Root (ps : List Station) (r : Label) : Type 0 where
  pub there : Holds ps r
  pub lowest : (a : Label) → Holds ps a → (a ≡ r) ⊎ Lower r a

-- w is above x: it lies on the way from the root to x
abbrev pub Above : List Station → Label → Label → Type 0
Above ps w x = OnWay (Leg ps) (root_label ps) x w

-- d counts the stations on the way from the root to x
abbrev pub Depth : List Station → Label → ℕ → Type 0
Depth ps x d = (xs : List Label) × (Way (Leg ps) (root_label ps) xs x × (d ≡ length xs + 1))

-- h is the greatest depth: some station has it, and none is deeper
pub record Height (ps : List Station) (h : ℕ) : Type 0 where
  pub some : (x : Label) × Depth ps x h
  pub most : (x : Label) (d : ℕ) → Depth ps x d → d ≤ h

-- m is the deepest station above both u and v
abbrev pub Deepest : List Station → Label → Label → Label → Type 0
Deepest ps m u v = Above ps m u × Above ps m v × ((w : Label) → Above ps w u → Above ps w v → Above ps w m)

-- a is the station at depth k on the way from the root to v, or v itself where that way is shorter
abbrev pub AtDepth : List Station → Label → ℕ → Label → Type 0
AtDepth ps v k a = (Above ps a v × Depth ps a k) ⊎ ((a ≡ v) × ((d : ℕ) × (Depth ps v d × (d < k))))

-- the two plans have the same stations and the same legs
pub record SameCave (ps qs : List Station) : Type 0 where
  pub there : (a : Label) → Holds ps a → Holds qs a
  pub here : (a : Label) → Holds qs a → Holds ps a
  pub legs : (a b : Label) → Leg ps a b → Leg qs a b

-- two plans with the same stations and the same legs have one list of stations
pub record OneCave : Type 0 where
  pub one : (ps qs : List Station) → Canonical ps → Canonical qs → SameCave ps qs → ps ≡ qs

-- between any two stations of a plan there is a way, and only one
pub record OneWay : Type 0 where
  pub one : (ps : List Station) → Canonical ps → (a b : Label) → Holds ps a → Holds ps b → (xs : List Label) × (Way (Leg ps) a xs b × ((ys : List Label) → Way (Leg ps) a ys b → ys ≡ xs))
