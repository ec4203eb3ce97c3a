-- The stations of a plan, by their index.
use Rattle.std.specs.Prelude.{◌≡◌, ℕ, ◌+◌, ◌<◌, ◌≤◌, List, [], ◌∷◌, length, slice_index_or}
use Rattle.label.specs.declared.label.Label.{Label}
use Rattle.label.specs.Labels.{zero_label}
use Rattle.label.specs.Orders.{key_of}
use Rattle.tree.specs.declared.Station.{Station}
use Rattle.tree.specs.Trees.{Rooted}

-- what stands past the last station
abbrev pub nowhere : Station
nowhere = record { label = zero_label; parent = 0; depth = 0 }

abbrev pub station_label : List Station → ℕ → Label
station_label ps i = (slice_index_or ps i nowhere).label

abbrev pub parent_of : List Station → ℕ → ℕ
parent_of ps i = (slice_index_or ps i nowhere).parent

abbrev pub depth_of : List Station → ℕ → ℕ
depth_of ps i = (slice_index_or ps i nowhere).depth

abbrev pub Inside : List Station → Type 0
Inside ps = (i : ℕ) → i < length ps → parent_of ps i < length ps

-- a parent is one less deep
abbrev pub Deeper : List Station → Type 0
Deeper ps = (i : ℕ) → 0 < i → i < length ps → depth_of ps i ≡ depth_of ps (parent_of ps i) + 1

-- in label order
abbrev pub Ascending : List Station → Type 0
Ascending ps = (i j : ℕ) → i < j → j < length ps → key_of (station_label ps i) < key_of (station_label ps j)

-- what holds of every plan's stations
pub record Canonical (ps : List Station) : Type 0 where
  pub few : length ps ≤ 1024
  pub some : 0 < length ps
  pub top : depth_of ps 0 ≡ 1
  pub own : parent_of ps 0 ≡ 0
  pub inside : Inside ps
  pub deeper : Deeper ps
  pub ascending : Ascending ps

pub rooted : (ps : List Station) → Canonical ps → Rooted (length ps) (parent_of ps) (depth_of ps)
rooted ps c = record { some = c.some; top = c.top; inside = c.inside; deeper = c.deeper }

-- the plan made without a file: the station `0` alone
abbrev pub single : List Station
single = record { label = zero_label; parent = 0; depth = 1 } ∷ []
