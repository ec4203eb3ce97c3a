-- Finding a label among the stations of a plan.
use Rattle.std.specs.Prelude.{◌≡◌, ℕ, ◌<◌, List, length, Some, None, Option}
use Rattle.label.specs.declared.label.Label.{Label}
use Rattle.tree.specs.declared.Station.{Station}
use Rattle.tree.specs.Stations.{station_label}
use Rattle.tree.specs.Caves.{Holds}

-- what the index of a label says: its station stands there; and where there is none, the plan lacks it
abbrev pub Found : List Station → Label → Option ℕ → Type 0
Found ps a (Some i) = (i < length ps) × (station_label ps i ≡ a)
Found ps a None = Holds ps a → ⊥
