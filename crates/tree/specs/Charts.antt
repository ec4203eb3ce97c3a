-- When a plan's stations are those of a file's records.
use Rattle.std.specs.Prelude.{◌≡◌, ℕ, ◌<◌, ◌⊎◌, List, length, slice_index}
use Rattle.label.specs.declared.label.Label.{Label}
use Rattle.tree.specs.declared.Station.{Station}
use Rattle.tree.specs.Records.{Records, label_at}
use Rattle.tree.specs.Stations.{Canonical}
use Rattle.tree.specs.Caves.{Holds, Leg}

-- a record has that first label
abbrev pub Named : Records → Label → Type 0
Named rs a = (k : ℕ) × ((k < length rs.labels) × (label_at rs.labels k ≡ a))

-- a record but the first has those two labels, in either order
abbrev pub Tied : Records → Label → Label → Type 0
Tied rs a b = (k : ℕ) × ((0 < k) × (k < length rs.labels)
    × (((label_at rs.labels k ≡ a) × (label_at rs.labels (slice_index rs.joins k) ≡ b)) ⊎ ((label_at rs.labels k ≡ b) × (label_at rs.labels (slice_index rs.joins k) ≡ a))))

-- the plan has the stations and the legs of the records, and no more
pub record Charted (rs : Records) (ps : List Station) : Type 0 where
  pub lawful : Canonical ps
  pub stations : (a : Label) → Named rs a → Holds ps a
  pub named : (a : Label) → Holds ps a → Named rs a
  pub legs : (a b : Label) → Tied rs a b → Leg ps a b
  pub tied : (a b : Label) → Leg ps a b → Tied rs a b
