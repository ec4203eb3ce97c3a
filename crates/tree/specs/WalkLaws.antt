-- What holds of the walk of every plan, in labels and legs.
use Rattle.std.specs.Prelude.{◌≡◌, ℕ, ◌+◌, ◌-◌, ◌*◌, ◌<◌, ◌≤◌, List, map, length, ◌≢◌}
use Rattle.label.specs.declared.label.Label.{Label}
use Rattle.tree.specs.declared.Station.{Station}
use Rattle.tree.specs.Records.{label_at}
use Rattle.tree.specs.Ways.{On}
use Rattle.tree.specs.Stations.{station_label}
use Rattle.tree.specs.Caves.{Holds, Leg, Above}
use Rattle.tree.specs.Listing.{listing}

pub record WalkLaws (ps : List Station) (ws : List Label) : Type 0 where
  -- two entries for each station, less one
  pub long : length ws + 1 ≡ 2 * length ps
  -- every station occurs, and nothing else
  pub all : (a : Label) → Holds ps a → On a ws
  pub only : (k : ℕ) → k < length ws → Holds ps (label_at ws k)
  -- each entry and the next are joined by a leg
  pub legs : (k : ℕ) → k + 1 < length ws → Leg ps (label_at ws k) (label_at ws (k + 1))
  -- whatever is above both ends of a stretch is above every entry of the stretch
  pub stretch : (w : Label) (i k j : ℕ) → i ≤ k → k ≤ j → j < length ws → Above ps w (label_at ws i) → Above ps w (label_at ws j) → Above ps w (label_at ws k)
  -- it is the list that the published procedure builds
  pub listed : ws ≡ map (station_label ps) (listing ps)

-- r is the place, counted from 1, of the first entry a
pub record FirstPlace (ws : List Label) (a : Label) (r : ℕ) : Type 0 where
  pub some : 1 ≤ r
  pub most : r ≤ length ws
  pub here : label_at ws (r - 1) ≡ a
  pub first : (k : ℕ) → k + 1 < r → label_at ws k ≢ a
