-- The walk of a plan.
use Rattle.std.specs.Prelude.{ℕ, zero, suc, ◌+◌, ◌-◌, cond, List, [], ◌∷◌, ◌++◌, map, length, filter, ◌==◌, nat_eq}
use Rattle.std.specs.List.{range_with_len, flat_map}
use Rattle.label.specs.declared.label.Label.{Label}
use Rattle.tree.specs.declared.Station.{Station}
use Rattle.tree.specs.Stations.{station_label, parent_of, depth_of}

-- the stations one leg below i, in label order
abbrev pub branches : ℕ → (ℕ → ℕ) → ℕ → List ℕ
branches n up i = filter (λ j. nat_eq (up j) i) (range_with_len 1 (n - 1))

-- the walk of a station is the station, then for each branch in label order the walk of that branch and the
-- station again; at most f levels deep
abbrev pub walk_of : ℕ → (ℕ → ℕ) → ℕ → ℕ → List ℕ
walk_of n up zero i = i ∷ []
walk_of n up (suc f) i = i ∷ flat_map (λ j. walk_of n up f j ++ i ∷ []) (branches n up i)

-- the walk of station i, by indices; no station is deeper than there are stations
unfoldable pub walk_from : List Station → ℕ → List ℕ
walk_from ps i = walk_of (length ps) (parent_of ps) (length ps - depth_of ps i) i

-- what follows the station i in its walk
unfoldable pub tour_from : List Station → ℕ → List ℕ
tour_from ps i = flat_map (λ j. walk_from ps j ++ i ∷ []) (branches (length ps) (parent_of ps) i)

-- the walk of the plan is the root's
abbrev pub walk_labels : List Station → List Label
walk_labels ps = map (station_label ps) (walk_from ps 0)

-- the place, counted from 1, of the first entry that is x; past the end where there is none
abbrev pub first_place : ℕ → List ℕ → ℕ
first_place x [] = 1
first_place x (w ∷ ws) = cond (w == x) 1 (first_place x ws + 1)
