-- The published procedure: to list a station, append it; then, for each neighbour in label order that is not yet in the list, list
-- that neighbour and append the station again.
use Rattle.std.specs.Prelude.{ℕ, zero, suc, ◌-◌, Bool, false, cond, not, ◌&&◌, ◌||◌, List, [], ◌∷◌, ◌++◌, length, ◌==◌, nat_lt}
use Rattle.std.specs.List.{range_with_len}
use Rattle.tree.specs.declared.Station.{Station}
use Rattle.tree.specs.Stations.{parent_of}

abbrev pub among : ℕ → List ℕ → Bool
among x [] = false
among x (w ∷ ws) = w == x || among x ws

-- w is one leg below v
abbrev pub child : (ℕ → ℕ) → ℕ → ℕ → Bool
child up v w = nat_lt 0 w && up w == v

abbrev pub neighbour : (ℕ → ℕ) → ℕ → ℕ → Bool
neighbour up v w = child up v w || child up w v

-- the neighbours of v among those stations, in their order; `list` lists a neighbour after what is listed
abbrev pub list_each : (ℕ → ℕ) → (ℕ → List ℕ → List ℕ) → ℕ → List ℕ → List ℕ → List ℕ
list_each up list v [] listed = listed
list_each up list v (w ∷ ws) listed = cond (neighbour up v w && not (among w listed)) (list_each up list v ws (list w listed ++ v ∷ [])) (list_each up list v ws listed)

-- what is listed once v is, at most f legs on
abbrev pub list_from : ℕ → (ℕ → ℕ) → ℕ → ℕ → List ℕ → List ℕ
list_from n up zero v listed = listed ++ v ∷ []
list_from n up (suc f) v listed = list_each up (list_from n up f) v (range_with_len 0 n) (listed ++ v ∷ [])

-- from the root, with nothing listed; no way has more legs than that
unfoldable pub listing : List Station → List ℕ
listing ps = list_from (length ps) (parent_of ps) (length ps - 1) 0 []
