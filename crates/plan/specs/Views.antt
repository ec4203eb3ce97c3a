-- What a plan holds. All that is said of a plan is said of its stations.
use Rattle.std.specs.Prelude.{List, vec_items}
use Rattle.tree.specs.declared.Station.{Station}
use Rattle.tree.specs.Stations.{Canonical}
use Rattle.plan.specs.declared.plan.Plan.{Plan}

abbrev pub stations_of : Plan → List Station
stations_of p = vec_items p.stations

-- what every plan satisfies
pub canonical : (p : Plan) → Canonical (stations_of p)
canonical p = p.lawful
