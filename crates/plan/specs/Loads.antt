-- What reading a file into a plan does.
use Rattle.std.specs.Prelude.{◌≡◌, ℕ, ◌↔◌, List, Ok, Err, Result}
use Rattle.label.specs.declared.label.Label.{Label}
use Rattle.records.specs.declared.fault.PlanFault.{PlanFault}
use Rattle.records.specs.Accepts.{Accepted, spots, FileHolds, FileJoins}
use Rattle.tree.specs.declared.Station.{Station}
use Rattle.tree.specs.Records.{Records}
use Rattle.tree.specs.Caves.{Holds, Leg}
use Rattle.tree.specs.Charts.{Charted}
use Rattle.plan.specs.declared.plan.Plan.{Plan}
use Rattle.plan.specs.Views.{stations_of}

-- by what the file's reading gives: the stations and legs of its records and no more; or its first fault, and the
-- plan as it was
abbrev pub Loaded : Result Records PlanFault → Plan → Plan → Result Unit PlanFault → Type 0
Loaded (Ok rs) before after r = (r ≡ Ok tt) × Charted rs (stations_of after)
Loaded (Err e) before after r = (r ≡ Err e) × (after ≡ before)

-- the plan has the stations and the legs of the records at these bytes of the file, and no more
pub record FileCave (file places : List ℕ) (ps : List Station) : Type 0 where
  pub stations : (a : Label) → Holds ps a ↔ FileHolds file places a
  pub legs : (a b : Label) → Leg ps a b ↔ FileJoins file places a b

-- in the words of the format: a file is accepted exactly when it is good, and the plan is then that of its records
pub record Reads (file : List ℕ) (after : List Station) (r : Result Unit PlanFault) : Type 0 where
  pub good : r ≡ Ok tt → (rs : Records) × Accepted file rs
  pub taken : (rs : Records) → Accepted file rs → r ≡ Ok tt
  pub cave : (rs : Records) (g : Accepted file rs) → FileCave file (spots 0 g.counts) after
