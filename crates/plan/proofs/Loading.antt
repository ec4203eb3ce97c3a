-- What the reading of a file says of the plan that it is read into.
use Rattle.std.proofs.Common.{◌≡◌, ℕ, List, Ok, Err, Result, sym, refl, ◌∙◌, subst}
use Rattle.records.specs.declared.fault.PlanFault.{PlanFault}
use Rattle.records.specs.Accepts.{Accepted, spots}
use Rattle.records.specs.Files.{read_file}
use Rattle.records.proofs.Accepting.{read_good, good_read}
use Rattle.records.proofs.Facts.{file_holds, holds_file, file_joins, joins_file}
use Rattle.tree.specs.declared.Station.{Station}
use Rattle.tree.specs.Records.{Records}
use Rattle.tree.specs.Charts.{Charted}
use Rattle.plan.specs.Loads.{FileCave, Reads}

-- the stations and legs of the records are those of the file
file_cave : (file : List ℕ) (rs : Records) (ps : List Station) (g : Accepted file rs) → Charted rs ps → FileCave file (spots 0 g.counts) ps
file_cave file rs ps g c =
    record {
      stations = λ a. ((λ h. holds_file file (spots 0 g.counts) rs g.written a (c.named a h)), (λ h. c.stations a (file_holds file (spots 0 g.counts) rs g.written a h)));
      legs = λ a b. ((λ h. joins_file file (spots 0 g.counts) rs g.written a b (c.tied a b h)), (λ h. c.legs a b (file_joins file (spots 0 g.counts) rs g.written a b h)));
    }

-- one file says one thing
same : (file : List ℕ) (rs qs : Records) → Ok rs ≡ read_file file → read_file file ≡ Ok qs → rs ≡ qs
same file rs qs e f = let z : ◌≡◌ {A = Result Records PlanFault} (Ok rs) (Ok qs) = e ∙ f in cc

pub reads_records : (file : List ℕ) (rs : Records) (ps : List Station) → Ok rs ≡ read_file file → Charted rs ps → Reads file ps (Ok tt)
reads_records file rs ps e c =
    record {
      good = λ h. (rs, read_good file rs (sym e));
      taken = λ qs g. refl;
      cave = λ qs g. file_cave file qs ps g (subst (λ (x : Records). Charted x ps) (same file rs qs e (good_read file qs g)) c);
    }

pub reads_nothing : (file : List ℕ) (f : PlanFault) (ps : List Station) → Err f ≡ read_file file → Reads file ps (Err f)
reads_nothing file f ps e =
    record {
      good = λ h. cc;
      taken = λ qs g. let z : ◌≡◌ {A = Result Records PlanFault} (Err f) (Ok qs) = e ∙ good_read file qs g in cc;
      cave = λ qs g. let z : ◌≡◌ {A = Result Records PlanFault} (Err f) (Ok qs) = e ∙ good_read file qs g in cc;
    }
