use Rattle.std.proofs.Common.{rules, ◌≡◌, Ok, Err}
use Rattle.std.proofs.lemmas.Result.{err_from_is_err_and}
use Rattle.records.specs.Files.{read_file}
use Rattle.plan.proofs.Loading.{reads_records, reads_nothing}
use Rattle.plan.proofs.plan.Plan.read.Goals as goal

pub returns-in_err-records-clause-exactly : goal.returns-in_err-records-clause-exactly
returns-in_err-records-clause-exactly c =
    let told : Err c.in_err-records.field-0.0 ≡ read_file c.args.file.now = search rules in
    let p = err_from_is_err_and c.from_residual.result c.from_residual.ensures.1 in
    rw (p.1, p.2) (reads_nothing c.args.file.now _ _ told)

pub returns-clause-exactly : goal.returns-clause-exactly
returns-clause-exactly c =
    let told : Ok c.in_ok-records.records ≡ read_file c.args.file.now = search rules in
    reads_records c.args.file.now c.in_ok-records.records c.chart.new.stations.items told c.chart.ensures.charted
