use Rattle.std.proofs.Common.{rules, ◌≡◌, ℕ, ◌+◌, ◌-◌, ◌*◌, List, length, get_or, Ok, ap, ◌∙◌, sym, arith}
use Rattle.std.proofs.lemmas.Result.{err_from_is_err_and}
use Rattle.records.specs.Files.{records_from, places_of, starts, count_at}
use Rattle.records.proofs.Turns.{blocks_left, next_block, run_done, run_fault, starts_long, records_long, places_long}
use Rattle.records.proofs.file.read_records.Goals as goal

pub read_run-requires-clause-few : goal.read_run-requires-clause-few
read_run-requires-clause-few c =
    let i = c.loop-b.invariant in
    let s = c.in-Some.ensures.steps in
    let k = next_block c.args.file.now c.args.blocks c.loop-b.b-iterator.count _ _ _ _ c.requires.whole i.few i.left s.0.1.0 s.0.1.1 i.size in
    let count : count_at c.args.file.now c.loop-b.b-iterator.count ≡ c.from.result = ap (λ (bs : List ℕ). get_or bs 2 0) (sym k.is) ∙ sym c.from.ensures in
    omega (arith, i.room, count, starts_long c.args.file.now c.args.blocks c.loop-b.b-iterator.count k.more)

pub loop-b-preserved : goal.loop-b-preserved
loop-b-preserved c =
    let i = c.loop-b.invariant in
    let s = c.in-Some.ensures.steps in
    let k = next_block c.args.file.now c.args.blocks c.loop-b.b-iterator.count _ _ _ _ c.requires.whole i.few i.left s.0.1.0 s.0.1.1 i.size in
    let count : count_at c.args.file.now c.loop-b.b-iterator.count ≡ c.from.result = ap (λ (bs : List ℕ). get_or bs 2 0) (sym k.is) ∙ sym c.from.ensures in
    let done : Ok c.read_run.new.records ≡ records_from c.args.file.now (places_of (512 * c.loop-b.b-iterator.count + 4) c.from.result) c.loop-b.records.labels c.loop-b.records.joins =
    c.in_ok-read_run.ensures ∙ ap (λ (k : ℕ). records_from c.args.file.now (places_of (512 * k + 4) c.from.result) c.loop-b.records.labels c.loop-b.records.joins) s.1 in
    record {
      can = search rules;
      finite = search rules;
      size = search rules;
      left = k.next ∙ ap (blocks_left c.args.file.now) (sym s.2);
      few = omega (arith, k.more, s.2);
      read = ap (λ (k : ℕ). records_from c.args.file.now (starts c.args.file.now k (c.args.blocks - k)) c.read_run.new.records.labels c.read_run.new.records.joins) s.2
          ∙ run_done c.args.file.now c.args.blocks c.loop-b.b-iterator.count c.from.result k.more count c.loop-b.records.labels c.loop-b.records.joins c.read_run.new.records done
          ∙ i.read;
      room = omega (
        arith,
        i.room,
        count,
        ap (λ (k : ℕ). length (starts c.args.file.now k (c.args.blocks - k))) s.2,
        starts_long c.args.file.now c.args.blocks c.loop-b.b-iterator.count k.more,
        records_long c.args.file.now (places_of (512 * c.loop-b.b-iterator.count + 4) c.from.result) c.loop-b.records.labels c.loop-b.records.joins c.read_run.new.records (sym done),
        places_long (512 * c.loop-b.b-iterator.count + 4) c.from.result,
      );
    }

pub returns-in_err-read_run : goal.returns-in_err-read_run
returns-in_err-read_run c =
    let i = c.loop-b.invariant in
    let s = c.in-Some.ensures.steps in
    let k = next_block c.args.file.now c.args.blocks c.loop-b.b-iterator.count _ _ _ _ c.requires.whole i.few i.left s.0.1.0 s.0.1.1 i.size in
    let count : count_at c.args.file.now c.loop-b.b-iterator.count ≡ c.from.result = ap (λ (bs : List ℕ). get_or bs 2 0) (sym k.is) ∙ sym c.from.ensures in
    let p = err_from_is_err_and c.from_residual.result c.from_residual.ensures.1 in
    rw (p.1, p.2)
    (run_fault c.args.file.now c.args.blocks c.loop-b.b-iterator.count c.from.result k.more count c.loop-b.records.labels c.loop-b.records.joins _
    (c.in_err-read_run.ensures ∙ ap (λ (k : ℕ). records_from c.args.file.now (places_of (512 * k + 4) c.from.result) c.loop-b.records.labels c.loop-b.records.joins) s.1)
    ∙ i.read)
