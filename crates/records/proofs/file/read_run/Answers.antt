use Rattle.std.proofs.Common.{rules, ℕ, ◌+◌, ◌-◌, ◌*◌, [], ◌∷◌, ◌++◌, length, refl, ap, ◌∙◌, sym, arith}
use Rattle.std.proofs.lemmas.List.{length_push}
use Rattle.std.proofs.lemmas.Result.{err_from_is_err_and}
use Rattle.tree.specs.Records.{Records}
use Rattle.records.specs.Files.{records_from, places_of}
use Rattle.records.specs.Lists.{join_of}
use Rattle.records.proofs.Halves.{taken, parent_before}
use Rattle.records.proofs.Turns.{run_left, next_record, verdict_same, record_more, record_fault}
use Rattle.records.proofs.file.read_run.Goals as goal

pub push-requires : goal.push-requires
push-requires c =
    let i = c.loop-r.invariant in
    let s = c.in-Some.ensures.steps in
    let k = next_record c.args.file.now c.args.start c.args.count c.loop-r.r-iterator.count _ _ _ _ c.requires.within i.few i.left s.0.1.0 s.0.1.1 i.size in
    let ls = ap (λ (rs : Records). rs.labels) c.as_slice.ensures.value in
    let t = taken _ _ _ c.loop-r.records.labels c.in_ok-record.record (sym (c.in_ok-record.ensures ∙ verdict_same c.in-Some.bytes.now c.args.start c.in-Some.r c.in-Some.r _ _ refl ls)) in
    record {
      room = omega (arith, k.more, i.room);
      fresh = t.fresh;
      joined = parent_before t.half c.loop-r.records.labels c.in_ok-record.record.joined t.joins;
    }

pub loop-r-preserved : goal.loop-r-preserved
loop-r-preserved c =
    let i = c.loop-r.invariant in
    let s = c.in-Some.ensures.steps in
    let k = next_record c.args.file.now c.args.start c.args.count c.loop-r.r-iterator.count _ _ _ _ c.requires.within i.few i.left s.0.1.0 s.0.1.1 i.size in
    let ls = ap (λ (rs : Records). rs.labels) c.as_slice.ensures.value in
    record {
      can = search rules;
      finite = search rules;
      size = search rules;
      left = k.next ∙ ap (run_left c.args.file.now c.args.start c.args.count) (sym s.2);
      few = omega (arith, k.more, s.2);
      read = ap (λ (rs : Records). records_from c.args.file.now (places_of (c.args.start + 16 * c.next.new.self.count) (c.args.count - c.next.new.self.count)) rs.labels rs.joins) c.push.ensures
          ∙ ap (λ (k : ℕ). records_from c.args.file.now (places_of (c.args.start + 16 * k) (c.args.count - k)) (c.loop-r.records.labels ++ c.in_ok-record.record.label ∷ []) (c.loop-r.records.joins ++ join_of c.in_ok-record.record.joined ∷ [])) s.2
          ∙ record_more k c.loop-r.records.labels c.loop-r.records.joins c.in_ok-record.record
          (c.in_ok-record.ensures ∙ verdict_same c.in-Some.bytes.now c.args.start _ _ _ _ s.1 ls)
          ∙ i.read;
      room = omega (arith, k.more, s.2, i.room, ap (λ (rs : Records). length rs.labels) c.push.ensures, length_push c.loop-r.records.labels c.in_ok-record.record.label);
    }

pub returns-in_err-record : goal.returns-in_err-record
returns-in_err-record c =
    let i = c.loop-r.invariant in
    let s = c.in-Some.ensures.steps in
    let ls = ap (λ (rs : Records). rs.labels) c.as_slice.ensures.value in
    let p = err_from_is_err_and c.from_residual.result c.from_residual.ensures.1 in
    rw (p.1, p.2)
    (record_fault (next_record c.args.file.now c.args.start c.args.count c.loop-r.r-iterator.count _ _ _ _ c.requires.within i.few i.left s.0.1.0 s.0.1.1 i.size) c.loop-r.records.labels c.loop-r.records.joins _
    (c.in_err-record.ensures ∙ verdict_same c.in-Some.bytes.now c.args.start _ _ _ _ s.1 ls)
    ∙ i.read)
