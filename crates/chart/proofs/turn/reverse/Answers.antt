use Rattle.std.proofs.Common.{◌<◌, replicate, None, Option, ◌∙◌, refl, arith, length-set}
use Rattle.std.proofs.lemmas.List.{length-replicate}
use Rattle.chart.specs.declared.link.Link.{Link}
use Rattle.chart.proofs.Turned.{says, join_is, before_is, first_long, depth_set, turned_first, turned_next}
use Rattle.chart.proofs.turn.reverse.Goals as goal

pub loop-here-init : goal.loop-here-init
loop-here-init c =
    let n = says c.as_slice-rows.result.now c.args.records.now c.as_slice-rows.ensures.value c.as_slice-rows.ensures.lawful in
    record {
      long = first_long c.args.root _;
      turned = turned_first c.args.records.now.joins c.args.root _ (omega arith) (omega arith) refl refl;
      low = omega arith;
      at = depth_set (replicate 1024 None) c.args.root _ (omega (arith, length-replicate {A = Option Link} 1024 None));
      deep = omega arith;
    }

pub loop-here-preserved : goal.loop-here-preserved
loop-here-preserved c =
    let i = c.loop-here.invariant in
    let n = says c.as_slice-rows.result.now c.args.records.now c.as_slice-rows.ensures.value c.as_slice-rows.ensures.lawful in
    let is = join_is c.as_slice-rows.result.now c.args.records.now n c.loop-here.here _ c.in-Some.below (omega arith) c.in-Some.is in
    let before : c.in-Some.below < c.loop-here.here = before_is c.as_slice-rows.result.now c.loop-here.here _ c.in-Some.below c.as_slice-rows.ensures.lawful (omega arith) (omega arith) c.in-Some.is in
    record {
      long = length-set c.loop-here.links _ _ ∙ i.long;
      turned = turned_next c.args.records.now.joins c.args.root c.loop-here.links c.loop-here.here c.in-Some.below c.loop-here.link.depth _ (omega arith) i.long (omega arith) (omega arith) i.low is before i.at (omega arith) refl refl i.turned;
      low = omega arith;
      at = depth_set c.loop-here.links c.in-Some.below _ (omega arith);
      deep = omega arith;
    }
