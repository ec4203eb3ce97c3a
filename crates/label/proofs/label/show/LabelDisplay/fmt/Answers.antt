use Rattle.std.proofs.Common.{◌<◌, length, get_or, take, is_ok, Ok, refl, ap, arith}
use Rattle.std.proofs.Output.{has_written_append, has_written_of_eq}
use Rattle.label.specs.Shown.{shown_byte, shown_bytes}
use Rattle.label.proofs.Showing.{shown_more}
use Rattle.label.proofs.label.show.LabelDisplay.fmt.Goals as goal

pub loop-b-preserved : goal.loop-b-preserved
loop-b-preserved g c plain e =
    let bs = c.bytes-bytes.result in
    let i = c.loop-b.b-index in
    let before = c.loop-b.invariant plain refl in
    let here = c.put.ensures before.plain (ap is_ok {x = c.put.result} {y = Ok tt} c.in_ok-put.was) in
    let lt : c.loop-b.b-index < length c.bytes-bytes.result = omega (arith, ap length c.bytes-bytes.ensures.value) in
    has_written_of_eq g.W.Write.write_str_gives _ _ _ _ (shown_more bs i lt)
    (has_written_append g.W.Write.write_str_gives _ (shown_bytes (take i bs)) _ (shown_byte (get_or bs i 0)) _ before here)
