use Rattle.std.proofs.Common.{None, rules}
use Rattle.slot.specs.Positions.{position_coding}
use Rattle.wire.specs.Boxes.{from}
use Rattle.wire.specs.Frames.{box_of}
use Rattle.wire.specs.Slots.{slot_from}
use Rattle.trim.proofs.Made.{made_front}
use Rattle.lines.proofs.halving.ops.heard.Goals as goal

pub returns : goal.returns
returns c =
    let box = box_of c.args.inbox.now in
    λ n few. made_front _ _ (λ i. slot_from position_coding 1 0 (from box i)) (λ i y q k. search rules) _ None 16 n c.from_fn.ensures.items few
