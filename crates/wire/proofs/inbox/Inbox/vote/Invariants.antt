use Rattle.std.proofs.Common.{◌≡◌, drop, map}
use Rattle.wire.specs.Frames.{sent, box_of}
use Rattle.wire.specs.Slots.{slot_from, column, first_with, reaches, vote}
use Rattle.wire.proofs.inbox.Inbox.vote.Given as goal

abbrev pub invariant-loop-frame : goal.invariant-loop-frame
invariant-loop-frame g l =
    let c = g.K.Kind.coding in
    let col = column c l.units l.s (box_of l.self) in
    vote c l.quorum l.except col ≡ first_with (reaches c l.quorum col l.except) (map (λ f. slot_from c l.units l.s (sent f)) (drop l.frame-index l.frame-items))
