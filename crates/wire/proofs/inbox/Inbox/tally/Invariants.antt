use Rattle.std.proofs.Common.{◌≡◌, ◌+◌, ◌≤◌, drop, map, count_by}
use Rattle.wire.specs.Frames.{sent, box_of}
use Rattle.wire.specs.Slots.{slot_from, column, holds, count}
use Rattle.wire.proofs.inbox.Inbox.tally.Given as goal

abbrev pub invariant-loop-frame : goal.invariant-loop-frame
invariant-loop-frame g l =
    let c = g.K.Kind.coding in
    (l.count ≤ l.frame-index)
    × (l.count + count_by (holds c l.value) (map (λ f. slot_from c l.units l.s (sent f)) (drop l.frame-index l.frame-items)) ≡ count c l.value (column c l.units l.s (box_of l.self)))
