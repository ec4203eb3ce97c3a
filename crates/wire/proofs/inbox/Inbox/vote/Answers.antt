use Rattle.std.proofs.Common.{arith}
use Rattle.std.proofs.lemmas.Grind.{common_steps}
use Rattle.wire.specs.Frames.{box_of}
use Rattle.wire.specs.Slots.{column, reaches}
use Rattle.wire.proofs.Rows.{column_first}
use Rattle.wire.proofs.Votes.{voted}
use Rattle.wire.proofs.inbox.Inbox.vote.Goals as goal

pub loop-frame-init : goal.loop-frame-init
loop-frame-init g c =
    let k = g.K.Kind.coding in
    grind (
      arith,
      common_steps,
      column_first k c.args.units c.args.s
          (reaches k c.args.quorum (column k c.args.units c.args.s (box_of c.args.self.now)) c.args.except) c.args.self.now.frames c.min.result,
    )

pub returns-then-tally-quorum-clause-counted : goal.returns-then-tally-quorum-clause-counted
returns-then-tally-quorum-clause-counted g c =
    voted g.K.Kind.coding g.met.K.Kind.lawful c.args.quorum c.args.except (column g.K.Kind.coding c.args.units c.args.s (box_of c.args.self.now)) _ (grind (arith, common_steps))

pub returns-clause-counted : goal.returns-clause-counted
returns-clause-counted g c =
    voted g.K.Kind.coding g.met.K.Kind.lawful c.args.quorum c.args.except (column g.K.Kind.coding c.args.units c.args.s (box_of c.args.self.now)) _ (grind (arith, common_steps))
