use Rattle.std.proofs.Common.{arith}
use Rattle.std.proofs.lemmas.Grind.{common_steps}
use Rattle.wire.proofs.Rows.{column_count}
use Rattle.wire.proofs.inbox.Inbox.tally.Goals as goal

pub loop-frame-init : goal.loop-frame-init
loop-frame-init g c = grind (arith, common_steps, column_count g.K.Kind.coding c.args.units c.args.s c.args.value c.args.self.now.frames c.min.result)
