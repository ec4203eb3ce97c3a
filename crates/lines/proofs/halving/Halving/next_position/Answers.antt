use Rattle.std.proofs.Common.{rules}
use Rattle.lines.proofs.halving.Halving.next_position.Goals as goal

pub returns : goal.returns
returns c = let heard = c.heard-slots.ensures c.args.self.now.crew.n c.args.self.now.crew.few in search rules
