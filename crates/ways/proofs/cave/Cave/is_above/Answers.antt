use Rattle.std.proofs.Common.{rules}
use Rattle.ways.proofs.Answering.{told_above, told_not_above}
use Rattle.ways.proofs.cave.Cave.is_above.Goals as goal

pub returns : goal.returns
returns c = search (rules, told_above, c.in-Some.ensures.0, c.in-Some.ensures.1)

pub returns-in_default : goal.returns-in_default
returns-in_default c = search (rules, told_not_above, c.in_default.ensures)
