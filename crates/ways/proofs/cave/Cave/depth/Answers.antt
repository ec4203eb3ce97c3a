use Rattle.std.proofs.Common.{rules}
use Rattle.ways.proofs.Answering.{told_depth}
use Rattle.ways.proofs.cave.Cave.depth.Goals as goal

pub returns : goal.returns
returns c = search (rules, told_depth, c.in_ok-at.ensures)
