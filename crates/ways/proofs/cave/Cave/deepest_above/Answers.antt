use Rattle.std.proofs.Common.{rules}
use Rattle.ways.proofs.Answering.{told_deepest}
use Rattle.ways.proofs.cave.Cave.deepest_above.Goals as goal

pub returns : goal.returns
returns c = search (rules, told_deepest, c.in_ok-u.ensures.0, c.in_ok-u.ensures.1, c.meeting_point.ensures)
