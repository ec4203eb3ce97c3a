use Rattle.std.proofs.Common.{rules}
use Rattle.ways.proofs.Answering.{told_root}
use Rattle.ways.proofs.cave.Cave.root.Goals as goal

pub returns-clause-lowest : goal.returns-clause-lowest
returns-clause-lowest c = search (rules, told_root)
