use Rattle.std.proofs.Common.{rules}
use Rattle.ways.proofs.Finding.{found_decides}
use Rattle.ways.proofs.cave.Cave.has.Goals as goal

pub returns : goal.returns
returns c = search (rules, found_decides)
