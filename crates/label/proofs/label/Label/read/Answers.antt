use Rattle.std.proofs.Common.{refl, arith}
use Rattle.label.proofs.Reading.{found, read_exact}
use Rattle.label.proofs.label.Label.read.Goals as goal

pub returns-in-len8-clause-value : goal.returns-in-len8-clause-value
returns-in-len8-clause-value c = found c.args.bytes.now _ (omega arith) refl

pub returns-in-len8-clause-exact : goal.returns-in-len8-clause-exact
returns-in-len8-clause-exact c = read_exact _ _ (found c.args.bytes.now _ (omega arith) refl)
