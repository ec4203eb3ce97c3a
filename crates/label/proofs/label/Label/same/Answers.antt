use Rattle.std.proofs.Common.{rules}
use Rattle.label.proofs.Reading.{same_bytes}
use Rattle.label.proofs.label.Label.same.Goals as goal

pub returns : goal.returns
returns c = search (rules, same_bytes)
