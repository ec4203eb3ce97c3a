use Rattle.line.proofs.Rounds.{agreement}
use Rattle.line.proofs.round.follow.Goals as goal

pub returns-clause-agreement : goal.returns-clause-agreement
returns-clause-agreement g c = agreement g.L.Line.model g.met.L.Line.agree
