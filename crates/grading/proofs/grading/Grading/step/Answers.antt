use Rattle.grading.proofs.Broadcasts.{graded_broadcast}
use Rattle.grading.proofs.Rounds.{by_rounds}
use Rattle.grading.proofs.grading.Grading.step.Goals as goal

pub returns-clause-rounds : goal.returns-clause-rounds
returns-clause-rounds g c = by_rounds g.K.Kind.coding g.met.K.Kind.lawful

pub returns-clause-broadcast : goal.returns-clause-broadcast
returns-clause-broadcast g c = graded_broadcast g.K.Kind.coding g.met.K.Kind.lawful
