use Rattle.grading.proofs.Broadcasts.{graded_broadcast}
use Rattle.grading.proofs.Rounds.{by_rounds}
use Rattle.grading.proofs.grading.Grading.frame.Goals as goal

pub returns-in-Sending-clause-rounds : goal.returns-in-Sending-clause-rounds
returns-in-Sending-clause-rounds g c = by_rounds g.K.Kind.coding g.met.K.Kind.lawful

pub returns-in-Sending-clause-broadcast : goal.returns-in-Sending-clause-broadcast
returns-in-Sending-clause-broadcast g c = graded_broadcast g.K.Kind.coding g.met.K.Kind.lawful

pub returns-in-Relaying-clause-rounds : goal.returns-in-Relaying-clause-rounds
returns-in-Relaying-clause-rounds g c = by_rounds g.K.Kind.coding g.met.K.Kind.lawful

pub returns-in-Relaying-clause-broadcast : goal.returns-in-Relaying-clause-broadcast
returns-in-Relaying-clause-broadcast g c = graded_broadcast g.K.Kind.coding g.met.K.Kind.lawful

pub returns-in-Graded-clause-rounds : goal.returns-in-Graded-clause-rounds
returns-in-Graded-clause-rounds g c = by_rounds g.K.Kind.coding g.met.K.Kind.lawful

pub returns-in-Graded-clause-broadcast : goal.returns-in-Graded-clause-broadcast
returns-in-Graded-clause-broadcast g c = graded_broadcast g.K.Kind.coding g.met.K.Kind.lawful
