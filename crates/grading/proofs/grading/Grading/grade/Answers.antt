use Rattle.grading.proofs.Broadcasts.{graded_broadcast}
use Rattle.grading.proofs.Rounds.{by_rounds}
use Rattle.grading.proofs.grading.Grading.grade.Goals as goal

pub returns-then-not-is_over-clause-rounds : goal.returns-then-not-is_over-clause-rounds
returns-then-not-is_over-clause-rounds g c = by_rounds g.K.Kind.coding g.met.K.Kind.lawful

pub returns-then-not-is_over-clause-broadcast : goal.returns-then-not-is_over-clause-broadcast
returns-then-not-is_over-clause-broadcast g c = graded_broadcast g.K.Kind.coding g.met.K.Kind.lawful

pub returns-in-Some-clause-rounds : goal.returns-in-Some-clause-rounds
returns-in-Some-clause-rounds g c = by_rounds g.K.Kind.coding g.met.K.Kind.lawful

pub returns-in-Some-clause-broadcast : goal.returns-in-Some-clause-broadcast
returns-in-Some-clause-broadcast g c = graded_broadcast g.K.Kind.coding g.met.K.Kind.lawful

pub returns-in-Some-2-clause-rounds : goal.returns-in-Some-2-clause-rounds
returns-in-Some-2-clause-rounds g c = by_rounds g.K.Kind.coding g.met.K.Kind.lawful

pub returns-in-Some-2-clause-broadcast : goal.returns-in-Some-2-clause-broadcast
returns-in-Some-2-clause-broadcast g c = graded_broadcast g.K.Kind.coding g.met.K.Kind.lawful

pub returns-in-None-clause-rounds : goal.returns-in-None-clause-rounds
returns-in-None-clause-rounds g c = by_rounds g.K.Kind.coding g.met.K.Kind.lawful

pub returns-in-None-clause-broadcast : goal.returns-in-None-clause-broadcast
returns-in-None-clause-broadcast g c = graded_broadcast g.K.Kind.coding g.met.K.Kind.lawful
