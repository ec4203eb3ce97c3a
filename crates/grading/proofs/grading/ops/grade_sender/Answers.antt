use Rattle.std.proofs.Common.{arith}
use Rattle.std.proofs.lemmas.Grind.{common_steps}
use Rattle.wire.specs.Frames.{box_of}
use Rattle.wire.specs.Slots.{column}
use Rattle.grading.specs.declared.grade.Grade.TheVariants.{One, Zero}
use Rattle.grading.proofs.Grades.{graded_is}
use Rattle.grading.proofs.grading.ops.grade_sender.Goals as goal

pub returns-in-Some-vote-2-clause-counted : goal.returns-in-Some-vote-2-clause-counted
returns-in-Some-vote-2-clause-counted g c =
    let crew = c.args.crew in
    graded_is g.K.Kind.coding g.met.K.Kind.lawful crew.n crew.t (column g.K.Kind.coding crew.n c.args.s (box_of c.args.inbox.now)) Zero (omega (arith, crew.enough)) (grind (arith, common_steps))

pub returns-in-None-vote-clause-counted : goal.returns-in-None-vote-clause-counted
returns-in-None-vote-clause-counted g c =
    let crew = c.args.crew in
    graded_is g.K.Kind.coding g.met.K.Kind.lawful crew.n crew.t (column g.K.Kind.coding crew.n c.args.s (box_of c.args.inbox.now)) (One c.in-Some-vote.value) (omega (arith, crew.enough)) (grind (arith, common_steps))

pub returns-in-None-clause-counted : goal.returns-in-None-clause-counted
returns-in-None-clause-counted g c =
    let crew = c.args.crew in
    graded_is g.K.Kind.coding g.met.K.Kind.lawful crew.n crew.t (column g.K.Kind.coding crew.n c.args.s (box_of c.args.inbox.now)) Zero (omega (arith, crew.enough)) (grind (arith, common_steps))
