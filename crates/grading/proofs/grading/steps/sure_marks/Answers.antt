use Rattle.std.proofs.Common.{ℕ, false, rules}
use Rattle.wire.specs.Frames.{box_of}
use Rattle.wire.proofs.Fills.{made_is}
use Rattle.grading.specs.Grades.{sure}
use Rattle.grading.specs.Gradings.{grade_by, sure_marks}
use Rattle.grading.proofs.grading.steps.sure_marks.Goals as goal

pub returns : goal.returns
unfolding sure_marks
returns g c = made_is _ _ (λ (s : ℕ). sure (grade_by g.K.Kind.coding c.args.crew.n c.args.crew.t (box_of c.args.inbox.now) s)) (λ i y q k. search rules) c.from_fn.result 16 false c.from_fn.ensures.items
