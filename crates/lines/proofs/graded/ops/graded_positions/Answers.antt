use Rattle.std.proofs.Common.{None, rules}
use Rattle.slot.specs.Positions.{position_coding}
use Rattle.trim.proofs.Made.{made_front}
use Rattle.grading.specs.Grades.{grade_value}
use Rattle.grading.specs.Gradings.{grade_at}
use Rattle.lines.proofs.graded.ops.graded_positions.Goals as goal

pub returns : goal.returns
returns c =
    let grading = c.args.grading.now in
    made_front _ _ (λ s. grade_value (grade_at position_coding grading s)) (λ i y q k. search rules) _ None 16 grading.crew.n c.from_fn.ensures.items grading.crew.few
