-- The worked examples of the rounds: grading and the lines.
use Rattle.slot.specs.Labels.{label_coding}
use Rattle.slot.specs.Positions.{position_coding}
use Rattle.rehearsal.specs.Cave.{label_c2, label_d1}
use Rattle.rehearsal.specs.Gradings.{GradeTable, TwoStories, position5, position9}
use Rattle.rehearsal.specs.Lines.{LineTable}

pub record WorkedRounds : Type 0 where
  -- grading with n = 4 and t = 1, for both kinds: what round 3 carries gives these grades
  pub position_grades : GradeTable position_coding position5 position9
  pub label_grades : GradeTable label_coding label_c2 label_d1
  -- and an exchange with a unit that tells two stories
  pub position_stories : TwoStories position_coding position5 position9
  pub label_stories : TwoStories label_coding label_c2 label_d1
  -- one round of halving, and the counts of rounds of both lines
  pub lines : LineTable
