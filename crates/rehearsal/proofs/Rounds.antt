-- The table of the rounds' worked examples.
use Rattle.rehearsal.specs.Rounds.{WorkedRounds}
use Rattle.rehearsal.proofs.Gradings.{position_grades, label_grades, position_stories, label_stories}
use Rattle.rehearsal.proofs.Lines.{line_table}

pub worked_rounds : WorkedRounds
worked_rounds = record {
  position_grades = position_grades;
  label_grades = label_grades;
  position_stories = position_stories;
  label_stories = label_stories;
  lines = line_table;
}
