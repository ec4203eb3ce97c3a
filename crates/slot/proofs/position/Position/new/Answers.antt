use Rattle.label.proofs.Reading.{passed_true}
use Rattle.slot.proofs.position.Position.new.Goals as goal

pub returns-then-contains : goal.returns-then-contains
returns-then-contains c = passed_true _ _ _
