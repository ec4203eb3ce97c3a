-- The laws of kinds, as one record.
use Rattle.std.proofs.Common.{refl, arith}
use Rattle.label.proofs.Reading.{read_written as label-read-written}
use Rattle.slot.specs.Codings.{Lawful}
use Rattle.slot.specs.Labels.{label_coding}
use Rattle.slot.specs.Positions.{position_coding}
use Rattle.slot.specs.PositionsLemmas.{read_written}

pub position_lawful : Lawful position_coding
position_lawful = record { written = read_written; missing = refl; long = λ x. refl; empty = refl; some = omega arith; narrow = omega arith }

pub label_lawful : Lawful label_coding
label_lawful = record { written = label-read-written; missing = refl; long = λ x. refl; empty = refl; some = omega arith; narrow = omega arith }
