-- A label's slot: its eight bytes, and missing as eight blanks.
use Rattle.std.specs.Prelude.{[], ◌∷◌}
use Rattle.label.specs.Labels.{bytes_of, label_of}
use Rattle.label.specs.declared.label.Label.{Label}
use Rattle.slot.specs.Codings.{Coding}

abbrev pub label_coding : Coding Label
label_coding = record { wide = 8; reads = label_of; writes = bytes_of; blank = 32 ∷ 32 ∷ 32 ∷ 32 ∷ 32 ∷ 32 ∷ 32 ∷ 32 ∷ [] }
