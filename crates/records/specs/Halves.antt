-- The two halves of a record: a station's label, and the label of a station that it is joined to.
use Rattle.std.specs.Prelude.{ℕ, Bool, cond, List, [], ◌∷◌, take, drop, Some, None, Ok, Err, Option, Result}
use Rattle.std.specs.Str.{bytes_eq}
use Rattle.label.specs.Labels.{bytes_of, label_of}
use Rattle.label.specs.declared.label.Label.{Label}
use Rattle.records.specs.declared.fault.PlanFault.{PlanFault}
use Rattle.records.specs.declared.fault.PlanFault.TheVariants.{Unlawful}

-- the eight bytes of a file from byte p on
abbrev pub eight_at : List ℕ → ℕ → List ℕ
eight_at file p = take 8 (drop p file)

abbrev pub eight_blanks : List ℕ
eight_blanks = 32 ∷ 32 ∷ 32 ∷ 32 ∷ 32 ∷ 32 ∷ 32 ∷ 32 ∷ []

abbrev pub named_or : ℕ → Option Label → Result (Option Label) PlanFault
named_or p (Some l) = Ok (Some l)
named_or p None = Err (Unlawful p)

-- what the second half of the record at byte p holds: no label, where it is eight blanks, or a lawful label
abbrev pub second_of : ℕ → List ℕ → Result (Option Label) PlanFault
second_of p bs = cond (bytes_eq bs eight_blanks) (Ok None) (named_or p (label_of bs))

-- the same label, byte by byte
abbrev pub same_label : Label → Label → Bool
same_label l m = bytes_eq (bytes_of l) (bytes_of m)
