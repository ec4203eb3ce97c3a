-- What a fault of a crew's numbers tells, and how it is printed.
use Rattle.std.specs.Prelude.{List, ℕ, codes}
use Rattle.label.specs.declared.fault.Diagnostic.{Diagnostic}
use Rattle.label.specs.declared.fault.Layer.TheVariants.{Callout}
use Rattle.wire.specs.declared.fault.CrewFault.{CrewFault}
use Rattle.wire.specs.declared.fault.CrewFault.TheVariants.{Units, Faulty, Own}

abbrev pub crew_told : CrewFault → Diagnostic
crew_told Units = record { number = 9; layer = Callout; byte = 0 }
crew_told Faulty = record { number = 10; layer = Callout; byte = 0 }
crew_told Own = record { number = 11; layer = Callout; byte = 0 }

-- the sentence that says what is wrong
abbrev pub crew_sentence : CrewFault → List ℕ
crew_sentence Units = codes "There is no such crew: it has 1 to 16 units"
crew_sentence Faulty = codes "There is no such crew: with t faulty units it has at least 3t + 1 units"
crew_sentence Own = codes "There is no such crew: the own number is below the count of units"
