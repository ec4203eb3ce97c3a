-- What a fault of a plan file tells: its number, the layer that found it, and the byte of the file; and how it is printed.
use Rattle.std.specs.Prelude.{ℕ, List, ◌++◌, codes, decimal}
use Rattle.label.specs.declared.fault.Diagnostic.{Diagnostic}
use Rattle.label.specs.declared.fault.Layer.TheVariants.{Plan}
use Rattle.block.specs.Faults.{block_told, block_sentence}
use Rattle.records.specs.declared.fault.PlanFault.{PlanFault}
use Rattle.records.specs.declared.fault.PlanFault.TheVariants.{Size, Block, Unlawful, Repeated, Joined, Count}

-- a block's fault tells what it told already; 1 and 8 are of the whole file
abbrev pub plan_told : PlanFault → Diagnostic
plan_told Size = record { number = 1; layer = Plan; byte = 0 }
plan_told (Block f) = block_told f
plan_told (Unlawful p) = record { number = 5; layer = Plan; byte = p }
plan_told (Repeated p) = record { number = 6; layer = Plan; byte = p }
plan_told (Joined p) = record { number = 7; layer = Plan; byte = p }
plan_told Count = record { number = 8; layer = Plan; byte = 0 }

-- the sentence that says what is wrong
abbrev pub plan_sentence : PlanFault → List ℕ
plan_sentence Size = codes "The file is not a plan file: it is empty, is not made of whole blocks of 512 bytes, or has more than 34 blocks"
plan_sentence (Block f) = block_sentence f.cause f.byte
plan_sentence (Unlawful p) =
    codes "The plan is wrong: a label in the record at byte " ++ decimal p ++ codes " is not 1 to 8 capital letters, digits or hyphens with blanks behind them"
plan_sentence (Repeated p) = codes "The plan is wrong: the record at byte " ++ decimal p ++ codes " gives a station that the plan already has"
plan_sentence (Joined p) =
    codes "The plan is wrong: the record at byte " ++ decimal p ++ codes " is joined to no earlier station, or it is the first record and is joined to one"
plan_sentence Count = codes "The plan is wrong: it has no station, or more than 1,024 stations"
