-- What a fault of typed text tells, and how faults are printed.
use Rattle.std.specs.Prelude.{ℕ, List, ◌++◌, codes, decimal}
use Rattle.label.specs.declared.fault.Diagnostic.{Diagnostic}
use Rattle.label.specs.declared.fault.Layer.{Layer}
use Rattle.label.specs.declared.fault.Layer.TheVariants.{Block, Plan, Callout}
use Rattle.label.specs.declared.fault.TextFault.{TextFault}
use Rattle.label.specs.declared.fault.TextFault.TheVariants.{NoLabel}

abbrev pub text_told : TextFault → Diagnostic
text_told NoLabel = record { number = 12; layer = Callout; byte = 0 }

-- the name of a layer
abbrev pub layer_name : Layer → List ℕ
layer_name Block = codes "block"
layer_name Plan = codes "plan"
layer_name Callout = codes "callout"

-- the number, the layer and the byte
abbrev pub told_text : Diagnostic → List ℕ
told_text d = codes "fault " ++ decimal d.number ++ codes " " ++ layer_name d.layer ++ codes " " ++ decimal d.byte

-- the sentence that says what is wrong
abbrev pub text_sentence : TextFault → List ℕ
text_sentence NoLabel = codes "The text is not a label: a label has 1 to 8 signs, each a letter from A to Z, a digit or a hyphen"
