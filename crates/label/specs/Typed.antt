-- The label that typed text gives.
use Rattle.std.specs.Prelude.{ℕ, ◌-◌, cond, ◌&&◌, List, [], ◌∷◌, length, Some, None, Ok, Err, Option, Result, nat_le, nat_lt, slice_index}
use Rattle.std.specs.List.{suffix_len}
use Rattle.label.specs.Labels.{label_of}
use Rattle.label.specs.Signs.{blank}
use Rattle.label.specs.declared.label.Label.{Label}
use Rattle.label.specs.declared.fault.TextFault.{TextFault}
use Rattle.label.specs.declared.fault.TextFault.TheVariants.{NoLabel}

-- a small letter as its capital
abbrev pub raised : ℕ → ℕ
raised b = cond (nat_le 97 b && nat_le b 122) (b - 32) b

-- how many bytes a text has without its trailing blanks
abbrev pub kept_length : List ℕ → ℕ
kept_length text = length text - suffix_len blank text

-- byte i of the label typed as the first n bytes of a text, which blanks fill up
abbrev pub typed_byte : List ℕ → ℕ → ℕ → ℕ
typed_byte text n i = cond (nat_lt i n) (raised (slice_index text i)) 32

abbrev pub typed_bytes : List ℕ → ℕ → List ℕ
typed_bytes text n =
    typed_byte text n 0 ∷ typed_byte text n 1 ∷ typed_byte text n 2 ∷ typed_byte text n 3 ∷
    typed_byte text n 4 ∷ typed_byte text n 5 ∷ typed_byte text n 6 ∷ typed_byte text n 7 ∷ []

abbrev pub or_no_label : Option Label → Result Label TextFault
or_no_label (Some l) = Ok l
or_no_label None = Err NoLabel

-- more than eight bytes, or bytes that are no label, are refused
abbrev pub typed_label : List ℕ → Result Label TextFault
typed_label text = cond (nat_lt 8 (kept_length text)) (Err NoLabel) (or_no_label (label_of (typed_bytes text (kept_length text))))
