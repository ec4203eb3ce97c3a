-- A position as its two bytes, high byte first.
use Rattle.std.specs.Prelude.{ℕ, ◌+◌, ◌*◌, ◌/◌, ◌%◌, List, [], ◌∷◌, None, Option}
use Rattle.label.specs.Labels.{passed}
use Rattle.slot.specs.Codings.{Coding}
use Rattle.slot.specs.Ranges.{in_range, cut, cut_in_range}
use Rattle.slot.specs.declared.position.Position.{Position}

abbrev pub number_of : Position → ℕ
number_of p = p.value

-- the position with this number, if there is one
abbrev pub position_at : ℕ → Option Position
position_at n = passed (in_range n) (λ p. record { value = n; ok = p })

-- the position whose number is nearest
abbrev pub position_near : ℕ → Position
position_near n = record { value = cut 2047 n; ok = cut_in_range n }

-- the position in 1 to the span whose number is nearest
abbrev pub position_within : Position → ℕ → Position
position_within span n = position_near (cut (number_of span) n)

-- the position in two bytes; 0, a number above 2,047 and any other count of bytes are none
abbrev pub position_of : List ℕ → Option Position
position_of [] = None
position_of (_ ∷ []) = None
position_of (h ∷ l ∷ []) = position_at (256 * h + l)
position_of (_ ∷ _ ∷ _ ∷ _) = None

abbrev pub position_bytes : Position → List ℕ
position_bytes p = p.value / 256 ∷ p.value % 256 ∷ []

-- a position's slot: its two bytes, and missing as 0
abbrev pub position_coding : Coding Position
position_coding = record { wide = 2; reads = position_of; writes = position_bytes; blank = 0 ∷ 0 ∷ [] }
