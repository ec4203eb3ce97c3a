-- Bytes written as hex digits.
use Rattle.std.specs.Prelude.{◌≡◌, ℕ, ◌+◌, ◌/◌, ◌%◌, ◌<◌, cond, ◌⊎◌, List, [], ◌∷◌, ◌≢◌, nat_lt, slice_index}

-- the digit that writes a number below 16: 0 to 9, then a to f
abbrev pub digit_of : ℕ → ℕ
digit_of d = cond (nat_lt d 10) (d + 48) (d + 87)

-- two digits a byte, the high one first
abbrev pub hex_of : List ℕ → List ℕ
hex_of [] = []
hex_of (b ∷ bs) = digit_of (b / 16) ∷ digit_of (b % 16) ∷ hex_of bs

-- a text that writes those bytes: their digits, or `-` for none
abbrev pub Writes : List ℕ → List ℕ → Type 0
Writes text bytes = (hex_of bytes ≡ text) ⊎ ((text ≡ 45 ∷ []) × (bytes ≡ []))

-- a character that is no digit
abbrev pub NotDigit : ℕ → Type 0
NotDigit byte = (d : ℕ) → d < 16 → digit_of d ≢ byte

-- a text that writes no bytes at all
abbrev pub WritesNone : List ℕ → Type 0
WritesNone text = (bytes : List ℕ) → ((k : ℕ) → slice_index bytes k < 256) → Writes text bytes → ⊥
