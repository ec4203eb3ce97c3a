-- Which bytes are a label: at least one sign byte, then blanks.
use Rattle.std.specs.Prelude.{ℕ, Bool, true, false, cond, ◌&&◌, ◌||◌, List, [], ◌∷◌, ◌==◌, nat_le}

-- A to Z, 0 to 9 or the hyphen. The one place in the specs that says so.
abbrev pub sign : ℕ → Bool
sign b = (nat_le 65 b && nat_le b 90) || ((nat_le 48 b && nat_le b 57) || b == 45)

abbrev pub blank : ℕ → Bool
blank b = b == 32

-- blanks to the end
abbrev pub blanks : List ℕ → Bool
blanks [] = true
blanks (b ∷ bs) = blank b && blanks bs

-- sign bytes, then blanks to the end
abbrev pub signs_then_blanks : List ℕ → Bool
signs_then_blanks [] = true
signs_then_blanks (b ∷ bs) = cond (sign b) (signs_then_blanks bs) (blanks (b ∷ bs))

abbrev pub lawful : List ℕ → Bool
lawful [] = false
lawful (b ∷ bs) = sign b && signs_then_blanks bs
