-- The text of a label: its sign bytes, each as the character of its number.
use Rattle.std.specs.Prelude.{ℕ, cond, List, [], ◌∷◌, ◌++◌}
use Rattle.std.proofs.Math.Utf8.{encode}
use Rattle.label.specs.Signs.{blank}

-- a blank shows nothing
abbrev pub shown_byte : ℕ → List ℕ
shown_byte b = cond (blank b) [] (encode b)

abbrev pub shown_bytes : List ℕ → List ℕ
shown_bytes [] = []
shown_bytes (b ∷ bs) = shown_byte b ++ shown_bytes bs
