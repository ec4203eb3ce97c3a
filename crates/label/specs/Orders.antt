-- The order of labels, byte by byte, and the number that follows it.
use Rattle.std.specs.Prelude.{◌≡◌, ℕ, ◌+◌, ◌*◌, ◌<◌, cond, ◌↔◌, List, [], ◌∷◌, nat_lt}
use Rattle.std.specs.declared.cmp.Ordering.TheVariants.{Less, Equal, Greater}
use Rattle.std.specs.declared.cmp.Ordering.{Ordering}
use Rattle.label.specs.Labels.{bytes_of}
use Rattle.label.specs.declared.label.Label.{Label}

-- the first byte that differs decides
abbrev pub bytes_order : List ℕ → List ℕ → Ordering
bytes_order [] [] = Equal
bytes_order [] (y ∷ ys) = Less
bytes_order (x ∷ xs) [] = Greater
bytes_order (x ∷ xs) (y ∷ ys) = cond (nat_lt x y) Less (cond (nat_lt y x) Greater (bytes_order xs ys))

-- a is lower than b
abbrev pub Lower : Label → Label → Type 0
Lower a b = bytes_order (bytes_of a) (bytes_of b) ≡ Less

-- the number of four bytes, high byte first
abbrev pub half : ℕ → ℕ → ℕ → ℕ → ℕ
half a b c d = ((a * 256 + b) * 256 + c) * 256 + d

-- the number of a label's eight bytes, high byte first
abbrev pub key_of : Label → ℕ
key_of l = half l.b0 l.b1 l.b2 l.b3 * 4294967296 + half l.b4 l.b5 l.b6 l.b7

-- keys are ordered as labels are, and tell all labels apart
pub record KeysFollow : Type 0 where
  pub order : (l m : Label) → Lower l m ↔ (key_of l < key_of m)
  pub apart : (l m : Label) → key_of l ≡ key_of m → l ≡ m
