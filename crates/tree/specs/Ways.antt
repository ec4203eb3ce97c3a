-- Ways between stations, over any relation `L` of two stations being joined by a leg.
use Rattle.std.specs.Prelude.{◌≡◌, ◌⊎◌, List, [], ◌∷◌}

-- w stands in the list
abbrev pub On : {X : Type 0} → X → List X → Type 0
On w [] = ⊥
On w (x ∷ xs) = (x ≡ w) ⊎ On w xs

-- no station stands in the list twice
abbrev pub Apart : {X : Type 0} → List X → Type 0
Apart [] = Unit {0}
Apart (x ∷ xs) = (On x xs → ⊥) × Apart xs

-- from u, the stations of the list lead over legs to v
abbrev pub Goes : {X : Type 0} → (X → X → Type 0) → X → List X → X → Type 0
Goes L u [] v = u ≡ v
Goes L u (x ∷ xs) v = L u x × Goes L x xs v

-- u, then the stations of the list, is a path of legs from u to v with no station twice
abbrev pub Way : {X : Type 0} → (X → X → Type 0) → X → List X → X → Type 0
Way L u xs v = Goes L u xs v × Apart (u ∷ xs)

-- w is on the way between u and v
abbrev pub OnWay : {X : Type 0} → (X → X → Type 0) → X → X → X → Type 0
OnWay {X} L u v w = (xs : List X) × (Way L u xs v × On w (u ∷ xs))
