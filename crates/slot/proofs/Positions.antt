-- Positions in their slots.
use Rattle.std.proofs.Common.{◌≡◌, ℕ, ◌≤◌, List, [], ◌∷◌, length, get_or, leb, refl}
use Rattle.std.proofs.lemmas.Slice.Eq.{text_from_reads}
use Rattle.std.proofs.lemmas.Bool.{and_parts, leb-true}
use Rattle.slot.specs.declared.position.Position.{Position}

pub number_bounds : (p : Position) → (1 ≤ p.value) × (p.value ≤ 2047)
number_bounds p =
    let b = and_parts (leb 1 p.value) (leb p.value 2047) p.ok in
    (leb-true 1 p.value b.0, leb-true p.value 2047 b.1)

pub two : (xs : List ℕ) → length xs ≡ 2 → xs ≡ get_or xs 0 0 ∷ get_or xs 1 0 ∷ []
two xs h = text_from_reads xs _ h (refl, (refl, tt))
