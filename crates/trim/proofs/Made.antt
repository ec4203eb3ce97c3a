-- Arrays of which a closure that changes nothing made each element from its index.
use Rattle.std.proofs.Common.{◌≡◌, ℕ, ◌≤◌, List, map, take, ap, ◌∙◌}
use Rattle.std.specs.Array.{IsFromFnResult}
use Rattle.std.specs.Fn.{Mut, Called}
use Rattle.std.specs.List.{range_with_len}
use Rattle.std.proofs.lemmas.List.FromFn.{take-map-range_with_len}
use Rattle.wire.proofs.Fills.{made_is}

-- the first m elements of such an array
pub made_front : {F B : Type 0} (g : Mut F (ℕ × Unit {0}) B) (f : F) (h : ℕ → B) → ((i : ℕ) (y : B) (q : F) → Called g f (i, tt) y q → (y ≡ h i) × (q ≡ f))
    → (ys : List B) (d : B) (n m : ℕ) → IsFromFnResult g f ys n → m ≤ n → take m ys ≡ map h (range_with_len 0 m)
made_front g f h gives ys d n m made few = ap (take m) (made_is g f h gives ys n d made) ∙ take-map-range_with_len h 0 n m few
