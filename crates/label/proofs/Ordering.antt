-- What `cmp` of the eight fields answers is the order byte by byte.
use Rattle.std.proofs.Common.{◌≡◌, ℕ, cond, ltb, Ordering, Less, Equal, Greater, nat_cmp, ◌∙◌, arith}
use Rattle.std.specs.Ordering.{ordering_then}
use Rattle.label.specs.Labels.{bytes_of}
use Rattle.label.specs.Orders.{bytes_order}
use Rattle.label.specs.declared.label.Label.{Label}
use Rattle.std.proofs.lemmas.Bool.Decides.{nat_tests}

-- the order of two numbers, by tests of which is less
pub last_step : (x y : ℕ) → nat_cmp x y ≡ cond (ltb x y) Less (cond (ltb y x) Greater Equal)
last_step x y = grind (arith, nat_tests)

-- the first byte decides, or the others do
pub then_step : (x y : ℕ) (r s : Ordering) → r ≡ s → ordering_then (nat_cmp x y) r ≡ cond (ltb x y) Less (cond (ltb y x) Greater s)
then_step x y r s e = grind (arith, nat_tests)

-- the order of the eight fields is the order byte by byte
pub order_bytes : (a b : Label) (o : Ordering)
    → o ≡ ordering_then (nat_cmp a.b0 b.b0) (ordering_then (nat_cmp a.b1 b.b1) (ordering_then (nat_cmp a.b2 b.b2) (ordering_then (nat_cmp a.b3 b.b3)
    (ordering_then (nat_cmp a.b4 b.b4) (ordering_then (nat_cmp a.b5 b.b5) (ordering_then (nat_cmp a.b6 b.b6) (nat_cmp a.b7 b.b7)))))))
    → o ≡ bytes_order (bytes_of a) (bytes_of b)
order_bytes a b o e =
    e ∙ then_step a.b0 b.b0 _ _ (then_step a.b1 b.b1 _ _ (then_step a.b2 b.b2 _ _ (then_step a.b3 b.b3 _ _
    (then_step a.b4 b.b4 _ _ (then_step a.b5 b.b5 _ _ (then_step a.b6 b.b6 _ _ (last_step a.b7 b.b7)))))))
