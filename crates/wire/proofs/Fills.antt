-- Arrays that a closure makes, each place with what h says, and arrays of sixteen that a loop fills, each place with what f says.
use Rattle.std.proofs.Common.{◌≡◌, ℕ, zero, suc, ◌+◌, ◌<◌, ◌≤◌, List, map, length, get_or, take, set, sym, ap, ◌∙◌, ⊎_elim, subst, arith, length-take-le, get_or-take}
use Rattle.std.specs.Array.{IsFromFnResult, IsFromFnResultFrom}
use Rattle.std.specs.List.{range_with_len}
use denote.Param.Members.{Mut, Called}
use Rattle.std.proofs.lemmas.List.FromFn.{fill_by_all}
use Rattle.std.proofs.lemmas.List.Edits.{fill_by_more}
use Rattle.std.proofs.lemmas.List.{length-set}
use Rattle.std.proofs.lemmas.Bool.{cases_lt}

-- the closure stays as it was
module _ {F B : Type 0} (g : Mut F (ℕ × Unit {0}) B) (f : F) (h : ℕ → B)
    (step : (i : ℕ) (y : B) (q : F) → Called g f (i, tt) y q → (y ≡ h i) × (q ≡ f)) where
  made_from : (ys : List B) (d : B) (n i : ℕ) → IsFromFnResultFrom g f ys i n → (k : ℕ) → i ≤ k → k < i + n → get_or ys k d ≡ h k
  made_from ys d zero i e k low high = absurd (omega arith)
  made_from ys d (suc n) i e k low high =
      let one = step i e.1 e.0 e.3 in
      let rest = subst (λ p. IsFromFnResultFrom g p ys (i + 1) n) one.1 e.4 in
      ⊎_elim
      (λ past. made_from ys d n (i + 1) rest k (omega arith) (omega arith))
      (λ here. let s : i ≡ k = omega arith in ap (λ j. get_or ys j d) (sym s) ∙ e.2.1 d ∙ one.0 ∙ ap h s)
      (cases_lt i k)

  pub made_is : (ys : List B) (n : ℕ) (d : B) → IsFromFnResult g f ys n → ys ≡ map h (range_with_len 0 n)
  made_is ys n d r = fill_by_all h ys n d r.long (λ k l. made_from ys d n 0 r.each k (omega arith) (omega arith))

abbrev pub Filled : {X : Type 0} → (ℕ → X) → X → List X → ℕ → Type 0
Filled f d xs s = (length xs ≡ 16) × ((k : ℕ) → k < s → get_or xs k d ≡ f k)

module _ {X : Type 0} (f : ℕ → X) (d : X) (xs : List X) (s : ℕ) (inv : Filled f d xs s) where
  -- one place more
  pub filled_more : (x : X) → s < 16 → x ≡ f s → Filled f d (set xs s x) (s + 1)
  filled_more x h e = (
    length-set xs s x ∙ inv.0,
    λ k l. ap (λ y. get_or (set xs s y) k d) e ∙ fill_by_more f xs s d (omega (arith, inv.0)) inv.1 k l,
  )

  -- all places
  pub filled_all : 16 ≤ s → xs ≡ map f (range_with_len 0 16)
  filled_all h = fill_by_all f xs 16 d inv.0 (λ k l. inv.1 k (omega arith))

  -- the first n places
  pub filled_front : (n : ℕ) → n ≤ 16 → n ≤ s → take n xs ≡ map f (range_with_len 0 n)
  filled_front n few h =
      fill_by_all f (take n xs) n d (length-take-le n xs (omega (arith, inv.0))) (λ k l. get_or-take n xs k d l ∙ inv.1 k (omega arith))
