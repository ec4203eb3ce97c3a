-- Counts over lists with an entry for each unit, and quorums.
use Rattle.std.proofs.Common.{◌≡◌, ℕ, zero, suc, ◌+◌, ◌<◌, ◌≤◌, Bool, true, false, cond, not, List, [], ◌∷◌, length, get_or, count_by, refl, ap, ⊎_elim, arith}
use Rattle.std.proofs.lemmas.List.Sums.{sum_by-cons}
use Rattle.std.proofs.lemmas.Bool.{cases_Bool, false≢true}
use Rattle.wire.specs.Units.{Honest}

-- what a test adds to a count
abbrev pub one : Bool → ℕ
one t = cond t 1 0

pub count_cons : {A : Type 0} (p : A → Bool) (x : A) (xs : List A) → count_by p (x ∷ xs) ≡ one (p x) + count_by p xs
count_cons p x xs = sum_by-cons (λ y. one (p y)) x xs

pub one_le : (t : Bool) → one t ≤ 1
one_le true = omega arith
one_le false = omega arith

-- two tests that never both hold
disjoint : (s t : Bool) → (s ≡ true → t ≡ true → ⊥) → one s + one t ≤ 1
disjoint true true h = absurd (h refl refl)
disjoint true false h = omega arith
disjoint false true h = omega arith
disjoint false false h = omega arith

-- share the places of a list
pub apart : {A : Type 0} (p q : A → Bool) → ((x : A) → p x ≡ true → q x ≡ true → ⊥) → (xs : List A) → count_by p xs + count_by q xs ≤ length xs
apart p q h [] = omega arith
apart p q h (x ∷ xs) = omega (arith, count_cons p x xs, count_cons q x xs, disjoint (p x) (q x) (h x), apart p q h xs)

-- an honest unit has a number below n
pub honest_below : (hs : List Bool) (i : ℕ) → Honest hs i → i < length hs
honest_below [] i h = absurd (false≢true h)
honest_below (x ∷ hs) zero h = omega arith
honest_below (x ∷ hs) (suc i) h = omega (arith, honest_below hs i h)

module _ {A : Type 0} (p : A → Bool) (d : A) where
  agree_head : (x : Bool) (a b : A) → (x ≡ true → a ≡ b) → one (p a) ≤ one (p b) + one (not x)
  agree_head true a b e = omega (arith, ap (λ y. one (p y)) (e refl))
  agree_head false a b e = omega (arith, one_le (p a))

  -- lists that agree at honest units: a count falls by no more than the faulty ones
  pub agree : (hs : List Bool) (us bs : List A) → length us ≡ length hs → length bs ≡ length hs
      → ((i : ℕ) → Honest hs i → get_or us i d ≡ get_or bs i d) → count_by p us ≤ count_by p bs + count_by not hs
  agree [] [] bs la lb h = omega arith
  agree [] (a ∷ us) bs la lb h = absurd (omega arith)
  agree (x ∷ hs) [] bs la lb h = absurd (omega arith)
  agree (x ∷ hs) (a ∷ us) [] la lb h = absurd (omega arith)
  agree (x ∷ hs) (a ∷ us) (b ∷ bs) la lb h =
      omega (
        arith,
        count_cons p a us,
        count_cons p b bs,
        count_cons not x hs,
        agree_head x a b (h 0),
        agree hs us bs (omega arith) (omega arith) (λ i. h (suc i)),
      )

  -- more than the faulty ones: one of them is honest
  pub some_honest_lem : (hs : List Bool) (us : List A) → length us ≡ length hs → count_by not hs < count_by p us
      → (i : ℕ) × Honest hs i × (p (get_or us i d) ≡ true)
  some_honest_lem [] [] l h = absurd (omega arith)
  some_honest_lem [] (a ∷ us) l h = absurd (omega arith)
  some_honest_lem (x ∷ hs) [] l h = absurd (omega arith)
  some_honest_lem (x ∷ hs) (a ∷ us) l h =
      let next : count_by not hs < count_by p us → (i : ℕ) × Honest (x ∷ hs) i × (p (get_or (a ∷ us) i d) ≡ true) =
      λ k. let r = some_honest_lem hs us (omega arith) k in (suc r.0, r.1, r.2) in
      let c = count_cons p a us in
      let e = count_cons not x hs in
      ⊎_elim
      (λ pa. ⊎_elim (λ xt. (0, xt, pa)) (λ xf. next (omega (arith, c, e, one_le (p a), ap (λ y. one (not y)) xf))) (cases_Bool x))
      (λ pf. next (omega (arith, c, e, ap one pf))) (cases_Bool (p a))

  all_head : (x : Bool) (a : A) → (x ≡ true → p a ≡ true) → 1 ≤ one (p a) + one (not x)
  all_head true a h = omega (arith, ap one (h refl))
  all_head false a h = omega arith

  -- what holds at every honest unit holds at all but the faulty ones
  pub all_honest : (hs : List Bool) (us : List A) → length us ≡ length hs → ((i : ℕ) → Honest hs i → p (get_or us i d) ≡ true)
      → length hs ≤ count_by p us + count_by not hs
  all_honest [] us l h = omega arith
  all_honest (x ∷ hs) [] l h = absurd (omega arith)
  all_honest (x ∷ hs) (a ∷ us) l h =
      omega (arith, count_cons p a us, count_cons not x hs, all_head x a (h 0), all_honest hs us (omega arith) (λ i. h (suc i)))
