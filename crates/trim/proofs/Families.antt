-- Families of numbers: the first of the honest units' in an order, and how many are marked.
use Rattle.std.proofs.Common.{◌≡◌, ℕ, zero, suc, ◌+◌, ◌<◌, ◌≤◌, Bool, true, false, cond, not, eqb, ◌⊎◌, List, [], ◌∷◌, length, count_by, refl, ap, inl, inr, ⊎_elim, arith}
use Rattle.std.proofs.lemmas.Bool.{cases_Bool, cases_lt, false≢true, eq-eqb}
use Rattle.wire.specs.Units.{Honest, Faults}
use Rattle.wire.proofs.Counts.{one, one_le, count_cons, all_honest}
use Rattle.trim.specs.Steps.{entry, differences}
use Rattle.trim.specs.Runs.{marked}

-- what holds at the first unit, if it is honest, and at the honest ones after it
each : (P : ℕ → Type 0) (b : Bool) (hs : List Bool) → (b ≡ true → P 0) → ((j : ℕ) → Honest hs j → P (suc j)) → (j : ℕ) → Honest (b ∷ hs) j → P j
each P b hs here rest zero s = here s
each P b hs here rest (suc j) s = rest j s

module _ (R : ℕ → ℕ → Type 0) (same : (a : ℕ) → R a a) (total : (a b : ℕ) → R a b ⊎ R b a) (trans : (a b c : ℕ) → R a b → R b c → R a c) where
  abbrev First : List Bool → (ℕ → ℕ) → Type 0
  First hs p = (i : ℕ) × Honest hs i × ((j : ℕ) → Honest hs j → R (p i) (p j))

  first_step : (b : Bool) (hs : List Bool) (p : ℕ → ℕ) → ((i : ℕ) → Honest hs i → ⊥) ⊎ First hs (λ i. p (suc i)) → ((i : ℕ) → Honest (b ∷ hs) i → ⊥) ⊎ First (b ∷ hs) p
  first_step true hs p r =
      inr
      (⊎_elim
      (λ none. (0, refl, each (λ j. R (p 0) (p j)) true hs (λ e. same (p 0)) (λ j s. absurd (none j s))))
      (λ f. ⊎_elim
      (λ le. (0, refl, each (λ j. R (p 0) (p j)) true hs (λ e. same (p 0)) (λ j s. trans (p 0) (p (suc f.0)) (p (suc j)) le (f.2 j s))))
      (λ ge. (suc f.0, f.1, each (λ j. R (p (suc f.0)) (p j)) true hs (λ e. ge) f.2))
      (total (p 0) (p (suc f.0))))
      r)
  first_step false hs p r =
      ⊎_elim
      (λ none. inl (each (λ j. ⊥) false hs false≢true none))
      (λ f. inr (suc f.0, f.1, each (λ j. R (p (suc f.0)) (p j)) false hs (λ e. absurd (false≢true e)) f.2))
      r

  first : (hs : List Bool) (p : ℕ → ℕ) → ((i : ℕ) → Honest hs i → ⊥) ⊎ First hs p
  first [] p = inl (λ i s. false≢true s)
  first (b ∷ hs) p = first_step b hs p (first hs (λ i. p (suc i)))

  first_of : (n t : ℕ) (hs : List Bool) → Faults n t hs → (p : ℕ → ℕ) → First hs p
  first_of n t hs faults p =
      ⊎_elim
      (λ none. absurd (omega (arith, all_honest not true hs hs refl (λ i s. absurd (none i s)), faults.size, faults.few, faults.enough)))
      (λ f. f)
      (first hs p)

cases_le : (a b : ℕ) → (a ≤ b) ⊎ (b ≤ a)
cases_le a b = ⊎_elim (λ lt. inl (omega arith)) (λ ge. inr ge) (cases_lt a b)

pub lowest : (n t : ℕ) (hs : List Bool) → Faults n t hs → (p : ℕ → ℕ) → (i : ℕ) × Honest hs i × ((j : ℕ) → Honest hs j → p i ≤ p j)
lowest = first_of (λ a b. a ≤ b) (λ a. omega arith) cases_le (λ a b c h k. omega arith)

pub highest : (n t : ℕ) (hs : List Bool) → Faults n t hs → (p : ℕ → ℕ) → (i : ℕ) × Honest hs i × ((j : ℕ) → Honest hs j → p j ≤ p i)
highest = first_of (λ a b. b ≤ a) (λ a. omega arith) (λ a b. cases_le b a) (λ a b c h k. omega arith)

-- marks
pub marked_add : (a b c : ℕ → Bool) (n : ℕ) → ((s : ℕ) → one (a s) + one (b s) ≤ one (c s)) → marked a n + marked b n ≤ marked c n
marked_add a b c zero h = omega arith
marked_add a b c (suc n) h =
    omega (arith, h 0, marked_add (λ s. a (suc s)) (λ s. b (suc s)) (λ s. c (suc s)) n (λ s. h (suc s)))

-- where no honest unit is marked
pub marked_faulty : (hs : List Bool) (d : ℕ → Bool) → ((s : ℕ) → Honest hs s → d s ≡ false) → marked d (length hs) ≤ count_by not hs
marked_faulty [] d h = omega arith
marked_faulty (true ∷ hs) d h = omega (arith, ap one (h 0 refl), count_cons not true hs, marked_faulty hs (λ s. d (suc s)) (λ s. h (suc s)))
marked_faulty (false ∷ hs) d h = omega (arith, one_le (d 0), count_cons not false hs, marked_faulty hs (λ s. d (suc s)) (λ s. h (suc s)))

-- lists that agree where nothing is marked
abbrev apart : Bool → ℕ
apart b = cond b 0 1

apart_le : (b : Bool) → apart b ≤ 1
apart_le true = omega arith
apart_le false = omega arith

same_head : (x y : ℕ) (b : Bool) → (b ≡ false → x ≡ y) → apart (eqb x y) ≤ one b
same_head x y true h = apart_le (eqb x y)
same_head x y false h = omega (arith, ap apart (eq-eqb x y (h refl)))

pub differ_marked : (xs ys : List ℕ) (d : ℕ → Bool) → length xs ≡ length ys → ((s : ℕ) → d s ≡ false → entry xs s ≡ entry ys s)
    → differences xs ys ≤ marked d (length xs)
differ_marked [] ys d l h = omega arith
differ_marked (x ∷ xs) [] d l h = absurd (omega arith)
differ_marked (x ∷ xs) (y ∷ ys) d l h =
    omega (arith, same_head x y (d 0) (h 0), differ_marked xs ys (λ s. d (suc s)) (omega arith) (λ s. h (suc s)))

pub unmarked : (d : ℕ → Bool) (n s : ℕ) → s < n → marked d n ≡ 0 → d s ≡ false
unmarked d zero s h e = absurd (omega arith)
unmarked d (suc n) zero h e = ⊎_elim (λ t. absurd (omega (arith, ap one t))) (λ f. f) (cases_Bool (d 0))
unmarked d (suc n) (suc s) h e = unmarked (λ s. d (suc s)) n s (omega arith) (omega arith)
