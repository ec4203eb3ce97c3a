-- How many rounds and iterations suffice.
use Rattle.std.proofs.Common.{◌≡◌, ℕ, zero, suc, ◌+◌, ◌-◌, ◌*◌, ◌/◌, ◌^◌, ◌<◌, ◌≤◌, max, Bool, true, false, cond, leb, sym, refl, ap, ◌∙◌, subst, ⊎_elim, add-one, mul-le-mul_right, suc-mul, mul_comm, div-lt_iff_lt-mul, mul-le-mul_left, mul-zero, le-div_iff_mul-le, div-mul-le_self, arith, below_more, pow_pos}
use Rattle.std.specs.Int.{IsPowerOfTwo, div_ceil}
use Rattle.std.proofs.Math.Pow.{pow-lt, pow_mono}
use Rattle.std.proofs.lemmas.Grind.{div_ceil_times}
use native.Mathlib.Nat.{two-pow-succ, div-eq_of_lt}
use Rattle.std.proofs.lemmas.Bool.{leb-true, le-leb, cases_lt, cases_eq, cases_order, true≢false}
use Rattle.trim.specs.Steps.{ceil}
use Rattle.trim.specs.Iterations.{halves, most, worst, first_from, doublings, iterations, Least, Worsts}

pub halves_end : (D k : ℕ) → D ≤ 2 ^ k → halves D k ≤ 1
halves_end D zero h = h
halves_end D (suc k) h = halves_end (ceil D 2) k (omega (arith, two-pow-succ k))

-- the greatest of several
most_at : (g : ℕ → ℕ) (f k : ℕ) → k ≤ f → g k ≤ most g f
most_at g zero k h = subst (λ j. g k ≤ g j) (let e : k ≡ 0 = omega arith in e) (omega arith)
most_at g (suc f) k h =
    ⊎_elim
    (λ e. subst (λ j. g k ≤ max (most g f) (g j)) e (omega arith))
    (λ ne. omega (arith, most_at g f k (omega arith)))
    (cases_eq k (suc f))

most_under : (g : ℕ → ℕ) (f b : ℕ) → ((k : ℕ) → k ≤ f → g k ≤ b) → most g f ≤ b
most_under g zero b h = h 0 (omega arith)
most_under g (suc f) b h = omega (arith, most_under g f b (λ k l. h k (omega arith)), h (suc f) (omega arith))

-- the greatest of g 0 to g (k - 1)
abbrev pub so_far : (ℕ → ℕ) → ℕ → ℕ
so_far g zero = 0
so_far g (suc k) = max (so_far g k) (g k)

pub so_far_all : (g : ℕ → ℕ) (f : ℕ) → so_far g (suc f) ≡ most g f
so_far_all g zero = omega arith
so_far_all g (suc f) = omega (arith, so_far_all g f)

-- one more of the numbers that a greatest spread is taken of, and all of them
pub so_far_more : (m D r f k top w next : ℕ) → top ≡ so_far (λ j. worst m (ceil (j * D) m) r (f - j)) k → w ≡ worst m (ceil (k * D) m) r (f - k) → next ≡ max top w
    → next ≡ so_far (λ j. worst m (ceil (j * D) m) r (f - j)) (k + 1)
so_far_more m D r f k top w next t e n =
    let g : ℕ → ℕ = λ j. worst m (ceil (j * D) m) r (f - j) in
    omega (arith, ap (so_far g) (add-one k), t, e, n)

pub so_far_last : (m D r f k top w next : ℕ) → 0 < r → k ≡ f → top ≡ so_far (λ j. worst m (ceil (j * D) m) (r - 1) (f - j)) k → w ≡ worst m (ceil (k * D) m) (r - 1) (f - k)
    → next ≡ max top w → next ≡ worst m D r f
so_far_last m D r f k top w next some last t e n =
    let g : ℕ → ℕ = λ j. worst m (ceil (j * D) m) (r - 1) (f - j) in
    so_far_more m D (r - 1) f k top w next t e n ∙ ap (λ j. so_far g (j + 1)) last ∙ ap (so_far g) (add-one f) ∙ so_far_all g f
    ∙ ap (λ x. worst m D x f) (let q : suc (r - 1) ≡ r = omega arith in q)

ceil_more : (a b m : ℕ) → 0 < m → a ≤ b → ceil a m ≤ ceil b m
ceil_more a b m pos h = (le-div_iff_mul-le {k = m} {x = ceil a m} {y = b + (m - 1)} pos).1 (omega (arith, div-mul-le_self (a + (m - 1)) m))

-- k of m parts of a spread, rounded up, are at most the spread where k is at most m
pub ceil_part : (k D m : ℕ) → 0 < m → k ≤ m → ceil (k * D) m ≤ D
ceil_part k D m pos h =
    let r : k * D + (m - 1) < suc D * m = omega (arith, mul-le-mul_right {m = k} {n = m} D h, suc-mul D m, mul_comm D m) in
    omega (arith, (div-lt_iff_lt-mul {k = m} {x = k * D + (m - 1)} {y = suc D} pos).1 r)

-- std's `div_ceil`, which rounds up too
pub ceil_is : (a m : ℕ) → 0 < m → div_ceil a m ≡ ceil a m
ceil_is a m pos =
    let q = div_ceil a m in
    let b = div_ceil_times a m pos in
    let low : q ≤ ceil a m = (le-div_iff_mul-le {k = m} {x = q} {y = a + (m - 1)} pos).1 (omega (arith, b.1)) in
    let high : ceil a m < suc q = (div-lt_iff_lt-mul {k = m} {x = a + (m - 1)} {y = suc q} pos).1 (omega (arith, b.0, suc-mul q m)) in
    omega (arith, low, high)

pub worst_one : (m D r f k : ℕ) → k ≤ f → worst m (ceil (k * D) m) r (f - k) ≤ worst m D (suc r) f
worst_one m D r f k h = most_at (λ j. worst m (ceil (j * D) m) r (f - j)) f k h

pub worst_more : (m D E r f g : ℕ) → 0 < m → D ≤ E → f ≤ g → worst m D r f ≤ worst m E r g
worst_more m D E zero f g pos h k = h
worst_more m D E (suc r) f g pos h k =
    most_under (λ j. worst m (ceil (j * D) m) r (f - j)) f (worst m E (suc r) g)
    (λ j l.
    let a = worst_more m (ceil (j * D) m) (ceil (j * E) m) r (f - j) (g - j) pos
    (ceil_more (j * D) (j * E) m pos (mul-le-mul_left {m = D} {n = E} j h)) (omega arith) in
    omega (arith, a, worst_one m E r g j (omega arith)))

-- an iteration in which the lists do not differ, or the spread is 0, leaves none
spread_gone : (m a : ℕ) → 0 < m → a ≡ 0 → ceil a m ≡ 0
spread_gone m a pos e = div-eq_of_lt {n = a + (m - 1)} {m = m} (omega arith)

worst_zero : (m r f : ℕ) → 0 < m → worst m 0 r f ≤ 0
worst_zero m zero f pos = omega arith
worst_zero m (suc r) f pos =
    most_under (λ j. worst m (ceil (j * 0) m) r (f - j)) f 0
    (λ j l. subst (λ d. worst m d r (f - j) ≤ 0) (sym (spread_gone m (j * 0) pos (mul-zero j))) (worst_zero m r (f - j) pos))

worst_spent : (m D r f : ℕ) → 0 < m → f < r → worst m D r f ≤ 0
worst_spent m D zero f pos h = absurd (omega arith)
worst_spent m D (suc r) f pos h =
    most_under (λ j. worst m (ceil (j * D) m) r (f - j)) f 0
    (λ j l.
    ⊎_elim
    (λ e.
    let z : j * D ≡ 0 = ap (λ a. a * D) e ∙ mul_comm 0 D ∙ mul-zero D in
    subst (λ d. worst m d r (f - j) ≤ 0) (sym (spread_gone m (j * D) pos z)) (worst_zero m r (f - j) pos))
    (λ ne. worst_spent m (ceil (j * D) m) r (f - j) pos (omega arith))
    (cases_eq j 0))

pub worst_none : (m D r f : ℕ) → 0 < m → f < r → worst m D r f ≡ 0
worst_none m D r f pos h = omega (arith, worst_spent m D r f pos h)

-- the least number
pub least_within : (P : ℕ → Type 0) (k j : ℕ) → Least P k → P j → k ≤ j
least_within P k j l h = ⊎_elim (λ lt. absurd (l.none_below j lt h)) (λ le. le) (cases_lt j k)

pub least_same : (P : ℕ → Type 0) (j k : ℕ) → Least P j → Least P k → j ≡ k
least_same P j k l m = omega (arith, least_within P j k l m.holds, least_within P k j m l.holds)

-- a search upwards finds it
record Found (p : ℕ → Bool) (k r : ℕ) : Type 0 where
  passes : p r ≡ true
  from : k ≤ r
  first : (j : ℕ) → k ≤ j → j < r → p j ≡ false

first_found : (p : ℕ → Bool) (more k end : ℕ) → k + more ≡ end → p end ≡ true → Found p k (first_from p more k)
first_found p zero k end e h = record {
  passes = subst (λ j. p j ≡ true) (let q : end ≡ k = omega arith in q) h;
  from = omega arith;
  first = λ j a b. absurd (omega arith);
}
first_found p (suc more) k end e h = go (p k) refl (first_found p more (suc k) end (omega arith) h)
  where
    go : (b : Bool) → p k ≡ b → Found p (suc k) (first_from p more (suc k)) → Found p k (cond b k (first_from p more (suc k)))
    go true t f = record { passes = t; from = omega arith; first = λ j a b. absurd (omega arith) }
    go false n f = record {
      passes = f.passes;
      from = omega (arith, f.from);
      first = λ j a b. ⊎_elim (λ q. ap p (sym q) ∙ n) (λ ne. f.first j (omega arith) b) (cases_eq k j);
    }

least_first : (a b : ℕ → ℕ) (end : ℕ) → a end ≤ b end → Least (λ k. a k ≤ b k) (first_from (λ k. leb (a k) (b k)) end 0)
least_first a b end h =
    let k = first_from (λ k. leb (a k) (b k)) end 0 in
    let f = first_found (λ k. leb (a k) (b k)) end 0 end (omega arith) (le-leb (a end) (b end) h) in
    record {
      holds = leb-true (a k) (b k) f.passes;
      none_below = λ j l q. true≢false (sym (le-leb (a j) (b j) q) ∙ f.first j (omega arith) l);
    }

pub below_pow : (k : ℕ) → k ≤ 2 ^ k
below_pow zero = omega arith
below_pow (suc k) = let h : k ≤ 2 ^ k = below_pow k in omega (arith, two-pow-succ k, pow_pos k)

pub doublings-least : (wide : ℕ) → Least (λ k. wide ≤ 2 ^ k) (doublings wide)
doublings-least wide = least_first (λ k. wide) (λ k. 2 ^ k) wide (below_pow wide)

-- the least power of two that reaches wide, by its logarithm
pub log_least : (wide p r : ℕ) → IsPowerOfTwo p → wide ≤ p → p / 2 < max 1 wide → 2 ^ r ≤ p → p < 2 * 2 ^ r → Least (λ k. wide ≤ 2 ^ k) r
log_least wide p r power reach first low high =
    let k = power.0 in
    let e : k ≡ r =
    ⊎_elim
    (λ same. same)
    (λ o. ⊎_elim
    (λ lt. absurd (omega (arith, power.1, pow-lt {i = k} {j = r} lt, low)))
    (λ gt. absurd (omega (arith, power.1, pow_mono {i = suc r} {j = k} gt, two-pow-succ r, high)))
    o)
    (cases_order k r) in
    let p_is : p ≡ 2 ^ r = power.1 ∙ ap (λ j. 2 ^ j) e in
    record {
      holds = omega (arith, p_is, reach);
      none_below = λ j l h. omega (arith, pow_mono {i = suc j} {j = r} l, two-pow-succ j, pow_pos j, p_is, first, h);
    }

pub doublings-few : (wide : ℕ) → wide ≤ 2048 → doublings wide ≤ 11
doublings-few wide h = least_within (λ k. wide ≤ 2 ^ k) (doublings wide) 11 (doublings-least wide) h

module _ (m D f : ℕ) (some : 0 < m) where
  enough_iterations : worst m D (f + 1) f ≤ 1
  enough_iterations = omega (arith, worst_none m D (f + 1) f some (omega arith))

  pub iterations-least : Least (λ r. worst m D r f ≤ 1) (iterations m D f)
  iterations-least = least_first (λ r. worst m D r f) (λ r. 1) (f + 1) enough_iterations

  pub iterations-few : iterations m D f ≤ f + 1
  iterations-few = least_within (λ r. worst m D r f ≤ 1) (iterations m D f) (f + 1) iterations-least enough_iterations

  -- at most f + 1 leave more than 1
  pub few_before : (r : ℕ) → ((j : ℕ) → j < r → 1 < worst m D j f) → r ≤ f + 1
  few_before r before =
      ⊎_elim (λ lt. absurd (omega (arith, before (f + 1) lt, enough_iterations))) (λ le. le) (cases_lt (f + 1) r)

pub least_is : (m D f r : ℕ) → 0 < m → worst m D r f ≤ 1 → ((j : ℕ) → j < r → 1 < worst m D j f) → r ≡ iterations m D f
least_is m D f r some enough before =
    least_same (λ j. worst m D j f ≤ 1) r (iterations m D f) (record { holds = enough; none_below = λ j h q. omega (arith, before j h) }) (iterations-least m D f some)

pub least_most : (m D f r w : ℕ) → w ≡ worst m D r f → 0 < m → ((j : ℕ) → j < r → 1 < worst m D j f) → r ≤ f + 1
least_most m D f r w e some before = few_before m D f some r before

pub least_more : (m D f r w : ℕ) → w ≡ worst m D r f → 1 < w → ((j : ℕ) → j < r → 1 < worst m D j f) → (j : ℕ) → j < r + 1 → 1 < worst m D j f
least_more m D f r w e more before = below_more (λ j. 1 < worst m D j f) r before (omega (arith, e))

pub worsts : Worsts
worsts = record {
  halves_end = halves_end;
  worst_more = worst_more;
  worst_one = worst_one;
  worst_none = worst_none;
  halving_rounds_lem = λ span. doublings-least (span - 1);
  halving_few = λ span h. doublings-few (span - 1) (omega arith);
  graded_iterations_lem = λ n t span room. iterations-least (n - 2 * t) (span - 1) t (omega arith);
  graded_few = λ n t span room. iterations-few (n - 2 * t) (span - 1) t (omega arith);
}
