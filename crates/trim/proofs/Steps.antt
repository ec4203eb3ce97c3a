-- One step of each line.
use Rattle.std.proofs.Common.{◌≡◌, ℕ, zero, suc, ◌+◌, ◌-◌, ◌*◌, ◌/◌, ◌<◌, ◌≤◌, Bool, true, false, cond, eqb, leb, List, [], ◌∷◌, length, get_or, sum, count_by, sym, refl, ap, ◌∙◌, subst, ⊎_elim, mul_comm, div-lt_iff_lt-mul, add-mul, mul-zero, le-div_iff_mul-le, mul-suc, arith}
use native.Mathlib.Nat.{lt-div-mul-add, div-le_of_le-mul}
use Rattle.std.proofs.lemmas.List.Sums.{sum_by-cons}
use Rattle.std.proofs.lemmas.Bool.{leb-true, le-leb, cases_lt, eqb-true}
use Rattle.wire.specs.Spreads.{Within}
use Rattle.wire.specs.Units.{Faults}
use Rattle.wire.proofs.Counts.{one, count_cons, one_le, agree, some_honest_lem, all_honest}
use Rattle.trim.specs.Trims.{kept, least, greatest, halving_step, graded_step, at_least, layers, left}
use Rattle.trim.specs.Steps.{entry, Shared, differences, ceil, Steps}
use Rattle.trim.proofs.Layers.{length-kept, kept_nth, least_is, greatest_is, kept-sum}

-- sums of layers that are nowhere more than k apart, and not at all up to lo
layers_near : (f g : ℕ → ℕ) (lo k : ℕ) → ((x : ℕ) → x ≤ lo → f x ≤ g x) → ((x : ℕ) → f x ≤ g x + k) → (top : ℕ)
    → layers f top ≤ layers g top + k * (top - lo)
layers_near f g lo k same near zero = omega arith
layers_near f g lo k same near (suc top) =
    let h : layers f top ≤ layers g top + k * (top - lo) = layers_near f g lo k same near top in
    ⊎_elim
    (λ past.
    let e : suc top - lo ≡ suc (top - lo) = omega arith in
    omega (arith, h, near (suc top), ap (λ d. k * d) e, mul-suc k (top - lo)))
    (λ low.
    let e : suc top - lo ≡ top - lo = omega arith in
    omega (arith, h, same (suc top) low, ap (λ d. k * d) e))
    (cases_lt lo (suc top))

-- the sum of a list with bounds
sum_between : (lo hi : ℕ) (ys : List ℕ) → ((i : ℕ) → i < length ys → (lo ≤ get_or ys i 0) × (get_or ys i 0 ≤ hi)) → (lo * length ys ≤ sum ys) × (sum ys ≤ hi * length ys)
sum_between lo hi [] h = (omega (arith, mul-zero lo), omega arith)
sum_between lo hi (y ∷ ys) h =
    let r = sum_between lo hi ys (λ i l. h (suc i) (omega arith)) in
    let e = sum_by-cons (λ x. x) y ys in
    (omega (arith, r.0, e, (h 0 (omega arith)).0, mul-suc lo (length ys)), omega (arith, r.1, e, (h 0 (omega arith)).1, mul-suc hi (length ys)))

-- quotients
div_near : (a b c m : ℕ) → 0 < m → a ≤ b + c → a / m ≤ b / m + ceil c m
div_near a b c m h k =
    let q = b / m in
    let e = ceil c m in
    let covers : c ≤ e * m = omega (arith, lt-div-mul-add {a = c + (m - 1)} {b = m} h) in
    let r : a < (q + e + 1) * m = omega (arith, add-mul (q + e) 1 m, add-mul q e m, lt-div-mul-add {a = b} {b = m} h, covers) in
    omega (arith, (div-lt_iff_lt-mul {k = m} {x = a} {y = q + e + 1} h).1 r)

-- lists that differ at few places
differ_head : (p : ℕ → Bool) (x y : ℕ) (b : Bool) → eqb x y ≡ b → one (p x) ≤ one (p y) + cond b 0 1
differ_head p x y true e = omega (arith, ap (λ z. one (p z)) (eqb-true x y e))
differ_head p x y false e = omega (arith, one_le (p x))

differ_count : (p : ℕ → Bool) (xs ys : List ℕ) → length xs ≡ length ys → count_by p xs ≤ count_by p ys + differences xs ys
differ_count p [] ys h = omega arith
differ_count p (x ∷ xs) [] h = absurd (omega arith)
differ_count p (x ∷ xs) (y ∷ ys) h =
    omega (arith, count_cons p x xs, count_cons p y ys, differ_head p x y (eqb x y) refl, differ_count p xs ys (omega arith))

module _ (n t : ℕ) (honest : List Bool) (faults : Faults n t honest) where
  -- the least left at one unit is at most the greatest left at another
  cross : (xs ys : List ℕ) → length xs ≡ n → length ys ≡ n → Shared honest xs ys → least t xs ≤ greatest t ys
  cross xs ys lx ly same =
      (greatest_is t ys (least t xs) (omega (arith, faults.enough))).1
      (omega (
        arith,
        (least_is t xs (least t xs) (omega (arith, faults.enough))).0 (omega arith),
        faults.enough,
        faults.few,
        agree (leb (least t xs)) 0 honest xs ys (lx ∙ sym faults.size) (ly ∙ sym faults.size) same,
      ))

  module _ (xs : List ℕ) (size : length xs ≡ n) (lo hi : ℕ) (within : Within honest (entry xs) lo hi) where
    low_count : (x : ℕ) → x ≤ lo → n ≤ at_least x xs + t
    low_count x h =
        omega (
          arith,
          all_honest (leb x) 0 honest xs (size ∙ sym faults.size) (λ i s. le-leb x (get_or xs i 0) (omega (arith, (within i s).0))),
          faults.size,
          faults.few,
        )

    high-count : (x : ℕ) → hi < x → at_least x xs ≤ t
    high-count x h =
        ⊎_elim
        (λ more.
        let s = some_honest_lem (leb x) 0 honest xs (size ∙ sym faults.size) (omega (arith, faults.few)) in
        absurd (omega (arith, leb-true x (get_or xs s.0 0) s.2, (within s.0 s.1).1)))
        (λ le. le)
        (cases_lt t (at_least x xs))

    -- all those left lie between the honest units' entries
    pub kept-inside : (i : ℕ) → i < length xs - 2 * t → (lo ≤ get_or (kept t xs) i 0) × (get_or (kept t xs) i 0 ≤ hi)
    kept-inside i h = (
      (kept_nth t xs lo i h).1 (omega (arith, low_count lo (omega arith))),
      ⊎_elim
          (λ more. absurd (omega (arith, (kept_nth t xs (suc hi) i h).0 more, high-count (suc hi) (omega arith))))
          (λ le. le)
          (cases_lt hi (get_or (kept t xs) i 0)),
    )

    room : 0 < length xs - 2 * t
    room = omega (arith, faults.enough)

    pub least-inside : (lo ≤ least t xs) × (least t xs ≤ hi)
    least-inside = kept-inside 0 room

    pub greatest-inside : (lo ≤ greatest t xs) × (greatest t xs ≤ hi)
    greatest-inside = kept-inside (length (kept t xs) - 1) (omega (arith, length-kept t xs, room))

    pub sum_inside : (lo * (length xs - 2 * t) ≤ sum (kept t xs)) × (sum (kept t xs) ≤ hi * (length xs - 2 * t))
    sum_inside =
        let l = length-kept t xs in
        let r = sum_between lo hi (kept t xs) (λ i h. kept-inside i (omega arith)) in
        (omega (arith, r.0, ap (λ k. lo * k) l), omega (arith, r.1, ap (λ k. hi * k) l))

    sum_is : sum (kept t xs) ≡ layers (left t xs) hi
    sum_is = kept-sum t xs hi (high-count (suc hi) (omega arith))

    low-full : (x : ℕ) → x ≤ lo → length xs - 2 * t ≤ left t xs x
    low-full x h = omega (arith, low_count x h, faults.enough)

    pub halving_inside : (lo ≤ halving_step t xs) × (halving_step t xs ≤ hi)
    halving_inside =
        let a = least-inside in
        let b = greatest-inside in
        (omega arith, omega arith)

    pub graded_inside : (lo ≤ graded_step t xs) × (graded_step t xs ≤ hi)
    graded_inside =
        let m = length xs - 2 * t in (
          (le-div_iff_mul-le {k = m} {x = lo} {y = sum (kept t xs)} room).1 sum_inside.0,
          div-le_of_le-mul m {m = sum (kept t xs)} {n = hi} (omega (arith, sum_inside.1, mul_comm hi m)),
        )

  module _ (xs ys : List ℕ) (lx : length xs ≡ n) (ly : length ys ≡ n) (same : Shared honest xs ys) (lo hi : ℕ) (within : Within honest (entry xs) lo hi) where
    within-too : Within honest (entry ys) lo hi
    within-too i s = (omega (arith, same i s, (within i s).0), omega (arith, same i s, (within i s).1))

    pub halving_near : halving_step t xs ≤ halving_step t ys + ceil (hi - lo) 2
    halving_near =
        let a = least-inside ys ly lo hi within-too in
        let b = greatest-inside xs lx lo hi within in
        let c = cross xs ys lx ly same in
        let d = cross ys ys ly ly (λ i s. refl) in
        omega arith

    pub graded_near : (k : ℕ) → differences xs ys ≤ k → graded_step t xs ≤ graded_step t ys + ceil (k * (hi - lo)) (n - 2 * t)
    graded_near k few =
        let m = n - 2 * t in
        let ex : length xs - 2 * t ≡ m = omega arith in
        let ey : length ys - 2 * t ≡ m = omega arith in
        let near = layers_near (left t xs) (left t ys) lo k
        (λ x h. omega (arith, low-full ys ly lo hi within-too x h))
        (λ x. omega (arith, differ_count (leb x) xs ys (lx ∙ sym ly))) hi in
        let d = div_near (sum (kept t xs)) (sum (kept t ys)) (k * (hi - lo)) m (omega (arith, faults.enough))
        (omega (arith, near, sum_is xs lx lo hi within, sum_is ys ly lo hi within-too)) in
        subst (λ a. sum (kept t xs) / a ≤ graded_step t ys + ceil (k * (hi - lo)) m) (sym ex)
        (subst (λ b. sum (kept t xs) / m ≤ sum (kept t ys) / b + ceil (k * (hi - lo)) m) (sym ey) d)

pub steps : Steps
steps = record { halving_inside = halving_inside; graded_inside = graded_inside; halving_near = halving_near; graded_near = graded_near }
