-- What is left of a list, by counts.
use Rattle.std.proofs.Common.{◌≡◌, ℕ, zero, suc, ◌+◌, ◌-◌, ◌*◌, ◌<◌, ◌≤◌, min, leb, ◌↔◌, List, [], ◌∷◌, length, get_or, take, drop, sum, sym, refl, ap, ◌∙◌, ⊎_elim, arith}
use Rattle.std.proofs.lemmas.List.{length-take, length-drop, take-take, drop-take}
use Rattle.std.proofs.lemmas.List.Sums.{sum_by-cons, count_by-le-length}
use Rattle.std.proofs.lemmas.Bool.{leb-true, leb-false, cases_Bool}
use Rattle.wire.proofs.Counts.{one, count_cons}
use Rattle.trim.specs.Trims.{sorted, kept, least, greatest, at_least, layers, left, Layers}
use Rattle.trim.proofs.Sorting.{Up, cons_cases, full, nth_to, nth_from, up_sorted, count-sorted, length-sorted}

up_lower : (low lo : ℕ) (xs : List ℕ) → low ≤ lo → Up lo xs → Up low xs
up_lower low lo [] h u = tt
up_lower low lo (x ∷ xs) h u = (omega (arith, u.0), u.1)

up_drop : (t lo : ℕ) (xs : List ℕ) → Up lo xs → Up lo (drop t xs)
up_drop zero lo xs u = u
up_drop (suc t) lo [] u = tt
up_drop (suc t) lo (x ∷ xs) u = up_lower lo x (drop t xs) u.0 (up_drop t x xs u.1)

up_take : (m lo : ℕ) (xs : List ℕ) → Up lo xs → Up lo (take m xs)
up_take zero lo xs u = tt
up_take (suc m) lo [] u = tt
up_take (suc m) lo (x ∷ xs) u = (u.0, up_take m x xs u.1)

-- of a list that rises, the first are dropped from those below x, and the last from those at least x
count-drop : (x t lo : ℕ) (xs : List ℕ) → Up lo xs → at_least x (drop t xs) ≡ min (at_least x xs) (length xs - t)
count-drop x zero lo xs u = omega (arith, count_by-le-length (leb x) xs)
count-drop x (suc t) lo [] u = omega arith
count-drop x (suc t) lo (y ∷ ys) u =
    let h : at_least x (drop t ys) ≡ min (at_least x ys) (length ys - t) = count-drop x t y ys u.1 in
    ⊎_elim
    (λ a. omega (arith, h, a.1, full x y ys a.0 u.1))
    (λ b. omega (arith, h, b.1))
    (cons_cases x y ys)

count-take : (x m lo : ℕ) (xs : List ℕ) → Up lo xs → at_least x (take m xs) ≡ at_least x xs - (length xs - m)
count-take x zero lo xs u = omega (arith, count_by-le-length (leb x) xs)
count-take x (suc m) lo [] u = omega arith
count-take x (suc m) lo (y ∷ ys) u =
    let h : at_least x (take m ys) ≡ at_least x ys - (length ys - m) = count-take x m y ys u.1 in
    let c = count_cons (leb x) y (take m ys) in
    let d = count_cons (leb x) y ys in
    ⊎_elim
    (λ a. omega (arith, h, c, d, ap one a, full x y ys (leb-true x y a) u.1))
    (λ b. omega (arith, h, c, d, ap one b))
    (cases_Bool (leb x y))

pub kept_layer : (t : ℕ) (xs : List ℕ) (x : ℕ) → at_least x (kept t xs) ≡ left t xs x
kept_layer t xs x =
    let s = sorted xs in
    let u = up_sorted xs in
    omega (
      arith,
      count-take x (length xs - 2 * t) 0 (drop t s) (up_drop t 0 s u),
      count-drop x t 0 s u,
      length-drop t s,
      length-sorted xs,
      count-sorted x xs,
      count_by-le-length (leb x) xs,
    )

pub length-kept : (t : ℕ) (xs : List ℕ) → length (kept t xs) ≡ length xs - 2 * t
length-kept t xs = omega (arith, length-take (length xs - 2 * t) (drop t (sorted xs)), length-drop t (sorted xs), length-sorted xs)

-- what stands at place i of those left
pub kept_nth : (t : ℕ) (xs : List ℕ) (x i : ℕ) → i < length xs - 2 * t → (x ≤ get_or (kept t xs) i 0) ↔ (length xs - t ≤ at_least x xs + i)
kept_nth t xs x i h =
    let s = sorted xs in
    let u : Up 0 (kept t xs) = up_take (length xs - 2 * t) 0 (drop t s) (up_drop t 0 s (up_sorted xs)) in
    let k = kept_layer t xs x in
    let l = length-kept t xs in (
      λ low. omega (arith, k, l, nth_to x 0 (kept t xs) u i (omega arith) low),
      λ many. nth_from x 0 (kept t xs) u i (omega arith) (omega (arith, k, l)),
    )

pub least_is : (t : ℕ) (xs : List ℕ) (x : ℕ) → 2 * t < length xs → (x ≤ least t xs) ↔ (length xs - t ≤ at_least x xs)
least_is t xs x room =
    let e = kept_nth t xs x 0 (omega arith) in
    (λ low. omega (arith, e.0 low), λ many. e.1 (omega arith))

pub greatest_is : (t : ℕ) (xs : List ℕ) (x : ℕ) → 2 * t < length xs → (x ≤ greatest t xs) ↔ (t + 1 ≤ at_least x xs)
greatest_is t xs x room =
    let l = length-kept t xs in
    let e = kept_nth t xs x (length (kept t xs) - 1) (omega arith) in
    (λ low. omega (arith, e.0 low), λ many. e.1 (omega arith))

-- a part of an array that begins with the list sorted
pub kept_part : (t n : ℕ) (xs array : List ℕ) → t ≤ n → length xs ≡ n → take n array ≡ sorted xs → take (n - t - t) (drop t array) ≡ kept t xs
kept_part t n xs array le size e =
    let a : t + (n - t) ≡ n = omega arith in
    let b : n - t - t ≡ length xs - 2 * t = omega arith in
    sym (take-take (n - t - t) (n - t) (drop t array) (omega arith))
    ∙ ap (take (n - t - t)) (sym (drop-take t (n - t) array) ∙ ap (λ k. drop t (take k array)) a ∙ ap (drop t) e)
    ∙ ap (λ k. take k (drop t (sorted xs))) b

-- sums by layers
layers_same : (f g : ℕ → ℕ) (top : ℕ) → ((x : ℕ) → f x ≡ g x) → layers f top ≡ layers g top
layers_same f g zero h = refl
layers_same f g (suc top) h = omega (arith, layers_same f g top h, h (suc top))

layers_add : (f g : ℕ → ℕ) (top : ℕ) → layers (λ x. f x + g x) top ≡ layers f top + layers g top
layers_add f g zero = refl
layers_add f g (suc top) = omega (arith, layers_add f g top)

one_layer : (y top : ℕ) → layers (λ x. one (leb x y)) top ≡ min y top
one_layer y zero = omega arith
one_layer y (suc top) =
    let r : layers (λ x. one (leb x y)) top ≡ min y top = one_layer y top in
    ⊎_elim
    (λ t. omega (arith, r, ap one t, leb-true (suc top) y t))
    (λ f. omega (arith, r, ap one f, leb-false (suc top) y f))
    (cases_Bool (leb (suc top) y))

no_layers : (top : ℕ) → layers (λ x. 0) top ≡ 0
no_layers zero = refl
no_layers (suc top) = omega (arith, no_layers top)

sum-layers : (top : ℕ) (ys : List ℕ) → at_least (suc top) ys ≡ 0 → sum ys ≡ layers (λ x. at_least x ys) top
sum-layers top [] h = sym (no_layers top)
sum-layers top (y ∷ ys) h =
    let small : (y ≤ top) × (at_least (suc top) ys ≡ 0) =
    ⊎_elim (λ a. absurd (omega (arith, a.1))) (λ b. (omega (arith, b.0), sym b.1 ∙ h)) (cons_cases (suc top) y ys) in
    let e : layers (λ x. at_least x (y ∷ ys)) top ≡ layers (λ x. one (leb x y) + at_least x ys) top = layers_same _ _ top (λ x. count_cons (leb x) y ys) in
    omega (arith, sum_by-cons (λ x. x) y ys, sum-layers top ys small.1, e, layers_add (λ x. one (leb x y)) (λ x. at_least x ys) top, one_layer y top, small.0)

pub kept-sum : (t : ℕ) (xs : List ℕ) (top : ℕ) → at_least (suc top) xs ≤ t → sum (kept t xs) ≡ layers (left t xs) top
kept-sum t xs top h =
    sum-layers top (kept t xs) (omega (arith, kept_layer t xs (suc top))) ∙ layers_same _ _ top (kept_layer t xs)

pub by_layers : Layers
by_layers = record { layer = kept_layer; least_is = least_is; greatest_is = greatest_is; sum_is = kept-sum }
