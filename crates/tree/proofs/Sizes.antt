-- How many entries a walk has: two for each station below its first, less one.
use Rattle.std.proofs.Common.{◌≡◌, ℕ, zero, suc, ◌+◌, ◌-◌, ◌*◌, ◌<◌, ◌≤◌, Bool, true, false, cond, ◌&&◌, eqb, leb, List, [], ◌∷◌, ◌++◌, length, filter, sym, refl, ap, ◌∙◌, subst, inl, inr, ⊎_elim, arith, length-append}
use Rattle.std.specs.List.{range_with_len, flat_map}
use Rattle.std.proofs.lemmas.Bool.{cases_lt, cases_eq, eqb-true, eq-eqb, ne_eqb, le-leb, and_from, and_parts, leb-true}
use Rattle.std.specs.List.{AllByRecursion}
use Rattle.label.proofs.Elements.{AllByRecursion-weaker}
use Rattle.tree.specs.Trees.{Rooted, climb, AboveAt}
use Rattle.tree.specs.Ways.{On}
use Rattle.tree.specs.Walks.{branches, walk_of}
use Rattle.tree.proofs.Pigeons.{at_most}
use Rattle.tree.proofs.Climbs.{climb_add, climb_inside, climb_depth, above_self, above_trans, above_up, above_level, above_either, depth_pos, not_root, root_above}
use Rattle.tree.proofs.Entries.{Distinct, kept_apart, kept_from, Kept, branch_of}

abbrev pub total : (ℕ → ℕ) → List ℕ → ℕ
total f [] = 0
total f (x ∷ xs) = f x + total f xs

abbrev pub bit : Bool → ℕ
bit true = 1
bit false = 0

total_same : (f g : ℕ → ℕ) (xs : List ℕ) → AllByRecursion (λ x. f x ≡ g x) xs → total f xs ≡ total g xs
total_same f g [] a = refl
total_same f g (x ∷ xs) a = let e = a.0 in let m = total_same f g xs a.1 in omega arith

total_add : (f g : ℕ → ℕ) (xs : List ℕ) → total (λ x. f x + g x) xs ≡ total f xs + total g xs
total_add f g [] = refl
total_add f g (x ∷ xs) = let m = total_add f g xs in omega arith

total_zero : (xs : List ℕ) → total (λ _. 0) xs ≡ 0
total_zero [] = refl
total_zero (x ∷ xs) = let m = total_zero xs in omega arith

total_swap : (g : ℕ → ℕ → ℕ) (js xs : List ℕ) → total (λ x. total (λ j. g j x) js) xs ≡ total (λ j. total (g j) xs) js
total_swap g js [] = sym (total_zero js)
total_swap g js (x ∷ xs) = ap (λ (k : ℕ). total (λ j. g j x) js + k) (total_swap g js xs) ∙ sym (total_add (λ j. g j x) (λ j. total (g j) xs) js)

total_double : (f : ℕ → ℕ) (xs : List ℕ) → total (λ x. 2 * f x) xs ≡ 2 * total f xs
total_double f [] = refl
total_double f (x ∷ xs) = let m = total_double f xs in omega arith

total_none : (p : ℕ → Bool) (xs : List ℕ) → AllByRecursion (λ x. p x ≡ false) xs → total (λ x. bit (p x)) xs ≡ 0
total_none p [] a = refl
total_none p (x ∷ xs) a = let e = ap bit a.0 in let m = total_none p xs a.1 in omega arith

total_one : (p : ℕ → Bool) (o : ℕ) (xs : List ℕ) → Distinct xs → On o xs → p o ≡ true → AllByRecursion (λ x. (x ≡ o → ⊥) → p x ≡ false) xs → total (λ x. bit (p x)) xs ≡ 1
total_one p o [] d m t a = absurd m
total_one p o (x ∷ xs) d m t a =
    ⊎_elim
    (λ (e : x ≡ o).
    let one = ap bit (ap p e ∙ t) in
    let none = total_none p xs (rest xs (subst (λ (y : ℕ). AllByRecursion (λ z. z ≡ y → ⊥) xs) e d.0) a.1) in
    omega arith)
    (λ (ne : x ≡ o → ⊥).
    let nil = ap bit (a.0 ne) in
    let ih = total_one p o xs d.1 (⊎_elim (λ (e : x ≡ o). absurd (ne e)) (λ (h : On o xs). h) m) t a.1 in
    omega arith)
    (cases_eq x o)
  where
    rest : (ks : List ℕ) → AllByRecursion (λ z. z ≡ o → ⊥) ks → AllByRecursion (λ z. (z ≡ o → ⊥) → p z ≡ false) ks → AllByRecursion (λ z. p z ≡ false) ks
    rest [] b c = tt
    rest (k ∷ ks) b c = (c.0 b.0, rest ks b.1 c.1)

pub mem_all : (P : ℕ → Type 0) (o : ℕ) (xs : List ℕ) → On o xs → AllByRecursion P xs → P o
mem_all P o [] m a = absurd m
mem_all P o (x ∷ xs) m a = ⊎_elim (λ (e : x ≡ o). subst P e a.0) (λ (h : On o xs). mem_all P o xs h a.1) m

total_units : (f : ℕ → ℕ) (a n : ℕ) → ((x : ℕ) → x < a + n → f x ≡ 1) → total f (range_with_len a n) ≡ n
total_units f a zero h = refl
total_units f a (suc n) h = let e = h a (omega arith) in let m = total_units f (a + 1) n (λ x l. h x (omega arith)) in omega arith

pub kept_mem : (p : ℕ → Bool) (o a n : ℕ) → a ≤ o → o < a + n → p o ≡ true → On o (filter p (range_with_len a n))
kept_mem p o a zero h l t = absurd (omega arith)
kept_mem p o a (suc n) h l t =
    ⊎_elim
    (λ (e : a ≡ o). first (p a) (ap p e ∙ t) e)
    (λ (ne : a ≡ o → ⊥). later (p a) (kept_mem p o (a + 1) n (omega arith) (omega arith) t))
    (cases_eq a o)
  where
    first : (b : Bool) → b ≡ true → a ≡ o → On o (cond b (a ∷ filter p (range_with_len (a + 1) n)) (filter p (range_with_len (a + 1) n)))
    first true e f = inl f
    first false e f = let z : ◌≡◌ {A = ℕ} 0 1 = cc in absurd (omega arith)

    later : (b : Bool) → On o (filter p (range_with_len (a + 1) n)) → On o (cond b (a ∷ filter p (range_with_len (a + 1) n)) (filter p (range_with_len (a + 1) n)))
    later true m = inr m
    later false m = m

pub counting_kept : (a n : ℕ) → filter (λ _. true) (range_with_len a n) ≡ range_with_len a n
counting_kept a zero = refl
counting_kept a (suc n) = ap (λ (xs : List ℕ). a ∷ xs) (counting_kept (a + 1) n)

length_joined : (g : ℕ → List ℕ) (js : List ℕ) → length (flat_map g js) ≡ total (λ j. length (g j)) js
length_joined g [] = refl
length_joined g (j ∷ js) = let m = length_joined g js in let l = length-append (g j) (flat_map g js) in omega arith

abbrev pub aboveb : (ℕ → ℕ) → (ℕ → ℕ) → ℕ → ℕ → Bool
aboveb up depth w x = leb (depth w) (depth x) && eqb (climb up (depth x - depth w) x) w

-- the stations below i, itself among them
abbrev pub below : ℕ → (ℕ → ℕ) → (ℕ → ℕ) → ℕ → ℕ
below n up depth i = total (λ x. bit (aboveb up depth i x)) (range_with_len 0 n)

not_both : (b : Bool) → (b ≡ true → ⊥) → b ≡ false
not_both true h = absurd (h refl)
not_both false h = refl

module _ {n : ℕ} {up depth : ℕ → ℕ} (r : Rooted n up depth) where
  is_above : (w x : ℕ) → AboveAt up depth w x → aboveb up depth w x ≡ true
  is_above w x p = and_from _ _ (le-leb _ _ p.0) (eq-eqb _ _ p.1)

  not_above : (w x : ℕ) → (AboveAt up depth w x → ⊥) → aboveb up depth w x ≡ false
  not_above w x h = not_both (aboveb up depth w x) (λ e. let p = and_parts _ _ e in h (leb-true _ _ p.0, eqb-true _ _ p.1))

  -- no station is deeper than there are stations: those above it are all different
  pub shallow : (i : ℕ) → i < n → depth i ≤ n
  shallow i l = at_most (depth i) n (λ k. climb up k i) (λ k h. climb_inside r k i l) (λ a b ha hb e. omega (arith, climb_depth r a i l ha, climb_depth r b i l hb, ap depth e))

  -- the branch of i above x
  pub branch_above : (i x : ℕ) → i < n → x < n → AboveAt up depth i x → depth i < depth x → (o : ℕ) × (On o (branches n up i) × (depth o ≡ depth i + 1) × AboveAt up depth o x)
  branch_above i x li lx p h =
      let k : ℕ = depth x - (depth i + 1) in
      let o : ℕ = climb up k x in
      let pos = depth_pos r i li in
      let d = climb_depth r k x lx (omega arith) in
      let at : depth o ≡ depth i + 1 = omega arith in
      let next : depth x - depth i ≡ k + 1 = omega arith in
      let over : up o ≡ i = sym (climb_add up k 1 x) ∙ sym (ap (λ (m : ℕ). climb up m x) next) ∙ p.1 in
      let same : depth x - depth o ≡ k = omega arith in
      let inn = climb_inside r k x lx in
      (o, (kept_mem (λ j. eqb (up j) i) o 1 (n - 1) (not_root r o (omega arith)) (omega arith) (eq-eqb _ _ over), at, (omega arith, ap (λ (m : ℕ). climb up m x) same)))

  point : (i x : ℕ) → i < n → x < n → bit (aboveb up depth i x) ≡ bit (eqb i x) + total (λ j. bit (aboveb up depth j x)) (branches n up i)
  point i x li lx =
      ⊎_elim
      (λ (e : i ≡ x).
      let a = ap bit (is_above i x (subst (AboveAt up depth i) e (above_self r i))) in
      let b = ap bit (eq-eqb i x e) in
      let z = total_none (λ j. aboveb up depth j x) (branches n up i) (AllByRecursion-weaker (λ j. (0 < j) × (j < n) × (up j ≡ i)) (λ j. aboveb up depth j x ≡ false) (λ j h. not_above j x (λ p. omega (arith, r.deeper j h.0 h.1, ap depth h.2, ap depth e))) _ (branch_of r i)) in
      omega arith)
      (λ (ne : i ≡ x → ⊥).
      let b = ap bit (ne_eqb i x ne) in
      ⊎_elim
      (λ (p : AboveAt up depth i x).
      let a = ap bit (is_above i x p) in
      let deep : depth i < depth x = ⊎_elim (λ (q : depth i < depth x). q) (λ (q : depth x ≤ depth i). absurd (ne (above_level r i x p q))) (cases_lt (depth i) (depth x)) in
      let f = branch_above i x li lx p deep in
      let z = total_one (λ j. aboveb up depth j x) f.0 (branches n up i) (kept_apart (λ j. eqb (up j) i) 1 (n - 1)) f.1.0 (is_above f.0 x f.1.2)
      (AllByRecursion-weaker (λ j. (0 < j) × (j < n) × (up j ≡ i)) (λ j. (j ≡ f.0 → ⊥) → aboveb up depth j x ≡ false)
      (λ j h no'. not_above j x (λ q.
      let dj = r.deeper j h.0 h.1 in
      let di = ap depth h.2 in
      let s : depth x - depth j ≡ depth x - depth f.0 = omega (arith, f.1.1) in
      no' (sym q.1 ∙ ap (λ (m : ℕ). climb up m x) s ∙ f.1.2.1))) _ (branch_of r i)) in
      omega arith)
      (λ (q : AboveAt up depth i x → ⊥).
      let a = ap bit (not_above i x q) in
      let z = total_none (λ j. aboveb up depth j x) (branches n up i) (AllByRecursion-weaker (λ j. (0 < j) × (j < n) × (up j ≡ i)) (λ j. aboveb up depth j x ≡ false) (λ j h. not_above j x (λ p. q (above_trans r i j x (subst (λ (y : ℕ). AboveAt up depth y j) h.2 (above_up r j h.0 h.1)) p))) _ (branch_of r i)) in
      omega arith)
      (above_either r i x))
      (cases_eq i x)

  all_stations : AllByRecursion (λ x. x < n) (range_with_len 0 n)
  all_stations = subst (AllByRecursion (λ x. x < n)) (counting_kept 0 n) (AllByRecursion-weaker (Kept (λ _. true) 0 n) (λ x. x < n) (λ x h. omega arith) _ (kept_from (λ _. true) 0 n))

  pub below_step : (i : ℕ) → i < n → below n up depth i ≡ 1 + total (below n up depth) (branches n up i)
  below_step i li =
      let one = total_one (λ x. eqb i x) i (range_with_len 0 n) (subst Distinct (counting_kept 0 n) (kept_apart (λ _. true) 0 n)) (subst (On i) (counting_kept 0 n) (kept_mem (λ _. true) i 0 n (omega arith) (omega arith) refl)) (eq-eqb i i refl) (AllByRecursion-weaker (λ x. x < n) (λ x. (x ≡ i → ⊥) → eqb i x ≡ false) (λ x h ne. ne_eqb i x (λ e. ne (sym e))) _ all_stations) in
      total_same _ _ (range_with_len 0 n) (AllByRecursion-weaker (λ x. x < n) (λ x. bit (aboveb up depth i x) ≡ bit (eqb i x) + total (λ j. bit (aboveb up depth j x)) (branches n up i)) (λ x h. point i x li h) _ all_stations)
      ∙ total_add (λ x. bit (eqb i x)) (λ x. total (λ j. bit (aboveb up depth j x)) (branches n up i)) (range_with_len 0 n)
      ∙ (let s = total_swap (λ j x. bit (aboveb up depth j x)) (branches n up i) (range_with_len 0 n) in omega arith)

  pub walk_size : (f i : ℕ) → i < n → n ≤ depth i + f → length (walk_of n up f i) + 1 ≡ 2 * below n up depth i
  walk_size zero i l h =
      let z = total_same (below n up depth) (λ _. 0) (branches n up i) (AllByRecursion-weaker (λ j. (0 < j) × (j < n) × (up j ≡ i)) (λ j. below n up depth j ≡ 0) (λ j b. omega (arith, r.deeper j b.0 b.1, shallow j b.1, ap depth b.2)) _ (branch_of r i)) in
      omega (arith, below_step i l, total_zero (branches n up i))
  walk_size (suc f) i l h =
      let each = total_same (λ j. length (walk_of n up f j ++ i ∷ [])) (λ j. 2 * below n up depth j) (branches n up i)
      (AllByRecursion-weaker (λ j. (0 < j) × (j < n) × (up j ≡ i)) (λ j. length (walk_of n up f j ++ i ∷ []) ≡ 2 * below n up depth j)
      (λ j b. length-append (walk_of n up f j) (i ∷ []) ∙ walk_size f j b.1 (omega (arith, r.deeper j b.0 b.1, ap depth b.2))) _ (branch_of r i)) in
      omega (arith, below_step i l, each, length_joined (λ j. walk_of n up f j ++ i ∷ []) (branches n up i), total_double (below n up depth) (branches n up i))

  pub below_root : below n up depth 0 ≡ n
  below_root = total_units (λ x. bit (aboveb up depth 0 x)) 0 n (λ x l. ap bit (is_above 0 x (root_above r x (omega arith))))

  total_mem : (f : ℕ → ℕ) (j : ℕ) (xs : List ℕ) → On j xs → f j ≤ total f xs
  total_mem f j [] m = absurd m
  total_mem f j (x ∷ xs) m = ⊎_elim (λ (e : x ≡ j). omega (arith, ap f e)) (λ (h : On j xs). omega (arith, total_mem f j xs h)) m

  -- the count of stations still below falls from a station to each of its branches
  pub below_falls : (i j : ℕ) → i < n → 0 < j → j < n → up j ≡ i → below n up depth j < below n up depth i
  below_falls i j li h l u = omega (arith, below_step i li, total_mem (below n up depth) j (branches n up i) (kept_mem (λ k. eqb (up k) i) j 1 (n - 1) (omega arith) (omega arith) (eq-eqb _ _ u)))

  pub below_some : (i : ℕ) → i < n → 0 < below n up depth i
  below_some i l = omega (arith, below_step i l)

  pub branch_over : (w x : ℕ) → w < n → x < n → AboveAt up depth w x → depth w < depth x → (o : ℕ) × ((0 < o) × (o < n) × (up o ≡ w) × (depth o ≡ depth w + 1) × AboveAt up depth o x)
  branch_over w x lw lx p h =
      let f = branch_above w x lw lx p h in
      let b = mem_all (λ j. (0 < j) × (j < n) × (up j ≡ w)) f.0 (branches n up w) f.1.0 (branch_of r w) in
      (f.0, (b.0, b.1, b.2, f.1.1, f.1.2))
