-- The published procedure lists the walk.
use Rattle.std.proofs.Common.{◌≡◌, ℕ, zero, suc, ◌+◌, ◌-◌, ◌<◌, ◌≤◌, Bool, true, false, cond, not, ◌&&◌, ◌||◌, eqb, ltb, List, [], ◌∷◌, ◌++◌, length, filter, sym, refl, ap, ◌∙◌, subst, ⊎_elim, append_assoc, append-nil, arith}
use Rattle.std.specs.List.{range_with_len, flat_map}
use Rattle.std.proofs.lemmas.Bool.{eqb-true, eq-eqb, ne_eqb, lt-ltb, le-ltb, ltb-true, and_from, and_left, and_right, and_parts, or_left, or_right, or_from, cases_Bool}
use Rattle.std.specs.List.{AllByRecursion}
use Rattle.label.proofs.Elements.{AllByRecursion-append, AllByRecursion-weaker}
use Rattle.tree.specs.Trees.{Rooted, AboveAt}
use Rattle.tree.specs.declared.Station.{Station}
use Rattle.tree.specs.Stations.{parent_of, Canonical, rooted}
use Rattle.tree.specs.Walks.{branches, walk_of, walk_from}
use Rattle.tree.specs.Listing.{among, child, neighbour, list_each, list_from, listing}
use Rattle.tree.proofs.Climbs.{above_self, above_trans, above_up, above_line, above_level}
use Rattle.tree.proofs.Entries.{None, Distinct, Kept, kept_from, kept_apart, walk_below}
use Rattle.tree.proofs.Sizes.{counting_kept}

among-left : (x : ℕ) (us vs : List ℕ) → among x us ≡ true → among x (us ++ vs) ≡ true
among-left x [] vs e = let z : ◌≡◌ {A = ℕ} 0 1 = cc in absurd (omega arith)
among-left x (u ∷ us) vs e = go (eqb u x) e (λ f. among-left x us vs f)
  where
    go : (b : Bool) → (b || among x us) ≡ true → (among x us ≡ true → among x (us ++ vs) ≡ true) → (b || among x (us ++ vs)) ≡ true
    go true e rec = refl
    go false e rec = rec e

among_last : (x : ℕ) (us : List ℕ) → among x (us ++ x ∷ []) ≡ true
among_last x [] = or_left (eqb x x) false (eq-eqb x x refl)
among_last x (u ∷ us) = or_right (eqb u x) (among x (us ++ x ∷ [])) (among_last x us)

among_none : (P : ℕ → Type 0) (x : ℕ) (us : List ℕ) → None P us → P x → among x us ≡ false
among_none P x [] a p = refl
among_none P x (u ∷ us) a p = or_from (eqb u x) (among x us) (ne_eqb u x (λ e. a.0 (subst P (sym e) p))) (among_none P x us a.1 p)

kept_same : (p q : ℕ → Bool) (xs : List ℕ) → AllByRecursion (λ x. p x ≡ q x) xs → filter p xs ≡ filter q xs
kept_same p q [] a = refl
kept_same p q (x ∷ xs) a = ap (λ (b : Bool). cond b (x ∷ filter p xs) (filter p xs)) a.0 ∙ ap (λ (ys : List ℕ). cond (q x) (x ∷ ys) ys) (kept_same p q xs a.1)

counting_all : (a n : ℕ) → AllByRecursion (λ x. (a ≤ x) × (x < a + n)) (range_with_len a n)
counting_all a n = subst (AllByRecursion (λ x. (a ≤ x) × (x < a + n))) (counting_kept a n) (AllByRecursion-weaker (Kept (λ _. true) a n) (λ x. (a ≤ x) × (x < a + n)) (λ x h. (h.0, h.1)) _ (kept_from (λ _. true) a n))

-- the children of v are its branches
pub children : (n : ℕ) (up : ℕ → ℕ) (v : ℕ) → 0 < n → filter (child up v) (range_with_len 0 n) ≡ branches n up v
children zero up v h = absurd (omega arith)
children (suc m) up v h =
    let m' : suc m - 1 ≡ m = omega arith in
    let first : child up v 0 ≡ false = and_left (ltb 0 0) (eqb (up 0) v) (le-ltb 0 0 (omega arith)) in
    ap (λ (b : Bool). cond b (0 ∷ filter (child up v) (range_with_len (0 + 1) m)) (filter (child up v) (range_with_len (0 + 1) m))) first
    ∙ kept_same (child up v) (λ j. eqb (up j) v) (range_with_len 1 m) (AllByRecursion-weaker (λ x. (1 ≤ x) × (x < 1 + m)) (λ x. child up v x ≡ eqb (up x) v) (λ x l. ap (λ (b : Bool). b && eqb (up x) v) (lt-ltb 0 x l.0)) _ (counting_all 1 m))
    ∙ sym (ap (λ (k : ℕ). filter (λ j. eqb (up j) v) (range_with_len 1 k)) m')

module _ {n : ℕ} {up depth : ℕ → ℕ} (r : Rooted n up depth) where
  -- with the station over v listed, and none below v
  abbrev Lists : ℕ → Type 0
  Lists f = (v : ℕ) (listed : List ℕ) → v < n → (0 < v → among (up v) listed ≡ true) → None (AboveAt up depth v) listed → list_from n up f v listed ≡ listed ++ walk_of n up f v

  -- no station is below two branches of one
  apart : (v w w' x : ℕ) → 0 < w → w < n → up w ≡ v → 0 < w' → w' < n → up w' ≡ v → (w' ≡ w → ⊥) → AboveAt up depth w x → AboveAt up depth w' x → ⊥
  apart v w w' x p l e p' l' e' ne a a' =
      let d = r.deeper w p l in
      let d' = r.deeper w' p' l' in
      let same : depth w ≡ depth w' = omega (arith, ap depth e, ap depth e') in
      ne (above_level r w' w (above_line r w' w x a' a (omega arith)) (omega arith))

  each_lists : (f : ℕ) → Lists f → (v : ℕ) → v < n → (ws : List ℕ) → AllByRecursion (λ w. w < n) ws → Distinct ws → (listed : List ℕ) → (0 < v → among (up v) listed ≡ true)
      → AllByRecursion (λ w. 0 < w → up w ≡ v → None (AboveAt up depth w) listed) ws → among v listed ≡ true
      → list_each up (list_from n up f) v ws listed ≡ listed ++ flat_map (λ j. walk_of n up f j ++ v ∷ []) (filter (child up v) ws)
  each_lists f ih v lv [] inn dis listed over none here = sym (append-nil listed)
  each_lists f ih v lv (w ∷ ws) inn dis listed over none here =
      ⊎_elim
      (λ (c : child up v w ≡ true).
      let parts = and_parts (ltb 0 w) (eqb (up w) v) c in
      let p : 0 < w = ltb-true 0 w parts.0 in
      let u : up w ≡ v = eqb-true (up w) v parts.1 in
      let fresh : among w listed ≡ false = among_none (AboveAt up depth w) w listed (none.0 p u) (above_self r w) in
      let test : (neighbour up v w && not (among w listed)) ≡ true = and_from (neighbour up v w) (not (among w listed)) (or_left (child up v w) (child up w v) c) (ap not fresh) in
      let walked : list_from n up f w listed ≡ listed ++ walk_of n up f w = ih w listed inn.0 (λ _. subst (λ (z : ℕ). among z listed ≡ true) (sym u) here) (none.0 p u) in
      let more : List ℕ = list_from n up f w listed ++ v ∷ [] in
      let is : more ≡ listed ++ (walk_of n up f w ++ v ∷ []) = ap (λ (xs : List ℕ). xs ++ v ∷ []) walked ∙ append_assoc listed (walk_of n up f w) (v ∷ []) in
      let rest = each_lists f ih v lv ws inn.1 dis.1 more
      (λ q. subst (λ (xs : List ℕ). among (up v) xs ≡ true) (sym is) (among-left (up v) listed _ (over q)))
      (subst (λ (xs : List ℕ). AllByRecursion (λ z. 0 < z → up z ≡ v → None (AboveAt up depth z) xs) ws) (sym is) (still w listed p u inn.0 ws inn.1 dis.0 none.1))
      (among_last v (list_from n up f w listed)) in
      ap (λ (b : Bool). cond b (list_each up (list_from n up f) v ws more) (list_each up (list_from n up f) v ws listed)) test ∙ rest
      ∙ ap (λ (xs : List ℕ). xs ++ flat_map (λ j. walk_of n up f j ++ v ∷ []) (filter (child up v) ws)) is
      ∙ append_assoc listed (walk_of n up f w ++ v ∷ []) (flat_map (λ j. walk_of n up f j ++ v ∷ []) (filter (child up v) ws))
      ∙ sym (ap (λ (b : Bool). listed ++ flat_map (λ j. walk_of n up f j ++ v ∷ []) (cond b (w ∷ filter (child up v) ws) (filter (child up v) ws))) c))
      (λ (c : child up v w ≡ false).
      let test : (neighbour up v w && not (among w listed)) ≡ false = skipped w c in
      ap (λ (b : Bool). cond b (list_each up (list_from n up f) v ws (list_from n up f w listed ++ v ∷ [])) (list_each up (list_from n up f) v ws listed)) test
      ∙ each_lists f ih v lv ws inn.1 dis.1 listed over none.1 here
      ∙ sym (ap (λ (b : Bool). listed ++ flat_map (λ j. walk_of n up f j ++ v ∷ []) (cond b (w ∷ filter (child up v) ws) (filter (child up v) ws))) c))
      (cases_Bool (child up v w))
    where
      skipped : (z : ℕ) → child up v z ≡ false → (neighbour up v z && not (among z listed)) ≡ false
      skipped z c =
          ⊎_elim
          (λ (d : child up z v ≡ true).
          let parts = and_parts (ltb 0 v) (eqb (up v) z) d in
          let seen = over (ltb-true 0 v parts.0) in
          and_right (neighbour up v z) (not (among z listed)) (ap not (subst (λ (y : ℕ). among y listed ≡ true) (eqb-true (up v) z parts.1) seen)))
          (λ (d : child up z v ≡ false). and_left (neighbour up v z) (not (among z listed)) (or_from (child up v z) (child up z v) c d))
          (cases_Bool (child up z v))

      still : (z : ℕ) (old : List ℕ) → 0 < z → up z ≡ v → z < n → (ks : List ℕ) → AllByRecursion (λ k. k < n) ks → AllByRecursion (λ k. k ≡ z → ⊥) ks → AllByRecursion (λ k. 0 < k → up k ≡ v → None (AboveAt up depth k) old) ks → AllByRecursion (λ k. 0 < k → up k ≡ v → None (AboveAt up depth k) (old ++ (walk_of n up f z ++ v ∷ []))) ks
      still z old p u l [] i d a = tt
      still z old p u l (k ∷ ks) i d a = (
        (λ q e. AllByRecursion-append (λ x. AboveAt up depth k x → ⊥) old (walk_of n up f z ++ v ∷ []) (a.0 q e)
            (AllByRecursion-append (λ x. AboveAt up depth k x → ⊥) (walk_of n up f z) (v ∷ [])
            (AllByRecursion-weaker (λ x. (x < n) × AboveAt up depth z x) (λ x. AboveAt up depth k x → ⊥) (λ x b t. apart v z k x p l u q i.0 e d.0 b.1 t) (walk_of n up f z) (walk_below r f z l))
            ((λ t. omega (arith, r.deeper k q i.0, ap depth e, t.0)), tt))),
        still z old p u l ks i.1 d.1 a.1,
      )

  pub lists : (f : ℕ) → Lists f
  lists zero v listed lv over none = refl
  lists (suc f) v listed lv over none =
      each_lists f (lists f) v lv (range_with_len 0 n) (AllByRecursion-weaker (λ x. (0 ≤ x) × (x < 0 + n)) (λ x. x < n) (λ x h. omega arith) _ (counting_all 0 n)) (subst Distinct (counting_kept 0 n) (kept_apart (λ _. true) 0 n))
      (listed ++ v ∷ []) (λ q. among-left (up v) listed (v ∷ []) (over q)) (fresh (range_with_len 0 n) (AllByRecursion-weaker (λ x. (0 ≤ x) × (x < 0 + n)) (λ x. x < n) (λ x h. omega arith) _ (counting_all 0 n))) (among_last v listed)
      ∙ ap (λ (js : List ℕ). (listed ++ v ∷ []) ++ flat_map (λ j. walk_of n up f j ++ v ∷ []) js) (children n up v r.some)
      ∙ append_assoc listed (v ∷ []) (flat_map (λ j. walk_of n up f j ++ v ∷ []) (branches n up v))
    where
      below : (w x : ℕ) → 0 < w → w < n → up w ≡ v → AboveAt up depth w x → AboveAt up depth v x
      below w x p l e a = above_trans r v w x (subst (λ (z : ℕ). AboveAt up depth z w) e (above_up r w p l)) a

      fresh : (ks : List ℕ) → AllByRecursion (λ k. k < n) ks → AllByRecursion (λ w. 0 < w → up w ≡ v → None (AboveAt up depth w) (listed ++ v ∷ [])) ks
      fresh [] i = tt
      fresh (k ∷ ks) i = (
        (λ q e. AllByRecursion-append (λ x. AboveAt up depth k x → ⊥) listed (v ∷ [])
            (AllByRecursion-weaker (λ x. AboveAt up depth v x → ⊥) (λ x. AboveAt up depth k x → ⊥) (λ x t a. t (below k x q i.0 e a)) listed none)
            ((λ t. omega (arith, r.deeper k q i.0, ap depth e, t.0)), tt)),
        fresh ks i.1,
      )

pub walk_listed : (ps : List Station) → Canonical ps → listing ps ≡ walk_from ps 0
unfolding walk_from listing
walk_listed ps c =
    let r = rooted ps c in
    lists r (length ps - 1) 0 [] c.some (λ q. absurd (omega arith)) tt
    ∙ ap (λ (d : ℕ). walk_of (length ps) (parent_of ps) (length ps - d) 0) (sym c.top)
