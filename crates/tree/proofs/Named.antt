-- Ways on labels: what holds of numbered stations holds of their labels, and back.
use Rattle.std.proofs.Common.{◌≡◌, ℕ, suc, ◌+◌, ◌<◌, ◌≤◌, ◌↔◌, List, [], ◌∷◌, map, length, sym, refl, ap, ◌∙◌, subst, inl, inr, ⊎_elim, arith}
use Rattle.std.proofs.lemmas.Bool.{cases_lt}
use Rattle.std.specs.List.{AllByRecursion}
use Rattle.label.specs.declared.label.Label.{Label}
use Rattle.label.specs.Orders.{key_of}
use Rattle.tree.specs.declared.Station.{Station}
use Rattle.tree.specs.Trees.{Rooted, AboveAt, UnderAt, LegAt}
use Rattle.tree.specs.Ways.{On, Apart, Goes, Way, OnWay}
use Rattle.tree.specs.Stations.{station_label, parent_of, depth_of, Canonical, rooted}
use Rattle.tree.specs.Caves.{Holds, Leg, root_label, OneWay}
use Rattle.tree.proofs.Climbs.{root_above, under_depth}
use Rattle.tree.proofs.Ways.{first, way_there, way_only, above_way}

-- names given to numbered stations carry ways over, both ways -----------------------------------

abbrev pub Inside : ℕ → List ℕ → Type 0
Inside n xs = AllByRecursion (λ x. x < n) xs

module _ {X : Type 0} (f : ℕ → X) where
  on_named : (w : ℕ) (xs : List ℕ) → On w xs → On (f w) (map f xs)
  on_named w [] h = absurd h
  on_named w (x ∷ xs) h = ⊎_elim (λ (e : x ≡ w). inl (ap f e)) (λ (k : On w xs). inr (on_named w xs k)) h

  apart_unnamed : (xs : List ℕ) → Apart (map f xs) → Apart xs
  apart_unnamed [] a = tt
  apart_unnamed (x ∷ xs) a = ((λ h. a.0 (on_named x xs h)), apart_unnamed xs a.1)

  module _ (n : ℕ) (one : (i j : ℕ) → i < n → j < n → f i ≡ f j → i ≡ j) where
    on-unnamed : (w : ℕ) (xs : List ℕ) → w < n → Inside n xs → On (f w) (map f xs) → On w xs
    on-unnamed w [] l i h = absurd h
    on-unnamed w (x ∷ xs) l i h = ⊎_elim (λ (e : f x ≡ f w). inl (one x w i.0 l e)) (λ (k : On (f w) (map f xs)). inr (on-unnamed w xs l i.1 k)) h

    apart-named : (xs : List ℕ) → Inside n xs → Apart xs → Apart (map f xs)
    apart-named [] i a = tt
    apart-named (x ∷ xs) i a = ((λ h. a.0 (on-unnamed x xs i.0 i.1 h)), apart-named xs i.1 a.1)

module _ {n : ℕ} {up depth : ℕ → ℕ} (r : Rooted n up depth) where
  pub leg_inside : (x y : ℕ) → LegAt n up x y → (x < n) × (y < n)
  leg_inside x y l =
      ⊎_elim
      (λ (u : UnderAt n up y x). (subst (λ (z : ℕ). z < n) u.2 (r.inside y u.1), u.1))
      (λ (u : UnderAt n up x y). (u.1, subst (λ (z : ℕ). z < n) u.2 (r.inside x u.1)))
      l

  pub goes_inside : (u v : ℕ) (xs : List ℕ) → Goes (LegAt n up) u xs v → Inside n xs
  goes_inside u v [] g = tt
  goes_inside u v (x ∷ xs) g = ((leg_inside u x g.0).1, goes_inside x v xs g.1)

  -- a way down counts the depth
  way_depth : (u v : ℕ) (xs : List ℕ) → AboveAt up depth u v → Way (LegAt n up) u xs v → depth v ≡ depth u + length xs
  way_depth u v [] p w = omega (arith, ap depth w.0)
  way_depth u v (x ∷ xs) p w =
      ⊎_elim
      (λ (s : (AboveAt up depth u v → ⊥) × UnderAt n up u x). absurd (s.0 p))
      (λ (s : AboveAt up depth x v × UnderAt n up x u). omega (arith, under_depth r x u s.1, way_depth x v xs s.0 (w.0.1, w.1.1)))
      (first r u x v xs w)

module _ (ps : List Station) (h : Canonical ps) where
  pub one_label : (i j : ℕ) → i < length ps → j < length ps → station_label ps i ≡ station_label ps j → i ≡ j
  one_label i j li lj e =
      ⊎_elim
      (λ (lt : i < j). absurd (omega (arith, h.ascending i j lt lj, ap key_of e)))
      (λ (le : j ≤ i). ⊎_elim (λ (lt : j < i). absurd (omega (arith, h.ascending j i lt li, ap key_of e))) (λ (ge : i ≤ j). omega arith) (cases_lt j i))
      (cases_lt i j)

  goes_named : (u v : ℕ) (xs : List ℕ) → Goes (LegAt (length ps) (parent_of ps)) u xs v → Goes (Leg ps) (station_label ps u) (map (station_label ps) xs) (station_label ps v)
  goes_named u v [] g = ap (station_label ps) g
  goes_named u v (x ∷ xs) g = ((u, x, refl, refl, g.0), goes_named x v xs g.1)

  goes_unnamed : (u v : ℕ) (ys : List Label) → u < length ps → v < length ps → Goes (Leg ps) (station_label ps u) ys (station_label ps v)
      → (xs : List ℕ) × (Goes (LegAt (length ps) (parent_of ps)) u xs v × (map (station_label ps) xs ≡ ys))
  goes_unnamed u v [] lu lv g = ([], (one_label u v lu lv g, refl))
  goes_unnamed u v (y ∷ ys) lu lv g =
      let k = g.0 in
      let i = leg_inside (rooted ps h) k.0 k.1 k.4 in
      let e = one_label k.0 u i.0 lu k.2 in
      let f = goes_unnamed k.1 v ys i.1 lv (subst (λ (z : Label). Goes (Leg ps) z ys (station_label ps v)) (sym k.3) g.1) in
      let same = f.1.1 in
      let here = k.3 in
      (k.1 ∷ f.0, ((subst (λ (z : ℕ). LegAt (length ps) (parent_of ps) z k.1) e k.4, f.1.0), cc))

  pub way_named : (u v : ℕ) (xs : List ℕ) → u < length ps → Way (LegAt (length ps) (parent_of ps)) u xs v → Way (Leg ps) (station_label ps u) (map (station_label ps) xs) (station_label ps v)
  way_named u v xs lu w = (goes_named u v xs w.0, apart-named (station_label ps) (length ps) one_label (u ∷ xs) (lu, goes_inside (rooted ps h) u v xs w.0) w.1)

  way_unnamed : (u v : ℕ) (ys : List Label) → u < length ps → v < length ps → Way (Leg ps) (station_label ps u) ys (station_label ps v)
      → (xs : List ℕ) × (Way (LegAt (length ps) (parent_of ps)) u xs v × (map (station_label ps) xs ≡ ys))
  way_unnamed u v ys lu lv w =
      let f = goes_unnamed u v ys lu lv w.0 in
      (f.0, ((f.1.0, apart_unnamed (station_label ps) (u ∷ f.0) (subst (λ (zs : List Label). Apart (station_label ps u ∷ zs)) (sym f.1.1) w.1)), f.1.1))

  pub on_way_named : (u v w : ℕ) → u < length ps → OnWay (LegAt (length ps) (parent_of ps)) u v w → OnWay (Leg ps) (station_label ps u) (station_label ps v) (station_label ps w)
  on_way_named u v w lu o = (map (station_label ps) o.0, (way_named u v o.0 lu o.1.0, on_named (station_label ps) w (u ∷ o.0) o.1.1))

  pub on_way_unnamed : (u v w : ℕ) → u < length ps → v < length ps → w < length ps → OnWay (Leg ps) (station_label ps u) (station_label ps v) (station_label ps w) → OnWay (LegAt (length ps) (parent_of ps)) u v w
  on_way_unnamed u v w lu lv lw o =
      let f = way_unnamed u v o.0 lu lv o.1.0 in
      (f.0, (f.1.0, on-unnamed (station_label ps) (length ps) one_label w (u ∷ f.0) lw (lu, goes_inside (rooted ps h) u v f.0 f.1.0.0) (subst (λ (zs : List Label). On (station_label ps w) (station_label ps u ∷ zs)) (sym f.1.1) o.1.1)))

  ways_at : (u v : ℕ) → u < length ps → v < length ps → (xs : List Label) × (Way (Leg ps) (station_label ps u) xs (station_label ps v) × ((ys : List Label) → Way (Leg ps) (station_label ps u) ys (station_label ps v) → ys ≡ xs))
  ways_at u v lu lv =
      let t = way_there (rooted ps h) u v lu lv in (
        map (station_label ps) t.0,
        (
          way_named u v t.0 lu t.1,
          λ ys w.
              let f = way_unnamed u v ys lu lv w in
              sym f.1.1 ∙ ap (map (station_label ps)) (way_only (rooted ps h) u v f.0 t.0 lu lv f.1.0 t.1),
        ),
      )

length_named : {X : Type 0} (f : ℕ → X) (xs : List ℕ) → length (map f xs) ≡ length xs
length_named f [] = refl
length_named f (x ∷ xs) = ap suc (length_named f xs)

way_one : (ps : List Station) → Canonical ps → (a b : Label) → Holds ps a → Holds ps b → (xs : List Label) × (Way (Leg ps) a xs b × ((ys : List Label) → Way (Leg ps) a ys b → ys ≡ xs))
way_one ps h a b ka kb =
    subst (λ (z : Label). (xs : List Label) × (Way (Leg ps) z xs b × ((ys : List Label) → Way (Leg ps) z ys b → ys ≡ xs))) ka.1.1
    (subst (λ (z : Label). (xs : List Label) × (Way (Leg ps) (station_label ps ka.0) xs z × ((ys : List Label) → Way (Leg ps) (station_label ps ka.0) ys z → ys ≡ xs))) kb.1.1
    (ways_at ps h ka.0 kb.0 ka.1.0 kb.1.0))

pub one_way : OneWay
one_way = record { one = way_one }

module _ (ps : List Station) (h : Canonical ps) (x : ℕ) (l : x < length ps) where
  -- above by indices is above by labels
  pub above_named : (w : ℕ) → w < length ps → AboveAt (parent_of ps) (depth_of ps) w x ↔ OnWay (Leg ps) (root_label ps) (station_label ps x) (station_label ps w)
  above_named w lw =
      let e = above_way (rooted ps h) w x l in
      ((λ p. on_way_named ps h 0 x w h.some (e.0 p)), (λ o. e.1 (on_way_unnamed ps h 0 x w h.some l lw o)))

  -- the depth counts the stations on the way from the root
  pub depth_counts : (xs : List Label) → Way (Leg ps) (root_label ps) xs (station_label ps x) → depth_of ps x ≡ length xs + 1
  depth_counts xs w =
      let f = way_unnamed ps h 0 x xs h.some l w in
      omega (arith, way_depth (rooted ps h) 0 x f.0 (root_above (rooted ps h) x l) f.1.0, length_named (station_label ps) f.0, ap length f.1.1, h.top)
