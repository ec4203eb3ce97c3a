-- What an answer by indices means in labels and legs.
use Rattle.std.proofs.Common.{◌≡◌, ℕ, ◌-◌, ◌<◌, ◌≤◌, ◌↔◌, List, [], ◌∷◌, map, length, sym, refl, ap, ◌∙◌, subst, inl, inr, ⊎_elim, arith}
use Rattle.std.proofs.lemmas.Bool.{cases_lt, cases_eq}
use Rattle.label.specs.declared.label.Label.{Label}
use Rattle.label.specs.Orders.{key_of}
use Rattle.label.proofs.Keys.{keys_follow}
use Rattle.tree.specs.declared.Station.{Station}
use Rattle.tree.specs.Trees.{climb, AboveAt, MeetAt}
use Rattle.tree.specs.Ways.{On, Goes}
use Rattle.tree.specs.Stations.{station_label, parent_of, depth_of, Canonical, rooted}
use Rattle.tree.specs.Caves.{Holds, Leg, root_label, Root, Above, Depth, Height, Deepest, AtDepth}
use Rattle.tree.proofs.Climbs.{climb_above, climb_inside, climb_depth}
use Rattle.tree.proofs.Ways.{way_there}
use Rattle.tree.proofs.Named.{leg_inside, way_named, above_named, depth_counts}

module _ (ps : List Station) (h : Canonical ps) where
  next-held : (a b : Label) → Leg ps a b → Holds ps b
  next-held a b g = (g.1, ((leg_inside (rooted ps h) g.0 g.1 g.4).1, g.3))

  -- what is on a way from a station of the plan, and its end, are stations of the plan
  goes_held : (a b w : Label) (xs : List Label) → Holds ps a → Goes (Leg ps) a xs b → On w (a ∷ xs) → Holds ps w × Holds ps b
  goes_held a b w [] k g on = (⊎_elim (λ (e : a ≡ w). subst (Holds ps) e k) (λ (z : ⊥). absurd z) on, subst (Holds ps) g k)
  goes_held a b w (x ∷ xs) k g on =
      let kx = next-held a x g.0 in
      ⊎_elim
      (λ (e : a ≡ w). (subst (Holds ps) e k, (goes_held x b x xs kx g.1 (inl refl)).1))
      (λ (t : On w (x ∷ xs)). goes_held x b w xs kx g.1 t)
      on

  pub root_held : Holds ps (root_label ps)
  root_held = (0, (h.some, refl))

  pub above_held : (w x : Label) → Above ps w x → Holds ps w × Holds ps x
  above_held w x o = goes_held (root_label ps) x w o.0 root_held o.1.0.0 o.1.1

  pub depth_held : (x : Label) (d : ℕ) → Depth ps x d → Holds ps x
  depth_held x d t = (goes_held (root_label ps) x (root_label ps) t.0 root_held t.1.0.0 (inl refl)).1

  -- the root has the lowest label
  pub root_is : Root ps (root_label ps)
  root_is =
      record {
        there = root_held;
        lowest = λ a k. ⊎_elim
            (λ (e : k.0 ≡ 0). inl (sym k.1.1 ∙ ap (station_label ps) e))
            (λ (ne : k.0 ≡ 0 → ⊥). inr ((keys_follow.order (root_label ps) a).1 (subst (λ (z : Label). key_of (root_label ps) < key_of z) k.1.1 (h.ascending 0 k.0 (omega arith) k.1.0))))
            (cases_eq k.0 0);
      }

  pub above_is : (u v : ℕ) → u < length ps → v < length ps → AboveAt (parent_of ps) (depth_of ps) u v ↔ Above ps (station_label ps u) (station_label ps v)
  above_is u v lu lv = above_named ps h v lv u lu

  pub depth_is : (x : ℕ) → x < length ps → Depth ps (station_label ps x) (depth_of ps x)
  depth_is x l =
      let t = way_there (rooted ps h) 0 x h.some l in
      let w = way_named ps h 0 x t.0 h.some t.1 in
      (map (station_label ps) t.0, (w, depth_counts ps h x l (map (station_label ps) t.0) w))

  -- the depth of a label is one number
  pub depth_one : (x : ℕ) (d : ℕ) → x < length ps → Depth ps (station_label ps x) d → depth_of ps x ≡ d
  depth_one x d l t = depth_counts ps h x l t.0 t.1.0 ∙ sym t.1.1

  pub height_is : (x : ℕ) → x < length ps → ((k : ℕ) → k < length ps → depth_of ps k ≤ depth_of ps x) → Height ps (depth_of ps x)
  height_is x l most =
      record {
        some = (station_label ps x, depth_is x l);
        most = λ a d t.
            let k = depth_held a d t in
            omega (arith, most k.0 k.1.0, depth_one k.0 d k.1.0 (subst (λ (z : Label). Depth ps z d) (sym k.1.1) t));
      }

  pub deepest_is : (m u v : ℕ) → u < length ps → v < length ps → MeetAt (length ps) (parent_of ps) (depth_of ps) m u v → Deepest ps (station_label ps m) (station_label ps u) (station_label ps v)
  deepest_is m u v lu lv t = (
    (above_is m u t.0 lu).0 t.1,
    (above_is m v t.0 lv).0 t.2,
    λ w p q.
        let k = (above_held w (station_label ps u) p).0 in
        let e = k.1.1 in
        let p' = (above_is k.0 u k.1.0 lu).1 (subst (λ (z : Label). Above ps z (station_label ps u)) (sym e) p) in
        let q' = (above_is k.0 v k.1.0 lv).1 (subst (λ (z : Label). Above ps z (station_label ps v)) (sym e) q) in
        subst (λ (z : Label). Above ps z (station_label ps m)) e ((above_is k.0 m k.1.0 t.0).0 (t.3 k.0 p' q')),
  )

  -- the climb to depth k
  pub at_depth_is : (v k : ℕ) → v < length ps → 0 < k → AtDepth ps (station_label ps v) k (station_label ps (climb (parent_of ps) (depth_of ps v - k) v))
  at_depth_is v k l pos =
      let r = rooted ps h in
      let a : ℕ = climb (parent_of ps) (depth_of ps v - k) v in
      ⊎_elim
      (λ (short : depth_of ps v < k).
      let z : depth_of ps v - k ≡ 0 = omega arith in
      inr (ap (λ (m : ℕ). station_label ps (climb (parent_of ps) m v)) z, (depth_of ps v, (depth_is v l, short))))
      (λ (long : k ≤ depth_of ps v).
      let la = climb_inside r (depth_of ps v - k) v l in
      let d = climb_depth r (depth_of ps v - k) v l (omega arith) in
      let e : depth_of ps a ≡ k = omega arith in
      inl ((above_is a v la l).0 (climb_above r (depth_of ps v - k) v l (omega arith)), subst (Depth ps (station_label ps a)) e (depth_is a la)))
      (cases_lt (depth_of ps v) k)
