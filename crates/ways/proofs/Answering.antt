-- What an answer by indices says of labels.
use Rattle.std.proofs.Common.{◌≡◌, ℕ, ◌-◌, ◌<◌, ◌≤◌, false, eqb, List, ◌∷◌, map, length, take, drop, Some, None, Decides, Option, sym, refl, ap, ◌∙◌, subst, ⊎_elim, arith}
use Rattle.std.proofs.lemmas.Bool.{cases_lt, eqb-true, eq-eqb}
use Rattle.label.specs.declared.label.Label.{Label}
use Rattle.tree.specs.declared.Station.{Station}
use Rattle.tree.specs.Trees.{climb, AboveAt, MeetAt}
use Rattle.tree.specs.Ways.{Way}
use Rattle.tree.specs.Stations.{Canonical, station_label, parent_of, depth_of, rooted}
use Rattle.tree.specs.Caves.{Holds, Leg, root_label, Root, Above, Depth, Deepest, AtDepth}
use Rattle.tree.specs.Courses.{course_from}
use Rattle.tree.specs.Index.{Found}
use Rattle.tree.specs.Walks.{walk_from, walk_labels, first_place}
use Rattle.tree.specs.WalkLaws.{FirstPlace}
use Rattle.tree.proofs.Climbs.{depth_pos}
use Rattle.tree.proofs.Courses.{course_way}
use Rattle.tree.proofs.Meaning.{root_is, above_held, above_is, depth_is, deepest_is, at_depth_is}
use Rattle.tree.proofs.Walking.{first_place_lem}
use Rattle.ways.specs.Calls.{WayTold, CountsAs}

-- station i has the label a
abbrev pub At : List Station → Label → ℕ → Type 0
At ps a i = (i < length ps) × (station_label ps i ≡ a)

module _ (ps : List Station) (h : Canonical ps) where
  pub told_root : (l : Label) → l ≡ station_label ps 0 → Root ps l
  told_root l e = subst (λ (z : Label). Root ps z) (sym e) (root_is ps h)

  pub depth_some : (u d : ℕ) → u < length ps → d ≡ depth_of ps u → 0 < d
  depth_some u d l e = omega (arith, depth_pos (rooted ps h) u l)

  pub told_depth : (a : Label) (i d : ℕ) → At ps a i → d ≡ depth_of ps i → Depth ps a d
  told_depth a i d f e = subst (Depth ps a) (sym e) (subst (λ (z : Label). Depth ps z (depth_of ps i)) f.1 (depth_is ps h i f.0))

  pub told_above : (a b : Label) (u v s d : ℕ) → At ps a u → At ps b v → d ≡ depth_of ps u → s ≡ climb (parent_of ps) (depth_of ps v - d) v → Decides (eqb s u) (Above ps a b)
  told_above a b u v s d fu fv level value =
      let e : s ≡ climb (parent_of ps) (depth_of ps v - depth_of ps u) v = value ∙ ap (λ (k : ℕ). climb (parent_of ps) (depth_of ps v - k) v) level in
      let here : Above ps a b → AboveAt (parent_of ps) (depth_of ps) u v = λ o.
      (above_is ps h u v fu.0 fv.0).1 (subst (λ (z : Label). Above ps z (station_label ps v)) (sym fu.1) (subst (λ (z : Label). Above ps a z) (sym fv.1) o)) in (
        (λ t.
            let same : s ≡ u = eqb-true s u t in
            let deep : depth_of ps u ≤ depth_of ps v =
            ⊎_elim
            (λ (lt : depth_of ps v < depth_of ps u).
            let z : depth_of ps v - depth_of ps u ≡ 0 = omega arith in
            let at : u ≡ v = sym same ∙ e ∙ ap (λ (k : ℕ). climb (parent_of ps) k v) z in
            omega (arith, ap (depth_of ps) at))
            (λ (le : depth_of ps u ≤ depth_of ps v). le)
            (cases_lt (depth_of ps v) (depth_of ps u)) in
            subst (λ (z : Label). Above ps z b) fu.1 (subst (λ (z : Label). Above ps (station_label ps u) z) fv.1 ((above_is ps h u v fu.0 fv.0).0 (deep, sym e ∙ same)))),
        (λ o. eq-eqb s u (e ∙ (here o).1)),
      )

  pub told_not_above : (a b : Label) → (Holds ps a → Holds ps b → ⊥) → Decides false (Above ps a b)
  told_not_above a b f = ((λ t. cc), (λ o. let k = above_held ps h a b o in absurd (f k.0 k.1)))

  pub told_deepest : (a b l : Label) (u v m : ℕ) → At ps a u → At ps b v → MeetAt (length ps) (parent_of ps) (depth_of ps) m u v → l ≡ station_label ps m → Deepest ps l a b
  told_deepest a b l u v m fu fv t e =
      subst (λ (z : Label). Deepest ps z a b) (sym e)
      (subst (λ (z : Label). Deepest ps (station_label ps m) z b) fu.1 (subst (λ (z : Label). Deepest ps (station_label ps m) (station_label ps u) z) fv.1 (deepest_is ps h m u v fu.0 fv.0 t)))

  pub told_at_depth : (a l : Label) (v s k : ℕ) → At ps a v → 0 < k → s ≡ climb (parent_of ps) (depth_of ps v - k) v → l ≡ station_label ps s → AtDepth ps a k l
  told_at_depth a l v s k f pos e el =
      subst (λ (z : Label). AtDepth ps a k z) (sym (el ∙ ap (station_label ps) e)) (subst (λ (z : Label). AtDepth ps z k (station_label ps (climb (parent_of ps) (depth_of ps v - k) v))) f.1 (at_depth_is ps h v k f.0 pos))

  pub told_way : (a b : Label) (before after : List Label) (u v n : ℕ) → At ps a u → At ps b v → take n after ≡ map (station_label ps) (course_from ps u v) → drop n after ≡ drop n before → n ≤ 1024 → WayTold ps a b before after (Some n)
  told_way a b before after u v n fu fv w d le =
      let t = course_way ps h u v fu.0 fv.0 in
      record {
        written = λ m e. let same : n ≡ m = cc in subst (λ (k : ℕ). (xs : List Label) × ((take k after ≡ a ∷ xs) × Way (Leg ps) a xs b)) same
            (t.0, (w ∙ t.1.0 ∙ ap (λ (z : Label). z ∷ t.0) fu.1, subst (λ (z : Label). Way (Leg ps) z t.0 b) fu.1 (subst (λ (z : Label). Way (Leg ps) (station_label ps u) t.0 z) fv.1 t.1.1)));
        behind = λ m e. let same : n ≡ m = cc in subst (λ (k : ℕ). drop k after ≡ drop k before) same d;
        within = λ m e. let same : n ≡ m = cc in omega arith;
        lacking = λ e. cc;
        untouched = λ e. cc;
      }

  pub told_place : (a : Label) (o : Option ℕ) (i r : ℕ) → Found ps a o → ((j : ℕ) → o ≡ Some j → i ≡ j) → (o ≡ None → i ≡ 0) → r ≡ first_place i (walk_from ps 0) → (b : Label) → CountsAs ps a b → FirstPlace (walk_labels ps) b r
  told_place a (Some j) i r f some none e b counts =
      let same : i ≡ j = some j refl in
      ⊎_elim
      (λ (k : Holds ps a × (b ≡ a)).
      subst (λ (z : ℕ). FirstPlace (walk_labels ps) b z) (sym (e ∙ ap (λ (z : ℕ). first_place z (walk_from ps 0)) same))
      (subst (λ (z : Label). FirstPlace (walk_labels ps) z (first_place j (walk_from ps 0))) (f.1 ∙ sym k.1) (first_place_lem ps h j f.0)))
      (λ (k : (Holds ps a → ⊥) × (b ≡ root_label ps)). absurd (k.0 (j, f)))
      counts
  told_place a None i r f some none e b counts =
      ⊎_elim
      (λ (k : Holds ps a × (b ≡ a)). absurd (f k.0))
      (λ (k : (Holds ps a → ⊥) × (b ≡ root_label ps)).
      subst (λ (z : ℕ). FirstPlace (walk_labels ps) b z) (sym (e ∙ ap (λ (z : ℕ). first_place z (walk_from ps 0)) (none refl)))
      (subst (λ (z : Label). FirstPlace (walk_labels ps) z (first_place 0 (walk_from ps 0))) (sym k.1) (first_place_lem ps h 0 h.some)))
      counts
