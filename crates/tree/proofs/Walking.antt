-- The laws of the walk, in labels and legs.
use Rattle.std.proofs.Common.{◌≡◌, ℕ, zero, suc, ◌+◌, ◌-◌, ◌*◌, ◌<◌, ◌≤◌, List, [], ◌∷◌, map, length, get_or, sym, refl, ap, ◌∙◌, subst, inl, inr, arith}
use lib.ListN.{length-map}
use Rattle.std.proofs.lemmas.List.{get_or-map}
use Rattle.label.proofs.Elements.{AllByRecursion-get_or}
use Rattle.label.specs.declared.label.Label.{Label}
use Rattle.label.specs.Labels.{zero_label}
use Rattle.tree.specs.declared.Station.{Station}
use Rattle.tree.specs.Records.{label_at}
use Rattle.tree.specs.Trees.{AboveAt}
use Rattle.tree.specs.Ways.{On}
use Rattle.tree.specs.Stations.{station_label, parent_of, depth_of, Canonical, rooted}
use Rattle.tree.specs.Caves.{Leg, Above}
use Rattle.tree.specs.Walks.{walk_of, walk_from, walk_labels, first_place}
use Rattle.tree.specs.WalkLaws.{WalkLaws, FirstPlace}
use Rattle.tree.proofs.Entries.{walk_below, walk_convex, walk_legs}
use Rattle.tree.proofs.Firsts.{walk_has_all}
use Rattle.tree.proofs.Listed.{walk_listed}
use Rattle.tree.proofs.Meaning.{above_held, above_is}
use Rattle.tree.proofs.Named.{one_label}
use Rattle.tree.proofs.Sizes.{walk_size, below_root}

on_at : {X : Type 0} (d a : X) (xs : List X) (k : ℕ) → k < length xs → get_or xs k d ≡ a → On a xs
on_at d a [] k l e = absurd (omega arith)
on_at d a (x ∷ xs) zero l e = inl e
on_at d a (x ∷ xs) (suc k) l e = inr (on_at d a xs k (omega arith) e)

module _ (ps : List Station) (h : Canonical ps) where
  ws : List ℕ
  ws = walk_from ps 0

  pub walk_long : length (walk_from ps 0) + 1 ≡ 2 * length ps
  unfolding walk_from
  walk_long = let r = rooted ps h in walk_size r (length ps - depth_of ps 0) 0 h.some (omega (arith, h.top)) ∙ ap (λ (k : ℕ). 2 * k) (below_root r)

  -- the entries are stations of the plan
  pub entry_inside : (k : ℕ) → k < length (walk_from ps 0) → get_or (walk_from ps 0) k 0 < length ps
  unfolding walk_from
  entry_inside k l =
      (AllByRecursion-get_or (λ x. (x < length ps) × AboveAt (parent_of ps) (depth_of ps) 0 x) (walk_of (length ps) (parent_of ps) (length ps - depth_of ps 0) 0) k 0 l
      (walk_below (rooted ps h) (length ps - depth_of ps 0) 0 h.some)).0

  pub entry_label : (k : ℕ) → k < length (walk_from ps 0) → label_at (walk_labels ps) k ≡ station_label ps (get_or (walk_from ps 0) k 0)
  entry_label k l = get_or-map (station_label ps) (walk_from ps 0) k 0 zero_label l

  pub labels_long : length (walk_labels ps) ≡ length (walk_from ps 0)
  labels_long = length-map (walk_from ps 0) (station_label ps)

  legs : (k : ℕ) → k + 1 < length (walk_from ps 0) → Leg ps (station_label ps (get_or (walk_from ps 0) k 0)) (station_label ps (get_or (walk_from ps 0) (k + 1) 0))
  unfolding walk_from
  legs k l = (_, _, refl, refl, walk_legs (rooted ps h) (length ps - depth_of ps 0) 0 k l)

  convex : (w i k j : ℕ) → i ≤ k → k ≤ j → j < length (walk_from ps 0) → AboveAt (parent_of ps) (depth_of ps) w (get_or (walk_from ps 0) i 0) → AboveAt (parent_of ps) (depth_of ps) w (get_or (walk_from ps 0) j 0) → AboveAt (parent_of ps) (depth_of ps) w (get_or (walk_from ps 0) k 0)
  unfolding walk_from
  convex w i k j = walk_convex (rooted ps h) w (length ps - depth_of ps 0) 0 h.some i k j

  stretch : (w : Label) (i k j : ℕ) → i ≤ k → k ≤ j → j < length (walk_from ps 0) → Above ps w (station_label ps (get_or (walk_from ps 0) i 0)) → Above ps w (station_label ps (get_or (walk_from ps 0) j 0)) → Above ps w (station_label ps (get_or (walk_from ps 0) k 0))
  stretch w i k j a b l p q =
      let t = (above_held ps h w (station_label ps (get_or (walk_from ps 0) i 0)) p).0 in
      let e = t.1.1 in
      let at : (m : ℕ) → m < length (walk_from ps 0) → Above ps w (station_label ps (get_or (walk_from ps 0) m 0)) → AboveAt (parent_of ps) (depth_of ps) t.0 (get_or (walk_from ps 0) m 0) =
      λ m lm o. (above_is ps h t.0 (get_or (walk_from ps 0) m 0) t.1.0 (entry_inside m lm)).1 (subst (λ (z : Label). Above ps z (station_label ps (get_or (walk_from ps 0) m 0))) (sym e) o) in
      subst (λ (z : Label). Above ps z (station_label ps (get_or (walk_from ps 0) k 0))) e
      ((above_is ps h t.0 (get_or (walk_from ps 0) k 0) t.1.0 (entry_inside k (omega arith))).0 (convex t.0 i k j a b l (at i (omega arith) p) (at j l q)))

  pub walk_laws : WalkLaws ps (walk_labels ps)
  walk_laws =
      let n = labels_long in
      record {
        long = omega (arith, walk_long);
        all = λ a k.
            let f = walk_has_all ps h k.0 k.1.0 in
            on_at zero_label a (walk_labels ps) (first_place k.0 (walk_from ps 0) - 1) (omega (arith, f.0, f.1))
            (entry_label (first_place k.0 (walk_from ps 0) - 1) (omega (arith, f.0, f.1)) ∙ ap (station_label ps) f.2 ∙ k.1.1);
        only = λ k l. (get_or (walk_from ps 0) k 0, (entry_inside k (omega arith), sym (entry_label k (omega arith))));
        legs = λ k l. subst (λ (z : Label). Leg ps z (label_at (walk_labels ps) (k + 1))) (sym (entry_label k (omega arith))) (subst (λ (z : Label). Leg ps (station_label ps (get_or (walk_from ps 0) k 0)) z) (sym (entry_label (k + 1) (omega arith))) (legs k (omega arith)));
        stretch = λ w i k j a b l p q.
            subst (Above ps w) (sym (entry_label k (omega arith)))
            (stretch w i k j a b (omega arith) (subst (Above ps w) (entry_label i (omega arith)) p) (subst (Above ps w) (entry_label j (omega arith)) q));
        listed = ap (map (station_label ps)) (sym (walk_listed ps h));
      }

  -- the first place of a station is that of its label
  pub first_place_lem : (x : ℕ) → x < length ps → FirstPlace (walk_labels ps) (station_label ps x) (first_place x (walk_from ps 0))
  first_place_lem x l =
      let f = walk_has_all ps h x l in
      let n = labels_long in
      record {
        some = f.0;
        most = omega (arith, f.1);
        here = entry_label (first_place x (walk_from ps 0) - 1) (omega (arith, f.0, f.1)) ∙ ap (station_label ps) f.2;
        first = λ k lt e.
            let lk : k < length (walk_from ps 0) = omega (arith, f.1) in
            f.3 k lt (one_label ps h (get_or (walk_from ps 0) k 0) x (entry_inside k lk) l (sym (entry_label k lk) ∙ e));
      }
