-- The walk by indices, and what its entries and places say of labels.
use Rattle.std.proofs.Common.{◌≡◌, ℕ, ◌+◌, ◌-◌, ◌*◌, ◌<◌, ◌≤◌, ◌⊎◌, List, [], length, get_or, take, Some, None, Option, MatchOption, unwrap_or, sym, refl, ap, ◌∙◌, subst, inl, inr, ⊎_elim, arith, take_all}
use Rattle.std.specs.List.{HoldsAt, AllWithin}
use Rattle.std.proofs.lemmas.Bool.{cases_lt}
use Rattle.std.proofs.lemmas.List.{get_or-take, get_or-map, get_or_past}
use Rattle.label.specs.declared.label.Label.{Label}
use Rattle.tree.specs.declared.Station.{Station}
use Rattle.tree.specs.Stations.{Canonical, station_label}
use Rattle.tree.specs.Caves.{root_label}
use Rattle.tree.specs.Index.{Found}
use Rattle.tree.specs.Walks.{walk_from, walk_labels, first_place}
use Rattle.tree.specs.WalkLaws.{WalkLaws}
use Rattle.tree.proofs.Firsts.{walk_has_all}
use Rattle.tree.proofs.Turns.{walk_step}
use Rattle.tree.proofs.Walking.{walk_long, walk_laws, entry_inside, labels_long}
use Rattle.ways.specs.Calls.{Placed, entry_at}
use Rattle.ways.proofs.Answering.{told_place}

module _ (ps : List Station) (h : Canonical ps) where
  pub walk_begins : (0 < length (walk_from ps 0)) × (get_or (walk_from ps 0) 0 0 ≡ 0)
  walk_begins = let e = walk_step ps h 0 h.some in (omega (arith, ap length e), ap (λ (ys : List ℕ). get_or ys 0 0) e)

  pub walk_fits : (xs : List ℕ) → xs ≡ [] → length xs + length (walk_from ps 0) ≤ 2047
  walk_fits xs e = omega (arith, ap length e, walk_long ps h, h.few)

  pub walk_inside : (xs : List ℕ) → xs ≡ walk_from ps 0 → (k : ℕ) → k < length xs → get_or xs k 0 < length ps
  walk_inside xs e k l = subst (λ (ys : List ℕ). k < length ys → get_or ys k 0 < length ps) (sym e) (entry_inside ps h k) l

  pub walk_told : (ws : List Label) → ws ≡ walk_labels ps → WalkLaws ps ws
  walk_told ws e = subst (WalkLaws ps) (sym e) (walk_laws ps h)

  pub walk_counted : (xs : List ℕ) (n : ℕ) → xs ≡ walk_from ps 0 → n ≡ length xs → n + 1 ≡ 2 * length ps
  walk_counted xs n e count = omega (arith, count, ap length e, walk_long ps h)

  -- a search of the walk finds the first place of a station
  pub first_found : (i r : ℕ) (xs : List ℕ) (o : Option ℕ) → i < length ps → xs ≡ walk_from ps 0
      → MatchOption o (AllWithin (λ x. x ≡ i → ⊥) xs 0 (length xs)) (λ k. (k < length xs) × HoldsAt (λ x. x ≡ i) xs k × AllWithin (λ x. x ≡ i → ⊥) xs 0 k)
      → MatchOption o (r ≡ 1) (λ k. r ≡ k + 1) → r ≡ first_place i xs
  first_found i r xs (Some k) l e found is =
      let f = walk_has_all ps h i l in
      let at : get_or xs (first_place i xs - 1) 0 ≡ i = ap (λ (ys : List ℕ). get_or ys (first_place i ys - 1) 0) e ∙ f.2 in
      let some : 1 ≤ first_place i xs = omega (arith, f.0, ap (first_place i) e) in
      ⊎_elim
      (λ (lt : first_place i xs - 1 < k). absurd (found.2 (first_place i xs - 1) 0 (omega arith) lt at))
      (λ (le : k ≤ first_place i xs - 1).
      ⊎_elim
      (λ (lt : k < first_place i xs - 1). absurd (f.3 k (omega (arith, ap (first_place i) e)) (sym (ap (λ (ys : List ℕ). get_or ys k 0) e) ∙ found.1 0)))
      (λ (ge : first_place i xs - 1 ≤ k). omega arith)
      (cases_lt k (first_place i xs - 1)))
      (cases_lt (first_place i xs - 1) k)
  first_found i r xs None l e none is =
      let f = walk_has_all ps h i l in
      let at : get_or xs (first_place i xs - 1) 0 ≡ i = ap (λ (ys : List ℕ). get_or ys (first_place i ys - 1) 0) e ∙ f.2 in
      absurd (none (first_place i xs - 1) 0 (omega arith) (omega (arith, f.0, f.1, ap (first_place i) e, ap length e)) at)

  -- the station that stands for a label is one of the plan
  pub found_inside : (a : Label) (o : Option ℕ) (i : ℕ) → Found ps a o → i ≡ unwrap_or o 0 → i < length ps
  found_inside a (Some j) i f e = omega (arith, f.0)
  found_inside a None i f e = omega (arith, h.some)

  pub place_told : (a : Label) (o : Option ℕ) (i r : ℕ) (xs : List ℕ) → Found ps a o → i ≡ unwrap_or o 0 → xs ≡ walk_from ps 0 → r ≡ first_place i xs → Placed ps a r
  place_told a o i r xs f e w p =
      record { first = told_place ps h a o i r f (λ j q. e ∙ ap (λ (z : Option ℕ). unwrap_or z 0) q) (λ q. e ∙ ap (λ (z : Option ℕ). unwrap_or z 0) q) (p ∙ ap (first_place i) w) }

  module _ (out : List ℕ) (n place : ℕ) (long : n ≡ length (walk_from ps 0)) (written : take n out ≡ walk_from ps 0) where
    pub entry_read : (place ≡ 0 → ⊥) × (place ≤ n) → get_or out (place - 1) 0 ≡ get_or (walk_from ps 0) (place - 1) 0
    entry_read b = sym (get_or-take n out (place - 1) 0 (omega arith)) ∙ ap (λ (ys : List ℕ). get_or ys (place - 1) 0) written

    pub entry_in : (place ≡ 0 → ⊥) × (place ≤ n) → get_or out (place - 1) 0 < length ps
    entry_in b = omega (arith, entry_read b, entry_inside ps h (place - 1) (omega arith))

    pub entry-there : (l : Label) → (place ≡ 0 → ⊥) × (place ≤ n) → l ≡ station_label ps (get_or out (place - 1) 0) → l ≡ entry_at ps place
    entry-there l b e = e ∙ ap (station_label ps) (entry_read b) ∙ sym (get_or-map (station_label ps) (walk_from ps 0) (place - 1) 0 (root_label ps) (omega arith))

    pub entry_past : (l : Label) → (place ≡ 0) ⊎ ((place ≡ 0 → ⊥) × (n < place)) → l ≡ station_label ps 0 → l ≡ entry_at ps place
    entry_past l b e =
        e ∙ ⊎_elim
        (λ (z : place ≡ 0).
        sym (ap (λ (k : ℕ). get_or (walk_labels ps) (k - 1) (root_label ps)) z ∙ get_or-map (station_label ps) (walk_from ps 0) 0 0 (root_label ps) walk_begins.0 ∙ ap (station_label ps) walk_begins.1))
        (λ (p : (place ≡ 0 → ⊥) × (n < place)). sym (get_or_past (walk_labels ps) (place - 1) (root_label ps) (omega (arith, labels_long ps h))))
        b

  -- the root is the entry at place 0, which the walk lacks
  pub no_entry : (place : ℕ) (l : Label) → place ≡ 0 → l ≡ root_label ps → l ≡ entry_at ps place
  no_entry place l none is = entry_past (walk_from ps 0) (length (walk_from ps 0)) place refl (take_all (length (walk_from ps 0)) (walk_from ps 0) (omega arith)) l (inl none) is

  -- the entry that is read at an index of the walk; past its end that is the root
  module _ (xs : List ℕ) (place index i : ℕ) (e : xs ≡ walk_from ps 0) (next : place ≡ index + 1) (read : i ≡ get_or xs index 0) where
    whole : take (length xs) xs ≡ walk_from ps 0
    whole = take_all (length xs) xs (omega arith) ∙ e

    read_there : i ≡ get_or xs (place - 1) 0
    read_there = let k : index ≡ place - 1 = omega arith in read ∙ ap (λ (j : ℕ). get_or xs j 0) k

    pub entry_known : i < length ps
    entry_known =
        ⊎_elim
        (λ (lt : index < length xs). omega (arith, read_there, entry_in xs (length xs) place (ap length e) whole ((λ z. omega arith), omega arith)))
        (λ (le : length xs ≤ index). omega (arith, read, get_or_past xs index 0 le, h.some))
        (cases_lt index (length xs))

    pub entry_told : (l : Label) → l ≡ station_label ps i → l ≡ entry_at ps place
    entry_told l is =
        ⊎_elim
        (λ (lt : index < length xs). entry-there xs (length xs) place (ap length e) whole l ((λ z. omega arith), omega arith) (is ∙ ap (station_label ps) read_there))
        (λ (le : length xs ≤ index). entry_past xs (length xs) place (ap length e) whole l (inr ((λ z. omega arith), omega arith)) (is ∙ ap (station_label ps) (read ∙ get_or_past xs index 0 le)))
        (cases_lt index (length xs))
