-- One turn of the walk over the branches of a station.
use Rattle.std.proofs.Common.{◌≡◌, ℕ, zero, suc, ◌+◌, ◌-◌, ◌*◌, ◌<◌, ◌≤◌, eqb, List, [], ◌∷◌, ◌++◌, length, take, set, filter, refl, ap, ◌∙◌, append_assoc, arith, length-append}
use Rattle.std.specs.List.{range_with_len, flat_map}
use Rattle.std.proofs.lemmas.Bool.{eq-eqb, ne_eqb}
use Rattle.std.proofs.lemmas.List.{take_more_set}
use Rattle.std.specs.List.{AllByRecursion}
use Rattle.label.proofs.Elements.{AllByRecursion-weaker}
use Rattle.tree.specs.declared.Station.{Station}
use Rattle.tree.specs.Stations.{parent_of, depth_of, Canonical, rooted}
use Rattle.tree.specs.Walks.{branches, walk_of, walk_from, tour_from}
use Rattle.tree.proofs.Entries.{branch_of}
use Rattle.tree.proofs.Sizes.{below, below_falls, below_some, shallow}

-- what the branches from j on still give
unfoldable pub tour_left : List Station → ℕ → ℕ → List ℕ
tour_left ps i j = flat_map (λ k. walk_from ps k ++ i ∷ []) (filter (λ k. eqb (parent_of ps k) i) (range_with_len j (length ps - j)))

joined_none : (g : ℕ → List ℕ) (js : List ℕ) → AllByRecursion (λ j. ⊥) js → [] ≡ flat_map g js
joined_none g [] a = refl
joined_none g (j ∷ js) a = absurd a.0

joined_same : (g h : ℕ → List ℕ) (js : List ℕ) → AllByRecursion (λ j. g j ≡ h j) js → flat_map g js ≡ flat_map h js
joined_same g h [] a = refl
joined_same g h (j ∷ js) a = let e = a.0 in let m = joined_same g h js a.1 in cc

module _ (ps : List Station) (lawful : Canonical ps) where
  -- the walk does not depend on the bound of its levels
  pub walk_step : (i : ℕ) → i < length ps → walk_from ps i ≡ i ∷ tour_from ps i
  unfolding walk_from tour_from
  walk_step i l = go (length ps - depth_of ps i) refl
    where
      go : (f : ℕ) → length ps - depth_of ps i ≡ f → walk_of (length ps) (parent_of ps) f i ≡ i ∷ flat_map (λ j. walk_of (length ps) (parent_of ps) (length ps - depth_of ps j) j ++ i ∷ []) (branches (length ps) (parent_of ps) i)
      go zero e = ap (λ (xs : List ℕ). i ∷ xs) (joined_none _ (branches (length ps) (parent_of ps) i)
          (AllByRecursion-weaker (λ j. (0 < j) × (j < length ps) × (parent_of ps j ≡ i)) (λ j. ⊥) (λ j h. omega (arith, (rooted ps lawful).deeper j h.0 h.1, shallow (rooted ps lawful) j h.1, ap (depth_of ps) h.2)) _ (branch_of (rooted ps lawful) i)))
      go (suc f) e = ap (λ (xs : List ℕ). i ∷ xs) (joined_same _ _ (branches (length ps) (parent_of ps) i)
          (AllByRecursion-weaker (λ j. (0 < j) × (j < length ps) × (parent_of ps j ≡ i)) (λ j. walk_of (length ps) (parent_of ps) f j ++ i ∷ [] ≡ walk_of (length ps) (parent_of ps) (length ps - depth_of ps j) j ++ i ∷ [])
          (λ j h. let s : f ≡ length ps - depth_of ps j = omega (arith, (rooted ps lawful).deeper j h.0 h.1, ap (depth_of ps) h.2) in ap (λ (k : ℕ). walk_of (length ps) (parent_of ps) k j ++ i ∷ []) s) _ (branch_of (rooted ps lawful) i)))

  pub walk_length : (i : ℕ) → i < length ps → length (walk_from ps i) ≡ 1 + length (tour_from ps i)
  walk_length i l = let e = ap length (walk_step i l) in omega arith

  pub level_falls : (at j t : ℕ) → at < length ps → 0 < j → j < length ps → parent_of ps j ≡ at → 2 * below (length ps) (parent_of ps) (depth_of ps) at - 1 ≡ t → 2 * below (length ps) (parent_of ps) (depth_of ps) j < t
  level_falls at j t k h l u e = omega (arith, below_falls (rooted ps lawful) at j k h l u)

  pub level_same : (at t : ℕ) → at < length ps → 2 * below (length ps) (parent_of ps) (depth_of ps) at ≡ t → 2 * below (length ps) (parent_of ps) (depth_of ps) at - 1 < t
  level_same at t k e = omega (arith, below_some (rooted ps lawful) at k)

pub tour_start : (ps : List Station) (i : ℕ) → tour_left ps i 1 ≡ tour_from ps i
unfolding tour_left tour_from
tour_start ps i = refl

pub tour_yes : (ps : List Station) (i j : ℕ) → j < length ps → parent_of ps j ≡ i → tour_left ps i j ≡ (walk_from ps j ++ i ∷ []) ++ tour_left ps i (j + 1)
unfolding tour_left
tour_yes ps i j l u =
    let s : length ps - j ≡ suc (length ps - (j + 1)) = omega arith in
    let e = eq-eqb (parent_of ps j) i u in
    rw (s, e)

pub tour_no : (ps : List Station) (i j : ℕ) → j < length ps → (parent_of ps j ≡ i → ⊥) → tour_left ps i j ≡ tour_left ps i (j + 1)
unfolding tour_left
tour_no ps i j l u =
    let s : length ps - j ≡ suc (length ps - (j + 1)) = omega arith in
    let e = ne_eqb (parent_of ps j) i u in
    rw (s, e)

pub tour_end : (ps : List Station) (i j : ℕ) → length ps ≤ j → tour_left ps i j ≡ []
unfolding tour_left
tour_end ps i j l = let s : length ps - j ≡ 0 = omega arith in rw s

pub tour_length : (ps : List Station) (i j : ℕ) → j < length ps → parent_of ps j ≡ i → length (tour_left ps i j) ≡ length (walk_from ps j) + 1 + length (tour_left ps i (j + 1))
tour_length ps i j l u = ap length (tour_yes ps i j l u) ∙ simp length-append

-- the walk of a branch and the station again are written
pub turn : (w left all out out' : List ℕ) (fill end i : ℕ) → end < length out' → take end out' ≡ take fill out ++ w → take fill out ++ ((w ++ i ∷ []) ++ left) ≡ all → take (end + 1) (set out' end i) ++ left ≡ all
turn w left all out out' fill end i l written inv =
    let more = take_more_set out' end i l in
    rw (more, written) (simp append_assoc (simp append_assoc at inv))
