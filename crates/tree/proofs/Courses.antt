-- The course from one station to another is the way between them, and has at most as many stations as the plan.
use Rattle.std.proofs.Common.{◌≡◌, ℕ, zero, suc, ◌+◌, ◌-◌, ◌<◌, ◌≤◌, List, [], ◌∷◌, ◌++◌, map, length, get_or, sym, refl, ap, ◌∙◌, subst, inl, inr, arith}
use Rattle.std.specs.List.{AllByRecursion}
use Rattle.label.proofs.Elements.{AllByRecursion-get_or}
use Rattle.label.specs.declared.label.Label.{Label}
use Rattle.tree.specs.declared.Station.{Station}
use Rattle.tree.specs.Ways.{On, Apart, Way}
use Rattle.tree.specs.Stations.{station_label, parent_of, depth_of, Canonical, rooted}
use Rattle.tree.specs.Caves.{Leg}
use Rattle.tree.specs.Courses.{course_of, course_from}
use Rattle.tree.proofs.Climbs.{above_level, depth_pos, not_root, off_root}
use Rattle.tree.proofs.Named.{goes_inside, way_named}
use Rattle.tree.proofs.Pigeons.{at_most}
use Rattle.tree.proofs.Ways.{course_end, course_right, course_left, course_is}

-- one step of the course, with the depths for its bound
module _ (ps : List Station) (h : Canonical ps) (a b : ℕ) (la : a < length ps) (lb : b < length ps) where
  pub course_met : a ≡ b → course_from ps a b ≡ a ∷ []
  unfolding course_from
  course_met e =
      let pos = depth_pos (rooted ps h) a la in
      let s : depth_of ps a + depth_of ps b ≡ suc (depth_of ps a + depth_of ps b - 1) = omega arith in
      ap (λ (f : ℕ). course_of (parent_of ps) (depth_of ps) f a b) s ∙ course_end (parent_of ps) (depth_of ps) (depth_of ps a + depth_of ps b - 1) a b e

  pub course_from_right : (a ≡ b → ⊥) → depth_of ps a < depth_of ps b → (course_from ps a b ≡ course_from ps a (parent_of ps b) ++ b ∷ []) × (depth_of ps (parent_of ps b) + 1 ≡ depth_of ps b)
  unfolding course_from
  course_from_right ne lt =
      let r = rooted ps h in
      let pos = depth_pos r a la in
      let d = r.deeper b (not_root r b (omega arith)) lb in
      let s : depth_of ps a + depth_of ps b ≡ suc (depth_of ps a + depth_of ps (parent_of ps b)) = omega arith in
      (ap (λ (f : ℕ). course_of (parent_of ps) (depth_of ps) f a b) s ∙ course_right (parent_of ps) (depth_of ps) (depth_of ps a + depth_of ps (parent_of ps b)) a b ne lt, sym d)

  pub course_from-left : (a ≡ b → ⊥) → depth_of ps b ≤ depth_of ps a → (course_from ps a b ≡ a ∷ course_from ps (parent_of ps a) b) × (depth_of ps (parent_of ps a) + 1 ≡ depth_of ps a)
  unfolding course_from
  course_from-left ne le =
      let r = rooted ps h in
      let d = r.deeper a (off_root r a b lb (λ p. ne (above_level r a b p le))) la in
      let s : depth_of ps a + depth_of ps b ≡ suc (depth_of ps (parent_of ps a) + depth_of ps b) = omega arith in
      (ap (λ (f : ℕ). course_of (parent_of ps) (depth_of ps) f a b) s ∙ course_left (parent_of ps) (depth_of ps) (depth_of ps (parent_of ps a) + depth_of ps b) a b ne le, sym d)

-- a list with no station twice, all below n, has at most n
on_get_or : (xs : List ℕ) (k : ℕ) → k < length xs → On (get_or xs k 0) xs
on_get_or [] k l = absurd (omega arith)
on_get_or (x ∷ xs) zero l = inl refl
on_get_or (x ∷ xs) (suc k) l = inr (on_get_or xs k (omega arith))

apart_once : (xs : List ℕ) → Apart xs → (i j : ℕ) → i < length xs → j < length xs → get_or xs i 0 ≡ get_or xs j 0 → i ≡ j
apart_once [] a i j li lj e = absurd (omega arith)
apart_once (x ∷ xs) a zero zero li lj e = refl
apart_once (x ∷ xs) a zero (suc j) li lj e = absurd (a.0 (subst (λ (z : ℕ). On z xs) (sym e) (on_get_or xs j (omega arith))))
apart_once (x ∷ xs) a (suc i) zero li lj e = absurd (a.0 (subst (λ (z : ℕ). On z xs) e (on_get_or xs i (omega arith))))
apart_once (x ∷ xs) a (suc i) (suc j) li lj e = ap suc (apart_once xs a.1 i j (omega arith) (omega arith) e)

module _ (ps : List Station) (h : Canonical ps) (u v : ℕ) (lu : u < length ps) (lv : v < length ps) where
  -- the course names the way between the two labels
  pub course_way : (xs : List Label) × ((map (station_label ps) (course_from ps u v) ≡ station_label ps u ∷ xs) × Way (Leg ps) (station_label ps u) xs (station_label ps v))
  unfolding course_from
  course_way =
      let t = course_is (rooted ps h) (depth_of ps u + depth_of ps v) u v lu lv (omega arith) in
      (map (station_label ps) t.0.0, (ap (map (station_label ps)) t.1, way_named ps h u v t.0.0 lu t.0.1.0))

  pub course_short : length (course_from ps u v) ≤ length ps
  unfolding course_from
  course_short =
      let t = course_is (rooted ps h) (depth_of ps u + depth_of ps v) u v lu lv (omega arith) in
      let xs : List ℕ = u ∷ t.0.0 in
      let inn : AllByRecursion (λ x. x < length ps) (u ∷ t.0.0) = (lu, goes_inside (rooted ps h) u v t.0.0 t.0.1.0.0) in
      omega (arith, ap length t.1, at_most (length (u ∷ t.0.0)) (length ps) (λ k. get_or (u ∷ t.0.0) k 0) (λ k l. AllByRecursion-get_or (λ x. x < length ps) (u ∷ t.0.0) k 0 l inn) (apart_once (u ∷ t.0.0) t.0.1.0.1))
