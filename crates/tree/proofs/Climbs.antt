-- The theory of a rooted tree, by climbing.
use Rattle.std.proofs.Common.{◌≡◌, ℕ, zero, suc, ◌+◌, ◌-◌, ◌<◌, ◌≤◌, ◌⊎◌, sym, ap, ◌∙◌, subst, inl, inr, ⊎_elim, arith}
use Rattle.std.proofs.lemmas.Bool.{cases_lt, cases_eq}
use Rattle.tree.specs.Trees.{Rooted, climb, AboveAt, UnderAt, LegAt, MeetAt}

pub climb_add : (up : ℕ → ℕ) (m k x : ℕ) → climb up (m + k) x ≡ climb up k (climb up m x)
climb_add up zero k x = let e : 0 + k ≡ k = omega arith in ap (λ (i : ℕ). climb up i x) e
climb_add up (suc m) k x = let e : suc m + k ≡ suc (m + k) = omega arith in ap (λ (i : ℕ). climb up i x) e ∙ climb_add up m k (up x)

module _ {n : ℕ} {up depth : ℕ → ℕ} (r : Rooted n up depth) where
  pub above_self : (x : ℕ) → AboveAt up depth x x
  above_self x = let z : depth x - depth x ≡ 0 = omega arith in (omega arith, ap (λ (k : ℕ). climb up k x) z)

  pub above_trans : (a b c : ℕ) → AboveAt up depth a b → AboveAt up depth b c → AboveAt up depth a c
  above_trans a b c p q =
      let split : depth c - depth a ≡ (depth c - depth b) + (depth b - depth a) = omega arith in
      (omega arith, ap (λ (k : ℕ). climb up k c) split ∙ climb_add up (depth c - depth b) (depth b - depth a) c ∙ ap (climb up (depth b - depth a)) q.1 ∙ p.1)

  pub above_up : (x : ℕ) → 0 < x → x < n → AboveAt up depth (up x) x
  above_up x h l =
      let d = r.deeper x h l in
      let one : depth x - depth (up x) ≡ 1 = omega arith in
      (omega arith, ap (λ (k : ℕ). climb up k x) one)

  -- the stations above x lie in one line
  pub above_line : (a b x : ℕ) → AboveAt up depth a x → AboveAt up depth b x → depth a ≤ depth b → AboveAt up depth a b
  above_line a b x p q h =
      let split : depth x - depth a ≡ (depth x - depth b) + (depth b - depth a) = omega arith in
      (h, sym (ap (climb up (depth b - depth a)) q.1) ∙ sym (climb_add up (depth x - depth b) (depth b - depth a) x) ∙ sym (ap (λ (k : ℕ). climb up k x) split) ∙ p.1)

  pub above_level : (a x : ℕ) → AboveAt up depth a x → depth x ≤ depth a → a ≡ x
  above_level a x p h = let z : depth x - depth a ≡ 0 = omega arith in sym p.1 ∙ ap (λ (k : ℕ). climb up k x) z

  -- what is above x and not above the station over it is x
  pub above_last : (w x : ℕ) → 0 < x → x < n → AboveAt up depth w x → (AboveAt up depth w (up x) → ⊥) → w ≡ x
  above_last w x h l p not-up =
      let d = r.deeper x h l in
      ⊎_elim
      (λ (lt : depth w < depth x).
      let s : depth x - depth w ≡ suc (depth (up x) - depth w) = omega arith in
      absurd (not-up (omega arith, sym (ap (λ (k : ℕ). climb up k x) s) ∙ p.1)))
      (λ (ge : depth x ≤ depth w). above_level w x p ge)
      (cases_lt (depth w) (depth x))

  pub above_either : (w x : ℕ) → AboveAt up depth w x ⊎ (AboveAt up depth w x → ⊥)
  above_either w x =
      ⊎_elim
      (λ (lt : depth x < depth w). inr (λ (p : AboveAt up depth w x). omega arith))
      (λ (le : depth w ≤ depth x). ⊎_elim (λ (e : climb up (depth x - depth w) x ≡ w). inl (le, e)) (λ (ne : climb up (depth x - depth w) x ≡ w → ⊥). inr (λ (p : AboveAt up depth w x). ne p.1)) (cases_eq (climb up (depth x - depth w) x) w))
      (cases_lt (depth x) (depth w))

  pub above_both : (a b : ℕ) → AboveAt up depth a b → AboveAt up depth b a → a ≡ b
  above_both a b p q = above_level a b p q.0

  pub above_cases : (a b x : ℕ) → AboveAt up depth a x → AboveAt up depth b x → AboveAt up depth a b ⊎ AboveAt up depth b a
  above_cases a b x p q =
      ⊎_elim
      (λ (lt : depth a < depth b). inl (above_line a b x p q (omega arith)))
      (λ (le : depth b ≤ depth a). inr (above_line b a x q p le))
      (cases_lt (depth a) (depth b))

  pub depth_pos : (x : ℕ) → x < n → 0 < depth x
  depth_pos x l = ⊎_elim (λ (e : x ≡ 0). omega (arith, ap depth e, r.top)) (λ (ne : x ≡ 0 → ⊥). omega (arith, r.deeper x (omega arith) l)) (cases_eq x 0)

  pub not_root : (x : ℕ) → 1 < depth x → 0 < x
  not_root x h = ⊎_elim (λ (e : x ≡ 0). omega (arith, ap depth e, r.top)) (λ (ne : x ≡ 0 → ⊥). omega arith) (cases_eq x 0)

  pub climb_inside : (k x : ℕ) → x < n → climb up k x < n
  climb_inside zero x l = l
  climb_inside (suc k) x l = climb_inside k (up x) (r.inside x l)

  pub climb_depth : (k x : ℕ) → x < n → k < depth x → depth (climb up k x) + k ≡ depth x
  climb_depth zero x l h = omega arith
  climb_depth (suc k) x l h =
      let d = r.deeper x (not_root x (omega arith)) l in
      let ih = climb_depth k (up x) (r.inside x l) (omega arith) in
      omega arith

  pub climb_above : (k x : ℕ) → x < n → k < depth x → AboveAt up depth (climb up k x) x
  climb_above k x l h =
      let d = climb_depth k x l h in
      let same : depth x - depth (climb up k x) ≡ k = omega arith in
      (omega arith, ap (λ (m : ℕ). climb up m x) same)

  pub above_inside : (w x : ℕ) → x < n → AboveAt up depth w x → w < n
  above_inside w x l p = subst (λ (z : ℕ). z < n) p.1 (climb_inside (depth x - depth w) x l)

  pub root_above : (x : ℕ) → x < n → AboveAt up depth 0 x
  root_above x l =
      let pos = depth_pos x l in
      let top = r.top in
      let y : ℕ = climb up (depth x - 1) x in
      let d = climb_depth (depth x - 1) x l (omega arith) in
      let inn = climb_inside (depth x - 1) x l in
      let s : depth x - depth 0 ≡ depth x - 1 = omega arith in
      let root : y ≡ 0 = ⊎_elim (λ (e : y ≡ 0). e) (λ (ne : y ≡ 0 → ⊥). let up_pos = depth_pos (up y) (r.inside y inn) in let dy = r.deeper y (omega arith) inn in absurd (omega arith)) (cases_eq y 0) in
      (omega arith, ap (λ (m : ℕ). climb up m x) s ∙ root)

  -- what is not the root's, and not above v, is below another station
  pub off_root : (u v : ℕ) → v < n → (AboveAt up depth u v → ⊥) → 0 < u
  off_root u v lv np = ⊎_elim (λ (e : u ≡ 0). absurd (np (subst (λ (z : ℕ). AboveAt up depth z v) (sym e) (root_above v lv)))) (λ (ne : u ≡ 0 → ⊥). omega arith) (cases_eq u 0)

  -- what is above x is x, or above the station over x
  pub above_over : (w x : ℕ) → 0 < x → x < n → AboveAt up depth w x → (w ≡ x) ⊎ AboveAt up depth w (up x)
  above_over w x h l p = ⊎_elim (λ (q : AboveAt up depth w (up x)). inr q) (λ (nq : AboveAt up depth w (up x) → ⊥). inl (above_last w x h l p nq)) (above_either w (up x))

  pub under_above : (x y : ℕ) → UnderAt n up x y → AboveAt up depth y x
  under_above x y u = subst (λ (z : ℕ). AboveAt up depth z x) u.2 (above_up x u.0 u.1)

  pub under_depth : (x y : ℕ) → UnderAt n up x y → depth x ≡ depth y + 1
  under_depth x y u = omega (arith, r.deeper x u.0 u.1, ap depth u.2)

  -- what is above x, one less deep, is one leg above it
  pub above_next : (a b : ℕ) → b < n → a < n → AboveAt up depth a b → depth b ≡ depth a + 1 → UnderAt n up b a
  above_next a b l la p e =
      let pos = depth_pos a la in
      let some : 0 < b = not_root b (omega arith) in
      let d = r.deeper b some l in
      ⊎_elim
      (λ (q : a ≡ b). absurd (omega (arith, ap depth q)))
      (λ (q : AboveAt up depth a (up b)). (some, l, sym (above_level a (up b) q (omega arith))))
      (above_over a b some l p)

  -- two stations above one, their depths at most 1 apart
  pub above_beside : (a b x : ℕ) → x < n → AboveAt up depth a x → AboveAt up depth b x → depth a ≤ depth b + 1 → depth b ≤ depth a + 1 → (a ≡ b) ⊎ LegAt n up a b
  above_beside a b x l p q h k =
      let la = above_inside a x l p in
      let lb = above_inside b x l q in
      ⊎_elim
      (λ (lt : depth a < depth b). inr (inl (above_next a b lb la (above_line a b x p q (omega arith)) (omega arith))))
      (λ (le : depth b ≤ depth a).
      ⊎_elim
      (λ (lt : depth b < depth a). inr (inr (above_next b a la lb (above_line b a x q p le) (omega arith))))
      (λ (ge : depth a ≤ depth b). inl (above_level a b (above_line a b x p q ge) le))
      (cases_lt (depth b) (depth a)))
      (cases_lt (depth a) (depth b))

  pub deepest : (d u v : ℕ) → u < n → v < n → depth u ≤ d → (w : ℕ) × MeetAt n up depth w u v
  deepest zero u v lu lv h = absurd (omega (arith, depth_pos u lu))
  deepest (suc d) u v lu lv h =
      ⊎_elim
      (λ (p : AboveAt up depth u v). (u, (lu, above_self u, p, λ c q _. q)))
      (λ (np : AboveAt up depth u v → ⊥).
      let some = off_root u v lv np in
      let less = r.deeper u some lu in
      let f = deepest d (up u) v (r.inside u lu) lv (omega arith) in (
        f.0,
        (
          f.1.0,
          above_trans f.0 (up u) u f.1.1 (above_up u some lu),
          f.1.2,
          λ c q s. ⊎_elim
              (λ (e : c ≡ u). absurd (np (subst (λ (z : ℕ). AboveAt up depth z v) e s)))
              (λ (t : AboveAt up depth c (up u)). f.1.3 c t s)
              (above_over c u some lu q),
        ),
      ))
      (above_either u v)
