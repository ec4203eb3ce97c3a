-- One turn of the climbs.
use Rattle.std.proofs.Common.{◌≡◌, ℕ, suc, ◌-◌, ◌<◌, ◌≤◌, sym, ap, subst, ⊎_elim, arith}
use Rattle.tree.specs.Trees.{Rooted, climb, AboveAt, MeetAt}
use Rattle.tree.proofs.Climbs.{above_self, above_trans, above_up, above_level, above_over, depth_pos, not_root, off_root}

-- a is above u, b above v, and what is above u and v is above both
abbrev pub Closing : ℕ → (ℕ → ℕ) → (ℕ → ℕ) → ℕ → ℕ → ℕ → ℕ → Type 0
Closing n up depth u v a b = (a < n) × (b < n) × AboveAt up depth a u × AboveAt up depth b v × ((c : ℕ) → AboveAt up depth c u → AboveAt up depth c v → AboveAt up depth c a × AboveAt up depth c b)

module _ {n : ℕ} {up depth : ℕ → ℕ} (r : Rooted n up depth) where
  pub climb_up : (x k : ℕ) → x < n → 0 < k → k < depth x → climb up (depth (up x) - k) (up x) ≡ climb up (depth x - k) x
  climb_up x k l pos h =
      let d = r.deeper x (not_root r x (omega arith)) l in
      let s : depth x - k ≡ suc (depth (up x) - k) = omega arith in
      sym (ap (λ (m : ℕ). climb up m x) s)

  pub climb_here : (x k : ℕ) → depth x ≤ k → climb up (depth x - k) x ≡ x
  climb_here x k h = let z : depth x - k ≡ 0 = omega arith in ap (λ (m : ℕ). climb up m x) z

  pub closing_start : (u v : ℕ) → u < n → v < n → Closing n up depth u v u v
  closing_start u v lu lv = (lu, lv, above_self r u, above_self r v, λ c p q. (p, q))

  pub closing_left : (u v a b : ℕ) → Closing n up depth u v a b → (a ≡ b → ⊥) → depth b ≤ depth a → Closing n up depth u v (up a) b × (depth (up a) < depth a)
  closing_left u v a b k ne le =
      let not_above : AboveAt up depth a b → ⊥ = λ p. ne (above_level r a b p le) in
      let some = off_root r a b k.1 not_above in
      let d = r.deeper a some k.0 in (
        (
          r.inside a k.0,
          k.1,
          above_trans r (up a) a u (above_up r a some k.0) k.2,
          k.3,
          λ c p q.
              let s = k.4 c p q in
              (⊎_elim (λ (e : c ≡ a). absurd (not_above (subst (λ (z : ℕ). AboveAt up depth z b) e s.1))) (λ (t : AboveAt up depth c (up a)). t) (above_over r c a some k.0 s.0), s.1),
        ),
        omega arith,
      )

  pub closing_right : (u v a b : ℕ) → Closing n up depth u v a b → depth a < depth b → Closing n up depth u v a (up b) × (depth (up b) < depth b)
  closing_right u v a b k lt =
      let some = not_root r b (omega (arith, depth_pos r a k.0)) in
      let d = r.deeper b some k.1 in (
        (
          k.0,
          r.inside b k.1,
          k.2,
          above_trans r (up b) b v (above_up r b some k.1) k.3,
          λ c p q.
              let s = k.4 c p q in
              (s.0, ⊎_elim (λ (e : c ≡ b). absurd (omega (arith, s.0.0, ap depth e))) (λ (t : AboveAt up depth c (up b)). t) (above_over r c b some k.1 s.1)),
        ),
        omega arith,
      )

  pub closing_end : (u v a b : ℕ) → Closing n up depth u v a b → a ≡ b → MeetAt n up depth a u v
  closing_end u v a b k e = (k.0, k.2, subst (λ (z : ℕ). AboveAt up depth z v) (sym e) k.3, λ c p q. (k.4 c p q).0)
