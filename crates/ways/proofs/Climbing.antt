-- One turn of the climbs of a plan's stations.
use Rattle.std.proofs.Common.{◌≡◌, ℕ, ◌+◌, ◌-◌, ◌<◌, ◌≤◌, List, length, sym, ap, ◌∙◌, subst, arith}
use Rattle.tree.specs.declared.Station.{Station}
use Rattle.tree.specs.Trees.{climb}
use Rattle.tree.specs.Stations.{parent_of, depth_of, Canonical, rooted}
use Rattle.tree.proofs.Steps.{Closing, closing_left, closing_right, climb_up}

module _ (ps : List Station) (h : Canonical ps) where
  abbrev pub Closer : (u v a b : ℕ) → Type 0
  Closer u v a b = Closing (length ps) (parent_of ps) (depth_of ps) u v a b

  module _ (u v a b up : ℕ) (k : Closer u v a b) where
    -- the second station of the two is the deeper one
    pub closer_right : up ≡ parent_of ps b → depth_of ps a < depth_of ps b → Closer u v a up × (depth_of ps a + depth_of ps up < depth_of ps a + depth_of ps b)
    closer_right e lt =
        let t = closing_right (rooted ps h) u v a b k lt in
        (subst (λ (z : ℕ). Closer u v a z) (sym e) t.0, omega (arith, t.1, ap (depth_of ps) e))

    -- it is not
    pub closer_left : up ≡ parent_of ps a → (a ≡ b → ⊥) → depth_of ps b ≤ depth_of ps a → Closer u v up b × (depth_of ps up + depth_of ps b < depth_of ps a + depth_of ps b)
    closer_left e ne le =
        let t = closing_left (rooted ps h) u v a b k ne le in
        (subst (λ (z : ℕ). Closer u v z b) (sym e) t.0, omega (arith, t.1, ap (depth_of ps) e))

  pub climb_on : (at up level : ℕ) → at < length ps → 0 < level → level < depth_of ps at → up ≡ parent_of ps at
      → (up < length ps) × (climb (parent_of ps) (depth_of ps up - level) up ≡ climb (parent_of ps) (depth_of ps at - level) at)
  climb_on at up level l pos lt e =
      let r = rooted ps h in (
        omega (arith, r.inside at l, e),
        ap (λ (z : ℕ). climb (parent_of ps) (depth_of ps z - level) z) e ∙ climb_up r at level l pos lt,
      )
