-- Plans with the same stations and the same legs have one list of stations.
use Rattle.std.proofs.Common.{◌≡◌, ℕ, zero, suc, ◌<◌, ◌≤◌, List, length, get_or, sym, refl, ap, ◌∙◌, subst, inl, inr, ⊎_elim, arith}
use Rattle.std.proofs.lemmas.Bool.{cases_lt, cases_eq}
use Rattle.std.proofs.lemmas.List.{ext_get_or}
use Rattle.label.specs.declared.label.Label.{Label}
use Rattle.label.specs.Orders.{key_of}
use Rattle.label.proofs.Keys.{same_key}
use Rattle.tree.specs.declared.Station.{Station}
use Rattle.tree.specs.Trees.{Rooted, LegAt}
use Rattle.tree.specs.Stations.{nowhere, station_label, parent_of, depth_of, Canonical, rooted}
use Rattle.tree.specs.Caves.{Holds, SameCave, OneCave}
use Rattle.tree.proofs.Climbs.{depth_pos}
use Rattle.tree.proofs.Legs.{joins_leg, leg_joins}
use Rattle.tree.proofs.Named.{one_label}

-- the key of the label at a place
abbrev key_in : List Station → ℕ → ℕ
key_in ps i = key_of (station_label ps i)

module _ {n : ℕ} {up depth up' depth' : ℕ → ℕ} (r : Rooted n up depth) (r' : Rooted n up' depth') (legs : (x y : ℕ) → LegAt n up x y → LegAt n up' x y) where
  pub same_up : (d i : ℕ) → depth i ≤ d → 0 < i → i < n → up i ≡ up' i
  same_up zero i h p l = absurd (omega (arith, depth_pos r i l))
  same_up (suc d) i h p l =
      let less = r.deeper i p l in
      ⊎_elim
      (λ (a : (0 < i) × (i < n) × (up' i ≡ up i)). sym a.2)
      (λ (a : (0 < up i) × (up i < n) × (up' (up i) ≡ i)).
      let back = same_up d (up i) (omega arith) a.0 a.1 in
      absurd (omega (arith, r.deeper (up i) a.0 a.1, ap depth (back ∙ a.2))))
      (legs (up i) i (inl (p, l, refl)))

  pub same_depth : (d i : ℕ) → depth i ≤ d → i < n → depth i ≡ depth' i
  same_depth zero i h l = absurd (omega (arith, depth_pos r i l))
  same_depth (suc d) i h l =
      ⊎_elim
      (λ (e : i ≡ 0). ap depth e ∙ r.top ∙ sym r'.top ∙ sym (ap depth' e))
      (λ (ne : i ≡ 0 → ⊥).
      let p : 0 < i = omega arith in
      let less = r.deeper i p l in
      omega (arith, r'.deeper i p l, same_depth d (up i) (omega arith) (r.inside i l), ap depth' (same_up (suc d) i h p l)))
      (cases_eq i 0)

-- labels of places in order
rising : (ps : List Station) → Canonical ps → (i j : ℕ) → i ≤ j → j < length ps → key_in ps i ≤ key_in ps j
rising ps c i j h l = ⊎_elim (λ (a : i < j). omega (arith, c.ascending i j a l)) (λ (a : j ≤ i). let e : i ≡ j = omega arith in omega (arith, ap (key_in ps) e)) (cases_lt i j)

module _ (ps qs : List Station) (cp : Canonical ps) (cq : Canonical qs) (there : (a : Label) → Holds ps a → Holds qs a) where
  -- the label at place i of one plan is not before place i of the other
  later : (i j : ℕ) → i < length ps → j < length qs → key_in qs j ≡ key_in ps i → i ≤ j
  later zero j li lj e = omega arith
  later (suc i) j li lj e =
      let f = there (station_label ps i) (i, (omega arith, refl)) in
      let up' = cp.ascending i (suc i) (omega arith) li in
      let ih = later i f.0 (omega arith) f.1.0 (ap key_of f.1.1) in
      ⊎_elim
      (λ (a : f.0 < j). omega arith)
      (λ (a : j ≤ f.0). absurd (omega (arith, rising qs cq j f.0 a f.1.0, (ap key_of f.1.1))))
      (cases_lt f.0 j)

  no_lower : (i : ℕ) → i < length ps → (i < length qs) × (key_in qs i ≤ key_in ps i)
  no_lower i l =
      let f = there (station_label ps i) (i, (l, refl)) in
      let h = later i f.0 l f.1.0 (ap key_of f.1.1) in
      (omega arith, omega (arith, rising qs cq i f.0 h f.1.0, (ap key_of f.1.1)))

pub same_station : (s t : Station) → s.label ≡ t.label → s.parent ≡ t.parent → s.depth ≡ t.depth → s ≡ t
same_station s t a b c = λ k. record { label = a k; parent = b k; depth = c k }

module _ (ps qs : List Station) (cp : Canonical ps) (cq : Canonical qs) (alike : SameCave ps qs) where
  same_length : length ps ≡ length qs
  same_length =
      let here = no_lower ps qs cp cq alike.there in
      let there = no_lower qs ps cq cp alike.here in
      ⊎_elim
      (λ (a : length ps < length qs). absurd (omega (arith, (there (length ps) a).0)))
      (λ (a : length qs ≤ length ps). ⊎_elim (λ (b : length qs < length ps). absurd (omega (arith, (here (length qs) b).0))) (λ (b : length ps ≤ length qs). omega arith) (cases_lt (length qs) (length ps)))
      (cases_lt (length ps) (length qs))

  same_label_lem : (i : ℕ) → i < length ps → station_label ps i ≡ station_label qs i
  same_label_lem i l = same_key (station_label ps i) (station_label qs i) (omega (arith, no_lower ps qs cp cq alike.there i l, no_lower qs ps cq cp alike.here i (omega (arith, same_length))))

  place : (i j : ℕ) → i < length ps → j < length ps → station_label qs i ≡ station_label ps j → i ≡ j
  place i j li lj e = one_label qs cq i j (omega (arith, same_length)) (omega (arith, same_length)) (e ∙ same_label_lem j lj)

  leg_kept : (x y : ℕ) → 0 < y → y < length ps → parent_of ps y ≡ x → LegAt (length ps) (parent_of qs) x y
  leg_kept x y p l u =
      let n = same_length in
      let lx : x < length ps = omega (arith, cp.inside y l) in
      let g = leg_joins qs (station_label ps y) (station_label ps x) (alike.legs (station_label ps y) (station_label ps x) (joins_leg ps (station_label ps y) (station_label ps x) (y, (p, l, inl (refl, ap (station_label ps) u))))) in
      let i : ℕ = g.0 in
      let li : i < length ps = omega (arith, g.1.1) in
      let lu : parent_of qs i < length ps = omega (arith, cq.inside i g.1.1) in
      ⊎_elim
      (λ (e : (station_label qs i ≡ station_label ps y) × (station_label qs (parent_of qs i) ≡ station_label ps x)).
      let at : i ≡ y = place i y li l e.0 in
      inl (p, l, sym (ap (parent_of qs) at) ∙ place (parent_of qs i) x lu lx e.1))
      (λ (e : (station_label qs i ≡ station_label ps x) × (station_label qs (parent_of qs i) ≡ station_label ps y)).
      let at : i ≡ x = place i x li lx e.0 in
      inr (subst (λ (z : ℕ). 0 < z) at g.1.0, lx, sym (ap (parent_of qs) at) ∙ place (parent_of qs i) y lu l e.1))
      g.1.2

  legs_kept : (x y : ℕ) → LegAt (length ps) (parent_of ps) x y → LegAt (length ps) (parent_of qs) x y
  legs_kept x y leg =
      ⊎_elim
      (λ (a : (0 < y) × (y < length ps) × (parent_of ps y ≡ x)). leg_kept x y a.0 a.1 a.2)
      (λ (a : (0 < x) × (x < length ps) × (parent_of ps x ≡ y)).
      ⊎_elim
      (λ (b : (0 < x) × (x < length ps) × (parent_of qs x ≡ y)). inr b)
      (λ (b : (0 < y) × (y < length ps) × (parent_of qs y ≡ x)). inl b)
      (leg_kept y x a.0 a.1 a.2))
      leg

  other : Rooted (length ps) (parent_of qs) (depth_of qs)
  other = subst (λ (n : ℕ). Rooted n (parent_of qs) (depth_of qs)) (sym same_length) (rooted qs cq)

  same_parent : (i : ℕ) → i < length ps → parent_of ps i ≡ parent_of qs i
  same_parent i l =
      ⊎_elim
      (λ (e : i ≡ 0). ap (parent_of ps) e ∙ cp.own ∙ sym cq.own ∙ sym (ap (parent_of qs) e))
      (λ (ne : i ≡ 0 → ⊥). same_up (rooted ps cp) other legs_kept (depth_of ps i) i (omega arith) (omega arith) l)
      (cases_eq i 0)

  same_plan : ps ≡ qs
  same_plan = ext_get_or nowhere ps qs same_length (λ i l. same_station (get_or ps i nowhere) (get_or qs i nowhere) (same_label_lem i l) (same_parent i l) (same_depth (rooted ps cp) other legs_kept (depth_of ps i) i (omega arith) l))

pub one_cave : OneCave
one_cave = record { one = same_plan }
