-- A leg of a plan by the station farther from the root.
use Rattle.std.proofs.Common.{◌≡◌, ℕ, ◌<◌, ◌⊎◌, List, length, refl, ap, ◌∙◌, inl, inr, ⊎_elim}
use Rattle.label.specs.declared.label.Label.{Label}
use Rattle.tree.specs.declared.Station.{Station}
use Rattle.tree.specs.Trees.{UnderAt}
use Rattle.tree.specs.Stations.{station_label, parent_of}
use Rattle.tree.specs.Caves.{Leg}

-- station i and its parent have the labels a and b, in either order
abbrev pub Joins : List Station → Label → Label → Type 0
Joins ps a b = (i : ℕ) × ((0 < i) × (i < length ps) × (((station_label ps i ≡ a) × (station_label ps (parent_of ps i) ≡ b)) ⊎ ((station_label ps i ≡ b) × (station_label ps (parent_of ps i) ≡ a))))

pub joins_leg : (ps : List Station) (a b : Label) → Joins ps a b → Leg ps a b
joins_leg ps a b g =
    let i : ℕ = g.0 in
    ⊎_elim
    (λ (e : (station_label ps i ≡ a) × (station_label ps (parent_of ps i) ≡ b)). (i, parent_of ps i, e.0, e.1, inr (g.1.0, g.1.1, refl)))
    (λ (e : (station_label ps i ≡ b) × (station_label ps (parent_of ps i) ≡ a)). (parent_of ps i, i, e.1, e.0, inl (g.1.0, g.1.1, refl)))
    g.1.2

pub leg_joins : (ps : List Station) (a b : Label) → Leg ps a b → Joins ps a b
leg_joins ps a b g =
    ⊎_elim
    (λ (u : UnderAt (length ps) (parent_of ps) g.1 g.0). (g.1, (u.0, u.1, inr (g.3, ap (station_label ps) u.2 ∙ g.2))))
    (λ (u : UnderAt (length ps) (parent_of ps) g.0 g.1). (g.0, (u.0, u.1, inl (g.2, ap (station_label ps) u.2 ∙ g.3))))
    g.4
