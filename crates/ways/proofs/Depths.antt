-- The greatest depth among the stations of a plan.
use Rattle.std.proofs.Common.{◌≡◌, ℕ, zero, suc, ◌<◌, ◌≤◌, ◌⊎◌, List, [], ◌∷◌, length, max, fold, sym, refl, subst, inl, inr, ⊎_elim, arith}
use Rattle.std.proofs.lemmas.Bool.{cases_lt}
use Rattle.tree.specs.declared.Station.{Station}
use Rattle.tree.specs.Stations.{depth_of, Canonical}
use Rattle.tree.specs.Caves.{Height}
use Rattle.tree.proofs.Meaning.{height_is}

-- m is the greatest of a and the depths
record Top (a : ℕ) (ps : List Station) (m : ℕ) : Type 0 where
  pub some : (m ≡ a) ⊎ ((k : ℕ) × ((k < length ps) × (m ≡ depth_of ps k)))
  pub above : a ≤ m
  pub most : (k : ℕ) → k < length ps → depth_of ps k ≤ m

top_is : (a : ℕ) (ps : List Station) → Top a ps (fold (λ d s. max d s.depth) a ps)
top_is a [] = record { some = inl refl; above = omega arith; most = λ k l. absurd (omega arith) }
top_is a (s ∷ ps) =
    let t = top_is (max a s.depth) ps in
    record {
      some = ⊎_elim (λ (e : fold (λ d s. max d s.depth) (max a s.depth) ps ≡ max a s.depth). either _ e (cases_lt a s.depth)) (λ (k, f). inr (suc k, (omega arith, f.1))) t.some;
      above = omega (arith, t.above);
      most = most _ t.above t.most;
    }
  where
    either : (m : ℕ) → m ≡ max a s.depth → (a < s.depth) ⊎ (s.depth ≤ a) → (m ≡ a) ⊎ ((k : ℕ) × ((k < length (s ∷ ps)) × (m ≡ depth_of (s ∷ ps) k)))
    either m e (inl lt) = inr (0, (omega arith, omega arith))
    either m e (inr le) = inl (omega arith)

    most : (m : ℕ) → max a s.depth ≤ m → ((k : ℕ) → k < length ps → depth_of ps k ≤ m) → (k : ℕ) → k < length (s ∷ ps) → depth_of (s ∷ ps) k ≤ m
    most m le rest zero l = omega arith
    most m le rest (suc k) l = rest k (omega arith)

pub height_told : (ps : List Station) (h : Canonical ps) (m : ℕ) → m ≡ fold (λ d s. max d s.depth) 0 ps → Height ps m
height_told ps h m e =
    let t : Top 0 ps m = subst (Top 0 ps) (sym e) (top_is 0 ps) in
    ⊎_elim
    (λ (z : m ≡ 0). absurd (omega (arith, t.most 0 h.some, h.top)))
    (λ (k : (k : ℕ) × ((k < length ps) × (m ≡ depth_of ps k))).
    subst (Height ps) (sym k.1.1) (height_is ps h k.0 k.1.0 (λ j l. omega (arith, t.most j l, k.1.1))))
    t.some
