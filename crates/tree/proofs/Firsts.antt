-- Every station occurs in the walk, and has a first place.
use Rattle.std.proofs.Common.{◌≡◌, ℕ, zero, suc, ◌+◌, ◌-◌, ◌<◌, ◌≤◌, Bool, cond, List, [], ◌∷◌, ◌++◌, length, get_or, drop, Contains, sym, ap, ◌∙◌, subst, ⊎_elim, arith}
use Rattle.std.proofs.lemmas.List.{drop_more, drop_all}
use Rattle.std.specs.List.{flat_map}
use Rattle.std.proofs.lemmas.Bool.{cases_lt, cases_eq, eq-eqb, ne_eqb}
use Rattle.std.proofs.lemmas.List.{get_or_default}
use Rattle.std.proofs.lemmas.List.Elements.{Contains-append_left, Contains-append_right, Contains-push}
use Rattle.tree.specs.Trees.{Rooted, AboveAt}
use Rattle.tree.specs.declared.Station.{Station}
use Rattle.tree.specs.Ways.{On}
use Rattle.tree.specs.Stations.{depth_of, Canonical, rooted}
use Rattle.tree.specs.Walks.{branches, walk_of, walk_from, first_place}
use Rattle.tree.proofs.Climbs.{above_level, root_above}
use Rattle.tree.proofs.Entries.{branch_of}
use Rattle.tree.proofs.Sizes.{mem_all, branch_above, shallow}

has_first : (x : ℕ) (xs : List ℕ) → Contains (x ∷ xs) x
has_first x xs = Contains-append_left (x ∷ []) xs x (Contains-push [] x)

has_later : (y x : ℕ) (xs : List ℕ) → Contains xs x → Contains (y ∷ xs) x
has_later y x xs h = Contains-append_right (y ∷ []) xs x h

has_joined : (g : ℕ → List ℕ) (o x : ℕ) (js : List ℕ) → On o js → Contains (g o) x → Contains (flat_map g js) x
has_joined g o x [] m h = absurd m
has_joined g o x (j ∷ js) m h =
    ⊎_elim
    (λ (e : j ≡ o). Contains-append_left (g j) (flat_map g js) x (subst (λ (k : ℕ). Contains (g k) x) (sym e) h))
    (λ (t : On o js). Contains-append_right (g j) (flat_map g js) x (has_joined g o x js t h))
    m

module _ {n : ℕ} {up depth : ℕ → ℕ} (r : Rooted n up depth) where
  -- the walk of i has every station below i
  pub walk_has : (f i x : ℕ) → i < n → x < n → n ≤ depth i + f → AboveAt up depth i x → Contains (walk_of n up f i) x
  walk_has zero i x li lx h p = subst (Contains (i ∷ [])) (above_level r i x p (omega (arith, shallow r x lx))) (has_first i [])
  walk_has (suc f) i x li lx h p =
      ⊎_elim
      (λ (lt : depth i < depth x).
      let o = branch_above r i x li lx p lt in
      let b = mem_all (λ j. (0 < j) × (j < n) × (up j ≡ i)) o.0 (branches n up i) o.1.0 (branch_of r i) in
      has_later i x (flat_map (λ j. walk_of n up f j ++ i ∷ []) (branches n up i))
      (has_joined (λ j. walk_of n up f j ++ i ∷ []) o.0 x (branches n up i) o.1.0
      (Contains-append_left (walk_of n up f o.0) (i ∷ []) x (walk_has f o.0 x b.1 lx (omega (arith, o.1.1)) o.1.2))))
      (λ (ge : depth x ≤ depth i). subst (Contains (i ∷ flat_map (λ j. walk_of n up f j ++ i ∷ []) (branches n up i))) (above_level r i x p ge) (has_first i _))
      (cases_lt (depth i) (depth x))

-- what is there has a first place
abbrev pub First : ℕ → List ℕ → Type 0
First x ws = (1 ≤ first_place x ws) × (first_place x ws ≤ length ws) × (get_or ws (first_place x ws - 1) 0 ≡ x) × ((k : ℕ) → k + 1 < first_place x ws → get_or ws k 0 ≡ x → ⊥)

first_at : (x : ℕ) (ws : List ℕ) (k : ℕ) → k < length ws → get_or ws k 0 ≡ x → First x ws
first_at x [] k l e = absurd (omega arith)
first_at x (w ∷ ws) k l e =
    ⊎_elim
    (λ (q : w ≡ x).
    let one : first_place x (w ∷ ws) ≡ 1 = ap (λ (b : Bool). cond b 1 (first_place x ws + 1)) (eq-eqb w x q) in
    (omega arith, omega arith, ap (λ (i : ℕ). get_or (w ∷ ws) (i - 1) 0) one ∙ q, λ j h f. omega arith))
    (λ (ne : w ≡ x → ⊥).
    let ih = later k l e ne (λ j h f. first_at x ws j h f) in
    let next : first_place x (w ∷ ws) ≡ first_place x ws + 1 = ap (λ (b : Bool). cond b 1 (first_place x ws + 1)) (ne_eqb w x ne) in
    let at : first_place x (w ∷ ws) - 1 ≡ suc (first_place x ws - 1) = omega (arith, ih.0) in
    (omega arith, omega (arith, ih.1), ap (λ (i : ℕ). get_or (w ∷ ws) i 0) at ∙ ih.2, λ j h f. before ne ih.3 next j h f))
    (cases_eq w x)
  where
    later : (k : ℕ) → k < length (w ∷ ws) → get_or (w ∷ ws) k 0 ≡ x → (w ≡ x → ⊥) → ((j : ℕ) → j < length ws → get_or ws j 0 ≡ x → First x ws) → First x ws
    later zero l e ne rec = absurd (ne e)
    later (suc j) l e ne rec = rec j (omega arith) e

    before : (w ≡ x → ⊥) → ((k : ℕ) → k + 1 < first_place x ws → get_or ws k 0 ≡ x → ⊥) → first_place x (w ∷ ws) ≡ first_place x ws + 1 → (j : ℕ) → j + 1 < first_place x (w ∷ ws) → get_or (w ∷ ws) j 0 ≡ x → ⊥
    before ne old next zero h f = ne f
    before ne old next (suc j) h f = old j (omega arith) f

-- every station has a first place in the walk
pub walk_has_all : (ps : List Station) → Canonical ps → (x : ℕ) → x < length ps → First x (walk_from ps 0)
unfolding walk_from
walk_has_all ps c x l =
    let r = rooted ps c in
    let h = walk_has r (length ps - depth_of ps 0) 0 x c.some l (omega arith) (root_above r x l) in
    first_at x (walk_from ps 0) h.0 h.1 (get_or_default (walk_from ps 0) h.0 0 x h.1 ∙ h.2)

module _ (x : ℕ) (ws : List ℕ) (k : ℕ) where
  pub place_here : k < length ws → get_or ws k 0 ≡ x → first_place x (drop k ws) ≡ 1
  place_here l e = ap (first_place x) (drop_more ws k 0 l) ∙ ap (λ (b : Bool). cond b 1 (first_place x (drop (k + 1) ws) + 1)) (eq-eqb _ _ e)

  pub place_next : k < length ws → (get_or ws k 0 ≡ x → ⊥) → first_place x (drop k ws) ≡ first_place x (drop (k + 1) ws) + 1
  place_next l e = ap (first_place x) (drop_more ws k 0 l) ∙ ap (λ (b : Bool). cond b 1 (first_place x (drop (k + 1) ws) + 1)) (ne_eqb _ _ e)

  pub place_end : length ws ≤ k → first_place x (drop k ws) ≡ 1
  place_end l = ap (first_place x) (drop_all k ws l)
