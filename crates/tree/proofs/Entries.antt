-- The entries of a walk: each and the next are joined by a leg, and what is above both ends of a stretch is above all
-- of it.
use Rattle.std.proofs.Common.{◌≡◌, ℕ, zero, suc, ◌+◌, ◌-◌, ◌<◌, ◌≤◌, Bool, true, false, cond, eqb, List, [], ◌∷◌, ◌++◌, length, get_or, filter, sym, refl, ap, ◌∙◌, subst, inl, inr, ⊎_elim, add-one, arith, length-append}
use Rattle.std.specs.List.{range_with_len, flat_map}
use Rattle.std.proofs.lemmas.Bool.{cases_lt, cases_eq, eqb-true}
use Rattle.std.proofs.lemmas.List.{get_or_append_left, get_or-append_right}
use Rattle.std.specs.List.{AllByRecursion}
use Rattle.label.proofs.Elements.{AllByRecursion-get_or, AllByRecursion-append, AllByRecursion-weaker}
use Rattle.tree.specs.Trees.{Rooted, climb, AboveAt, LegAt}
use Rattle.tree.specs.Ways.{Goes}
use Rattle.tree.specs.Walks.{branches, walk_of}
use Rattle.tree.proofs.Climbs.{above_self, above_trans, above_up, above_line, above_last, above_either}
use Rattle.tree.proofs.Ways.{goes_append}

-- what holds of two entries holds of all between
abbrev pub Convex : (ℕ → Type 0) → List ℕ → Type 0
Convex P ws = (i k j : ℕ) → i ≤ k → k ≤ j → j < length ws → P (get_or ws i 0) → P (get_or ws j 0) → P (get_or ws k 0)

abbrev pub None : (ℕ → Type 0) → List ℕ → Type 0
None P ws = AllByRecursion (λ x. P x → ⊥) ws

pub convex_all : (P : ℕ → Type 0) (ws : List ℕ) → AllByRecursion P ws → Convex P ws
convex_all P ws a i k j h l in' p q = AllByRecursion-get_or P ws k 0 (omega arith) a

pub convex_left : (P : ℕ → Type 0) (us vs : List ℕ) → None P us → Convex P vs → Convex P (us ++ vs)
convex_left P us vs none cb i k j h l in' p q =
    let long = length-append us vs in
    ⊎_elim
    (λ (lt : i < length us). absurd (AllByRecursion-get_or (λ x. P x → ⊥) us i 0 lt none (subst P (get_or_append_left us vs 0 i lt) p)))
    (λ (ge : length us ≤ i).
    let at : (m : ℕ) → i ≤ m → get_or (us ++ vs) m 0 ≡ get_or vs (m - length us) 0 = λ m le. get_or-append_right us vs (length us) m 0 refl (omega arith) in
    subst P (sym (at k h)) (cb (i - length us) (k - length us) (j - length us) (omega arith) (omega arith) (omega arith) (subst P (at i (omega arith)) p) (subst P (at j (omega arith)) q)))
    (cases_lt i (length us))

pub convex_right : (P : ℕ → Type 0) (us vs : List ℕ) → Convex P us → None P vs → Convex P (us ++ vs)
convex_right P us vs ca none i k j h l in' p q =
    let long = length-append us vs in
    ⊎_elim
    (λ (lt : j < length us).
    let at : (m : ℕ) → m ≤ j → get_or (us ++ vs) m 0 ≡ get_or us m 0 = λ m le. get_or_append_left us vs 0 m (omega arith) in
    subst P (sym (at k l)) (ca i k j h l lt (subst P (at i (omega arith)) p) (subst P (at j (omega arith)) q)))
    (λ (ge : length us ≤ j). absurd (AllByRecursion-get_or (λ x. P x → ⊥) vs (j - length us) 0 (omega arith) none (subst P (get_or-append_right us vs (length us) j 0 refl ge) q)))
    (cases_lt j (length us))

-- no entry twice
abbrev pub Distinct : List ℕ → Type 0
Distinct [] = Unit {0}
Distinct (x ∷ xs) = AllByRecursion (λ y. y ≡ x → ⊥) xs × Distinct xs

pub none_joined : (P : ℕ → Type 0) (g : ℕ → List ℕ) (js : List ℕ) → AllByRecursion (λ j. None P (g j)) js → None P (flat_map g js)
none_joined P g [] a = tt
none_joined P g (j ∷ js) a = AllByRecursion-append (λ x. P x → ⊥) (g j) (flat_map g js) a.0 (none_joined P g js a.1)

pub all_joined : (P : ℕ → Type 0) (g : ℕ → List ℕ) (js : List ℕ) → AllByRecursion (λ j. AllByRecursion P (g j)) js → AllByRecursion P (flat_map g js)
all_joined P g [] a = tt
all_joined P g (j ∷ js) a = AllByRecursion-append P (g j) (flat_map g js) a.0 (all_joined P g js a.1)

-- only the branch o has entries with P
pub convex_joined : (P : ℕ → Type 0) (g : ℕ → List ℕ) (o : ℕ) (js : List ℕ) → Distinct js → AllByRecursion (λ j. Convex P (g j)) js → AllByRecursion (λ j. (j ≡ o → ⊥) → None P (g j)) js → Convex P (flat_map g js)
convex_joined P g o [] apart c n = λ i k j h l in' p q. absurd (omega arith)
convex_joined P g o (x ∷ js) apart c n =
    ⊎_elim
    (λ (e : x ≡ o). convex_right P (g x) (flat_map g js) c.0 (none_joined P g js (others js (subst (λ (y : ℕ). AllByRecursion (λ z. z ≡ y → ⊥) js) e apart.0) n.1)))
    (λ (ne : x ≡ o → ⊥). convex_left P (g x) (flat_map g js) (n.0 ne) (convex_joined P g o js apart.1 c.1 n.1))
    (cases_eq x o)
  where
    others : (ks : List ℕ) → AllByRecursion (λ z. z ≡ o → ⊥) ks → AllByRecursion (λ j. (j ≡ o → ⊥) → None P (g j)) ks → AllByRecursion (λ j. None P (g j)) ks
    others [] a b = tt
    others (k ∷ ks) a b = (b.0 a.0, others ks a.1 b.1)

-- the numbers from a on that pass a test: each once
abbrev pub Kept : (ℕ → Bool) → ℕ → ℕ → ℕ → Type 0
Kept p a n x = (a ≤ x) × (x < a + n) × (p x ≡ true)

pub kept_from : (p : ℕ → Bool) (a n : ℕ) → AllByRecursion (Kept p a n) (filter p (range_with_len a n))
kept_from p a zero = tt
kept_from p a (suc n) = go (p a) refl (AllByRecursion-weaker (Kept p (a + 1) n) (Kept p a (suc n)) (λ x h. (omega arith, omega arith, h.2)) _ (kept_from p (a + 1) n))
  where
    go : (b : Bool) → p a ≡ b → AllByRecursion (Kept p a (suc n)) (filter p (range_with_len (a + 1) n)) → AllByRecursion (Kept p a (suc n)) (cond b (a ∷ filter p (range_with_len (a + 1) n)) (filter p (range_with_len (a + 1) n)))
    go true e rest = ((omega arith, omega arith, e), rest)
    go false e rest = rest

pub kept_apart : (p : ℕ → Bool) (a n : ℕ) → Distinct (filter p (range_with_len a n))
kept_apart p a zero = tt
kept_apart p a (suc n) = go (p a) (kept_apart p (a + 1) n) (AllByRecursion-weaker (Kept p (a + 1) n) (λ y. y ≡ a → ⊥) (λ x h e. omega arith) _ (kept_from p (a + 1) n))
  where
    go : (b : Bool) → Distinct (filter p (range_with_len (a + 1) n)) → AllByRecursion (λ y. y ≡ a → ⊥) (filter p (range_with_len (a + 1) n)) → Distinct (cond b (a ∷ filter p (range_with_len (a + 1) n)) (filter p (range_with_len (a + 1) n)))
    go true rest more = (more, rest)
    go false rest more = rest

module _ {n : ℕ} {up depth : ℕ → ℕ} (r : Rooted n up depth) where
  pub branch_of : (i : ℕ) → AllByRecursion (λ j. (0 < j) × (j < n) × (up j ≡ i)) (branches n up i)
  branch_of i =
      let s = r.some in
      AllByRecursion-weaker (λ x. (1 ≤ x) × (x < 1 + (n - 1)) × (eqb (up x) i ≡ true)) (λ j. (0 < j) × (j < n) × (up j ≡ i)) (λ x h. (omega arith, omega arith, eqb-true (up x) i h.2)) _ (kept_from (λ j. eqb (up j) i) 1 (n - 1))

  -- legs between entries ------------------------------------------------------------------------

  -- the tours of the branches lead from i back to i
  pub tours_go : (i : ℕ) (tour : ℕ → List ℕ) (js : List ℕ) → AllByRecursion (λ j. (0 < j) × (j < n) × (up j ≡ i)) js → ((j : ℕ) → Goes (LegAt n up) j (tour j) j) → Goes (LegAt n up) i (flat_map (λ j. (j ∷ tour j) ++ i ∷ []) js) i
  tours_go i tour [] a g = refl
  tours_go i tour (j ∷ js) a g =
      (inl a.0, goes_append n up j i i (tour j ++ i ∷ []) (flat_map (λ k. (k ∷ tour k) ++ i ∷ []) js) (goes_append n up j j i (tour j) (i ∷ []) (g j) (inr a.0, refl)) (tours_go i tour js a.1 g))

  abbrev pub tour_of : ℕ → ℕ → List ℕ
  tour_of zero i = []
  tour_of (suc f) i = flat_map (λ j. walk_of n up f j ++ i ∷ []) (branches n up i)

  pub walk_tour : (f i : ℕ) → walk_of n up f i ≡ i ∷ tour_of f i
  walk_tour zero i = refl
  walk_tour (suc f) i = refl

  pub tour_goes : (f i : ℕ) → Goes (LegAt n up) i (tour_of f i) i
  tour_goes zero i = refl
  tour_goes (suc f) i = subst (λ (g : ℕ → List ℕ). Goes (LegAt n up) i (flat_map (λ j. g j ++ i ∷ []) (branches n up i)) i) (λ k j. sym (walk_tour f j) k) (tours_go i (tour_of f) (branches n up i) (branch_of i) (tour_goes f))

  -- the subtree of a station --------------------------------------------------------------------

  pub walk_below : (f i : ℕ) → i < n → AllByRecursion (λ x. (x < n) × AboveAt up depth i x) (walk_of n up f i)
  walk_below zero i l = ((l, above_self r i), tt)
  walk_below (suc f) i l = (
    (l, above_self r i),
    all_joined (λ x. (x < n) × AboveAt up depth i x) (λ j. walk_of n up f j ++ i ∷ []) (branches n up i)
        (AllByRecursion-weaker (λ j. (0 < j) × (j < n) × (up j ≡ i)) (λ j. AllByRecursion (λ x. (x < n) × AboveAt up depth i x) (walk_of n up f j ++ i ∷ []))
        (λ j h. AllByRecursion-append (λ x. (x < n) × AboveAt up depth i x) (walk_of n up f j) (i ∷ [])
        (AllByRecursion-weaker (λ x. (x < n) × AboveAt up depth j x) (λ x. (x < n) × AboveAt up depth i x) (λ x b. (b.0, above_trans r i j x (subst (λ (z : ℕ). AboveAt up depth z j) h.2 (above_up r j h.0 h.1)) b.1)) (walk_of n up f j) (walk_below f j h.1))
        ((l, above_self r i), tt))
        (branches n up i) (branch_of i)),
  )

  -- Entries with w above them stand together: the whole walk of i where w is above i; else all in the
  -- walk of one branch, the one above w.
  pub walk_convex : (w f i : ℕ) → i < n → Convex (AboveAt up depth w) (walk_of n up f i)
  walk_convex w zero i l = one
    where
      one : Convex (AboveAt up depth w) (i ∷ [])
      one a k b h m in' p q = let ka : k ≡ a = omega arith in subst (λ (z : ℕ). AboveAt up depth w (get_or (i ∷ []) z 0)) (sym ka) p
  walk_convex w (suc f) i l =
      ⊎_elim
      (λ (yes' : AboveAt up depth w i). convex_all (AboveAt up depth w) (walk_of n up (suc f) i) (AllByRecursion-weaker (λ x. (x < n) × AboveAt up depth i x) (AboveAt up depth w) (λ x b. above_trans r w i x yes' b.1) (walk_of n up (suc f) i) (walk_below (suc f) i l)))
      (λ (no' : AboveAt up depth w i → ⊥).
      let o : ℕ = climb up (depth w - (depth i + 1)) w in
      convex_left (AboveAt up depth w) (i ∷ []) (flat_map (λ j. walk_of n up f j ++ i ∷ []) (branches n up i)) (no', tt)
      (convex_joined (AboveAt up depth w) (λ j. walk_of n up f j ++ i ∷ []) o (branches n up i) (kept_apart (λ j. eqb (up j) i) 1 (n - 1))
      (AllByRecursion-weaker (λ j. (0 < j) × (j < n) × (up j ≡ i)) (λ j. Convex (AboveAt up depth w) (walk_of n up f j ++ i ∷ [])) (λ j h. convex_right (AboveAt up depth w) (walk_of n up f j) (i ∷ []) (walk_convex w f j h.1) (no', tt)) (branches n up i) (branch_of i))
      (AllByRecursion-weaker (λ j. (0 < j) × (j < n) × (up j ≡ i)) (λ j. (j ≡ o → ⊥) → None (AboveAt up depth w) (walk_of n up f j ++ i ∷ []))
      (λ j h ne. AllByRecursion-append (λ x. AboveAt up depth w x → ⊥) (walk_of n up f j) (i ∷ [])
      (AllByRecursion-weaker (λ x. (x < n) × AboveAt up depth j x) (λ x. AboveAt up depth w x → ⊥) (λ x b wx. ne (owner j h (line no' j h x b.1 wx))) (walk_of n up f j) (walk_below f j h.1))
      (no', tt))
      (branches n up i) (branch_of i))))
      (above_either r w i)
    where
      owner : (j : ℕ) → (0 < j) × (j < n) × (up j ≡ i) → AboveAt up depth j w → j ≡ climb up (depth w - (depth i + 1)) w
      owner j h a =
          let d = r.deeper j h.0 h.1 in
          let e = ap depth h.2 in
          let s : depth w - (depth i + 1) ≡ depth w - depth j = omega arith in
          sym a.1 ∙ sym (ap (λ (k : ℕ). climb up k w) s)

      line : (AboveAt up depth w i → ⊥) → (j : ℕ) → (0 < j) × (j < n) × (up j ≡ i) → (x : ℕ) → AboveAt up depth j x → AboveAt up depth w x → AboveAt up depth j w
      line not-i j h x jx wx =
          ⊎_elim
          (λ (lt : depth j < depth w). above_line r j w x jx wx (omega arith))
          (λ (le : depth w ≤ depth j).
          let same : w ≡ j = above_last r w j h.0 h.1 (above_line r w j x wx jx le) (λ p. not-i (subst (AboveAt up depth w) h.2 p)) in
          subst (AboveAt up depth j) (sym same) (above_self r j))
          (cases_lt (depth j) (depth w))

  goes_at : (a b : ℕ) (xs : List ℕ) (k : ℕ) → Goes (LegAt n up) a xs b → k < length xs → LegAt n up (get_or (a ∷ xs) k 0) (get_or (a ∷ xs) (suc k) 0)
  goes_at a b [] k g l = absurd (omega arith)
  goes_at a b (x ∷ xs) zero g l = g.0
  goes_at a b (x ∷ xs) (suc k) g l = goes_at x b xs k g.1 (omega arith)

  pub walk_legs : (f i k : ℕ) → k + 1 < length (walk_of n up f i) → LegAt n up (get_or (walk_of n up f i) k 0) (get_or (walk_of n up f i) (k + 1) 0)
  walk_legs f i k l =
      let e = walk_tour f i in
      let long = ap length e in
      rw (add-one, e) (goes_at i i (tour_of f i) k (tour_goes f i) (omega arith))
