-- The way between two stations: there is one, only one, and which stations are on it.
use Rattle.std.proofs.Common.{◌≡◌, ℕ, zero, suc, ◌+◌, ◌<◌, ◌≤◌, eqb, ltb, ◌⊎◌, ◌↔◌, List, [], ◌∷◌, ◌++◌, sym, refl, ap, ◌∙◌, subst, inl, inr, ⊎_elim, arith}
use Rattle.std.proofs.lemmas.Bool.{cases_lt, cases_eq, eq-eqb, ne_eqb, lt-ltb, le-ltb, cond-true, cond-false}
use Rattle.tree.specs.Trees.{Rooted, AboveAt, UnderAt, LegAt, MeetAt}
use Rattle.tree.specs.Courses.{course_of}
use Rattle.tree.specs.Ways.{On, Apart, Goes, Way, OnWay}
use Rattle.tree.proofs.Climbs.{above_self, above_trans, above_up, above_line, above_level, above_last, above_either, above_both, depth_pos, above_inside, root_above, off_root, above_over, under_above, under_depth}

-- lists -----------------------------------------------------------------------------------------

on_front : (w : ℕ) (xs ys : List ℕ) → On w xs → On w (xs ++ ys)
on_front w [] ys h = absurd h
on_front w (x ∷ xs) ys h = ⊎_elim (λ (e : x ≡ w). inl e) (λ (k : On w xs). inr (on_front w xs ys k)) h

on_end : (w : ℕ) (xs : List ℕ) → On w (xs ++ w ∷ [])
on_end w [] = inl refl
on_end w (x ∷ xs) = inr (on_end w xs)

on_cases : (w y : ℕ) (xs : List ℕ) → On w (xs ++ y ∷ []) → On w xs ⊎ (y ≡ w)
on_cases w y [] h = ⊎_elim (λ (e : y ≡ w). inr e) (λ (k : ⊥). absurd k) h
on_cases w y (x ∷ xs) h =
    ⊎_elim
    (λ (e : x ≡ w). inl (inl e))
    (λ (k : On w (xs ++ y ∷ [])). ⊎_elim (λ (l : On w xs). inl (inr l)) (λ (e : y ≡ w). inr e) (on_cases w y xs k))
    h

apart_end : (y : ℕ) (xs : List ℕ) → Apart xs → (On y xs → ⊥) → Apart (xs ++ y ∷ [])
apart_end y [] a no' = ((λ h. h), tt)
apart_end y (x ∷ xs) a no' =
    ((λ h. ⊎_elim (λ (k : On x xs). a.0 k) (λ (e : y ≡ x). no' (inl (sym e))) (on_cases x y xs h)), apart_end y xs a.1 (λ k. no' (inr k)))

pub goes_append : (n : ℕ) (up : ℕ → ℕ) (a b c : ℕ) (xs ys : List ℕ) → Goes (LegAt n up) a xs b → Goes (LegAt n up) b ys c → Goes (LegAt n up) a (xs ++ ys) c
goes_append n up a b c [] ys p q = subst (λ (z : ℕ). Goes (LegAt n up) z ys c) (sym p) q
goes_append n up a b c (x ∷ xs) ys p q = (p.0, goes_append n up x b c xs ys p.1 q)

goes_last : (n : ℕ) (up : ℕ → ℕ) (a x b : ℕ) (xs : List ℕ) → Goes (LegAt n up) a (x ∷ xs) b → On b (x ∷ xs)
goes_last n up a x b [] g = inl g.1
goes_last n up a x b (y ∷ ys) g = inr (goes_last n up x y b ys g.1)

-- what lies between u and v: below all that is above both, and above one of them
abbrev pub Between : (ℕ → ℕ) → (ℕ → ℕ) → ℕ → ℕ → ℕ → Type 0
Between up depth u v w = ((c : ℕ) → AboveAt up depth c u → AboveAt up depth c v → AboveAt up depth c w) × (AboveAt up depth w u ⊎ AboveAt up depth w v)

pub swapped : (up depth : ℕ → ℕ) (u v w : ℕ) → Between up depth u v w → Between up depth v u w
swapped up depth u v w b = ((λ c p q. b.0 c q p), ⊎_elim (λ (h : AboveAt up depth w u). inr h) (λ (h : AboveAt up depth w v). inl h) b.1)

-- one step of the course
module _ (up depth : ℕ → ℕ) (f a b : ℕ) where
  pub course_end : a ≡ b → course_of up depth (suc f) a b ≡ a ∷ []
  course_end e = cond-true (eqb a b) (a ∷ []) _ (eq-eqb a b e)

  pub course_right : (a ≡ b → ⊥) → depth a < depth b → course_of up depth (suc f) a b ≡ course_of up depth f a (up b) ++ b ∷ []
  course_right ne lt = cond-false (eqb a b) (a ∷ []) _ (ne_eqb a b ne) ∙ cond-true (ltb (depth a) (depth b)) (course_of up depth f a (up b) ++ b ∷ []) _ (lt-ltb _ _ lt)

  pub course_left : (a ≡ b → ⊥) → depth b ≤ depth a → course_of up depth (suc f) a b ≡ a ∷ course_of up depth f (up a) b
  course_left ne le = cond-false (eqb a b) (a ∷ []) _ (ne_eqb a b ne) ∙ cond-false (ltb (depth a) (depth b)) (course_of up depth f a (up b) ++ b ∷ []) _ (le-ltb _ _ le)

module _ {n : ℕ} {up depth : ℕ → ℕ} (r : Rooted n up depth) where
  between_self : (u v : ℕ) → Between up depth u v u
  between_self u v = ((λ c p q. p), inl (above_self r u))

  -- u is not above v: the way to v goes on from the station over u
  widen : (u v w : ℕ) → u < n → v < n → (AboveAt up depth u v → ⊥) → Between up depth (up u) v w → Between up depth u v w
  widen u v w lu lv np b =
      let some = off_root r u v lv np in (
        (λ c p q. ⊎_elim (λ (e : c ≡ u). absurd (np (subst (λ (z : ℕ). AboveAt up depth z v) e q))) (λ (t : AboveAt up depth c (up u)). b.0 c t q) (above_over r c u some lu p)),
        ⊎_elim (λ (h : AboveAt up depth w (up u)). inl (above_trans r w (up u) u h (above_up r u some lu))) (λ (h : AboveAt up depth w v). inr h) b.1,
      )

  narrow : (u v w : ℕ) → u < n → v < n → (AboveAt up depth u v → ⊥) → Between up depth u v w → (u ≡ w) ⊎ Between up depth (up u) v w
  narrow u v w lu lv np b =
      let some = off_root r u v lv np in
      let rest : (c : ℕ) → AboveAt up depth c (up u) → AboveAt up depth c v → AboveAt up depth c w = λ c p q. b.0 c (above_trans r c (up u) u p (above_up r u some lu)) q in
      ⊎_elim
      (λ (h : AboveAt up depth w u). ⊎_elim (λ (e : w ≡ u). inl (sym e)) (λ (t : AboveAt up depth w (up u)). inr (rest, inl t)) (above_over r w u some lu h))
      (λ (h : AboveAt up depth w v). inr (rest, inr h))
      b.1

  left_behind : (u v : ℕ) → u < n → v < n → (AboveAt up depth u v → ⊥) → Between up depth (up u) v u → ⊥
  left_behind u v lu lv np b =
      let d = r.deeper u (off_root r u v lv np) lu in
      ⊎_elim (λ (h : AboveAt up depth u (up u)). omega arith) (λ (h : AboveAt up depth u v). np h) b.1

  -- there is a way, and on it is what lies between
  abbrev pub Course : ℕ → ℕ → Type 0
  Course u v = (xs : List ℕ) × (Way (LegAt n up) u xs v × ((w : ℕ) → On w (u ∷ xs) → Between up depth u v w) × ((w : ℕ) → Between up depth u v w → On w (u ∷ xs)))

  course_same : (u v : ℕ) → u ≡ v → Course u v
  course_same u v e = (
    [],
    (
      (e, ((λ h. h), tt)),
      (λ w h. ⊎_elim (λ (k : u ≡ w). subst (Between up depth u v) k (between_self u v)) (λ (k : ⊥). absurd k) h),
      (λ w b.
          let wu : AboveAt up depth w u = ⊎_elim (λ (h : AboveAt up depth w u). h) (λ (h : AboveAt up depth w v). subst (AboveAt up depth w) (sym e) h) b.1 in
          inl (above_both r u w (b.0 u (above_self r u) (subst (AboveAt up depth u) e (above_self r u))) wu)),
    ),
  )

  course_up : (u v : ℕ) → u < n → v < n → (AboveAt up depth u v → ⊥) → Course (up u) v → Course u v
  course_up u v lu lv np f = (
    up u ∷ f.0,
    (
      ((inr (off_root r u v lv np, lu, refl), f.1.0.0), ((λ h. left_behind u v lu lv np (f.1.1 u h)), f.1.0.1)),
      (λ w h. ⊎_elim (λ (k : u ≡ w). subst (Between up depth u v) k (between_self u v)) (λ (k : On w (up u ∷ f.0)). widen u v w lu lv np (f.1.1 w k)) h),
      (λ w b. ⊎_elim (λ (k : u ≡ w). inl k) (λ (k : Between up depth (up u) v w). inr (f.1.2 w k)) (narrow u v w lu lv np b)),
    ),
  )

  course_down : (u v : ℕ) → u < n → v < n → (AboveAt up depth v u → ⊥) → Course u (up v) → Course u v
  course_down u v lu lv np f = (
    f.0 ++ v ∷ [],
    (
      (
        goes_append n up u (up v) v f.0 (v ∷ []) f.1.0.0 (inl (off_root r v u lu np, lv, refl), refl),
        apart_end v (u ∷ f.0) f.1.0.1 (λ h. left_behind v u lv lu np (swapped up depth u (up v) v (f.1.1 v h))),
      ),
      (λ w h. ⊎_elim
          (λ (k : On w (u ∷ f.0)). swapped up depth v u w (widen v u w lv lu np (swapped up depth u (up v) w (f.1.1 w k))))
          (λ (k : v ≡ w). subst (Between up depth u v) k (swapped up depth v u v (between_self v u)))
          (on_cases w v (u ∷ f.0) h)),
      (λ w b. ⊎_elim
          (λ (k : v ≡ w). subst (λ (z : ℕ). On z (u ∷ f.0 ++ v ∷ [])) k (on_end v (u ∷ f.0)))
          (λ (k : Between up depth (up v) u w). on_front w (u ∷ f.0) (v ∷ []) (f.1.2 w (swapped up depth (up v) u w k)))
          (narrow v u w lv lu np (swapped up depth u v w b))),
    ),
  )

  -- the course is a way
  pub course_is : (f u v : ℕ) → u < n → v < n → depth u + depth v ≤ f → (c : Course u v) × (course_of up depth f u v ≡ u ∷ c.0)
  unfolding course_same course_up course_down
  course_is zero u v lu lv h = absurd (omega (arith, depth_pos r u lu))
  course_is (suc f) u v lu lv h =
      ⊎_elim
      (λ (e : u ≡ v). (course_same u v e, course_end up depth f u v e))
      (λ (ne : u ≡ v → ⊥).
      ⊎_elim
      (λ (lt : depth u < depth v).
      let np : AboveAt up depth v u → ⊥ = λ p. omega (arith, p.0) in
      let d = r.deeper v (off_root r v u lu np) lv in
      let t = course_is f u (up v) lu (r.inside v lv) (omega arith) in
      (course_down u v lu lv np t.0, course_right up depth f u v ne lt ∙ ap (λ (xs : List ℕ). xs ++ v ∷ []) t.1))
      (λ (le : depth v ≤ depth u).
      let np : AboveAt up depth u v → ⊥ = λ p. ne (above_level r u v p le) in
      let d = r.deeper u (off_root r u v lv np) lu in
      let t = course_is f (up u) v (r.inside u lu) lv (omega arith) in
      (course_up u v lu lv np t.0, course_left up depth f u v ne le ∙ ap (λ (xs : List ℕ). u ∷ xs) t.1))
      (cases_lt (depth u) (depth v)))
      (cases_eq u v)

  -- a course that leaves the stations below o passes the station over o
  leaves : (o a b : ℕ) (xs : List ℕ) → Goes (LegAt n up) a xs b → AboveAt up depth o a → (AboveAt up depth o b → ⊥) → On (up o) (a ∷ xs)
  leaves o a b [] g p np = absurd (np (subst (AboveAt up depth o) g p))
  leaves o a b (x ∷ xs) g p np =
      ⊎_elim
      (λ (q : AboveAt up depth o x). inr (leaves o x b xs g.1 q np))
      (λ (nq : AboveAt up depth o x → ⊥).
      ⊎_elim
      (λ (l : UnderAt n up x a). absurd (nq (above_trans r o a x p (under_above r x a l))))
      (λ (l : UnderAt n up a x).
      let same : o ≡ a = above_last r o a l.0 l.1 p (λ s. nq (subst (AboveAt up depth o) l.2 s)) in
      inr (inl (sym (ap up same ∙ l.2))))
      g.0)
      (above_either r o x)

  -- a course that comes to the stations below o passes o
  enters : (o a b : ℕ) (xs : List ℕ) → Goes (LegAt n up) a xs b → (AboveAt up depth o a → ⊥) → AboveAt up depth o b → On o xs
  enters o a b [] g np p = absurd (np (subst (AboveAt up depth o) (sym g) p))
  enters o a b (x ∷ xs) g np p =
      ⊎_elim
      (λ (q : AboveAt up depth o x).
      ⊎_elim
      (λ (l : UnderAt n up x a). inl (sym (above_last r o x l.0 l.1 q (λ s. np (subst (AboveAt up depth o) l.2 s)))))
      (λ (l : UnderAt n up a x). absurd (np (above_trans r o x a q (under_above r a x l))))
      g.0)
      (λ (nq : AboveAt up depth o x → ⊥). inr (enters o x b xs g.1 nq p))
      (above_either r o x)

  -- the first leg of a way leads up, or down towards its end
  abbrev pub First : ℕ → ℕ → ℕ → Type 0
  First u x v = ((AboveAt up depth u v → ⊥) × UnderAt n up u x) ⊎ (AboveAt up depth x v × UnderAt n up x u)

  pub first : (u x v : ℕ) (xs : List ℕ) → Way (LegAt n up) u (x ∷ xs) v → First u x v
  first u x v xs p =
      ⊎_elim
      (λ (l : UnderAt n up x u).
      ⊎_elim
      (λ (q : AboveAt up depth x v). inr (q, l))
      (λ (nq : AboveAt up depth x v → ⊥). absurd (p.1.0 (subst (λ (z : ℕ). On z (x ∷ xs)) l.2 (leaves x x v xs p.0.1 (above_self r x) nq))))
      (above_either r x v))
      (λ (l : UnderAt n up u x).
      ⊎_elim
      (λ (q : AboveAt up depth u v). absurd (p.1.0 (inr (enters u x v xs p.0.1 (λ s. omega (arith, s.0, under_depth r u x l)) q))))
      (λ (nq : AboveAt up depth u v → ⊥). inl (nq, l))
      (above_either r u v))
      p.0.0

  next_inside : (u x : ℕ) → u < n → LegAt n up u x → x < n
  next_inside u x lu l = ⊎_elim (λ (a : UnderAt n up x u). a.1) (λ (a : UnderAt n up u x). subst (λ (z : ℕ). z < n) a.2 (r.inside u lu)) l

  pub way_between : (u v : ℕ) (xs : List ℕ) → u < n → v < n → Way (LegAt n up) u xs v → (w : ℕ) → On w (u ∷ xs) → Between up depth u v w
  way_between u v [] lu lv p w h = ⊎_elim (λ (k : u ≡ w). subst (Between up depth u v) k (between_self u v)) (λ (k : ⊥). absurd k) h
  way_between u v (x ∷ xs) lu lv p w h =
      ⊎_elim
      (λ (k : u ≡ w). subst (Between up depth u v) k (between_self u v))
      (λ (k : On w (x ∷ xs)).
      let b = way_between x v xs (next_inside u x lu p.0.0) lv (p.0.1, p.1.1) w k in
      ⊎_elim
      (λ (s : (AboveAt up depth u v → ⊥) × UnderAt n up u x). widen u v w lu lv s.0 (subst (λ (z : ℕ). Between up depth z v w) (sym s.1.2) b))
      (λ (s : AboveAt up depth x v × UnderAt n up x u). (
        (λ c q t. b.0 c (above_trans r c u x q (under_above r x u s.1)) t),
        ⊎_elim (λ (t : AboveAt up depth w x). inr (above_trans r w x v t s.0)) (λ (t : AboveAt up depth w v). inr t) b.1,
      ))
      (first u x v xs p))
      h

  same_first : (u x y v : ℕ) → First u x v → First u y v → x ≡ y
  same_first u x y v s t =
      ⊎_elim
      (λ (a : (AboveAt up depth u v → ⊥) × UnderAt n up u x).
      ⊎_elim
      (λ (b : (AboveAt up depth u v → ⊥) × UnderAt n up u y). sym a.1.2 ∙ b.1.2)
      (λ (b : AboveAt up depth y v × UnderAt n up y u). absurd (a.0 (above_trans r u y v (under_above r y u b.1) b.0)))
      t)
      (λ (a : AboveAt up depth x v × UnderAt n up x u).
      ⊎_elim
      (λ (b : (AboveAt up depth u v → ⊥) × UnderAt n up u y). absurd (b.0 (above_trans r u x v (under_above r x u a.1) a.0)))
      (λ (b : AboveAt up depth y v × UnderAt n up y u).
      let dx = under_depth r x u a.1 in
      let dy = under_depth r y u b.1 in
      above_level r x y (above_line r x y v a.0 b.0 (omega arith)) (omega arith))
      t)
      s

  pub way_only : (u v : ℕ) (xs ys : List ℕ) → u < n → v < n → Way (LegAt n up) u xs v → Way (LegAt n up) u ys v → xs ≡ ys
  way_only u v [] [] lu lv p q = refl
  way_only u v [] (y ∷ ys) lu lv p q = absurd (q.1.0 (subst (λ (z : ℕ). On z (y ∷ ys)) (sym p.0) (goes_last n up u y v ys q.0)))
  way_only u v (x ∷ xs) [] lu lv p q = absurd (p.1.0 (subst (λ (z : ℕ). On z (x ∷ xs)) (sym q.0) (goes_last n up u x v xs p.0)))
  way_only u v (x ∷ xs) (y ∷ ys) lu lv p q =
      let same = same_first u x y v (first u x v xs p) (first u y v ys q) in
      let back : Way (LegAt n up) x ys v = subst (λ (z : ℕ). Way (LegAt n up) z ys v) (sym same) (q.0.1, q.1.1) in
      let rest = way_only x v xs ys (next_inside u x lu p.0.0) lv (p.0.1, p.1.1) back in
      cc

  pub on_way_between : (u v w : ℕ) → u < n → v < n → OnWay (LegAt n up) u v w → Between up depth u v w
  on_way_between u v w lu lv o = way_between u v o.0 lu lv o.1.0 w o.1.1

  pub between_on_way : (u v w : ℕ) → u < n → v < n → Between up depth u v w → OnWay (LegAt n up) u v w
  between_on_way u v w lu lv b = let f = (course_is (depth u + depth v) u v lu lv (omega arith)).0 in (f.0, (f.1.0, f.1.2 w b))

  pub way_there : (u v : ℕ) → u < n → v < n → (xs : List ℕ) × Way (LegAt n up) u xs v
  way_there u v lu lv = let f = (course_is (depth u + depth v) u v lu lv (omega arith)).0 in (f.0, f.1.0)

  -- the deepest station above two stations is one
  pub meet_one : (u v m k : ℕ) → MeetAt n up depth m u v → MeetAt n up depth k u v → k ≡ m
  meet_one u v m k p q = above_both r k m (p.3 k q.1 q.2) (q.3 m p.1 p.2)

  -- above is: on the way from the root
  pub above_way : (w x : ℕ) → x < n → AboveAt up depth w x ↔ OnWay (LegAt n up) 0 x w
  above_way w x l = (
    (λ p. between_on_way 0 x w r.some l ((λ c q _. subst (λ (z : ℕ). AboveAt up depth z w) (sym (top c q)) (root_above r w (above_inside r w x l p))), inr p)),
    (λ o. ⊎_elim
        (λ (q : AboveAt up depth w 0). subst (λ (z : ℕ). AboveAt up depth z x) (sym (top w q)) (root_above r x l))
        (λ (q : AboveAt up depth w x). q)
        (on_way_between 0 x w r.some l o).1),
  )
    where
      top : (c : ℕ) → AboveAt up depth c 0 → c ≡ 0
      top c q = above_level r c 0 q (omega (arith, r.top, depth_pos r c (above_inside r c 0 r.some q)))
