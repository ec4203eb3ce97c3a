-- One turn of the loops that lead the legs of a file's records to the root.
use Rattle.std.proofs.Common.{◌≡◌, ℕ, ◌+◌, ◌<◌, ◌≤◌, List, length, get_or, set, sym, ap, ◌∙◌, subst, inl, inr, ⊎_elim, arith}
use Rattle.std.proofs.lemmas.Bool.{cases_lt, cases_eq}
use Rattle.std.proofs.lemmas.List.{get_or-set_same, get_or-set_other}
use Rattle.tree.specs.Turned.{Unset, Linked, Turned, Settling}

pub turned_start : (js : List ℕ) (root : ℕ) (ups ds : List ℕ) → root < length js → length js ≤ length ups → length js ≤ length ds → Unset ds → Turned js root (set ups root root) (set ds root 1) root
turned_start js root ups ds l u e unset =
    let same : get_or (set ds root 1) root 0 ≡ 1 = get_or-set_same ds root 1 0 (omega arith) in
    let other : (x : ℕ) → (x ≡ root → ⊥) → x < length js → get_or (set ds root 1) x 0 ≡ 0 = λ x ne lx. get_or-set_other ds root x 1 0 ne ∙ unset x (omega arith) in
    record {
      top = same;
      own = get_or-set_same ups root root 0 (omega arith);
      here = omega arith;
      later = λ k h. other k (λ q. omega arith) (omega arith);
      low = λ k h. ⊎_elim (λ (q : k ≡ root). omega (arith, ap (λ (i : ℕ). get_or (set ds root 1) i 0) q)) (λ (q : k ≡ root → ⊥). omega (arith, other k q h)) (cases_eq k root);
      linked = λ x lx p ne. absurd (omega (arith, other x ne lx));
      turned = λ k h lk p. absurd (omega (arith, other k (λ q. omega arith) lk));
    }

-- a link that the writes at `at` leave
kept : (js ups ds : List ℕ) (at u d x : ℕ) → get_or ds at 0 ≡ 0 → (x ≡ at → ⊥) → Linked js ups ds x → Linked js (set ups at u) (set ds at d) x
kept js ups ds at u d x z ne k =
    let eu = get_or-set_other ups at x u 0 ne in
    let ed = get_or-set_other ds at x d 0 ne in
    let ep = get_or-set_other ds at (get_or ups x 0) d 0 (λ q. omega (arith, k.1, ap (λ (i : ℕ). get_or ds i 0) q)) in
    rw (eu, ed, ep) k

module _ (js : List ℕ) (root : ℕ) (ups ds : List ℕ) (lu : length js ≤ length ups) (ld : length js ≤ length ds) where
  pub turned_more : (cur level : ℕ) → root < length js → 0 < cur → cur ≤ root → get_or js cur 0 < cur → get_or ds cur 0 ≡ level → level < 1024 → Turned js root ups ds cur → Turned js root (set ups (get_or js cur 0) cur) (set ds (get_or js cur 0) (level + 1)) (get_or js cur 0)
  turned_more cur level lr some le lt at few t =
      let nx : ℕ = get_or js cur 0 in
      let none = t.later nx lt in
      let du : get_or (set ups nx cur) nx 0 ≡ cur = get_or-set_same ups nx cur 0 (omega arith) in
      let dd : get_or (set ds nx (level + 1)) nx 0 ≡ level + 1 = get_or-set_same ds nx (level + 1) 0 (omega arith) in
      let ou : (x : ℕ) → (x ≡ nx → ⊥) → get_or (set ups nx cur) x 0 ≡ get_or ups x 0 = λ x ne. get_or-set_other ups nx x cur 0 ne in
      let od : (x : ℕ) → (x ≡ nx → ⊥) → get_or (set ds nx (level + 1)) x 0 ≡ get_or ds x 0 = λ x ne. get_or-set_other ds nx x (level + 1) 0 ne in
      let dc = od cur (λ q. omega arith) in
      let pos = t.here in
      record {
        top = od root (λ q. omega arith) ∙ t.top;
        own = ou root (λ q. omega arith) ∙ t.own;
        here = omega arith;
        later = λ k h. od k (λ q. omega arith) ∙ t.later k (omega arith);
        low = λ k h. ⊎_elim (λ (q : k ≡ nx). omega (arith, ap (λ (i : ℕ). get_or (set ds nx (level + 1)) i 0) q)) (λ (q : k ≡ nx → ⊥). omega (arith, od k q, t.low k h)) (cases_eq k nx);
        linked = λ x lx p ne.
            ⊎_elim
            (λ (q : x ≡ nx). subst (Linked js (set ups nx cur) (set ds nx (level + 1))) (sym q)
            (let ec = ap (λ (i : ℕ). get_or (set ds nx (level + 1)) i 0) du in (omega arith, omega arith, omega arith, inr (omega arith, ap (λ (i : ℕ). get_or js i 0) du))))
            (λ (q : x ≡ nx → ⊥). kept js ups ds nx cur (level + 1) x none q (t.linked x lx (omega (arith, od x q)) ne))
            (cases_eq x nx);
        turned = λ k h lk p.
            let dk = od k (λ q. omega arith) in
            ⊎_elim
            (λ (q : k ≡ cur). subst (λ (i : ℕ). (0 < get_or (set ds nx (level + 1)) (get_or js i 0) 0) × (get_or (set ups nx cur) (get_or js i 0) 0 ≡ i)) (sym q) (omega arith, du))
            (λ (q : k ≡ cur → ⊥).
            ⊎_elim
            (λ (a : k < cur). absurd (omega (arith, t.later k a)))
            (λ (a : cur ≤ k).
            let old = t.turned k (omega arith) lk (omega arith) in
            let ne : get_or js k 0 ≡ nx → ⊥ = λ z. omega (arith, old.0, ap (λ (i : ℕ). get_or ds i 0) z) in
            rw (ou (get_or js k 0) ne, od (get_or js k 0) ne) old)
            (cases_lt k cur))
            (cases_eq k cur);
      }

  pub settling_more : (k level : ℕ) → 0 < k → k < length js → get_or js k 0 < k → get_or ds k 0 ≡ 0 → get_or ds (get_or js k 0) 0 ≡ level → Settling js root ups ds k → Settling js root (set ups k (get_or js k 0)) (set ds k (level + 1)) (k + 1)
  settling_more k level some lk lt none at s =
      let nx : ℕ = get_or js k 0 in
      let pos = s.done nx lt in
      let small = s.low nx (omega arith) in
      let du : get_or (set ups k nx) k 0 ≡ nx = get_or-set_same ups k nx 0 (omega arith) in
      let dd : get_or (set ds k (level + 1)) k 0 ≡ level + 1 = get_or-set_same ds k (level + 1) 0 (omega arith) in
      let ou : (x : ℕ) → (x ≡ k → ⊥) → get_or (set ups k nx) x 0 ≡ get_or ups x 0 = λ x ne. get_or-set_other ups k x nx 0 ne in
      let od : (x : ℕ) → (x ≡ k → ⊥) → get_or (set ds k (level + 1)) x 0 ≡ get_or ds x 0 = λ x ne. get_or-set_other ds k x (level + 1) 0 ne in
      let dn = od nx (λ q. omega arith) in
      record {
        top = od root (λ q. omega (arith, s.top, ap (λ (i : ℕ). get_or ds i 0) q)) ∙ s.top;
        own = ou root (λ q. omega (arith, s.top, ap (λ (i : ℕ). get_or ds i 0) q)) ∙ s.own;
        low = λ x h. ⊎_elim (λ (q : x ≡ k). omega (arith, ap (λ (i : ℕ). get_or (set ds k (level + 1)) i 0) q)) (λ (q : x ≡ k → ⊥). omega (arith, od x q, s.low x h)) (cases_eq x k);
        done = λ x h. ⊎_elim (λ (q : x ≡ k). omega (arith, ap (λ (i : ℕ). get_or (set ds k (level + 1)) i 0) q)) (λ (q : x ≡ k → ⊥). omega (arith, od x q, s.done x (omega arith))) (cases_eq x k);
        linked = λ x lx p ne.
            ⊎_elim
            (λ (q : x ≡ k). subst (Linked js (set ups k nx) (set ds k (level + 1))) (sym q)
            (let en = ap (λ (i : ℕ). get_or (set ds k (level + 1)) i 0) du in (omega arith, omega arith, omega arith, inl (some, du))))
            (λ (q : x ≡ k → ⊥). kept js ups ds k nx (level + 1) x none q (s.linked x lx (omega (arith, od x q)) ne))
            (cases_eq x k);
        legs = λ x h lx p.
            ⊎_elim
            (λ (q : x ≡ k). inr (subst (λ (i : ℕ). get_or (set ups k nx) i 0 ≡ get_or js i 0) (sym q) du))
            (λ (q : x ≡ k → ⊥).
            ⊎_elim
            (λ (a : (0 < get_or ds (get_or js x 0) 0) × (get_or ups (get_or js x 0) 0 ≡ x)).
            let ne : get_or js x 0 ≡ k → ⊥ = λ z. omega (arith, a.0, ap (λ (i : ℕ). get_or ds i 0) z) in
            inl (rw (ou (get_or js x 0) ne, od (get_or js x 0) ne) a))
            (λ (a : get_or ups x 0 ≡ get_or js x 0). inr (ou x q ∙ a))
            (s.legs x h lx (omega (arith, od x q))))
            (cases_eq x k);
      }

  pub settling_kept : (k : ℕ) → 0 < get_or ds k 0 → Settling js root ups ds k → Settling js root ups ds (k + 1)
  settling_kept k p s =
      record {
        top = s.top;
        own = s.own;
        low = λ x h. omega (arith, s.low x h);
        done = λ x h. ⊎_elim (λ (q : x ≡ k). omega (arith, ap (λ (i : ℕ). get_or ds i 0) q)) (λ (q : x ≡ k → ⊥). s.done x (omega arith)) (cases_eq x k);
        linked = s.linked;
        legs = s.legs;
      }
