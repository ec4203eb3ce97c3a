-- Whole runs of the two lines.
use Rattle.std.proofs.Common.{◌≡◌, ℕ, zero, suc, ◌+◌, ◌-◌, ◌*◌, ◌^◌, ◌<◌, ◌≤◌, Bool, true, false, not, ◌&&◌, ◌||◌, List, map, length, get_or, None, count_by, Option, sym, refl, ap, ◌∙◌, subst, ⊎_elim, arith}
use Rattle.std.proofs.lemmas.List.{length-map, get_or-map, get_or_past, ext_get_or}
use Rattle.std.proofs.lemmas.Bool.{cases_Bool, cases_lt, true≢false, and_left, and_from, not_from_true, not_from_false, or_from}
use Rattle.slot.specs.declared.position.Position.{Position}
use Rattle.wire.specs.Spreads.{Within, Spread}
use Rattle.wire.specs.Units.{Honest}
use Rattle.wire.proofs.Counts.{one, honest_below}
use Rattle.trim.specs.Trims.{halving_step, graded_step}
use Rattle.trim.specs.Steps.{entry, Shared, differences, ceil, Inside}
use Rattle.trim.specs.Iterations.{halves, worst, halving_rounds, graded_iterations}
use Rattle.trim.specs.Entries.{entry_of}
use Rattle.trim.specs.Runs.{Bounded, Settled, LineRun, HalvingRun, GradedRun, marked, Unequal, Runs}
use Rattle.trim.proofs.Steps.{halving_inside, halving_near, graded_inside, graded_near}
use Rattle.trim.proofs.Iterations.{halves_end, worst_one, worsts}
use Rattle.trim.proofs.Entries.{entry_at, step_in}
use Rattle.trim.proofs.Families.{lowest, highest, marked_add, marked_faulty, differ_marked, unmarked}

-- a run of either line
module _ (n t span R : ℕ) (honest : List Bool) (p : ℕ → ℕ → ℕ) (slots : ℕ → ℕ → List (Option Position)) (step : ℕ → List ℕ → ℕ) (inside : Inside step) (run : LineRun n t span R honest p slots step) where
  abbrev list : ℕ → ℕ → List ℕ
  list r i = map (entry_of span) (slots r i)

  pub list_size : (r i : ℕ) → r < R → Honest honest i → length (list r i) ≡ n
  list_size r i l s = length-map (slots r i) (entry_of span) ∙ run.size r i l s

  in_span : (r : ℕ) → r ≤ R → Within honest (p r) 1 span
  in_span zero h i s = run.starts i s
  in_span (suc r) h i s =
      let l : r < R = h in
      let w = step_in span t (slots r i) (omega (arith, run.starts i s)) (omega (arith, run.size r i l s, run.faults.enough)) step inside in
      let m = run.moves r i l s in
      (omega (arith, m, w.0), omega (arith, m, w.1))

  list_gets : (r i j : ℕ) → r < R → Honest honest i → Honest honest j → entry (list r i) j ≡ p r j
  list_gets r i j l si sj =
      let w = in_span r (omega arith) j sj in
      get_or-map (entry_of span) (slots r i) j None 0 (omega (arith, run.size r i l si, honest_below honest j sj, run.faults.size))
      ∙ ap (entry_of span) (run.gets r i j l si sj) ∙ entry_at span (p r j) w.0 w.1 run.short

  list_within : (r i lo hi : ℕ) → r < R → Honest honest i → Within honest (p r) lo hi → Within honest (entry (list r i)) lo hi
  list_within r i lo hi l s w j k = let e = list_gets r i j l s k in (omega (arith, e, (w j k).0), omega (arith, e, (w j k).1))

  stays : (r : ℕ) → r ≤ R → Bounded honest (p 0) (p r)
  stays zero h lo hi w i s = w i s
  stays (suc r) h lo hi w i s =
      let l : r < R = h in
      let a = inside n t honest run.faults (list r i) (list_size r i l s) lo hi
      (list_within r i lo hi l s (stays r (omega arith) lo hi w)) in
      let m = run.moves r i l s in
      (omega (arith, m, a.0), omega (arith, m, a.1))

  pub all_stay : Bounded honest (p 0) (p R)
  all_stay = stays R (omega arith)

  -- one round, where a step leads two units to within E of each other
  pub closer : (r D E : ℕ) → r < R
      → ((i j lo hi : ℕ) → Honest honest i → Honest honest j → Shared honest (list r i) (list r j) → Within honest (entry (list r i)) lo hi → hi - lo ≡ D
      → step t (list r i) ≤ step t (list r j) + E)
      → Spread honest (p r) D → Spread honest (p (suc r)) E
  closer r D E l near spread i j si sj =
      let a = lowest n t honest run.faults (p r) in
      let lo = p r a.0 in
      let h = near i j lo (lo + D) si sj (λ k sk. list_gets r i k l si sk ∙ sym (list_gets r j k l sj sk))
      (list_within r i lo (lo + D) l si (λ k sk. (a.2 k sk, spread k a.0 sk a.1))) (omega arith) in
      omega (arith, run.moves r i l si, run.moves r j l sj, h)

  -- positions in 1 to span are at most span - 1 apart
  pub first_spread : Spread honest (p 0) (span - 1)
  first_spread i j si sj = omega (arith, run.starts i si, run.starts j sj)

  pub settled : Spread honest (p R) 1 → Settled honest (p 0) (p R)
  settled close =
      let low = lowest n t honest run.faults (p 0) in
      let high = highest n t honest run.faults (p 0) in
      record {
        close = close;
        between = λ i s.
            let w = all_stay (p 0 low.0) (p 0 high.0) (λ j k. (low.2 j k, high.2 j k)) i s in
            (low.0, high.0, low.1, high.1, w.0, w.1);
        bounded = all_stay;
      }

-- the halving line
module _ (n t span R : ℕ) (honest : List Bool) (p : ℕ → ℕ → ℕ) (slots : ℕ → ℕ → List (Option Position)) (run : HalvingRun n t span R honest p slots) where
  halving_stays : Bounded honest (p 0) (p R)
  halving_stays = all_stay n t span R honest p slots halving_step halving_inside run

  halving_once : (r D : ℕ) → r < R → Spread honest (p r) D → Spread honest (p (suc r)) (ceil D 2)
  halving_once r D l =
      let size = list_size n t span R honest p slots halving_step halving_inside run in
      closer n t span R honest p slots halving_step halving_inside run r D (ceil D 2) l
      (λ i j lo hi si sj same w e.
      omega (arith, halving_near n t honest run.faults _ _ (size r i l si) (size r j l sj) same lo hi w, ap (λ d. ceil d 2) e))

  halving_on : (k r D : ℕ) → r + k ≡ R → Spread honest (p r) D → Spread honest (p R) (halves D k)
  halving_on zero r D e spread = let q : r ≡ R = omega arith in subst (λ x. Spread honest (p x) D) q spread
  halving_on (suc k) r D e spread = halving_on k (suc r) (ceil D 2) (omega arith) (halving_once r D (omega arith) spread)

  halving_spread : (D : ℕ) → Spread honest (p 0) D → Spread honest (p R) (halves D R)
  halving_spread D = halving_on R 0 D (omega arith)

  halving_settled : span - 1 ≤ 2 ^ R → Settled honest (p 0) (p R)
  halving_settled enough =
      let few = halves_end (span - 1) R enough in
      let w = halving_spread (span - 1) (first_spread n t span R honest p slots halving_step halving_inside run) in
      settled n t span R honest p slots halving_step halving_inside run (λ i j si sj. omega (arith, w i j si sj, few))

-- the graded line
module _ (n t span R : ℕ) (honest : List Bool) (p : ℕ → ℕ → ℕ) (slots : ℕ → ℕ → List (Option Position)) (differs : ℕ → ℕ → Bool) (run : GradedRun n t span R honest p slots differs) where
  abbrev lists : ℕ → ℕ → List ℕ
  lists r i = map (entry_of span) (slots r i)

  size : (r i : ℕ) → r < R → Honest honest i → length (lists r i) ≡ n
  size = list_size n t span R honest p slots graded_step graded_inside run.line

  graded_stays : Bounded honest (p 0) (p R)
  graded_stays = all_stay n t span R honest p slots graded_step graded_inside run.line

  -- is unit s faulty?
  abbrev faulty : ℕ → Bool
  faulty s = not (get_or honest s false)

  -- is it marked for one of the first r iterations?
  abbrev earlier : ℕ → ℕ → Bool
  earlier zero s = false
  earlier (suc r) s = earlier r s || differs r s

  -- the faulty units that are marked for iteration r, and those that are not marked for an earlier one
  abbrev current : ℕ → ℕ → Bool
  current r s = faulty s && differs r s

  abbrev fresh : ℕ → ℕ → Bool
  fresh r s = faulty s && not (earlier r s)

  not_earlier : (r s : ℕ) → r < R → differs r s ≡ true → (q : ℕ) → q ≤ r → earlier q s ≡ false
  not_earlier r s l h zero k = refl
  not_earlier r s l h (suc q) k =
      or_from (earlier q s) (differs q s) (not_earlier r s l h q (omega arith))
      (⊎_elim (λ e. absurd (omega (arith, run.once q r s (omega arith) l e h))) (λ f. f) (cases_Bool (differs q s)))

  fewer : (a b c : Bool) → (c ≡ true → b ≡ false) → one (a && not (b || c)) + one (a && c) ≤ one (a && not b)
  fewer true true true h = absurd (true≢false (h refl))
  fewer true true false h = omega arith
  fewer true false true h = omega arith
  fewer true false false h = omega arith
  fewer false b c h = omega arith

  fewer_fresh : (r : ℕ) → r < R → marked (fresh (suc r)) n + marked (current r) n ≤ marked (fresh r) n
  fewer_fresh r l =
      marked_add (fresh (suc r)) (current r) (fresh r) n
      (λ s. fewer (faulty s) (earlier r s) (differs r s) (λ h. not_earlier r s l h r (omega arith)))

  fresh_first : marked (fresh 0) n ≤ count_by not honest
  fresh_first =
      subst (λ k. marked (fresh 0) k ≤ count_by not honest) run.line.faults.size
      (marked_faulty honest (fresh 0) (λ s h. and_left (faulty s) (not (earlier 0 s)) (not_from_true (get_or honest s false) h)))

  -- honest units have the same of every unit that is honest or not marked
  same_slot : (r i j s : ℕ) → r < R → Honest honest i → Honest honest j → current r s ≡ false → get_or (slots r i) s None ≡ get_or (slots r j) s None
  same_slot r i j s l si sj h =
      ⊎_elim
      (λ good. run.line.gets r i s l si good ∙ sym (run.line.gets r j s l sj good))
      (λ bad. run.agrees r i j s l si sj
      (⊎_elim
      (λ t. absurd (true≢false (sym (and_from (faulty s) (differs r s) (not_from_false (get_or honest s false) bad) t) ∙ h)))
      (λ f. f)
      (cases_Bool (differs r s))))
      (cases_Bool (get_or honest s false))

  same_entry : (r i j s : ℕ) → r < R → Honest honest i → Honest honest j → current r s ≡ false → entry (lists r i) s ≡ entry (lists r j) s
  same_entry r i j s l si sj h =
      ⊎_elim
      (λ below.
      get_or-map (entry_of span) (slots r i) s None 0 (omega (arith, run.line.size r i l si)) ∙ ap (entry_of span) (same_slot r i j s l si sj h)
      ∙ sym (get_or-map (entry_of span) (slots r j) s None 0 (omega (arith, run.line.size r j l sj))))
      (λ past. get_or_past (lists r i) s 0 (omega (arith, size r i l si)) ∙ sym (get_or_past (lists r j) s 0 (omega (arith, size r j l sj))))
      (cases_lt s n)

  few_differ : (r i j : ℕ) → r < R → Honest honest i → Honest honest j → differences (lists r i) (lists r j) ≤ marked (current r) n
  few_differ r i j l si sj =
      subst (λ k. differences (lists r i) (lists r j) ≤ marked (current r) k) (size r i l si)
      (differ_marked (lists r i) (lists r j) (current r) (size r i l si ∙ sym (size r j l sj)) (λ s. same_entry r i j s l si sj))

  graded_once : (r D : ℕ) → r < R → Spread honest (p r) D → Spread honest (p (suc r)) (ceil (marked (current r) n * D) (n - 2 * t))
  graded_once r D l =
      let k = marked (current r) n in
      closer n t span R honest p slots graded_step graded_inside run.line r D (ceil (k * D) (n - 2 * t)) l
      (λ i j lo hi si sj same w e.
      let near = graded_near n t honest run.line.faults (lists r i) (lists r j) (size r i l si) (size r j l sj) same lo hi w k (few_differ r i j l si sj) in
      omega (arith, near, ap (λ d. ceil (k * d) (n - 2 * t)) e))

  graded_on : (k r D f : ℕ) → r + k ≡ R → marked (fresh r) n ≤ f → Spread honest (p r) D → Spread honest (p R) (worst (n - 2 * t) D k f)
  graded_on zero r D f e h spread = let q : r ≡ R = omega arith in subst (λ x. Spread honest (p x) D) q spread
  graded_on (suc k) r D f e h spread =
      let l : r < R = omega arith in
      let m = n - 2 * t in
      let c = marked (current r) n in
      let less = fewer_fresh r l in
      let next = graded_on k (suc r) (ceil (c * D) m) (f - c) (omega arith) (omega arith) (graded_once r D l spread) in
      let more = worst_one m D k f c (omega arith) in
      λ i j si sj. omega (arith, next i j si sj, more)

  graded_spread : (f : ℕ) → count_by not honest ≤ f → (D : ℕ) → Spread honest (p 0) D → Spread honest (p R) (worst (n - 2 * t) D R f)
  graded_spread f h D = graded_on R 0 D f (omega arith) (omega (arith, fresh_first))

  graded_settled : worst (n - 2 * t) (span - 1) R t ≤ 1 → Settled honest (p 0) (p R)
  graded_settled enough =
      let w = graded_spread t run.line.faults.few (span - 1) (first_spread n t span R honest p slots graded_step graded_inside run.line) in
      settled n t span R honest p slots graded_step graded_inside run.line (λ i j si sj. omega (arith, w i j si sj, enough))

  -- where lists are unequal, a faulty unit is marked
  unequal_marked : (r : ℕ) → r < R → Unequal honest span slots r → 1 ≤ marked (current r) n
  unequal_marked r l u =
      let i = u.0 in
      let j = u.1 in
      ⊎_elim
      (λ none. absurd (u.4 (ext_get_or 0 (lists r i) (lists r j) (size r i l u.2 ∙ sym (size r j l u.3))
      (λ s k. same_entry r i j s l u.2 u.3 (unmarked (current r) n s (omega (arith, size r i l u.2)) (omega arith))))))
      (λ some. some)
      (cases_lt (marked (current r) n) 1)

  unequal_head : (b : Bool) (k : ℕ) → (b ≡ true → 1 ≤ k) → one b ≤ k
  unequal_head true k h = h refl
  unequal_head false k h = omega arith

  unequal_on : (k r : ℕ) (u : ℕ → Bool) → r + k ≡ R → ((q : ℕ) → q < k → u q ≡ true → 1 ≤ marked (current (r + q)) n) → marked u k ≤ marked (fresh r) n
  unequal_on zero r u e h = omega arith
  unequal_on (suc k) r u e h =
      let rest = unequal_on k (suc r) (λ q. u (suc q)) (omega arith)
      (λ q l t. subst (λ x. 1 ≤ marked (current x) n) (let z : r + suc q ≡ suc r + q = omega arith in z) (h (suc q) (omega arith) t)) in
      let here = unequal_head (u 0) (marked (current r) n)
      (λ t. subst (λ x. 1 ≤ marked (current x) n) (let z : r + 0 ≡ r = omega arith in z) (h 0 (omega arith) t)) in
      omega (arith, rest, here, fewer_fresh r (omega arith))

  graded_unequal : (f : ℕ) → count_by not honest ≤ f → (unequal : ℕ → Bool) → ((r : ℕ) → r < R → unequal r ≡ true → Unequal honest span slots r) → marked unequal R ≤ f
  graded_unequal f few unequal h =
      omega (
        arith,
        fresh_first,
        unequal_on R 0 unequal (omega arith)
            (λ q l t. subst (λ x. 1 ≤ marked (current x) n) (let z : q ≡ 0 + q = omega arith in z) (unequal_marked q l (h q l t))),
      )

pub runs : Runs
runs = record {
  halving_stays = halving_stays;
  graded_stays = graded_stays;
  halving_spread = halving_spread;
  graded_spread = graded_spread;
  graded_unequal = graded_unequal;
  halving_settles = λ n t span honest p slots run.
      halving_settled n t span (halving_rounds span) honest p slots run (worsts.halving_rounds_lem span).holds;
  graded_settles = λ n t span honest p slots differs run.
      graded_settled n t span (graded_iterations n t span) honest p slots differs run
      (worsts.graded_iterations_lem n t span (omega (arith, run.line.faults.enough))).holds;
}
