-- Those who follow the graded line agree, and how fast they do.
use Rattle.std.specs.Prelude.{◌≡◌, ℕ, zero, suc, ◌+◌, ◌-◌, ◌*◌, ◌<◌, ◌≤◌, Bool, true, false, not, ◌&&◌, ◌||◌, List, map, get_or, Some, None, count_by, Option, ◌≢◌, nat_lt, slice_index_or, refl}
use Rattle.std.proofs.Common.{sym, ◌∙◌, arith}
use Rattle.std.proofs.Math.Path.{ap}
use Rattle.std.proofs.Math.Logic.{⊎_elim}
use Rattle.std.specs.List.{range_with_len}
use Rattle.std.proofs.lemmas.List.FromFn.{length-map-range_with_len, get_or-map-range_with_len}
use Rattle.std.proofs.lemmas.List.{get_or_past}
use Rattle.std.proofs.lemmas.Bool.{cases_lt, cases_order, true≢false, false≢true, ltb-true, lt-ltb, and_parts, and_cases, or_from, or_left, or_right, not-true, not-false, not_from_true, not_from_false}
use Rattle.slot.specs.Positions.{number_of, position_at, position_coding}
use Rattle.slot.specs.declared.position.Position.{Position}
use Rattle.slot.specs.Laws.{position_lawful}
use Rattle.slot.specs.PositionsLemmas.{position_at_lem}
use Rattle.wire.specs.Boxes.{Box}
use Rattle.wire.specs.Runs.{Takes}
use Rattle.wire.specs.Spreads.{Spread}
use Rattle.wire.specs.Units.{Honest}
use Rattle.wire.proofs.Counts.{honest_below}
use Rattle.trim.specs.Entries.{entry_of}
use Rattle.trim.specs.Iterations.{worst, graded_iterations}
use Rattle.trim.specs.Runs.{Settled, GradedRun, marked}
use Rattle.trim.specs.Trims.{graded_step}
use Rattle.trim.proofs.Runs.{runs}
use Rattle.grading.specs.Exchanges.{Start, starting, Exchange, Broadcast}
use Rattle.grading.specs.Grades.{grade_value, sure}
use Rattle.grading.specs.Gradings.{after, frame_of, grade_at}
use Rattle.grading.specs.declared.grade.Grade.{Grade}
use Rattle.grading.specs.declared.grade.Grade.TheVariants.{Two, One, Zero}
use Rattle.grading.proofs.Broadcasts.{graded_broadcast}
use Rattle.line.specs.Models.{span_of, position_in, LineStart, Follow, Agreed, Agree}
use Rattle.lines.specs.Converges.{UnequalLists, averaged_list, position_after, GradedConverges}
use Rattle.lines.specs.Gradeds.{graded_positions, thrice, graded_model}
use Rattle.lines.specs.Iterated.{Held, ended, held_after, thrice_less, frame_one, frame_two, frame_three, ended_is, result_is, first_own, next_own, first_distrust, next_distrust}
use Rattle.lines.specs.Somewhere.{some_honest, some_has, some_none}

is_one : {K : Type 0} → Grade K → Bool
is_one (Two v) = false
is_one (One v) = true
is_one Zero = false

sure_is : {K : Type 0} (g : Grade K) → sure g ≡ true → (v : K) × (g ≡ Two v)
sure_is (Two v) e = (v, refl)
sure_is (One v) e = absurd (false≢true e)
sure_is Zero e = absurd (false≢true e)

zero_not_one : {K : Type 0} (g : Grade K) → g ≡ Zero → is_one g ≡ false
unfolding is_one
zero_not_one (Two v) e = refl
zero_not_one (One v) e = let z : ◌≡◌ {A = ℕ} 0 1 = cc in absurd (omega arith)
zero_not_one Zero e = refl

-- grades 0 and 2 alone, where 2 at one is seen by the other: one value
same_value : {K : Type 0} (g h : Grade K) → is_one g ≡ false → is_one h ≡ false → ((v : K) → g ≡ Two v → grade_value h ≡ Some v) → ((v : K) → h ≡ Two v → grade_value g ≡ Some v)
    → grade_value g ≡ grade_value h
unfolding is_one
same_value (Two v) h a b gh hg = sym (gh v refl)
same_value (One v) h a b gh hg = absurd (true≢false a)
same_value Zero (Two w) a b gh hg = hg w refl
same_value Zero (One w) a b gh hg = absurd (true≢false b)
same_value Zero Zero a b gh hg = refl

module _ (n t span : ℕ) (honest : List Bool) (st : LineStart) (box : ℕ → ℕ → Box) (F : Follow graded_model n t span honest st box) where
  abbrev last : ℕ
  last = graded_iterations n t (span_of span)

  held : ℕ → ℕ → Held
  held r i = held_after (st.crew i) span (st.position i) (box i) r

  abbrev place : ℕ → ℕ → ℕ
  place r i = number_of (held r i).own

  abbrev grade : ℕ → ℕ → ℕ → Grade Position
  grade r i s = grade_at position_coding (ended (st.crew i) span (st.position i) (box i) (held r i) r) s

  abbrev slots : ℕ → ℕ → List (Option Position)
  slots r i = map (λ s. grade_value (grade r i s)) (range_with_len 0 n)

  below : (i : ℕ) → Honest honest i → i < n
  below i h = omega (arith, honest_below honest i h, F.faults.size)

  few : (i : ℕ) → Honest honest i → n ≤ 16
  few i h = omega (arith, (F.same i h).0, (st.crew i).few)

  rounds_of : (i : ℕ) → Honest honest i → graded_iterations (st.crew i).n (st.crew i).t (span_of span) ≡ last
  rounds_of i h = ap (λ x. graded_iterations x (st.crew i).t (span_of span)) (F.same i h).0 ∙ ap (λ x. graded_iterations n x (span_of span)) (F.same i h).1

  -- one iteration is an exchange of gradings
  iteration_start : ℕ → Start Position
  iteration_start r = record { crew = st.crew; own = λ i. (held r i).own; distrusted = λ i. (held r i).distrusted }

  iteration_box : ℕ → ℕ → ℕ → Box
  iteration_box r i zero = box i (thrice r)
  iteration_box r i (suc zero) = box i (suc (thrice r))
  iteration_box r i (suc (suc k)) = box i (suc (suc (thrice r)))

  takes_at : (r : ℕ) → r < last → Takes (frame_of position_coding) (after position_coding) 3 honest (starting (iteration_start r)) (iteration_box r)
  unfolding held iteration_start iteration_box
  takes_at r l i j zero hi hj k =
      F.takes i j (thrice r) hi hj (omega (arith, thrice_less r last l)) ∙ ap Some (frame_one (st.crew j) span (st.position j) (box j) r (omega (arith, rounds_of j hj)))
  takes_at r l i j (suc zero) hi hj k =
      F.takes i j (suc (thrice r)) hi hj (omega (arith, thrice_less r last l)) ∙ ap Some (frame_two (st.crew j) span (st.position j) (box j) r (omega (arith, rounds_of j hj)))
  takes_at r l i j (suc (suc zero)) hi hj k =
      F.takes i j (suc (suc (thrice r))) hi hj (thrice_less r last l) ∙ ap Some (frame_three (st.crew j) span (st.position j) (box j) r (omega (arith, rounds_of j hj)))
  takes_at r l i j (suc (suc (suc k))) hi hj h = absurd (omega arith)

  exchange_at : (r : ℕ) → r < last → Exchange position_coding n t honest (iteration_start r) (iteration_box r)
  unfolding iteration_start
  exchange_at r l = record { faults = F.faults; same = F.same; takes = takes_at r l }

  broadcast_at : (r : ℕ) → r < last → Broadcast position_coding honest (iteration_start r) (iteration_box r)
  broadcast_at r l = (graded_broadcast position_coding position_lawful).keeps n t honest (iteration_start r) (iteration_box r) (exchange_at r l)

  seen : (r s i j : ℕ) (v : Position) → r < last → Honest honest i → Honest honest j → grade r i s ≡ Two v → grade_value (grade r j s) ≡ Some v
  unfolding held iteration_start iteration_box
  seen r s i j v l hi hj e = (broadcast_at r l).two_is_seen s i j v hi hj e

  ignored : (r s : ℕ) → r < last → ((i : ℕ) → Honest honest i → slice_index_or (held r i).distrusted s false ≡ true) → (i : ℕ) → Honest honest i → grade r i s ≡ Zero
  unfolding held iteration_start iteration_box
  ignored r s l all i hi = (broadcast_at r l).all_distrust s all i hi

  honest_two : (r s : ℕ) → r < last → Honest honest s → ((i : ℕ) → Honest honest i → slice_index_or (held r i).distrusted s false ≡ false) → (i : ℕ) → Honest honest i → grade r i s ≡ Two (held r s).own
  unfolding held iteration_start iteration_box
  honest_two r s l hs trusted i hi = (broadcast_at r l).honest_sender s hs trusted i hi

  learns : (r i s : ℕ) → s < 16 → slice_index_or (held (suc r) i).distrusted s false ≡ (slice_index_or (held r i).distrusted s false || not (sure (grade r i s)))
  unfolding held
  learns r i s h = next_distrust (st.crew i) span (st.position i) (box i) r s h

  trusts_first : (i s : ℕ) → s < 16 → slice_index_or (held 0 i).distrusted s false ≡ false
  unfolding held
  trusts_first i s h = first_distrust (st.crew i) span (st.position i) (box i) s h

  -- no honest unit ever distrusts an honest one
  never : (r : ℕ) → r ≤ last → (i s : ℕ) → Honest honest i → Honest honest s → slice_index_or (held r i).distrusted s false ≡ false
  never zero h i s hi hs = trusts_first i s (omega (arith, below s hs, few s hs))
  never (suc r) h i s hi hs =
      let l : r < last = h in
      let two = honest_two r s l hs (λ j hj. never r (omega arith) j s hj hs) i hi in
      learns r i s (omega (arith, below s hs, few s hs))
      ∙ or_from (slice_index_or (held r i).distrusted s false) (not (sure (grade r i s))) (never r (omega arith) i s hi hs) (not_from_true (sure (grade r i s)) (ap sure two))

  slot_at : (r i s : ℕ) → s < n → slice_index_or (slots r i) s None ≡ grade_value (grade r i s)
  slot_at r i s h = get_or-map-range_with_len (λ q. grade_value (grade r i q)) 0 n s s None h (omega arith)

  gets_at : (r i j : ℕ) → r < last → Honest honest i → Honest honest j → slice_index_or (slots r i) j None ≡ position_at (place r j)
  gets_at r i j l hi hj =
      slot_at r i j (below j hj) ∙ ap grade_value (honest_two r j l hj (λ k hk. never r (omega arith) k j hk hj) i hi) ∙ sym (position_at_lem (held r j).own)

  -- a sender differs in an iteration where some honest unit has grade 1 and none grade 2
  differs : ℕ → ℕ → Bool
  differs r s = nat_lt s n && (some_honest honest (λ i. is_one (grade r i s)) && not (some_honest honest (λ i. sure (grade r i s))))

  differs_is : (r s : ℕ) → differs r s ≡ true → (s < n) × (some_honest honest (λ i. is_one (grade r i s)) ≡ true) × (some_honest honest (λ i. sure (grade r i s)) ≡ false)
  unfolding differs
  differs_is r s e =
      let a = and_parts (nat_lt s n) (some_honest honest (λ i. is_one (grade r i s)) && not (some_honest honest (λ i. sure (grade r i s)))) e in
      let b = and_parts (some_honest honest (λ i. is_one (grade r i s))) (not (some_honest honest (λ i. sure (grade r i s)))) a.1 in
      (ltb-true s n a.0, b.0, not-true (some_honest honest (λ i. sure (grade r i s))) b.1)

  differs_not : (r s : ℕ) → s < n → differs r s ≡ false → (some_honest honest (λ i. is_one (grade r i s)) && not (some_honest honest (λ i. sure (grade r i s)))) ≡ false
  unfolding differs
  differs_not r s h e =
      ⊎_elim (λ a. absurd (true≢false (sym (lt-ltb s n h) ∙ a))) (λ b. b)
      (and_cases (nat_lt s n) (some_honest honest (λ i. is_one (grade r i s)) && not (some_honest honest (λ i. sure (grade r i s)))) e)

  one_value : (r i j s : ℕ) → r < last → s < n → Honest honest i → Honest honest j → differs r s ≡ false → grade_value (grade r i s) ≡ grade_value (grade r j s)
  one_value r i j s l sn hi hj e =
      ⊎_elim
      (λ none.
      let q = some_none honest (λ i. is_one (grade r i s)) none in
      same_value (grade r i s) (grade r j s) (q i hi) (q j hj) (λ v g. seen r s i j v l hi hj g) (λ v g. seen r s j i v l hj hi g))
      (λ some.
      let k = some_has honest (λ i. sure (grade r i s)) (not-false (some_honest honest (λ i. sure (grade r i s))) some) in
      let g = sure_is (grade r k.0 s) k.2 in
      seen r s k.0 i g.0 l k.1 hi g.1 ∙ sym (seen r s k.0 j g.0 l k.1 hj g.1))
      (and_cases (some_honest honest (λ i. is_one (grade r i s))) (not (some_honest honest (λ i. sure (grade r i s)))) (differs_not r s sn e))

  agrees_at : (r i j s : ℕ) → r < last → Honest honest i → Honest honest j → differs r s ≡ false → slice_index_or (slots r i) s None ≡ slice_index_or (slots r j) s None
  agrees_at r i j s l hi hj e =
      ⊎_elim
      (λ inside. slot_at r i s inside ∙ one_value r i j s l inside hi hj e ∙ sym (slot_at r j s inside))
      (λ past.
      get_or_past (slots r i) s None (omega (arith, length-map-range_with_len (λ q. grade_value (grade r i q)) 0 n))
      ∙ sym (get_or_past (slots r j) s None (omega (arith, length-map-range_with_len (λ q. grade_value (grade r j q)) 0 n))))
      (cases_lt s n)

  -- who differed in an iteration is distrusted by every honest unit from then on
  after_differing : (r s : ℕ) → r < last → differs r s ≡ true → (k q : ℕ) → q ≡ suc r + k → q ≤ last → (i : ℕ) → Honest honest i → slice_index_or (held q i).distrusted s false ≡ true
  after_differing r s l e zero q d h i hi =
      let none = some_none honest (λ i. sure (grade r i s)) (differs_is r s e).2 i hi in
      let at : q ≡ suc r = omega arith in
      ap (λ x. get_or (held x i).distrusted s false) at ∙ learns r i s (omega (arith, (differs_is r s e).0, few i hi))
      ∙ or_right (slice_index_or (held r i).distrusted s false) (not (sure (grade r i s))) (not_from_false (sure (grade r i s)) none)
  after_differing r s l e (suc k) zero d h i hi = absurd (omega arith)
  after_differing r s l e (suc k) (suc q) d h i hi =
      learns q i s (omega (arith, (differs_is r s e).0, few i hi))
      ∙ or_left (slice_index_or (held q i).distrusted s false) (not (sure (grade q i s))) (after_differing r s l e k q (omega arith) (omega arith) i hi)

  later : (r q s : ℕ) → r < q → q < last → differs r s ≡ true → differs q s ≢ true
  later r q s lt l e f =
      let all = after_differing r s (omega arith) e (q - suc r) q (omega arith) (omega arith) in
      let k = some_has honest (λ i. is_one (grade q i s)) (differs_is q s f).1 in
      true≢false (sym k.2 ∙ zero_not_one (grade q k.0 s) (ignored q s l all k.0 k.1))

  once_at : (r q s : ℕ) → r < last → q < last → differs r s ≡ true → differs q s ≡ true → r ≡ q
  once_at r q s lr lq e f =
      ⊎_elim
      (λ same. same)
      (λ o. ⊎_elim (λ lt. absurd (later r q s lt lq e f)) (λ gt. absurd (later q r s gt lr f e)) o)
      (cases_order r q)

  start_at : (i : ℕ) → place 0 i ≡ position_in span (st.position i)
  unfolding held
  start_at i = first_own (st.crew i) span (st.position i) (box i)

  moves_at : (r i : ℕ) → Honest honest i → place (suc r) i ≡ graded_step t (map (entry_of (span_of span)) (slots r i))
  unfolding held
  moves_at r i hi =
      next_own (st.crew i) span (st.position i) (box i) r
      ∙ ap (λ x. graded_step (st.crew i).t (map (entry_of (span_of span)) (map (λ s. grade_value (grade r i s)) (range_with_len 0 x)))) (F.same i hi).0
      ∙ ap (λ x. graded_step x (map (entry_of (span_of span)) (slots r i))) (F.same i hi).1

  -- so many iterations are a run
  the_run : (R : ℕ) → R ≤ last → GradedRun n t (span_of span) R honest place slots differs
  the_run R h = record {
    line = record {
      faults = F.faults;
      short = omega arith;
      starts = λ i hi. (omega (arith, start_at i), omega (arith, start_at i));
      size = λ r i l hi. length-map-range_with_len (λ q. grade_value (grade r i q)) 0 n;
      gets = λ r i j l hi hj. gets_at r i j (omega arith) hi hj;
      moves = λ r i l hi. moves_at r i hi;
    };
    agrees = λ r i j s l hi hj e. agrees_at r i j s (omega arith) hi hj e;
    once = λ r q s lr lq e f. once_at r q s (omega arith) (omega arith) e f;
  }

  place_is : (r i : ℕ) → r ≤ last → Honest honest i → position_after span st box r i ≡ place r i
  unfolding held
  place_is r i h hi = result_is (st.crew i) span (st.position i) (box i) r (omega (arith, rounds_of i hi))

  settled : Settled honest (place 0) (place last)
  settled = runs.graded_settles n t (span_of span) honest place slots differs (the_run last (omega arith))

  agreed : Agreed graded_model n t span honest st box
  agreed = record {
    close = λ i j hi hj. omega (arith, settled.close i j hi hj, place_is last i (omega arith) hi, place_is last j (omega arith) hj);
    between = λ i hi.
        let b = settled.between i hi in
        let e = place_is last i (omega arith) hi in
        (b.0, b.1, b.2, b.3, omega (arith, b.4, e, start_at b.0), omega (arith, b.5, e, start_at b.1));
  }

  spread_at : (f : ℕ) → count_by not honest ≤ f → (r : ℕ) → r ≤ last → Spread honest (position_after span st box r) (worst (n - 2 * t) (span_of span - 1) r f)
  spread_at f c r h i j hi hj =
      let starts : Spread honest (place 0) (span_of span - 1) = λ a b ha hb. omega (arith, start_at a, start_at b) in
      omega (
        arith,
        runs.graded_spread n t (span_of span) r honest place slots differs (the_run r h) f c (span_of span - 1) starts i j hi hj,
        place_is r i h hi,
        place_is r j h hj,
      )

  list_is : (r i : ℕ) → r < last → Honest honest i → averaged_list span st box r i ≡ map (entry_of (span_of span)) (slots r i)
  unfolding held
  list_is r i l hi =
      ap (λ g. map (entry_of (span_of span)) (graded_positions g)) (ended_is (st.crew i) span (st.position i) (box i) r (omega (arith, rounds_of i hi)))
      ∙ ap (λ x. map (entry_of (span_of span)) (map (λ s. grade_value (grade r i s)) (range_with_len 0 x))) (F.same i hi).0

  unequal_at : (f : ℕ) → count_by not honest ≤ f → (unequal : ℕ → Bool) → ((r : ℕ) → r < last → unequal r ≡ true → UnequalLists span honest st box r) → marked unequal last ≤ f
  unequal_at f c unequal say =
      runs.graded_unequal n t (span_of span) last honest place slots differs (the_run last (omega arith)) f c unequal
      (λ r l e.
      let u = say r l e in
      (u.0, u.1, u.2, u.3, λ same. u.4 (list_is r u.0 l u.2 ∙ same ∙ sym (list_is r u.1 l u.3))))

pub they_agree : Agree graded_model
they_agree n t span honest st box F = agreed n t span honest st box F

pub converges : GradedConverges
converges = record {
  spread = λ n t span honest st box F f c r h. spread_at n t span honest st box F f c r h;
  unequal = λ n t span honest st box F f c unequal say. unequal_at n t span honest st box F f c unequal say;
}
