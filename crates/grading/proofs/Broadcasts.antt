-- Every exchange keeps the promise of grading.
use Rattle.std.proofs.Common.{◌≡◌, ℕ, ◌<◌, ◌≤◌, Bool, true, false, cond, List, get_or, Some, None, Option, sym, ap, ◌∙◌, ⊎_elim, arith}
use Rattle.std.proofs.lemmas.List.FromFn.{length-map-range_with_len, get_or-map-range_with_len}
use Rattle.std.proofs.lemmas.Bool.{cases_lt, cond-true, cond-false}
use Rattle.slot.specs.Codings.{Coding, Lawful}
use Rattle.wire.specs.Boxes.{Box, from}
use Rattle.wire.specs.Slots.{slot_of, slot_from, slotted, column}
use Rattle.wire.specs.Units.{Honest}
use Rattle.wire.proofs.Counts.{honest_below}
use Rattle.wire.proofs.Runs.{played}
use Rattle.wire.proofs.Slotted.{slotted-read}
use Rattle.grading.specs.Grades.{grade_value, grade_of}
use Rattle.grading.specs.Gradings.{heard_from, voted_for, grade_by, unless_distrusted, after, frame_of}
use Rattle.grading.specs.Exchanges.{Start, starting, Trusts, Distrusts, Exchange, grade_held, Broadcast, GradedBroadcast}
use Rattle.grading.specs.declared.grade.Grade.{Grade}
use Rattle.grading.specs.declared.grade.Grade.TheVariants.{Two, Zero}
use Rattle.grading.proofs.Columns.{Columns, honest-sender, two-is-seen, one_value, all-distrust}
use Rattle.grading.proofs.Rounds.{by_rounds, past_zero}

unless_some : {K : Type 0} (b : Bool) (o : Option K) (v : K) → cond b None o ≡ Some v → o ≡ Some v
unless_some true o v e = let z : ◌≡◌ {A = ℕ} 0 1 = cc in absurd (omega arith)
unless_some false o v e = e

module _ {K : Type 0} (c : Coding K) (l : Lawful c) (n t : ℕ) (honest : List Bool) (st : Start K) (box : ℕ → ℕ → Box) (E : Exchange c n t honest st box) where
  abbrev held : ℕ → ℕ → Grade K
  held i s = grade_held c st box i s

  abbrev second-of : ℕ → ℕ → List (Option K)
  second-of s i = column c n s (box i 1)

  abbrev third_of : ℕ → ℕ → List (Option K)
  third_of s i = column c n s (box i 2)

  below : (i : ℕ) → Honest honest i → i < n
  below i h = omega (arith, honest_below honest i h, E.faults.size)

  column_at : (b : Box) (s i : ℕ) → i < n → get_or (column c n s b) i None ≡ slot_from c n s (from b i)
  column_at b s i h = get_or-map-range_with_len (λ j. slot_from c n s (from b j)) 0 n i i None h (omega arith)

  -- the grade that i holds of s is that of its round-3 box
  held_is : (i s : ℕ) → Honest honest i → held i s ≡ grade_of c n t (third_of s i)
  held_is i s h =
      (by_rounds c l).grades (st.crew i) (st.own i) (st.distrusted i) (box i 0) (box i 1) (box i 2) s
      ∙ ap (λ x. grade_by c x (st.crew i).t (box i 2) s) (E.same i h).0
      ∙ ap (λ x. grade_by c n x (box i 2) s) (E.same i h).1

  -- what came from an honest sender in round 1
  one_held : (i s : ℕ) → Honest honest i → Honest honest s → heard_from c (box i 0) s ≡ Some (st.own s)
  one_held i s hi hs =
      ap (slot_from c 1 0) (E.takes i s 0 hi hs (omega arith) ∙ ap Some ((by_rounds c l).first (st.crew s) (st.own s) (st.distrusted s)))
      ∙ slotted-read c l (λ _. Some (st.own s)) 1 0 (omega arith)

  -- the slot of s in an honest round-2 frame, and in an honest round-3 frame
  two_held : (s i j : ℕ) → s < n → Honest honest i → Honest honest j
      → get_or (second-of s j) i None ≡ unless_distrusted (st.distrusted i) (heard_from c (box i 0)) s
  two_held s i j sn hi hj =
      column_at (box j 1) s i (below i hi)
      ∙ ap (slot_from c n s) (E.takes j i 1 hj hi (omega arith) ∙ ap Some ((by_rounds c l).second (st.crew i) (st.own i) (st.distrusted i) (box i 0)))
      ∙ ap (λ x. slot_of c n s (slotted c (unless_distrusted (st.distrusted i) (heard_from c (box i 0))) x)) (E.same i hi).0
      ∙ slotted-read c l (unless_distrusted (st.distrusted i) (heard_from c (box i 0))) n s sn

  three_held : (s i j : ℕ) → s < n → Honest honest i → Honest honest j
      → get_or (third_of s j) i None ≡ unless_distrusted (st.distrusted i) (voted_for c n t (box i 1)) s
  three_held s i j sn hi hj =
      column_at (box j 2) s i (below i hi)
      ∙ ap (slot_from c n s) (E.takes j i 2 hj hi (omega arith) ∙ ap Some ((by_rounds c l).third (st.crew i) (st.own i) (st.distrusted i) (box i 0) (box i 1)))
      ∙ ap (λ x. slot_of c n s (slotted c (unless_distrusted (st.distrusted i) (voted_for c x (st.crew i).t (box i 1))) x)) (E.same i hi).0
      ∙ ap (λ x. slot_of c n s (slotted c (unless_distrusted (st.distrusted i) (voted_for c n x (box i 1))) n)) (E.same i hi).1
      ∙ slotted-read c l (unless_distrusted (st.distrusted i) (voted_for c n t (box i 1))) n s sn

  columns_of : (s : ℕ) → s < n → Columns c n t honest
  columns_of s sn = record {
    faults = E.faults;
    second = second-of s;
    third = third_of s;
    second_size = λ i. length-map-range_with_len (λ j. slot_from c n s (from (box i 1) j)) 0 n;
    third_size = λ i. length-map-range_with_len (λ j. slot_from c n s (from (box i 2) j)) 0 n;
    second_sent = λ i j k hi hj hk. two_held s i j sn hi hj ∙ sym (two_held s i k sn hi hk);
    sent = λ i. unless_distrusted (st.distrusted i) (voted_for c n t (box i 1)) s;
    third_sent = λ i j hi hj. three_held s i j sn hi hj;
    sent_votes = λ i v hi e. unless_some (get_or (st.distrusted i) s false) (voted_for c n t (box i 1) s) v e;
  }

  honest_sender_at : (s : ℕ) → Honest honest s → ((i : ℕ) → Honest honest i → Trusts st i s) → (i : ℕ) → Honest honest i → held i s ≡ Two (st.own s)
  unfolding columns_of
  honest_sender_at s hs trusted i hi =
      held_is i s hi
      ∙ honest-sender c l n t honest (columns_of s (below s hs)) (st.own s)
      (λ j k hj hk. two_held s j k (below s hs) hj hk ∙ cond-false (get_or (st.distrusted j) s false) None (heard_from c (box j 0) s) (trusted j hj) ∙ one_held j s hj hs)
      (λ j hj. cond-false (get_or (st.distrusted j) s false) None (voted_for c n t (box j 1) s) (trusted j hj))
      i hi

  -- a sender with a number past the last has grade 0
  past_held : (i s : ℕ) → Honest honest i → n ≤ s → held i s ≡ Zero
  past_held i s h past = held_is i s h ∙ past_zero c l n t s (box i 2) past

  two_is_seen_at : (s i j : ℕ) (v : K) → Honest honest i → Honest honest j → held i s ≡ Two v → grade_value (held j s) ≡ Some v
  unfolding columns_of
  two_is_seen_at s i j v hi hj e =
      ⊎_elim
      (λ sn. ap grade_value (held_is j s hj) ∙ two-is-seen c l n t honest (columns_of s sn) v i j hi hj (sym (held_is i s hi) ∙ e))
      (λ past. let z = past_held i s hi past in let y : ◌≡◌ {A = ℕ} 0 1 = cc in absurd (omega arith))
      (cases_lt s n)

  one_value_at : (s i j : ℕ) (v w : K) → Honest honest i → Honest honest j → grade_value (held i s) ≡ Some v → grade_value (held j s) ≡ Some w → v ≡ w
  unfolding columns_of
  one_value_at s i j v w hi hj ev ew =
      ⊎_elim
      (λ sn. one_value c l n t honest (columns_of s sn) v w i j hi hj (sym (ap grade_value (held_is i s hi)) ∙ ev) (sym (ap grade_value (held_is j s hj)) ∙ ew))
      (λ past. let z = ap grade_value (past_held i s hi past) in let y : ◌≡◌ {A = ℕ} 0 1 = cc in absurd (omega arith))
      (cases_lt s n)

  all_distrust_at : (s : ℕ) → ((i : ℕ) → Honest honest i → Distrusts st i s) → (i : ℕ) → Honest honest i → held i s ≡ Zero
  unfolding columns_of
  all_distrust_at s all i hi =
      ⊎_elim
      (λ sn. held_is i s hi ∙ all-distrust c l n t honest (columns_of s sn) i hi
      (λ j hj. cond-true (get_or (st.distrusted j) s false) None (voted_for c n t (box j 1) s) (all j hj)))
      (λ past. past_held i s hi past)
      (cases_lt s n)

  pub broadcast : Broadcast c honest st box
  broadcast = record { honest_sender = honest_sender_at; two_is_seen = two_is_seen_at; one_value_lem = one_value_at; all_distrust = all_distrust_at }

pub graded_broadcast : {K : Type 0} (c : Coding K) → Lawful c → GradedBroadcast c
graded_broadcast c l = record {
  keeps = λ n t honest st box E. broadcast c l n t honest st box E;
  exists = λ n t honest st faults same lie. played (frame_of c) (after c) honest (starting st) lie 3;
}
