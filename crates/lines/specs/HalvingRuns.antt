-- The halving line keeps the laws of a line.
use Rattle.std.specs.Prelude.{◌≡◌, ℕ, suc, ◌-◌, ◌<◌, ◌≤◌, Bool, List, [], map, length, Some, None, Option, slice_index_or, refl}
use Rattle.std.proofs.Common.{sym, ap, ◌∙◌, arith}
use Rattle.std.proofs.lemmas.List.FromFn.{length-map-range_with_len, get_or-map-range_with_len}
use Rattle.slot.specs.Positions.{number_of, position_at, position_near, position_bytes, position_coding}
use Rattle.slot.specs.declared.position.Position.{Position}
use Rattle.slot.specs.PositionsLemmas.{position_at_lem}
use Rattle.wire.specs.Boxes.{Box, from}
use Rattle.wire.specs.Slots.{slot_from}
use Rattle.wire.specs.Units.{Honest}
use Rattle.wire.specs.declared.crew.Crew.{Crew}
use Rattle.wire.proofs.Counts.{honest_below}
use Rattle.trim.specs.Entries.{entry_of}
use Rattle.trim.specs.Iterations.{halving_rounds}
use Rattle.trim.specs.Runs.{Settled, LineRun}
use Rattle.trim.specs.Trims.{halving_step}
use Rattle.trim.proofs.Entries.{step_in}
use Rattle.trim.proofs.Iterations.{worsts}
use Rattle.trim.proofs.Runs.{runs}
use Rattle.trim.proofs.Steps.{steps}
use Rattle.line.specs.Models.{span_of, line_after, LineStart, Follow, Agreed, Inside, Agree, Over, Counted, Short, Capped}
use Rattle.lines.specs.CountsDown.{On, Parts, CountsDown, crew_at, span_at, left_at, on_span, inside_by, over_by, counted_by}
use Rattle.lines.specs.Halvings.{heard_positions, halving_frame, halved, halving_after, halving_model}
use Rattle.lines.specs.Lefts.{left_cases, left_less}
use Rattle.lines.specs.declared.halving.Halving.{Halving}
use Rattle.lines.specs.Positions.{near_is, slot_of}

-- the new position is in 1 to the span, so it is not cut
halved_in : (s : Halving) (box : Box) → 1 ≤ number_of s.span → (1 ≤ halved s box) × (halved s box ≤ number_of s.span)
halved_in s box some =
    let size = length-map-range_with_len (λ i. slot_from position_coding 1 0 (from box i)) 0 s.crew.n in
    step_in (number_of s.span) s.crew.t (heard_positions s.crew.n box) some (omega (arith, size, s.crew.enough)) halving_step steps.halving_inside

abbrev halving_parts : Parts Halving
halving_parts = record { crew = λ s. s.crew; span = λ s. s.span; own = λ s. s.own; left = λ s. s.left; in_all = λ n t span. halving_rounds span }

counts : CountsDown halving_model halving_parts
counts = record {
  begun_crew = λ crew span position. refl;
  begun_span = λ crew span position. refl;
  begun_own = λ crew span position. refl;
  begun_left = λ crew span position. refl;
  keeps_crew = λ s b. left_cases (λ (x : Halving). x.crew ≡ s.crew) s _ s.left refl (λ l. refl);
  keeps_span = λ s b. left_cases (λ (x : Halving). x.span ≡ s.span) s _ s.left refl (λ l. refl);
  one_less = λ s b. left_less (λ (x : Halving). x.left) s _ s.left refl (λ l. refl);
  stays_on = λ s b some h. left_cases (λ (x : Halving). On s.span x.own) s _ s.left h (λ l. (omega arith, omega (arith, (halved_in s b some).1)));
  silent = λ s e. ap (halving_frame s) e;
  still = λ s b e. ap (halving_after s b) e;
  rounds = λ s. refl;
  count = λ n t span. refl;
  result = λ s. refl;
}

module _ (crew : Crew) (span position : ℕ) (box : ℕ → Box) where
  abbrev at : ℕ → Halving
  at k = line_after halving_model crew span position box k

  abbrev rounds-in : ℕ
  rounds-in = halving_rounds (span_of span)

  left_in : (k : ℕ) → k < rounds-in → (at k).left ≡ suc (rounds-in - suc k)
  left_in k h = omega (arith, left_at halving_model halving_parts counts crew span position box k)

  -- with a round left
  own_after : (k : ℕ) → k < rounds-in → (at (suc k)).own ≡ position_near (halved (at k) (box k))
  own_after k h = ap (λ l. (halving_after (at k) (box k) l).own) (left_in k h)

  frame_at : (k : ℕ) → k < rounds-in → halving_model.frame (at k) ≡ position_bytes (at k).own
  frame_at k h = ap (halving_frame (at k)) (left_in k h)

  halved_at : (k : ℕ) → (1 ≤ halved (at k) (box k)) × (halved (at k) (box k) ≤ span_of span)
  halved_at k =
      let e = ap number_of (span_at halving_model halving_parts counts crew span position box k) in
      let b = halved_in (at k) (box k) (omega (arith, e)) in
      (b.0, omega (arith, b.1, e))

pub is_inside : Inside halving_model
is_inside = inside_by halving_model halving_parts counts

pub is_over : Over halving_model
is_over = over_by halving_model halving_parts counts

pub is_counted : Counted halving_model
is_counted = counted_by halving_model halving_parts counts

pub is_short : Short halving_model
is_short s = left_cases (λ f. length f ≤ 128) [] _ s.left (omega arith) (λ l. omega arith)

pub is_capped : Capped halving_model
is_capped crew span = omega (arith, worsts.halving_few (span_of span) (omega arith))

module _ (n t span : ℕ) (honest : List Bool) (st : LineStart) (box : ℕ → ℕ → Box) (F : Follow halving_model n t span honest st box) where
  abbrev unit-at : ℕ → ℕ → Halving
  unit-at r i = line_after halving_model (st.crew i) span (st.position i) (box i) r

  abbrev held : ℕ → ℕ → ℕ
  held r i = number_of (unit-at r i).own

  abbrev heard-by : ℕ → ℕ → List (Option Position)
  heard-by r i = heard_positions n (box i r)

  abbrev last : ℕ
  last = halving_rounds (span_of span)

  -- what honest units have of each other
  gets_at : (r i j : ℕ) → r < last → Honest honest i → Honest honest j → slice_index_or (heard-by r i) j None ≡ position_at (held r j)
  gets_at r i j l hi hj =
      get_or-map-range_with_len (λ k. slot_from position_coding 1 0 (from (box i r) k)) 0 n j j None (omega (arith, honest_below honest j hj, F.faults.size)) (omega arith)
      ∙ ap (slot_from position_coding 1 0) (F.takes i j r hi hj l ∙ ap Some (frame_at (st.crew j) span (st.position j) (box j) r l))
      ∙ slot_of (unit-at r j).own ∙ sym (position_at_lem (unit-at r j).own)

  moves_at : (r i : ℕ) → r < last → Honest honest i → held (suc r) i ≡ halving_step t (map (entry_of (span_of span)) (heard-by r i))
  moves_at r i l hi =
      let s = unit-at r i in
      let b = halved_at (st.crew i) span (st.position i) (box i) r in
      ap number_of (own_after (st.crew i) span (st.position i) (box i) r l)
      ∙ near_is (halved s (box i r)) b.0 (omega (arith, b.1))
      ∙ ap (λ c. halving_step c.t (map (entry_of (number_of s.span)) (heard_positions c.n (box i r)))) (crew_at halving_model halving_parts counts (st.crew i) span (st.position i) (box i) r)
      ∙ ap (λ p. halving_step (st.crew i).t (map (entry_of (number_of p)) (heard_positions (st.crew i).n (box i r)))) (span_at halving_model halving_parts counts (st.crew i) span (st.position i) (box i) r)
      ∙ ap (λ x. halving_step (st.crew i).t (map (entry_of (span_of span)) (heard_positions x (box i r)))) (F.same i hi).0
      ∙ ap (λ x. halving_step x (map (entry_of (span_of span)) (heard_positions n (box i r)))) (F.same i hi).1

  the_run : LineRun n t (span_of span) last honest held heard-by halving_step
  the_run = record {
    faults = F.faults;
    short = omega arith;
    starts = λ i hi. on_span halving_model halving_parts counts (st.crew i) span (st.position i) (box i) 0;
    size = λ r i l hi. length-map-range_with_len (λ k. slot_from position_coding 1 0 (from (box i r) k)) 0 n;
    gets = gets_at;
    moves = moves_at;
  }

  settled : Settled honest (held 0) (held last)
  settled = runs.halving_settles n t (span_of span) honest held heard-by the_run

  agreed : Agreed halving_model n t span honest st box
  agreed = record {
    close = settled.close;
    between = λ i hi.
        let b = settled.between i hi in
        (b.0, b.1, b.2, b.3, omega (arith, b.4), omega (arith, b.5));
  }

pub they_agree : Agree halving_model
they_agree n t span honest st box F = agreed n t span honest st box F
