-- The graded line by whole iterations.
use Rattle.std.specs.Prelude.{◌≡◌, ℕ, zero, suc, ◌-◌, ◌<◌, ◌≤◌, Bool, false, not, ◌||◌, List, replicate, slice_index_or}
use Rattle.std.proofs.Math.Path.{ap}
use Rattle.std.proofs.Common.{◌∙◌}
use native.Mathlib.Omega.{arith}
use Rattle.std.proofs.lemmas.List.FromFn.{get_or-map-range_with_len}
use Rattle.std.proofs.lemmas.List.{get_or-replicate}
use Rattle.slot.specs.Positions.{number_of, position_near, position_coding}
use Rattle.slot.specs.declared.position.Position.{Position}
use Rattle.wire.specs.Boxes.{Box}
use Rattle.wire.specs.declared.crew.Crew.{Crew}
use Rattle.trim.specs.Iterations.{graded_iterations}
use Rattle.grading.specs.Grades.{sure}
use Rattle.grading.specs.Gradings.{begun, frame_of, after, grade_at, doubtful, distrusted_after}
use Rattle.grading.specs.declared.grading.Grading.{Grading}
use Rattle.line.specs.Models.{span_of, position_in, line_after}
use Rattle.lines.specs.Gradeds.{averaged, thrice, graded_model}
use Rattle.lines.specs.declared.graded.Graded.{Graded}
use Rattle.lines.specs.GradedLaws.{averaged_in}
use Rattle.lines.specs.Positions.{near_is}

-- what a unit holds between iterations
pub record Held : Type 0 where
  pub own : Position
  pub distrusted : List Bool

pub thrice_less : (a b : ℕ) → a < b → suc (suc (thrice a)) < thrice b
thrice_less zero zero h = absurd (omega arith)
thrice_less zero (suc b) h = omega arith
thrice_less (suc a) zero h = absurd (omega arith)
thrice_less (suc a) (suc b) h = omega (arith, thrice_less a b (omega arith))

module _ (crew : Crew) (span position : ℕ) (box : ℕ → Box) where
  -- a grading from what is held
  abbrev pub fresh : Held → Grading Position
  fresh h = begun crew h.own h.distrusted

  -- the grading after the three rounds of iteration r
  abbrev pub ended : Held → ℕ → Grading Position
  ended h r = after position_coding (after position_coding (after position_coding (fresh h) (box (thrice r))) (box (suc (thrice r)))) (box (suc (suc (thrice r))))

  unfoldable pub held_after : ℕ → Held
  held_after zero = record { own = position_near (position_in span position); distrusted = replicate 16 false }
  held_after (suc r) = record {
    own = position_near (averaged (position_near span) (ended (held_after r) r));
    distrusted = distrusted_after position_coding (ended (held_after r) r);
  }

  abbrev pub iterations_in : ℕ
  iterations_in = graded_iterations crew.n crew.t (span_of span)

  abbrev state : Held → ℕ → Graded
  state h l = record { span = position_near span; grading = fresh h; left = l }

  -- the state between two iterations
  pub at_base : (r : ℕ) → r ≤ iterations_in → line_after graded_model crew span position box (thrice r) ≡ state (held_after r) (thrice (iterations_in - r))
  unfolding held_after
  at_base zero h = let e : iterations_in ≡ iterations_in - 0 = omega arith in ap (λ k. state (held_after 0) (thrice k)) e
  at_base (suc r) h =
      let e : iterations_in - r ≡ suc (iterations_in - suc r) = omega arith in
      let s = at_base r (omega arith) ∙ ap (λ k. state (held_after r) (thrice k)) e in
      ap (λ x. graded_model.after (graded_model.after (graded_model.after x (box (thrice r))) (box (suc (thrice r)))) (box (suc (suc (thrice r))))) s

  base_left : (r : ℕ) → r < iterations_in → line_after graded_model crew span position box (thrice r) ≡ state (held_after r) (thrice (suc (iterations_in - suc r)))
  base_left r h =
      let e : iterations_in - r ≡ suc (iterations_in - suc r) = omega arith in
      at_base r (omega arith) ∙ ap (λ k. state (held_after r) (thrice k)) e

  -- the frames of an iteration
  pub frame_one : (r : ℕ) → r < iterations_in → graded_model.frame (line_after graded_model crew span position box (thrice r)) ≡ frame_of position_coding (fresh (held_after r))
  frame_one r h = ap graded_model.frame (base_left r h)

  pub frame_two : (r : ℕ) → r < iterations_in → graded_model.frame (line_after graded_model crew span position box (suc (thrice r)))
      ≡ frame_of position_coding (after position_coding (fresh (held_after r)) (box (thrice r)))
  frame_two r h = ap (λ x. graded_model.frame (graded_model.after x (box (thrice r)))) (base_left r h)

  pub frame_three : (r : ℕ) → r < iterations_in → graded_model.frame (line_after graded_model crew span position box (suc (suc (thrice r))))
      ≡ frame_of position_coding (after position_coding (after position_coding (fresh (held_after r)) (box (thrice r))) (box (suc (thrice r))))
  frame_three r h = ap (λ x. graded_model.frame (graded_model.after (graded_model.after x (box (thrice r))) (box (suc (thrice r))))) (base_left r h)

  -- the grading of an iteration, at its end
  pub ended_is : (r : ℕ) → r < iterations_in → after position_coding (line_after graded_model crew span position box (suc (suc (thrice r)))).grading (box (suc (suc (thrice r)))) ≡ ended (held_after r) r
  ended_is r h = ap (λ x. after position_coding (graded_model.after (graded_model.after x (box (thrice r))) (box (suc (thrice r)))).grading (box (suc (suc (thrice r))))) (base_left r h)

  -- the position held after r iterations
  pub result_is : (r : ℕ) → r ≤ iterations_in → graded_model.result (line_after graded_model crew span position box (thrice r)) ≡ number_of (held_after r).own
  result_is r h = ap graded_model.result (at_base r h)

  -- the first position, and the next one, which is not cut
  pub first_own : number_of (held_after 0).own ≡ position_in span position
  unfolding held_after
  first_own = omega arith

  pub next_own : (r : ℕ) → number_of (held_after (suc r)).own ≡ averaged (position_near span) (ended (held_after r) r)
  unfolding held_after
  next_own r =
      let b = averaged_in (position_near span) (ended (held_after r) r) (omega arith) in
      near_is (averaged (position_near span) (ended (held_after r) r)) b.0 (omega (arith, b.1))

  -- whom it distrusts
  pub first_distrust : (s : ℕ) → s < 16 → slice_index_or (held_after 0).distrusted s false ≡ false
  unfolding held_after
  first_distrust s h = get_or-replicate 16 s false false h

  pub next_distrust : (r s : ℕ) → s < 16
      → slice_index_or (held_after (suc r)).distrusted s false ≡ (slice_index_or (held_after r).distrusted s false || not (sure (grade_at position_coding (ended (held_after r) r) s)))
  unfolding held_after distrusted_after
  next_distrust r s h = get_or-map-range_with_len (doubtful position_coding (ended (held_after r) r)) 0 16 s s false h (omega arith)
