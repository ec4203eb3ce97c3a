-- The graded line keeps the laws of a line that speak of one unit.
use Rattle.std.specs.Prelude.{◌≡◌, ℕ, zero, suc, ◌-◌, ◌*◌, ◌≤◌, Bool, true, false, [], length, ◌≢◌, refl}
use Rattle.std.proofs.Common.{ap, ◌∙◌, arith, length-take}
use Rattle.std.proofs.lemmas.List.FromFn.{length-map-range_with_len}
use Rattle.slot.specs.Positions.{number_of, position_coding}
use Rattle.slot.specs.declared.position.Position.{Position}
use Rattle.wire.specs.Boxes.{Box}
use Rattle.trim.specs.Iterations.{graded_iterations}
use Rattle.trim.specs.Trims.{graded_step}
use Rattle.trim.proofs.Entries.{step_in}
use Rattle.trim.proofs.Iterations.{worsts}
use Rattle.trim.proofs.Steps.{steps}
use Rattle.grading.specs.Grades.{grade_value}
use Rattle.grading.specs.Gradings.{frame_in, after_in, after, over, grade_at}
use Rattle.grading.specs.declared.grading.Grading.{Grading}
use Rattle.grading.specs.declared.stage.Stage.{Stage}
use Rattle.grading.specs.declared.stage.Stage.TheVariants.{Sending, Relaying, Voting, Graded as Ended}
use Rattle.line.specs.Models.{span_of, Inside, Over, Counted, Short, Capped}
use Rattle.lines.specs.CountsDown.{On, Parts, CountsDown, inside_by, over_by, counted_by}
use Rattle.lines.specs.Gradeds.{graded_positions, averaged, carried_on, graded_frame, graded_after, thrice, graded_model}
use Rattle.lines.specs.Lefts.{left_cases, left_less}
use Rattle.lines.specs.declared.graded.Graded.{Graded}

pub thrice_is : (r : ℕ) → thrice r ≡ 3 * r
thrice_is zero = refl
thrice_is (suc r) = omega (arith, thrice_is r)

-- the new position is in 1 to the span, so it is not cut
pub averaged_in : (span : Position) (g : Grading Position) → 1 ≤ number_of span → (1 ≤ averaged span g) × (averaged span g ≤ number_of span)
averaged_in span g some =
    let size = length-map-range_with_len (λ s. grade_value (grade_at position_coding g s)) 0 g.crew.n in
    step_in (number_of span) g.crew.t (graded_positions g) some (omega (arith, size, g.crew.enough)) graded_step steps.graded_inside

-- a round of grading keeps the crew and the own value
grading_crew : (g : Grading Position) (box : Box) (stage : Stage) → (after_in position_coding g box stage).crew ≡ g.crew
grading_crew g box Sending = refl
grading_crew g box Relaying = refl
grading_crew g box Voting = refl
grading_crew g box Ended = refl

grading_own : (g : Grading Position) (box : Box) (stage : Stage) → (after_in position_coding g box stage).own ≡ g.own
grading_own g box Sending = refl
grading_own g box Relaying = refl
grading_own g box Voting = refl
grading_own g box Ended = refl

on_crew : (span : Position) (g : Grading Position) (b : Bool) → (carried_on span g b).crew ≡ g.crew
on_crew span g true = refl
on_crew span g false = refl

on_own : (span : Position) (g : Grading Position) (b : Bool) → 1 ≤ number_of span → On span g.own → On span (carried_on span g b).own
on_own span g true some h = (omega arith, omega (arith, (averaged_in span g some).1))
on_own span g false some h = h

abbrev parts : Parts Graded
parts = record {
  crew = λ s. s.grading.crew;
  span = λ s. s.span;
  own = λ s. s.grading.own;
  left = λ s. s.left;
  in_all = λ n t span. thrice (graded_iterations n t span);
}

counts : CountsDown graded_model parts
counts = record {
  begun_crew = λ crew span position. refl;
  begun_span = λ crew span position. refl;
  begun_own = λ crew span position. refl;
  begun_left = λ crew span position. refl;
  keeps_crew = λ s b. left_cases (λ (x : Graded). x.grading.crew ≡ s.grading.crew) s _ s.left refl
      (λ l. let g = after position_coding s.grading b in on_crew s.span g (over g.stage) ∙ grading_crew s.grading b s.grading.stage);
  keeps_span = λ s b. left_cases (λ (x : Graded). x.span ≡ s.span) s _ s.left refl (λ l. refl);
  one_less = λ s b. left_less (λ (x : Graded). x.left) s _ s.left refl (λ l. refl);
  stays_on = λ s b some h. left_cases (λ (x : Graded). On s.span x.grading.own) s _ s.left h
      (λ l.
      let g = after position_coding s.grading b in
      let e = grading_own s.grading b s.grading.stage in
      on_own s.span g (over g.stage) some (omega (arith, h.0, ap number_of e), omega (arith, h.1, ap number_of e)));
  silent = λ s e. ap (graded_frame s) e;
  still = λ s b e. ap (graded_after s b) e;
  rounds = λ s. refl;
  count = λ n t span. refl;
  result = λ s. refl;
}

pub is_inside : Inside graded_model
is_inside = inside_by graded_model parts counts

pub is_over : Over graded_model
is_over = over_by graded_model parts counts

pub is_counted : Counted graded_model
is_counted = counted_by graded_model parts counts

stage_short : (g : Grading Position) (stage : Stage) → length (frame_in position_coding g stage) ≤ 128
stage_short g Sending = omega arith
stage_short g Relaying = omega (arith, length-take (2 * g.crew.n) g.table, g.crew.few)
stage_short g Voting = omega (arith, length-take (2 * g.crew.n) g.table, g.crew.few)
stage_short g Ended = omega arith

pub is_short : Short graded_model
is_short s = left_cases (λ f. length f ≤ 128) [] _ s.left (omega arith) (λ l. stage_short s.grading s.grading.stage)

pub is_capped : Capped graded_model
is_capped crew span =
    let r = graded_iterations crew.n crew.t (span_of span) in
    omega (arith, thrice_is r, worsts.graded_few crew.n crew.t (span_of span) (omega (arith, crew.enough)), crew.enough, crew.few)

-- the state after a round, by its parts
pub after_is : (s : Graded) (box : Box) (l : ℕ) (ahead g : Grading Position) → (l ≢ 0) → ahead ≡ after position_coding s.grading box
    → g ≡ carried_on s.span ahead (over ahead.stage) → ◌≡◌ {A = Graded} record { span = s.span; grading = g; left = l - 1 } (graded_after s box l)
after_is s box zero ahead g some a e = absurd (some refl)
after_is s box (suc l) ahead g some a e =
    let less : suc l - 1 ≡ l = omega arith in
    let on : g ≡ carried_on s.span (after position_coding s.grading box) (over (after position_coding s.grading box).stage) =
    e ∙ ap (λ y. carried_on s.span y (over y.stage)) a in
    let state : ℕ → Grading Position → Graded = λ m y. record { span = s.span; grading = y; left = m } in
    ap (λ m. state m g) less ∙ ap (state l) on
