-- The graded line.
use Rattle.std.specs.Prelude.{ℕ, zero, suc, Bool, true, false, List, [], map, replicate, Option}
use Rattle.std.specs.List.{range_with_len}
use Rattle.slot.specs.Positions.{number_of, position_near, position_coding}
use Rattle.slot.specs.declared.position.Position.{Position}
use Rattle.wire.specs.Boxes.{Box}
use Rattle.trim.specs.Entries.{entry_of}
use Rattle.trim.specs.Iterations.{graded_iterations}
use Rattle.trim.specs.Trims.{graded_step}
use Rattle.grading.specs.Grades.{grade_value}
use Rattle.grading.specs.Gradings.{begun, frame_of, after, over, grade_at, distrusted_after}
use Rattle.grading.specs.declared.grading.Grading.{Grading}
use Rattle.line.specs.Models.{LineModel, span_of, position_in}
use Rattle.lines.specs.Lefts.{while_left}
use Rattle.lines.specs.declared.graded.Graded.{Graded}

-- what a unit has of each sender after a grading: the value of grade 1 or 2, or nothing
abbrev pub graded_positions : Grading Position → List (Option Position)
graded_positions g = map (λ s. grade_value (grade_at position_coding g s)) (range_with_len 0 g.crew.n)

-- the new position: the mean of what is left of the list, rounded down
abbrev pub averaged : Position → Grading Position → ℕ
averaged span g = graded_step g.crew.t (map (entry_of (number_of span)) (graded_positions g))

-- the next iteration: from the new position, with each sender of grade 0 or 1 distrusted
abbrev pub next_iteration : Position → Grading Position → Grading Position
next_iteration span g = begun g.crew (position_near (averaged span g)) (distrusted_after position_coding g)

-- it begins where the third round of a grading has ended
abbrev pub carried_on : Position → Grading Position → Bool → Grading Position
carried_on span g true = next_iteration span g
carried_on span g false = g

-- the frame of the next round, with so many rounds left: that of the grading, and past the last round nothing
abbrev pub graded_frame : Graded → ℕ → List ℕ
graded_frame s = while_left [] (λ l. frame_of position_coding s.grading)

-- the state after a round, with so many rounds left before it; past the last round nothing changes
abbrev pub graded_after : Graded → Box → ℕ → Graded
graded_after s box = while_left s (λ l. record {
  span = s.span;
  grading = carried_on s.span (after position_coding s.grading box) (over (after position_coding s.grading box).stage);
  left = l;
})

-- the rounds of so many iterations
abbrev pub thrice : ℕ → ℕ
thrice zero = zero
thrice (suc r) = suc (suc (suc (thrice r)))

abbrev pub graded_model : LineModel Graded
graded_model = record {
  begun = λ crew span position. record {
    span = position_near span;
    grading = begun crew (position_near (position_in span position)) (replicate 16 false);
    left = thrice (graded_iterations crew.n crew.t (span_of span));
  };
  count = λ n t span. thrice (graded_iterations n t (span_of span));
  rounds = λ s. thrice (graded_iterations s.grading.crew.n s.grading.crew.t (number_of s.span));
  frame = λ s. graded_frame s s.left;
  after = λ s box. graded_after s box s.left;
  result = λ s. number_of s.grading.own;
}
