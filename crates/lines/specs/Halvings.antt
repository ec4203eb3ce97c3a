-- The halving line.
use Rattle.std.specs.Prelude.{ℕ, List, [], map, Option}
use Rattle.std.specs.List.{range_with_len}
use Rattle.slot.specs.Positions.{number_of, position_near, position_bytes, position_coding}
use Rattle.slot.specs.declared.position.Position.{Position}
use Rattle.wire.specs.Boxes.{Box, from}
use Rattle.wire.specs.Slots.{slot_from}
use Rattle.trim.specs.Entries.{entry_of}
use Rattle.trim.specs.Iterations.{halving_rounds}
use Rattle.trim.specs.Trims.{halving_step}
use Rattle.line.specs.Models.{LineModel, span_of, position_in}
use Rattle.lines.specs.Lefts.{while_left}
use Rattle.lines.specs.declared.halving.Halving.{Halving}

-- what came from each of n units: the position in a frame of one slot, or nothing
abbrev pub heard_positions : ℕ → Box → List (Option Position)
heard_positions n box = map (λ i. slot_from position_coding 1 0 (from box i)) (range_with_len 0 n)

-- the frame of the next round, with so many rounds left: the own position, and past the last round nothing
abbrev pub halving_frame : Halving → ℕ → List ℕ
halving_frame s = while_left [] (λ l. position_bytes s.own)

-- the new position: half the sum of the least and the greatest left, rounded down
abbrev pub halved : Halving → Box → ℕ
halved s box = halving_step s.crew.t (map (entry_of (number_of s.span)) (heard_positions s.crew.n box))

-- the state after a round, with so many rounds left before it; past the last round nothing changes
abbrev pub halving_after : Halving → Box → ℕ → Halving
halving_after s box = while_left s (λ l. record s { own = position_near (halved s box); left = l })

abbrev pub halving_model : LineModel Halving
halving_model = record {
  begun = λ crew span position. record {
    crew = crew;
    span = position_near span;
    own = position_near (position_in span position);
    left = halving_rounds (span_of span);
  };
  count = λ n t span. halving_rounds (span_of span);
  rounds = λ s. halving_rounds (number_of s.span);
  frame = λ s. halving_frame s s.left;
  after = λ s box. halving_after s box s.left;
  result = λ s. number_of s.own;
}
