-- What a unit holds, sends and concludes in the three rounds of a grading.
use Rattle.std.specs.Prelude.{◌≡◌, ℕ, ◌-◌, ◌*◌, Bool, true, false, cond, not, ◌||◌, List, [], ◌++◌, map, take, replicate, Some, None, Option, slice_index_or}
use Rattle.std.specs.List.{range_with_len}
use Rattle.slot.specs.Codings.{Coding}
use Rattle.wire.specs.Boxes.{Box, from}
use Rattle.wire.specs.Slots.{slot_of, slot_from, slotted, column, vote}
use Rattle.grading.specs.Grades.{grade_value, grade_of, sure, GradedBy}
use Rattle.wire.specs.declared.crew.Crew.{Crew}
use Rattle.grading.specs.declared.grade.Grade.{Grade}
use Rattle.grading.specs.declared.grade.Grade.TheVariants.{Two, One, Zero}
use Rattle.grading.specs.declared.grading.Grading.{Grading}
use Rattle.grading.specs.declared.stage.Stage.{Stage}
use Rattle.grading.specs.declared.stage.Stage.TheVariants.{Sending, Relaying, Voting, Graded}

-- what came from sender s in round 1
abbrev pub heard_from : {K : Type 0} → Coding K → Box → ℕ → Option K
heard_from c box s = slot_from c 1 0 (from box s)

-- the value that at least n - t round-2 frames carry in slot s
abbrev pub voted_for : {K : Type 0} → Coding K → ℕ → ℕ → Box → ℕ → Option K
voted_for c n t box s = vote c (n - t) None (column c n s box)

-- the grade of sender s by the round-3 frames
abbrev pub grade_by : {K : Type 0} → Coding K → ℕ → ℕ → Box → ℕ → Grade K
grade_by c n t box s = grade_of c n t (column c n s box)

-- the slots of distrusted senders are left missing
abbrev pub unless_distrusted : {K : Type 0} → List Bool → (ℕ → Option K) → ℕ → Option K
unless_distrusted distrusted f s = cond (slice_index_or distrusted s false) None (f s)

-- slots in a table of 128 bytes, with zeros behind them
abbrev pub tabled : {K : Type 0} → Coding K → (ℕ → Option K) → ℕ → List ℕ
tabled c f n = slotted c f n ++ replicate (128 - c.wide * n) 0

-- which of 16 senders have grade 2
unfoldable pub sure_marks : {K : Type 0} → Coding K → ℕ → ℕ → Box → List Bool
sure_marks c n t box = map (λ s. sure (grade_by c n t box s)) (range_with_len 0 16)

-- before round 1
abbrev pub begun : {K : Type 0} → Crew → K → List Bool → Grading K
begun crew own distrusted = record { crew = crew; own = own; distrusted = distrusted; stage = Sending; table = replicate 128 0; sure = replicate 16 false }

-- the frame of the next round: one slot with the own value, then n slots twice, then nothing
abbrev pub frame_in : {K : Type 0} → Coding K → Grading K → Stage → List ℕ
frame_in c g Sending = c.writes g.own
frame_in c g Relaying = take (c.wide * g.crew.n) g.table
frame_in c g Voting = take (c.wide * g.crew.n) g.table
frame_in c g Graded = []

abbrev pub frame_of : {K : Type 0} → Coding K → Grading K → List ℕ
frame_of c g = frame_in c g g.stage

-- what the slot of sender s holds after the round in which the box came
abbrev pub slot_after : {K : Type 0} → Coding K → Grading K → Box → Stage → ℕ → Option K
slot_after c g box Sending s = unless_distrusted g.distrusted (heard_from c box) s
slot_after c g box Relaying s = unless_distrusted g.distrusted (voted_for c g.crew.n g.crew.t box) s
slot_after c g box Voting s = grade_value (grade_by c g.crew.n g.crew.t box s)
slot_after c g box Graded s = None

-- the state after that round; past the third nothing changes
abbrev pub after_in : {K : Type 0} → Coding K → Grading K → Box → Stage → Grading K
after_in c g box Sending = record {
  crew = g.crew;
  own = g.own;
  distrusted = g.distrusted;
  stage = Relaying;
  table = tabled c (slot_after c g box Sending) g.crew.n;
  sure = g.sure;
}
after_in c g box Relaying = record {
  crew = g.crew;
  own = g.own;
  distrusted = g.distrusted;
  stage = Voting;
  table = tabled c (slot_after c g box Relaying) g.crew.n;
  sure = g.sure;
}
after_in c g box Voting = record {
  crew = g.crew;
  own = g.own;
  distrusted = g.distrusted;
  stage = Graded;
  table = tabled c (slot_after c g box Voting) g.crew.n;
  sure = sure_marks c g.crew.n g.crew.t box;
}
after_in c g box Graded = g

abbrev pub after : {K : Type 0} → Coding K → Grading K → Box → Grading K
after c g box = after_in c g box g.stage

-- the grade that a kept value has
abbrev pub grade_kept : {K : Type 0} → Bool → Option K → Grade K
grade_kept sure None = Zero
grade_kept sure (Some v) = cond sure (Two v) (One v)

-- the grade of sender s; grade 0 before the third round has ended
abbrev pub grade_in : {K : Type 0} → Coding K → Grading K → ℕ → Stage → Grade K
grade_in c g s Sending = Zero
grade_in c g s Relaying = Zero
grade_in c g s Voting = Zero
grade_in c g s Graded = grade_kept (slice_index_or g.sure s false) (slot_of c g.crew.n s (take (c.wide * g.crew.n) g.table))

abbrev pub grade_at : {K : Type 0} → Coding K → Grading K → ℕ → Grade K
grade_at c g s = grade_in c g s g.stage

-- have all three rounds ended?
abbrev pub over : Stage → Bool
over Sending = false
over Relaying = false
over Voting = false
over Graded = true

-- is sender s distrusted after the grading: it was, or it has grade 0 or 1
abbrev pub doubtful : {K : Type 0} → Coding K → Grading K → ℕ → Bool
doubtful c g s = slice_index_or g.distrusted s false || not (sure (grade_at c g s))

-- who of 16 senders is
unfoldable pub distrusted_after : {K : Type 0} → Coding K → Grading K → List Bool
distrusted_after c g = map (doubtful c g) (range_with_len 0 16)

-- The rounds by what came in them, whatever came: the frames of rounds 1, 2 and 3, the grades, and that all is over then.
pub record ByRounds {K : Type 0} (c : Coding K) : Type 0 where
  -- one slot: the own value
  pub first : (crew : Crew) (own : K) (distrusted : List Bool) →
      frame_of c (begun crew own distrusted) ≡ slotted c (λ _. Some own) 1
  -- n slots: what came from each sender in round 1
  pub second : (crew : Crew) (own : K) (distrusted : List Bool) (one : Box) →
      frame_of c (after c (begun crew own distrusted) one) ≡ slotted c (unless_distrusted distrusted (heard_from c one)) crew.n
  -- n slots: for each sender the value that at least n - t round-2 frames carry
  pub third : (crew : Crew) (own : K) (distrusted : List Bool) (one two : Box) →
      frame_of c (after c (after c (begun crew own distrusted) one) two) ≡ slotted c (unless_distrusted distrusted (voted_for c crew.n crew.t two)) crew.n
  -- each sender's grade by the round-3 frames
  pub grades : (crew : Crew) (own : K) (distrusted : List Bool) (one two three : Box) (s : ℕ) →
      grade_at c (after c (after c (after c (begun crew own distrusted) one) two) three) s ≡ grade_by c crew.n crew.t three s
  -- which are those of the counts
  pub counted : (crew : Crew) (box : Box) (s : ℕ) → GradedBy c crew.n crew.t (column c crew.n s box) (grade_by c crew.n crew.t box s)
  -- past round 3 no frame is sent and nothing changes
  pub silent : (crew : Crew) (own : K) (distrusted : List Bool) (one two three : Box) →
      frame_of c (after c (after c (after c (begun crew own distrusted) one) two) three) ≡ []
  pub still : (crew : Crew) (own : K) (distrusted : List Bool) (one two three more : Box) →
      after c (after c (after c (after c (begun crew own distrusted) one) two) three) more ≡ after c (after c (after c (begun crew own distrusted) one) two) three
