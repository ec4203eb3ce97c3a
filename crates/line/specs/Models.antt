-- What a line agreement is: its meaning as functions on its state, its runs, and the laws that every one owes.
use Rattle.std.specs.Prelude.{◌≡◌, ℕ, ◌≤◌, Bool, List, [], length, Option}
use Rattle.slot.specs.Ranges.{cut}
use Rattle.wire.specs.Boxes.{Box}
use Rattle.wire.specs.Crews.{SameCrew}
use Rattle.wire.specs.Runs.{ran, Takes, Played}
use Rattle.wire.specs.Spreads.{Spread, Between}
use Rattle.wire.specs.Units.{Faults}
use Rattle.wire.specs.declared.crew.Crew.{Crew}

-- the span that a line takes for the one handed in: the nearer end of 1 to 2,047, where that lies outside
abbrev pub span_of : ℕ → ℕ
span_of span = cut 2047 span

-- the position that a line takes for the one handed in: the nearer end of 1 to the span, where that lies outside
abbrev pub position_in : ℕ → ℕ → ℕ
position_in span position = cut (span_of span) position

-- The whole meaning of a line agreement. The state is fixed at the start by a crew, a span and a position, and then by the
-- state before a round and what came in the round.
pub record LineModel (S : Type 0) : Type 0 where
  pub begun : Crew → ℕ → ℕ → S
  -- how many rounds there are, for n, t and a span
  pub count : ℕ → ℕ → ℕ → ℕ
  -- how many rounds a started line has in all
  pub rounds : S → ℕ
  -- the frame of the next round
  pub frame : S → List ℕ
  pub after : S → Box → S
  pub result : S → ℕ

-- the state after k rounds of a line that was started with this, whatever came in them
abbrev pub line_after : {S : Type 0} → LineModel S → Crew → ℕ → ℕ → (ℕ → Box) → ℕ → S
line_after M crew span position box k = ran M.after (M.begun crew span position) box k

-- the result is in 1 to the span, whatever came
abbrev pub Inside : {S : Type 0} → LineModel S → Type 0
Inside M = (crew : Crew) (span position : ℕ) (box : ℕ → Box) (k : ℕ) →
    (1 ≤ M.result (line_after M crew span position box k)) × (M.result (line_after M crew span position box k) ≤ span_of span)

-- past the last round no frame is sent and nothing changes
abbrev pub Over : {S : Type 0} → LineModel S → Type 0
Over M = (crew : Crew) (span position : ℕ) (box : ℕ → Box) (k : ℕ) → M.count crew.n crew.t span ≤ k →
    (M.frame (line_after M crew span position box k) ≡ [])
    × ((b : Box) → M.after (line_after M crew span position box k) b ≡ line_after M crew span position box k)

-- a started line tells the count that is known from the crew and the span
abbrev pub Counted : {S : Type 0} → LineModel S → Type 0
Counted M = (crew : Crew) (span position : ℕ) (box : ℕ → Box) (k : ℕ) →
    M.rounds (line_after M crew span position box k) ≡ M.count crew.n crew.t span

-- a frame has at most 128 bytes
abbrev pub Short : {S : Type 0} → LineModel S → Type 0
Short {S} M = (s : S) → length (M.frame s) ≤ 128

-- there are at most 255 rounds
abbrev pub Capped : {S : Type 0} → LineModel S → Type 0
Capped M = (crew : Crew) (span : ℕ) → M.count crew.n crew.t span ≤ 255

-- what each unit starts with
pub record LineStart : Type 0 where
  pub crew : ℕ → Crew
  pub position : ℕ → ℕ

-- At least n - t of n units follow the line with the same n, t and span: each sends its frames, the same to all, and takes
-- the frame of every unit that follows, its own too, in each round. What came from the others is anything.
pub record Follow {S : Type 0} (M : LineModel S) (n t span : ℕ) (honest : List Bool) (st : LineStart) (box : ℕ → ℕ → Box) : Type 0 where
  pub faults : Faults n t honest
  pub same : SameCrew n t honest st.crew
  pub takes : Takes M.frame M.after (M.count n t span) honest (λ i. M.begun (st.crew i) span (st.position i)) box

-- the result of unit i after the last round
abbrev pub result_of : {S : Type 0} → LineModel S → ℕ → ℕ → ℕ → LineStart → (ℕ → ℕ → Box) → ℕ → ℕ
result_of M n t span st box i = M.result (line_after M (st.crew i) span (st.position i) (box i) (M.count n t span))

-- What those who follow have: results that differ by at most 1, each between two of their positions.
pub record Agreed {S : Type 0} (M : LineModel S) (n t span : ℕ) (honest : List Bool) (st : LineStart) (box : ℕ → ℕ → Box) : Type 0 where
  pub close : Spread honest (result_of M n t span st box) 1
  pub between : Between honest (λ i. position_in span (st.position i)) (result_of M n t span st box)

abbrev pub Agree : {S : Type 0} → LineModel S → Type 0
Agree M = (n t span : ℕ) (honest : List Bool) (st : LineStart) (box : ℕ → ℕ → Box) → Follow M n t span honest st box → Agreed M n t span honest st box

-- Whatever the faulty units send to each receiver in each round, there is such a run.
abbrev pub Followed : {S : Type 0} → LineModel S → Type 0
Followed M = (n t span : ℕ) (honest : List Bool) (st : LineStart) → Faults n t honest → SameCrew n t honest st.crew →
    (lie : ℕ → ℕ → ℕ → Option (List ℕ)) →
    Played M.frame M.after (M.count n t span) honest (λ i. M.begun (st.crew i) span (st.position i)) lie

-- What a line is for: all who follow agree, and whatever the faulty units send, there is a run in which they send it.
pub record Agreement {S : Type 0} (M : LineModel S) : Type 0 where
  pub agree : Agree M
  pub followed : Followed M
