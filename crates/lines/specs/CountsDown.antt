-- Lines that count their rounds down: the laws that such lines have alike.
use Rattle.std.specs.Prelude.{◌≡◌, ℕ, zero, suc, ◌-◌, ◌≤◌, []}
use Rattle.std.proofs.Common.{sym, ap, ◌∙◌, arith}
use Rattle.slot.specs.Positions.{number_of, position_near}
use Rattle.slot.specs.declared.position.Position.{Position}
use Rattle.wire.specs.Boxes.{Box}
use Rattle.wire.specs.declared.crew.Crew.{Crew}
use Rattle.line.specs.Models.{LineModel, span_of, position_in, line_after, Inside, Over, Counted}

-- a position in 1 to the span
abbrev pub On : Position → Position → Type 0
On span p = (1 ≤ number_of p) × (number_of p ≤ number_of span)

-- The parts of a line's state, and how many rounds there are in all, for n, t and a span in 1 to 2,047.
pub record Parts (S : Type 0) : Type 0 where
  pub crew : S → Crew
  pub span : S → Position
  pub own : S → Position
  pub left : S → ℕ
  pub in_all : ℕ → ℕ → ℕ → ℕ

-- A round keeps the crew and the span, leaves the own position on the span, and takes one from the rounds that are left;
-- with none left nothing is sent and nothing changes.
pub record CountsDown {S : Type 0} (M : LineModel S) (p : Parts S) : Type 0 where
  pub begun_crew : (crew : Crew) (span position : ℕ) → p.crew (M.begun crew span position) ≡ crew
  pub begun_span : (crew : Crew) (span position : ℕ) → p.span (M.begun crew span position) ≡ position_near span
  pub begun_own : (crew : Crew) (span position : ℕ) → p.own (M.begun crew span position) ≡ position_near (position_in span position)
  pub begun_left : (crew : Crew) (span position : ℕ) → p.left (M.begun crew span position) ≡ M.count crew.n crew.t span
  pub keeps_crew : (s : S) (b : Box) → p.crew (M.after s b) ≡ p.crew s
  pub keeps_span : (s : S) (b : Box) → p.span (M.after s b) ≡ p.span s
  pub one_less : (s : S) (b : Box) → p.left (M.after s b) ≡ p.left s - 1
  pub stays_on : (s : S) (b : Box) → 1 ≤ number_of (p.span s) → On (p.span s) (p.own s) → On (p.span s) (p.own (M.after s b))
  pub silent : (s : S) → p.left s ≡ 0 → M.frame s ≡ []
  pub still : (s : S) (b : Box) → p.left s ≡ 0 → M.after s b ≡ s
  pub rounds : (s : S) → M.rounds s ≡ p.in_all (p.crew s).n (p.crew s).t (number_of (p.span s))
  pub count : (n t span : ℕ) → M.count n t span ≡ p.in_all n t (span_of span)
  pub result : (s : S) → M.result s ≡ number_of (p.own s)

module _ {S : Type 0} (M : LineModel S) (p : Parts S) (c : CountsDown M p) (crew : Crew) (span position : ℕ) (box : ℕ → Box) where
  abbrev at : ℕ → S
  at k = line_after M crew span position box k

  pub crew_at : (k : ℕ) → p.crew (at k) ≡ crew
  crew_at zero = c.begun_crew crew span position
  crew_at (suc k) = c.keeps_crew (at k) (box k) ∙ crew_at k

  pub span_at : (k : ℕ) → p.span (at k) ≡ position_near span
  span_at zero = c.begun_span crew span position
  span_at (suc k) = c.keeps_span (at k) (box k) ∙ span_at k

  pub left_at : (k : ℕ) → p.left (at k) ≡ M.count crew.n crew.t span - k
  left_at zero = omega (arith, c.begun_left crew span position)
  left_at (suc k) = omega (arith, c.one_less (at k) (box k), left_at k)

  pub on_span : (k : ℕ) → (1 ≤ number_of (p.own (at k))) × (number_of (p.own (at k)) ≤ span_of span)
  on_span zero = let e = ap number_of (c.begun_own crew span position) in (omega (arith, e), omega (arith, e))
  on_span (suc k) =
      let e = ap number_of (span_at k) in
      let h = on_span k in
      let b = c.stays_on (at k) (box k) (omega (arith, e)) (h.0, omega (arith, h.1, e)) in
      (b.0, omega (arith, b.1, e))

-- The result of such a line is in 1 to the span.
pub inside_by : {S : Type 0} (M : LineModel S) (p : Parts S) → CountsDown M p → Inside M
inside_by M p c crew span position box k =
    let b = on_span M p c crew span position box k in
    let r = c.result (line_after M crew span position box k) in
    (omega (arith, b.0, r), omega (arith, b.1, r))

-- Past its last round nothing is sent and nothing changes.
pub over_by : {S : Type 0} (M : LineModel S) (p : Parts S) → CountsDown M p → Over M
over_by M p c crew span position box k h =
    let s = line_after M crew span position box k in
    let e : p.left s ≡ 0 = omega (arith, left_at M p c crew span position box k) in
    (c.silent s e, λ b. c.still s b e)

-- Once started it tells the count that is known from the crew and the span.
pub counted_by : {S : Type 0} (M : LineModel S) (p : Parts S) → CountsDown M p → Counted M
counted_by M p c crew span position box k =
    let s = line_after M crew span position box k in
    c.rounds s ∙ ap (λ (x : Crew). p.in_all x.n x.t (number_of (p.span s))) (crew_at M p c crew span position box k)
    ∙ ap (λ x. p.in_all crew.n crew.t (number_of x)) (span_at M p c crew span position box k) ∙ sym (c.count crew.n crew.t span)
