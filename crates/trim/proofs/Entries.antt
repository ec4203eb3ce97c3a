-- Entries lie on the line, and so does what a step makes of them.
use Rattle.std.proofs.Common.{◌≡◌, ℕ, ◌+◌, ◌-◌, ◌*◌, ◌/◌, ◌^◌, ◌<◌, ◌≤◌, Bool, true, not, leb, List, map, length, get_or, replicate, take, drop, Some, None, sum, count_by, Option, sym, ap, ◌∙◌, mul-le-mul_right, mul-zero, arith}
use Rattle.std.specs.List.{range_with_len}
use Rattle.std.proofs.lemmas.List.{length-map, length-replicate, get_or-map}
use Rattle.std.proofs.lemmas.List.Folds.{sum_by-replicate}
use Rattle.std.proofs.lemmas.List.FromFn.{fill_by_all}
use Rattle.std.proofs.lemmas.Bool.{leb-true, le-leb, cond-true, cond_both, and_parts, and_from}
use Rattle.slot.specs.declared.position.Position.{Position}
use Rattle.slot.specs.Positions.{number_of, position_at}
use Rattle.slot.specs.PositionsLemmas.{position_at_lem}
use Rattle.wire.proofs.Counts.{one, honest_below}
use Rattle.wire.specs.Spreads.{Within}
use Rattle.wire.specs.Units.{Faults}
use Rattle.trim.specs.Trims.{sorted, kept, least, greatest, graded_step}
use Rattle.trim.specs.Steps.{entry, Inside}
use Rattle.trim.specs.Entries.{entry_of, entries}
use Rattle.trim.specs.declared.list.UnitList.{UnitList}
use Rattle.trim.proofs.Layers.{kept_part}
use Rattle.trim.proofs.Steps.{sum_inside, graded_inside, least-inside, greatest-inside}

-- a position's number is in 1 to 2,047
pub number_in : (p : Position) → (1 ≤ number_of p) × (number_of p ≤ 2047)
number_in p =
    let v = number_of p in
    let h = and_parts (leb 1 v) (leb v 2047) p.ok in
    (leb-true 1 v h.0, leb-true v 2047 h.1)

pub entry_in : (span : ℕ) → 1 ≤ span → (slot : Option Position) → (1 ≤ entry_of span slot) × (entry_of span slot ≤ span)
entry_in span h None = (omega arith, h)
entry_in span h (Some p) =
    let v = number_of p in
    cond_both (leb v span) v 1 (λ x. (1 ≤ x) × (x ≤ span))
    (λ t. ((number_in p).0, leb-true v span t))
    (λ f. (omega arith, h))

-- the list, by unit
pub entries_by_unit : (l : UnitList) → map (λ i. entry_of (number_of l.span) (get_or l.slots.now i None)) (range_with_len 0 (length l.slots.now)) ≡ entries l
entries_by_unit l =
    let slots = l.slots.now in
    sym (fill_by_all (λ i. entry_of (number_of l.span) (get_or slots i None)) (entries l) (length slots) 0 (length-map slots (entry_of (number_of l.span)))
    (λ k h. get_or-map (entry_of (number_of l.span)) slots k None 0 h))

-- a position within the span is its own entry
pub entry_at : (span v : ℕ) → 1 ≤ v → v ≤ span → span ≤ 2047 → entry_of span (position_at v) ≡ v
entry_at span v low high short =
    let p : Position = record { value = v; ok = and_from (leb 1 v) (leb v 2047) (le-leb 1 v low) (le-leb v 2047 (omega arith)) } in
    ap (entry_of span) (position_at_lem p) ∙ cond-true (leb v span) v 1 (le-leb v span high)

-- a step stays on the line: every unit may count as honest, since all entries lie on it
none_faulty : (n : ℕ) → count_by not (replicate n true) ≡ 0
none_faulty n = sum_by-replicate (λ b. one (not b)) n true ∙ mul-zero n

module _ (span t : ℕ) (slots : List (Option Position)) (long : 1 ≤ span) (enough : 3 * t + 1 ≤ length slots) where
  abbrev all : List Bool
  all = replicate (length slots) true

  no_faults : Faults (length slots) t all
  no_faults = record { size = length-replicate (length slots) true; few = omega (arith, none_faulty (length slots)); enough = enough }

  all_within : Within all (entry (map (entry_of span) slots)) 1 span
  all_within i s =
      let b : i < length slots = omega (arith, honest_below all i s, length-replicate (length slots) true) in
      let e = get_or-map (entry_of span) slots i None 0 b in
      let r = entry_in span long (get_or slots i None) in
      (omega (arith, e, r.0), omega (arith, e, r.1))

  pub step_in : (step : ℕ → List ℕ → ℕ) → Inside step → (1 ≤ step t (map (entry_of span) slots)) × (step t (map (entry_of span) slots) ≤ span)
  step_in step inside = inside (length slots) t all no_faults (map (entry_of span) slots) (length-map slots (entry_of span)) 1 span all_within

  pub sum_in : sum (kept t (map (entry_of span) slots)) ≤ span * (length slots - 2 * t)
  sum_in =
      let l = length-map slots (entry_of span) in
      let s = sum_inside (length slots) t all no_faults (map (entry_of span) slots) l 1 span all_within in
      omega (arith, s.1, ap (λ k. span * (k - 2 * t)) l)

-- what is left of a unit's list, and its mean
pub least_in : (l : UnitList) → (1 ≤ least l.t (entries l)) × (least l.t (entries l) ≤ number_of l.span)
least_in l = step_in (number_of l.span) l.t l.slots.now (number_in l.span).0 l.enough least least-inside

pub greatest_in : (l : UnitList) → (1 ≤ greatest l.t (entries l)) × (greatest l.t (entries l) ≤ number_of l.span)
greatest_in l = step_in (number_of l.span) l.t l.slots.now (number_in l.span).0 l.enough greatest greatest-inside

pub mean_in : (l : UnitList) (s : ℕ) → s ≡ sum (kept l.t (entries l)) → (1 ≤ s / (length l.slots.now - 2 * l.t)) × (s / (length l.slots.now - 2 * l.t) ≤ number_of l.span)
mean_in l s e =
    let m = step_in (number_of l.span) l.t l.slots.now (number_in l.span).0 l.enough graded_step graded_inside in
    let q : s / (length l.slots.now - 2 * l.t) ≡ graded_step l.t (entries l) = ap (λ k. k / (length l.slots.now - 2 * l.t)) e ∙ ap (λ k. sum (kept l.t (entries l)) / (k - 2 * l.t)) (sym (length-map l.slots.now (entry_of (number_of l.span)))) in
    (omega (arith, q, m.0), omega (arith, q, m.1))

pub sum_fits : (l : UnitList) → sum (kept l.t (entries l)) < 2 ^ 64
sum_fits l =
    omega (arith, sum_in (number_of l.span) l.t l.slots.now (number_in l.span).0 l.enough, mul-le-mul_right {m = number_of l.span} {n = 2047} (length l.slots.now - 2 * l.t) (number_in l.span).1)

pub left_sum : (l : UnitList) (array : List ℕ) → take (length l.slots.now) array ≡ sorted (entries l)
    → sum (take (length l.slots.now - l.t - l.t) (drop l.t array)) ≡ sum (kept l.t (entries l))
left_sum l array e =
    ap sum (kept_part l.t (length l.slots.now) (entries l) array (omega (arith, l.enough)) (length-map l.slots.now (entry_of (number_of l.span))) e)
