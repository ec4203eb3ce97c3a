use Rattle.std.proofs.Common.{◌≡◌, ℕ, ◌*◌, take, drop, replicate, Option}
use Rattle.wire.specs.Slots.{slotted}
use Rattle.grading.proofs.grading.steps.table_of.Given as goal

abbrev pub invariant-loop-s : goal.invariant-loop-s
invariant-loop-s g l =
    let c = g.K.Kind.coding in
    (f : ℕ → Option g.row.K.Denot) → ((s : ℕ) (r : Option g.row.K.Denot) → goal.F-post g l.value s r → r ≡ f s)
    → (take (c.wide * l.s) l.table ≡ slotted c f l.s) × (drop (c.wide * l.s) l.table ≡ drop (c.wide * l.s) (replicate 128 0))
