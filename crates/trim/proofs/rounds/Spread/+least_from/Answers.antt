use Rattle.std.proofs.Common.{ℕ, ◌+◌, ◌<◌, arith}
use Rattle.trim.specs.Iterations.{worst}
use Rattle.trim.proofs.Iterations.{few_before, least_more}
use Rattle.trim.proofs.rounds.Spread.+least_from.Goals as goal

pub least_from-requires : goal.least_from-requires
least_from-requires t c =
    let self = c.args.self in
    let before : (j : ℕ) → j < c.args.r + 1 → 1 < worst self.m self.spread j self.f =
    least_more self.m self.spread self.f c.args.r c.worst.result c.worst.ensures c.if-worst-le1.false c.requires in
    (omega (arith, few_before self.m self.spread self.f (omega arith) (c.args.r + 1) before), before)
