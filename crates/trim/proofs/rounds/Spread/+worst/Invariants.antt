use Rattle.std.proofs.Common.{◌≡◌, ◌-◌, ◌*◌}
use Rattle.trim.specs.Steps.{ceil}
use Rattle.trim.specs.Iterations.{worst}
use Rattle.trim.proofs.Iterations.{so_far}
use Rattle.trim.proofs.rounds.Spread.+worst.Given as goal

abbrev pub invariant-loop-k : goal.invariant-loop-k
invariant-loop-k l = l.top ≡ so_far (λ j. worst l.self.m (ceil (j * l.self.spread) l.self.m) (l.r - 1) (l.self.f - j)) l.k

abbrev pub decreases-worst : goal.decreases-worst
decreases-worst l = l.r
