use Rattle.std.proofs.Common.{◌+◌, ◌-◌}
use Rattle.trim.proofs.rounds.Spread.+least_from.Given as goal

abbrev pub decreases-least_from : goal.decreases-least_from
decreases-least_from l = l.self.f + 1 - l.r
