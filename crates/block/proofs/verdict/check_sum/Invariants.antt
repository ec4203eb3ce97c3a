use Rattle.std.proofs.Common.{◌≡◌, ◌*◌, ◌≤◌}
use Rattle.block.specs.Blocks.{weighted}
use Rattle.block.proofs.verdict.check_sum.Given as goal

abbrev pub invariant-loop-k : goal.invariant-loop-k
invariant-loop-k l = (l.sum ≡ weighted l.bytes l.k) × (l.sum ≤ 130050 * l.k)
