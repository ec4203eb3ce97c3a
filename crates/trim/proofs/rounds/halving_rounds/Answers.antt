use Rattle.std.proofs.Common.{◌≡◌, ◌-◌, ◌^◌, ◌≤◌, arith}
use Rattle.slot.specs.Positions.{number_of}
use Rattle.trim.specs.Iterations.{doublings, Least}
use Rattle.trim.proofs.Entries.{number_in}
use Rattle.trim.proofs.Iterations.{log_least, doublings-least, doublings-few, least_same, worsts}
use Rattle.trim.proofs.Runs.{runs}
use Rattle.trim.proofs.rounds.halving_rounds.Goals as goal

pub returns : goal.returns
returns c =
    let wide = number_of c.args.span - 1 in
    let p = c.next_power_of_two.result in
    let r = c.ilog2.result in
    let l : Least (λ k. wide ≤ 2 ^ k) r = log_least wide p r c.next_power_of_two.ensures.power (omega arith) (omega arith) (omega arith) (omega arith) in
    let e : r ≡ doublings wide = least_same (λ k. wide ≤ 2 ^ k) r (doublings wide) l (doublings-least wide) in
    record { is = e; least = l; few = omega (arith, e, doublings-few wide (omega (arith, number_in c.args.span))); worsts = worsts; runs = runs }
