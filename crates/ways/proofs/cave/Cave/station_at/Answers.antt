use Rattle.std.proofs.Common.{◌∙◌, arith}
use Rattle.ways.proofs.Climbing.{climb_on}
use Rattle.ways.proofs.cave.Cave.station_at.Goals as goal

pub loop-at-preserved : goal.loop-at-preserved
loop-at-preserved c =
    let t = climb_on c.args.self.now.stations.now c.args.self.now.lawful c.loop-at.at c.parent_of-at.result c.args.level c.loop-at.invariant.0 c.requires.some (omega arith) c.parent_of-at.ensures in
    (t.0, t.1 ∙ c.loop-at.invariant.1)
