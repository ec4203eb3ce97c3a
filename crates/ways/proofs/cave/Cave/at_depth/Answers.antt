use Rattle.std.proofs.Common.{arith}
use Rattle.ways.proofs.Answering.{told_at_depth}
use Rattle.ways.proofs.cave.Cave.at_depth.Goals as goal

pub returns : goal.returns
returns c =
    told_at_depth c.args.self.now.stations.now c.args.self.now.lawful c.args.label c.label_of.result _ c.station_at.result c.args.level c.in_ok-v.ensures (omega arith) c.station_at.ensures.value c.label_of.ensures
