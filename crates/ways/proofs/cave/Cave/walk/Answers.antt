use Rattle.std.proofs.Common.{map, ap, ◌∙◌}
use Rattle.tree.specs.Stations.{station_label}
use Rattle.ways.proofs.Placing.{walk_inside, walk_told}
use Rattle.ways.proofs.cave.Cave.walk.Goals as goal

pub write_labels-requires-clause-inside : goal.write_labels-requires-clause-inside
write_labels-requires-clause-inside c = walk_inside c.args.self.now.stations.now c.args.self.now.lawful c.deref.result.now (c.deref.ensures.0 ∙ c.whole_walk.ensures)

pub returns-clause-laws : goal.returns-clause-laws
returns-clause-laws c =
    walk_told c.args.self.now.stations.now c.args.self.now.lawful _ (c.write_labels.ensures.written ∙ ap (map (station_label c.args.self.now.stations.now)) (c.deref.ensures.0 ∙ c.whole_walk.ensures))
