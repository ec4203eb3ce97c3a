use Rattle.std.proofs.Common.{◌≡◌, ◌-◌, ◌<◌, length}
use Rattle.tree.specs.Trees.{climb}
use Rattle.tree.specs.Stations.{parent_of, depth_of}
use Rattle.ways.proofs.cave.Cave.station_at.Given as goal

abbrev pub invariant-loop-at : goal.invariant-loop-at
invariant-loop-at l =
    (l.at < length l.self.stations.now)
    × (climb (parent_of l.self.stations.now) (depth_of l.self.stations.now l.at - l.level) l.at ≡ climb (parent_of l.self.stations.now) (depth_of l.self.stations.now l.v - l.level) l.v)

abbrev pub decreases-loop-at : goal.decreases-loop-at
decreases-loop-at l = depth_of l.self.stations.now l.at
