use Rattle.std.proofs.Common.{◌+◌, ◌-◌, ◌*◌, length}
use Rattle.tree.specs.Stations.{parent_of, depth_of}
use Rattle.tree.proofs.Sizes.{below}
use Rattle.ways.proofs.Naming.{StillGives}
use Rattle.ways.proofs.cave.Cave.+branch_walk_station_walk.Given as goal

-- the count of stations still below, doubled, since a station walk hands its own station to a branch walk
abbrev pub decreases-branch_walk : goal.decreases-branch_walk
decreases-branch_walk l = 2 * below (length l.self.now.stations.now) (parent_of l.self.now.stations.now) (depth_of l.self.now.stations.now) l.at - 1

abbrev pub decreases-station_walk : goal.decreases-station_walk
decreases-station_walk l = 2 * below (length l.self.now.stations.now) (parent_of l.self.now.stations.now) (depth_of l.self.now.stations.now) l.at

abbrev pub invariant-branch_walk-loop-k : goal.invariant-branch_walk-loop-k
invariant-branch_walk-loop-k l = StillGives l.self.stations.now l.at (l.k + 1) l.walk.items l.initial.walk.items
