use Rattle.std.proofs.Common.{◌+◌, length}
use Rattle.tree.specs.Stations.{parent_of, depth_of}
use Rattle.tree.proofs.Steps.{Closing}
use Rattle.ways.proofs.cave.Cave.meeting_point.Given as goal

abbrev pub invariant-loop-a : goal.invariant-loop-a
invariant-loop-a l = Closing (length l.self.stations.now) (parent_of l.self.stations.now) (depth_of l.self.stations.now) l.u l.v l.a l.b

abbrev pub decreases-loop-a : goal.decreases-loop-a
decreases-loop-a l = depth_of l.self.stations.now l.a + depth_of l.self.stations.now l.b
