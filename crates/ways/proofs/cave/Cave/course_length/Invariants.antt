use Rattle.std.proofs.Common.{◌≡◌, ◌+◌, ◌<◌, length}
use Rattle.tree.specs.Courses.{course_from}
use Rattle.tree.specs.Stations.{depth_of}
use Rattle.ways.proofs.cave.Cave.course_length.Given as goal

abbrev pub invariant-loop-a : goal.invariant-loop-a
invariant-loop-a l = (l.a < length l.self.stations.now) × (l.b < length l.self.stations.now) × (l.count + length (course_from l.self.stations.now l.a l.b) ≡ 1 + length (course_from l.self.stations.now l.u l.v))

abbrev pub decreases-loop-a : goal.decreases-loop-a
decreases-loop-a l = depth_of l.self.stations.now l.a + depth_of l.self.stations.now l.b
