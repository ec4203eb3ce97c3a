use Rattle.std.proofs.Common.{◌≡◌, ◌+◌, ◌<◌, ◌≤◌, ◌++◌, map, length, take, drop}
use Rattle.tree.specs.Courses.{course_from}
use Rattle.tree.specs.Stations.{station_label, depth_of}
use Rattle.ways.proofs.cave.Cave.write_course.Given as goal

abbrev pub invariant-loop-a : goal.invariant-loop-a
invariant-loop-a l = (length l.out ≡ 1024) × (l.a < length l.self.stations.now) × (l.b < length l.self.stations.now) × (l.front + length (course_from l.self.stations.now l.a l.b) ≡ l.back) × (l.back ≤ l.total) × (l.total ≤ 1024)
    × (take l.front l.out ++ (map (station_label l.self.stations.now) (course_from l.self.stations.now l.a l.b) ++ drop l.back l.out) ≡ map (station_label l.self.stations.now) (course_from l.self.stations.now l.u l.v) ++ drop l.total l.initial.out)

abbrev pub decreases-loop-a : goal.decreases-loop-a
decreases-loop-a l = depth_of l.self.stations.now l.a + depth_of l.self.stations.now l.b
