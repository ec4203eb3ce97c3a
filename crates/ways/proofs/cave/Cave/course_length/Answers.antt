use Rattle.std.proofs.Common.{[], ◌∷◌, length, ap, arith, length-append}
use Rattle.tree.specs.Courses.{course_from}
use Rattle.tree.specs.Stations.{rooted, parent_of, depth_of}
use Rattle.tree.proofs.Courses.{course_met, course_from_right, course_from-left, course_short}
use Rattle.ways.proofs.cave.Cave.course_length.Goals as goal
use Rattle.ways.proofs.cave.Cave.course_length.Goals.{then-depth_of, else-depth_of}

pub overflow_add-count : goal.overflow_add-count
overflow_add-count c = omega (arith, course_short c.args.self.now.stations.now c.args.self.now.lawful c.args.u c.args.v c.requires.first c.requires.second, c.args.self.now.lawful.few)

pub loop-a-smaller : goal.loop-a-smaller
loop-a-smaller c =
    elim c.if-depth_of.branch [
      | then-depth_of w ↦
          let s = course_from_right c.args.self.now.stations.now c.args.self.now.lawful c.loop-a.a c.loop-a.b c.loop-a.invariant.0 c.loop-a.invariant.1 c.loop-a-test.true (omega (arith, w.if-depth_of.true)) in
          omega (arith, s.1, ap (depth_of c.args.self.now.stations.now) w.a-is, ap (depth_of c.args.self.now.stations.now) w.b-is, ap (depth_of c.args.self.now.stations.now) w.parent_of-b.ensures)
      | else-depth_of w ↦
          let s = course_from-left c.args.self.now.stations.now c.args.self.now.lawful c.loop-a.a c.loop-a.b c.loop-a.invariant.0 c.loop-a.invariant.1 c.loop-a-test.true (omega (arith, w.if-depth_of.false)) in
          omega (arith, s.1, ap (depth_of c.args.self.now.stations.now) w.a-is, ap (depth_of c.args.self.now.stations.now) w.b-is, ap (depth_of c.args.self.now.stations.now) w.parent_of-a.ensures)
    ]

pub loop-a-preserved : goal.loop-a-preserved
loop-a-preserved c =
    let r = rooted c.args.self.now.stations.now c.args.self.now.lawful in
    elim c.if-depth_of.branch [
      | then-depth_of w ↦
          let s = course_from_right c.args.self.now.stations.now c.args.self.now.lawful c.loop-a.a c.loop-a.b c.loop-a.invariant.0 c.loop-a.invariant.1 c.loop-a-test.true (omega (arith, w.if-depth_of.true)) in
          let long = length-append (course_from c.args.self.now.stations.now c.loop-a.a (parent_of c.args.self.now.stations.now c.loop-a.b)) (c.loop-a.b ∷ []) in
          simp (w.a-is, w.b-is, w.parent_of-b.ensures) (c.loop-a.invariant.0, r.inside c.loop-a.b c.loop-a.invariant.1, omega (arith, ap length s.0))
      | else-depth_of w ↦
          let s = course_from-left c.args.self.now.stations.now c.args.self.now.lawful c.loop-a.a c.loop-a.b c.loop-a.invariant.0 c.loop-a.invariant.1 c.loop-a-test.true (omega (arith, w.if-depth_of.false)) in
          simp (w.a-is, w.b-is, w.parent_of-a.ensures) (r.inside c.loop-a.a c.loop-a.invariant.0, c.loop-a.invariant.1, omega (arith, ap length s.0))
    ]

pub returns : goal.returns
returns c = omega (arith, ap length (course_met c.args.self.now.stations.now c.args.self.now.lawful c.loop-a.a c.loop-a.b c.loop-a.invariant.0 c.loop-a.invariant.1 c.loop-a-test.false))
