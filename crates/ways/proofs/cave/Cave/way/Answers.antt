use Rattle.std.proofs.Common.{arith}
use Rattle.tree.proofs.Courses.{course_short}
use Rattle.ways.proofs.Answering.{told_way}
use Rattle.ways.proofs.cave.Cave.way.Goals as goal

pub returns-clause-written : goal.returns-clause-written
returns-clause-written c =
    told_way c.args.self.now.stations.now c.args.self.now.lawful c.args.from c.args.to c.args.out.now c.write_course.new.out c.in_ok-u.u c.in_ok-u.v c.write_course.result c.in_ok-u.ensures.0 c.in_ok-u.ensures.1
    c.write_course.ensures.written c.write_course.ensures.behind
    (omega (arith, c.write_course.ensures.count, course_short c.args.self.now.stations.now c.args.self.now.lawful c.in_ok-u.u c.in_ok-u.v c.in_ok-u.ensures.0.0 c.in_ok-u.ensures.1.0, c.args.self.now.lawful.few))
