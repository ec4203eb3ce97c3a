use Rattle.std.proofs.Common.{arith}
use Rattle.ways.proofs.Climbing.{closer_left, closer_right}
use Rattle.ways.proofs.cave.Cave.meeting_point.Goals as goal

pub loop-a-smaller-then-depth_of : goal.loop-a-smaller-then-depth_of
loop-a-smaller-then-depth_of c = (closer_right c.args.self.now.stations.now c.args.self.now.lawful _ _ _ _ _ c.loop-a.invariant c.parent_of-b.ensures (omega arith)).1

pub loop-a-preserved-then-depth_of : goal.loop-a-preserved-then-depth_of
loop-a-preserved-then-depth_of c = (closer_right c.args.self.now.stations.now c.args.self.now.lawful _ _ _ _ _ c.loop-a.invariant c.parent_of-b.ensures (omega arith)).0

pub loop-a-smaller : goal.loop-a-smaller
loop-a-smaller c = (closer_left c.args.self.now.stations.now c.args.self.now.lawful _ _ _ _ _ c.loop-a.invariant c.parent_of-a.ensures c.loop-a-test.true (omega arith)).1

pub loop-a-preserved : goal.loop-a-preserved
loop-a-preserved c = (closer_left c.args.self.now.stations.now c.args.self.now.lawful _ _ _ _ _ c.loop-a.invariant c.parent_of-a.ensures c.loop-a-test.true (omega arith)).0
