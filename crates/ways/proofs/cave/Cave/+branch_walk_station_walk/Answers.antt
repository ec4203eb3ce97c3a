use Rattle.std.proofs.Common.{rules}
use Rattle.ways.proofs.Branches.{next_branch, no_branch}
use Rattle.ways.proofs.Naming.{walk_push, walk_turn, walk_listed, branch_turn, branch_push, branch_listed, branch_skipped, branches_end, branches_start}
use Rattle.ways.proofs.cave.Cave.+branch_walk_station_walk.Goals as goal
use Rattle.ways.proofs.cave.Cave.+branch_walk_station_walk.Goals.{branch_walk-then-station-at, branch_walk-else-station-at}

pub branch_walk-loop-k-init : goal.branch_walk-loop-k-init
branch_walk-loop-k-init t c = branches_start c.args.self.now.stations.now c.args.at c.args.walk.now.items

pub branch_walk-station_walk-requires : goal.branch_walk-station_walk-requires
branch_walk-station_walk-requires t c =
    let turn = next_branch c.args.self.now.stations.now c.loop-k.k _ _ c.loop-k-test.true c.station-item.is in
    branch_turn c.args.self.now.stations.now c.args.at c.loop-k.k _ turn _ _ c.loop-k.invariant c.if-station-at.true c.args.self.now.lawful c.requires.known c.requires.room t c.decreases

pub branch_walk-push-requires : goal.branch_walk-push-requires
branch_walk-push-requires t c =
    let turn = next_branch c.args.self.now.stations.now c.loop-k.k _ _ c.loop-k-test.true c.station-item.is in
    (search rules, branch_push c.args.self.now.stations.now c.args.at c.loop-k.k _ turn _ _ c.loop-k.invariant c.if-station-at.true c.requires.room _ c.station_walk.ensures)

pub branch_walk-loop-k-preserved : goal.branch_walk-loop-k-preserved
branch_walk-loop-k-preserved t c =
    let turn = next_branch c.args.self.now.stations.now c.loop-k.k _ _ c.loop-k-test.true c.station-item.is in
    elim c.if-station-at.branch [
      | branch_walk-then-station-at w ↦ simp w.walk-is (branch_listed c.args.self.now.stations.now c.args.at c.loop-k.k _ turn _ _ c.loop-k.invariant w.if-station-at.true _ _ w.station_walk.ensures w.push.ensures.items)
      | branch_walk-else-station-at w ↦ simp w.walk-is (branch_skipped c.args.self.now.stations.now c.args.at c.loop-k.k _ turn _ _ c.loop-k.invariant w.if-station-at.false)
    ]

pub branch_walk-returns : goal.branch_walk-returns
branch_walk-returns t c = branches_end c.args.self.now.stations.now c.args.at _ _ _ c.loop-k.invariant (no_branch c.args.self.now.stations.now c.loop-k.k c.loop-k-test.false)

pub station_walk-push-requires : goal.station_walk-push-requires
station_walk-push-requires t c = (search rules, walk_push c.args.self.now.stations.now c.args.self.now.lawful _ c.requires.known _ c.requires.room)

pub station_walk-branch_walk-requires : goal.station_walk-branch_walk-requires
station_walk-branch_walk-requires t c = walk_turn c.args.self.now.stations.now c.args.self.now.lawful _ c.requires.known _ _ t c.requires.room c.push.ensures.items c.decreases

pub station_walk-returns : goal.station_walk-returns
station_walk-returns t c = walk_listed c.args.self.now.stations.now c.args.self.now.lawful _ c.requires.known _ _ _ c.push.ensures.items c.branch_walk.ensures
