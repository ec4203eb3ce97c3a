use Rattle.std.proofs.Common.{◌≡◌, ◌+◌, ◌≤◌, length, get_or}
use Rattle.tree.specs.Turned.{Turned}
use Rattle.chart.specs.Links.{ups_of, depths_of}
use Rattle.chart.proofs.turn.reverse.Given as goal

abbrev pub invariant-loop-here : goal.invariant-loop-here
invariant-loop-here l =
    record {
      long : length l.links ≡ 1024;
      turned : Turned l.records.joins l.root (ups_of l.links) (depths_of l.links) l.here;
      low : l.here ≤ l.root;
      at : get_or (depths_of l.links) l.here 0 ≡ l.link.depth;
      deep : l.link.depth + l.here ≤ l.root + 1;
    }

abbrev pub decreases-loop-here : goal.decreases-loop-here
decreases-loop-here l = l.here
