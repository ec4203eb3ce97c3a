use Rattle.std.proofs.Common.{◌≡◌, ◌<◌, length, get_or}
use Rattle.tree.specs.Turned.{Settling}
use Rattle.chart.specs.Links.{ups_of, depths_of}
use Rattle.chart.proofs.turn.turn.Given as goal

abbrev pub invariant-loop-k : goal.invariant-loop-k
invariant-loop-k l =
    record {
      long : length l.links ≡ 1024;
      first : 0 < get_or (depths_of l.links) 0 0;
      settling : Settling l.records.joins l.root (ups_of l.links) (depths_of l.links) l.k;
    }
