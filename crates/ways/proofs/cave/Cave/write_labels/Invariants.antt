use Rattle.std.proofs.Common.{◌≡◌, map, length, take, drop}
use Rattle.tree.specs.Stations.{station_label}
use Rattle.ways.proofs.cave.Cave.write_labels.Given as goal

abbrev pub invariant-loop-k : goal.invariant-loop-k
invariant-loop-k l = (length l.out ≡ length l.initial.out) × (take l.k l.out ≡ map (station_label l.self.stations.now) (take l.k l.places)) × (drop l.k l.out ≡ drop l.k l.initial.out)
