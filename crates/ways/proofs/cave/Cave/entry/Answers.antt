use Rattle.std.proofs.Common.{◌≡◌, ◌+◌, get_or, rules}
use Rattle.ways.proofs.Placing.{entry_known, entry_told}
use Rattle.ways.proofs.cave.Cave.entry.Goals as goal

pub label_of-requires : goal.label_of-requires
label_of-requires c =
    let next : c.args.place ≡ c.in-Some.index + 1 = search rules in
    let read : c.from.result ≡ get_or c.whole_walk-walk.result.items c.in-Some.index 0 = search rules in
    entry_known c.args.self.now.stations.now c.args.self.now.lawful c.whole_walk-walk.result.items c.args.place c.in-Some.index c.from.result c.whole_walk-walk.ensures next read

pub returns : goal.returns
returns c =
    let next : c.args.place ≡ c.in-Some.index + 1 = search rules in
    let read : c.from.result ≡ get_or c.whole_walk-walk.result.items c.in-Some.index 0 = search rules in
    entry_told c.args.self.now.stations.now c.args.self.now.lawful c.whole_walk-walk.result.items c.args.place c.in-Some.index c.from.result c.whole_walk-walk.ensures next read c.label_of.result c.label_of.ensures
