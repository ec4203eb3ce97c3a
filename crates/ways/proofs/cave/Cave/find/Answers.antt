use Rattle.std.proofs.Common.{rules}
use Rattle.std.proofs.lemmas.List.Sorted.{answers_always}
use Rattle.label.specs.Orders.{key_of}
use Rattle.ways.proofs.Finding.{found_by_search}
use Rattle.ways.proofs.cave.Cave.find.Goals as goal

-- the closure gives the key of a station's label
pub returns : goal.returns
returns c =
    let facts = c.binary_search_by_key-found.ensures in
    let by_key = facts.position (λ station. key_of station.label) (answers_always _ _ _ (λ f a r g called. search rules)) in
    found_by_search c.args.self.now.stations.now c.args.self.now.lawful.ascending c.args.label _ _ facts.bound (rw c.key.ensures.value at by_key) c.ok.ensures.value
