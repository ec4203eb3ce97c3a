use Rattle.std.proofs.Common.{◌≡◌, ◌+◌, MatchOption, rules, tests}
use Rattle.std.proofs.lemmas.Iterator.{YieldsList-from_slice, IsFirst-from_position}
use Rattle.ways.proofs.Placing.{first_found, found_inside, place_told}
use Rattle.ways.proofs.cave.Cave.first_place.Goals as goal

pub returns : goal.returns
returns c =
    let ps = c.args.self.now.stations.now in
    let lawful = c.args.self.now.lawful in
    let walk = c.whole_walk-walk.result.items in
    let at = c.unwrap_or-at.result in
    let first = IsFirst-from_position _ _ c.position-index.result (λ x. x ≡ at) (λ x. x ≡ at → ⊥) c.position-index.ensures.ran (YieldsList-from_slice walk (cc))
    (λ x q k. search (rules, tests))
    (λ x q k. (search rules, search (rules, tests))) in
    let place : MatchOption c.position-index.result (c.map_or.result ≡ 1) (λ k. c.map_or.result ≡ k + 1) = search rules in
    let found = first_found ps lawful at c.map_or.result walk c.position-index.result (found_inside ps lawful c.args.label c.find.result at c.find.ensures c.unwrap_or-at.ensures) c.whole_walk-walk.ensures first place in
    place_told ps lawful c.args.label c.find.result at c.map_or.result walk c.find.ensures c.unwrap_or-at.ensures c.whole_walk-walk.ensures found
