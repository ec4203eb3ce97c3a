use Rattle.std.proofs.Common.{unwrap_or, ap, ◌∙◌, rules, tests}
use Rattle.std.proofs.lemmas.Iterator.{YieldsList-from_slice, YieldsList-from_map}
use Rattle.std.proofs.lemmas.Iterator.Consumers.{reduce_from_yields_List}
use Rattle.std.proofs.lemmas.List.Folds.{max_of_map}
use Rattle.ways.proofs.Depths.{height_told}
use Rattle.ways.proofs.cave.Cave.height.Goals as goal

pub returns : goal.returns
returns c =
    let ps = c.args.self.now.stations.now in
    height_told ps c.args.self.now.lawful c.unwrap_or.result
    (c.unwrap_or.ensures ∙ ap (λ o. unwrap_or o 0) (reduce_from_yields_List _ c.map-depths.result _ c.max.ensures.ran (YieldsList-from_map _ (λ s. s.depth) (YieldsList-from_slice ps cc) c.map-depths.ensures.closure (λ x b q k. search (rules, tests)))) ∙ max_of_map (λ s. s.depth) ps)
