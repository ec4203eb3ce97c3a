use Rattle.std.proofs.Common.{◌≡◌, ◌-◌, ℕ, length, take, reverse, ap, ◌∙◌, rules, tests}
use Rattle.std.specs.List.{suffix_len}
use Rattle.std.proofs.lemmas.List.Folds.{length-prefix_len}
use Rattle.std.proofs.lemmas.Iterator.Adapters.{YieldsList-from_rev_slice}
use Rattle.std.proofs.lemmas.Iterator.Consumers.{count_from_yields_List}
use Rattle.std.proofs.lemmas.Iterator.Search.{YieldsList-from_take_while}
use Rattle.label.specs.Signs.{blank}
use Rattle.label.proofs.label.ops.without_blanks.Goals as goal

pub returns : goal.returns
returns c =
    let xs = c.args.text.now in
    let e : c.count-blanks.result ≡ length (take (suffix_len blank xs) (reverse xs)) =
    count_from_yields_List c.take_while.result _ c.count-blanks.ensures.ran
    (YieldsList-from_take_while _ blank (YieldsList-from_rev_slice xs (cc)) c.take_while.ensures.closure c.take_while.ensures.done (λ x b q k. search (rules, tests))) in
    ap (λ (n : ℕ). take (length xs - n) xs) (e ∙ length-prefix_len blank (reverse xs))
