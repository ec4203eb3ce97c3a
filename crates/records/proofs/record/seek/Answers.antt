use Rattle.std.proofs.Common.{rules, ◌∙◌}
use Rattle.std.proofs.lemmas.Iterator.{YieldsList-from_slice}
use Rattle.std.proofs.lemmas.Iterator.Search.{position_from_yields_List}
use Rattle.records.specs.Halves.{same_label}
use Rattle.records.proofs.Seeks.{same_keys, seek_records}
use Rattle.records.proofs.record.seek.Goals as goal

pub returns-clause-value : goal.returns-clause-value
returns-clause-value c =
    position_from_yields_List (λ x. same_label x.label c.args.label) _ _ c.position.result c.position.ensures.ran (YieldsList-from_slice c.args.earlier.now cc) (λ x b q k. search (rules, same_keys))
    ∙ seek_records c.args.label c.args.earlier.now
