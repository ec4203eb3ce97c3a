use Rattle.std.proofs.Common.{false, rules}
use Rattle.wire.proofs.Fills.{made_is}
use Rattle.grading.specs.Gradings.{doubtful, distrusted_after}
use Rattle.grading.proofs.grading.Grading.next_distrusted.Goals as goal

pub returns : goal.returns
unfolding distrusted_after
returns g c = made_is _ _ (doubtful g.K.Kind.coding c.args.self.now) (λ i y q k. search rules) c.from_fn.result 16 false c.from_fn.ensures.items
