use Rattle.std.proofs.Common.{◌∙◌}
use Rattle.wire.proofs.Votes.{same_option}
use Rattle.wire.proofs.inbox.votes.is_value.Goals as goal

pub returns : goal.returns
returns g c = c.eq.ensures ∙ same_option g.K.Kind.coding g.met.K.Kind.lawful g.K.PartialEq.eq g.met.K.Kind.equal c.args.value c.args.slot
