use Rattle.std.proofs.Common.{take, Ok}
use Rattle.std.specs.Fmt.{WritesOnOk}
use Rattle.label.specs.Shown.{shown_bytes}
use Rattle.label.proofs.label.show.LabelDisplay.fmt.Given as goal

abbrev pub invariant-loop-b : goal.invariant-loop-b
invariant-loop-b g l = WritesOnOk g.W.Write.write_str_gives l.initial.f (Ok tt) (shown_bytes (take l.b-index l.b-items)) l.f
