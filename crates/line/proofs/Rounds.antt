-- What a round of a unit that follows rests on.
use Rattle.std.proofs.Common.{◌≡◌, arith, length-take}
use Rattle.wire.specs.Frames.{carried, framed}
use Rattle.wire.specs.declared.frame.Frame.{Frame}
use Rattle.wire.proofs.Frames.{framed_short}
use Rattle.wire.proofs.Runs.{played}
use Rattle.line.specs.Models.{LineModel, Agree, Agreement}

pub framed_frame : (f : Frame) → framed (carried f) ≡ carried f
framed_frame f = framed_short (carried f) (omega (arith, length-take f.len f.bytes, f.short))

pub agreement : {S : Type 0} (M : LineModel S) → Agree M → Agreement M
agreement M agree = record {
  agree = agree;
  followed = λ n t span honest st faults same lie. played M.frame M.after honest (λ i. M.begun (st.crew i) span (st.position i)) lie (M.count n t span);
}
