-- What a frame and a table of frames hold.
use Rattle.std.specs.Prelude.{ℕ, cond, List, [], map, length, take, Some, None, Option, nat_le}
use Rattle.wire.specs.Boxes.{Box}
use Rattle.wire.specs.declared.frame.Frame.{Frame}
use Rattle.wire.specs.declared.inbox.Inbox.{Inbox}

-- a frame's bytes
abbrev pub carried : Frame → List ℕ
carried f = take f.len f.bytes

-- bytes as a frame has them: more than 128 count as none
abbrev pub framed : List ℕ → List ℕ
framed bytes = cond (nat_le (length bytes) 128) bytes []

abbrev pub sent : Option Frame → Option (List ℕ)
sent None = None
sent (Some f) = Some (carried f)

-- what a table holds
abbrev pub box_of : Inbox → Box
box_of inbox = map sent inbox.frames
