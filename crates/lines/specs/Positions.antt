-- Positions that are held and sent.
use Rattle.std.specs.Prelude.{◌≡◌, ℕ, ◌≤◌, Some}
use Rattle.std.proofs.Common.{arith}
use Rattle.slot.specs.Positions.{number_of, position_near, position_bytes, position_coding}
use Rattle.slot.specs.declared.position.Position.{Position}
use Rattle.slot.specs.Laws.{position_lawful}
use Rattle.wire.specs.Slots.{slot_from}
use Rattle.wire.proofs.Slotted.{slotted-read}

-- a number in 1 to 2,047 is not cut
pub near_is : (v : ℕ) → 1 ≤ v → v ≤ 2047 → number_of (position_near v) ≡ v
near_is v low high = omega arith

-- what is read in a frame with a position
pub slot_of : (p : Position) → slot_from position_coding 1 0 (Some (position_bytes p)) ≡ Some p
slot_of p = slotted-read position_coding position_lawful (λ _. Some p) 1 0 (omega arith)
