use Rattle.std.proofs.Common.{◌≡◌, ◌++◌}
use Rattle.std.specs.Slice.Iter.{chunks_exact_rest, chunks_exact_size}
use Rattle.script.specs.Hex.{hex_of}
use Rattle.script.proofs.hex.read_hex.Given as goal

-- the digits so far write the bytes so far, and the others are still to come in twos
abbrev pub invariant-loop-digits : goal.invariant-loop-digits
invariant-loop-digits l = (l.fn.text ≡ hex_of l.bytes.items ++ chunks_exact_rest l.digits-iterator) × (chunks_exact_size l.digits-iterator ≡ 2)
