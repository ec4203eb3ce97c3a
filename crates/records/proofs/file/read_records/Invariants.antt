use Rattle.std.proofs.Common.{◌≡◌, ◌+◌, ◌-◌, ◌≤◌, [], length}
use Rattle.std.specs.Slice.Iter.{chunks_exact_rest, chunks_exact_size}
use Rattle.records.specs.Files.{records_from, starts}
use Rattle.records.proofs.Turns.{blocks_left}
use Rattle.records.proofs.file.read_records.Given as goal

abbrev pub invariant-loop-b : goal.invariant-loop-b
invariant-loop-b l =
    record {
      can : goal.iterator-loop-b.can_next l.b-iterator;
      finite : goal.iterator-loop-b.is_finite l.b-iterator;
      size : chunks_exact_size l.b-iterator.iter ≡ 512;
      left : chunks_exact_rest l.b-iterator.iter ≡ blocks_left l.file l.b-iterator.count;
      few : l.b-iterator.count ≤ l.blocks;
      read : records_from l.file (starts l.file l.b-iterator.count (l.blocks - l.b-iterator.count)) l.records.labels l.records.joins ≡ records_from l.file (starts l.file 0 l.blocks) [] [];
      room : length l.records.labels + length (starts l.file l.b-iterator.count (l.blocks - l.b-iterator.count)) ≤ 1024;
    }
