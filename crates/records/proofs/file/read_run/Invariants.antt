use Rattle.std.proofs.Common.{◌≡◌, ◌+◌, ◌-◌, ◌*◌, ◌≤◌, length}
use Rattle.std.specs.Slice.Iter.{chunks_exact_rest, chunks_exact_size}
use Rattle.records.specs.Files.{records_from, places_of}
use Rattle.records.proofs.Turns.{run_left}
use Rattle.records.proofs.file.read_run.Given as goal

abbrev pub invariant-loop-r : goal.invariant-loop-r
invariant-loop-r l =
    record {
      can : goal.iterator-loop-r.can_next l.r-iterator;
      finite : goal.iterator-loop-r.is_finite l.r-iterator;
      size : chunks_exact_size l.r-iterator.iter ≡ 16;
      left : chunks_exact_rest l.r-iterator.iter ≡ run_left l.file l.start l.count l.r-iterator.count;
      few : l.r-iterator.count ≤ l.count;
      read : records_from l.file (places_of (l.start + 16 * l.r-iterator.count) (l.count - l.r-iterator.count)) l.records.labels l.records.joins ≡ records_from l.file (places_of l.start l.count) l.initial.records.labels l.initial.records.joins;
      room : length l.records.labels + (l.count - l.r-iterator.count) ≤ 1024;
    }
