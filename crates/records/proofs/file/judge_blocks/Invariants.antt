use Rattle.std.proofs.Common.{◌≡◌, ℕ, ◌-◌, ◌*◌, ◌<◌, ◌≤◌, [], length}
use Rattle.std.specs.Slice.Iter.{chunks_exact_rest, chunks_exact_size}
use Rattle.records.specs.Files.{blocks_from, count_at, starts}
use Rattle.records.proofs.Turns.{blocks_left}
use Rattle.records.proofs.file.judge_blocks.Given as goal

abbrev pub invariant-loop-b : goal.invariant-loop-b
invariant-loop-b l =
    record {
      can : goal.iterator-loop-b.can_next l.b-iterator;
      finite : goal.iterator-loop-b.is_finite l.b-iterator;
      size : chunks_exact_size l.b-iterator.iter ≡ 512;
      left : chunks_exact_rest l.b-iterator.iter ≡ blocks_left l.file l.b-iterator.count;
      few : l.b-iterator.count ≤ l.blocks;
      judged : blocks_from l.file l.blocks l.b-iterator.count (l.blocks - l.b-iterator.count) (starts l.file 0 l.b-iterator.count) ≡ blocks_from l.file l.blocks 0 l.blocks [];
      long : length (starts l.file 0 l.b-iterator.count) ≡ l.total;
      most : l.total ≤ 31 * l.b-iterator.count;
      small : (j : ℕ) → j < l.b-iterator.count → count_at l.file j ≤ 31;
    }
