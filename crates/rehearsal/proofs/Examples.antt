-- The worked examples, computed.
use Rattle.std.proofs.Common.{refl}
use Rattle.block.specs.Blocks.{check_sum, blank_from}
use Rattle.tree.specs.Walks.{walk_from}
use Rattle.rehearsal.specs.Table.{Worked}
use Rattle.rehearsal.proofs.Example.{example_charted, example_height}

pub worked : Worked
unfolding check_sum blank_from walk_from
worked =
    record {
      small = refl;
      parted = refl;
      nothing = refl;
      nine = refl;
      twelve = refl;
      check_of_a = refl;
      file_of_a = refl;
      check_of_none = refl;
      file_of_none = refl;
      eight = refl;
      stations = example_charted;
      walk = refl;
      height = example_height;
    }
