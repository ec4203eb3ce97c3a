-- The worked examples of the two lines, computed.
use Rattle.std.proofs.Common.{refl}
use Rattle.rehearsal.specs.Lines.{LineTable}

pub line_table : LineTable
line_table = record {
  all_came = refl;
  one_missing = refl;
  one_past = refl;
  halving_counts = refl;
  graded_seven = refl;
  graded_eight = refl;
  graded_counts = refl;
}
