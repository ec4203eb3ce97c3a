-- What the records of a plan file say of a cave, in file order.
use Rattle.std.specs.Prelude.{ℕ, ◌<◌, List, length, ◌≢◌, slice_index, slice_index_or}
use Rattle.label.specs.Labels.{zero_label}
use Rattle.label.specs.declared.label.Label.{Label}

-- the records' stations, and for each record the place, counted from 0, of the earlier record whose station it is
-- joined to; 0 for the first record, which is joined to none
pub record Records : Type 0 where
  pub labels : List Label
  pub joins : List ℕ

-- the label at place k
abbrev pub label_at : List Label → ℕ → Label
label_at ls k = slice_index_or ls k zero_label

-- all labels differ
abbrev pub Different : List Label → Type 0
Different ls = (i j : ℕ) → i < j → j < length ls → label_at ls i ≢ label_at ls j

-- each record but the first is joined to an earlier one
abbrev pub Earlier : List ℕ → Type 0
Earlier js = (k : ℕ) → 0 < k → k < length js → slice_index js k < k
