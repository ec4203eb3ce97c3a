-- The records that are read, as a list, and what holds of it.
use Rattle.std.specs.Prelude.{◌≡◌, ℕ, ◌<◌, ◌≤◌, List, map, length, Some, None, Option, slice_index_or}
use Rattle.label.specs.Labels.{zero_label}
use Rattle.label.specs.declared.label.Label.{Label}
use Rattle.tree.specs.Records.{Records, Different}
use Rattle.records.specs.declared.record.Record.{Record}

-- the place that a record is joined to, as a list of places has it: 0 where it is joined to none
abbrev pub join_of : Option ℕ → ℕ
join_of None = 0
join_of (Some j) = j

abbrev pub labels_of : List Record → List Label
labels_of rs = map (λ r. r.label) rs

abbrev pub joins_of : List Record → List ℕ
joins_of rs = map (λ r. join_of r.joined) rs

-- what records say, as the list of their labels and that of their joins
abbrev pub records_of : List Record → Records
records_of rs = record { labels = labels_of rs; joins = joins_of rs }

-- the place of the record that record k of a list is joined to
abbrev pub joined_at : List Record → ℕ → Option ℕ
joined_at rs k = (slice_index_or rs k (record { label = zero_label; joined = None })).joined

-- record k is joined to an earlier one; the first needs no join, and any that it has is free
abbrev pub JoinedBefore : ℕ → Option ℕ → Type 0
JoinedBefore k None = k ≡ 0
JoinedBefore k (Some j) = 0 < k → j < k

-- what holds of the records that a file can have: at most 1,024, with labels all different, and each but the first
-- joined to an earlier one
pub record Lawful (rs : List Record) : Type 0 where
  pub few : length rs ≤ 1024
  pub different : Different (labels_of rs)
  pub joined : (k : ℕ) → k < length rs → JoinedBefore k (joined_at rs k)
