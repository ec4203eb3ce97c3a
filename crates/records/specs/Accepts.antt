-- Which files are good, and what they say, in the words of the format.
use Rattle.std.specs.Prelude.{◌≡◌, ℕ, ◌+◌, ◌*◌, ◌<◌, ◌≤◌, cond, ◌⊎◌, List, [], ◌∷◌, ◌++◌, length, Ok, ◌==◌, slice_index, slice_index_or}
use Rattle.label.specs.Labels.{bytes_of}
use Rattle.label.specs.declared.label.Label.{Label}
use Rattle.block.specs.Blocks.{check_sum, word}
use Rattle.tree.specs.Records.{Records, label_at, Different, Earlier}
use Rattle.records.specs.Files.{places_of, block_at, read_file}
use Rattle.records.specs.Halves.{eight_at, eight_blanks}

-- block b of n is good and has c records
pub record GoodBlock (file : List ℕ) (n b c : ℕ) : Type 0 where
  pub check : check_sum (block_at file b) ≡ word (block_at file b) 510
  pub place : word (block_at file b) 0 ≡ b
  pub count : slice_index_or (block_at file b) 2 0 ≡ c
  pub most : c ≤ 31
  pub final : slice_index_or (block_at file b) 3 0 ≡ cond (b + 1 == n) 1 0
  pub blanks : (k : ℕ) → 4 + 16 * c ≤ k → k < 510 → slice_index (block_at file b) k ≡ 0

-- the bytes where the records start, by the counts of the blocks from b on
abbrev pub spots : ℕ → List ℕ → List ℕ
spots b [] = []
spots b (c ∷ cs) = places_of (512 * b + 4) c ++ spots (b + 1) cs

-- the label a stands at byte p of the file
abbrev pub Stands : List ℕ → ℕ → Label → Type 0
Stands file p a = eight_at file p ≡ bytes_of a

-- the records at the bytes ps: first labels all different; second half of the first blank, of every other the label of
-- an earlier record
pub record Written (file ps : List ℕ) (rs : Records) : Type 0 where
  pub labels_long : length rs.labels ≡ length ps
  pub joins_long : length rs.joins ≡ length ps
  pub label : (k : ℕ) → k < length ps → Stands file (slice_index ps k) (label_at rs.labels k)
  pub different : Different rs.labels
  pub first : 0 < length ps → (eight_at file (slice_index ps 0 + 8) ≡ eight_blanks) × (slice_index rs.joins 0 ≡ 0)
  pub later : (k : ℕ) → 0 < k → k < length ps → (slice_index rs.joins k < k) × Stands file (slice_index ps k + 8) (label_at rs.labels (slice_index rs.joins k))

-- 1 to 34 good blocks, with 1 to 1,024 records in all
pub record Accepted (file : List ℕ) (rs : Records) : Type 0 where
  pub counts : List ℕ
  pub whole : length file ≡ 512 * length counts
  pub some : 1 ≤ length counts
  pub most : length counts ≤ 34
  pub blocks : (b : ℕ) → b < length counts → GoodBlock file (length counts) b (slice_index counts b)
  pub stations : 1 ≤ length (spots 0 counts)
  pub few : length (spots 0 counts) ≤ 1024
  pub written : Written file (spots 0 counts) rs

-- a file is read exactly when it is good, and what is read is what it says
pub record ReadWhenGood : Type 0 where
  pub good : (file : List ℕ) (rs : Records) → read_file file ≡ Ok rs → Accepted file rs
  pub taken : (file : List ℕ) (rs : Records) → Accepted file rs → read_file file ≡ Ok rs

-- what holds of all records that are read
pub record Sound (rs : Records) : Type 0 where
  pub long : length rs.joins ≡ length rs.labels
  pub some : 1 ≤ length rs.labels
  pub most : length rs.labels ≤ 1024
  pub different : Different rs.labels
  pub root : slice_index_or rs.joins 0 0 ≡ 0
  pub earlier : Earlier rs.joins

-- a record at ps has the first label a
abbrev pub FileHolds : List ℕ → List ℕ → Label → Type 0
FileHolds file ps a = (k : ℕ) × ((k < length ps) × Stands file (slice_index ps k) a)

-- a record at ps but the first has the labels a and b, in either order
abbrev pub FileJoins : List ℕ → List ℕ → Label → Label → Type 0
FileJoins file ps a b = (k : ℕ) × ((0 < k) × (k < length ps)
    × ((Stands file (slice_index ps k) a × Stands file (slice_index ps k + 8) b) ⊎ (Stands file (slice_index ps k) b × Stands file (slice_index ps k + 8) a)))
