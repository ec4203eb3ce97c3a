-- What a plan file says: its records, or its first fault.
use Rattle.std.specs.Prelude.{◌≡◌, ℕ, zero, suc, ◌+◌, ◌*◌, ◌/◌, ◌%◌, ◌<◌, ◌≤◌, cond, not, ◌||◌, List, [], ◌∷◌, ◌++◌, length, take, drop, is_some, option_map, position, Some, None, Ok, Err, Option, Result, ◌==◌, nat_lt, slice_index_or}
use Rattle.label.specs.Labels.{label_of}
use Rattle.label.specs.declared.label.Label.{Label}
use Rattle.block.specs.Blocks.{block_verdict}
use Rattle.block.specs.declared.fault.BlockFault.{BlockFault}
use Rattle.tree.specs.Records.{Records}
use Rattle.records.specs.Halves.{eight_at, second_of, same_label}
use Rattle.records.specs.Lists.{join_of}
use Rattle.records.specs.declared.fault.PlanFault.{PlanFault}
use Rattle.records.specs.declared.fault.PlanFault.TheVariants.{Size, Block, Unlawful, Repeated, Joined, Count}
use Rattle.records.specs.declared.record.Record.{Record}

-- the place of a label among others
abbrev pub seek : Label → List Label → Option ℕ
seek label ls = position (λ l. same_label l label) ls

-- the place that a second half names, after records with the labels ls: none in the first record, whose second half
-- is blank; in every other that of an earlier record, whose label it has
abbrev pub parent_for : Option Label → List Label → Option (Option ℕ)
parent_for None [] = Some None
parent_for None (l ∷ ls) = None
parent_for (Some m) ls = option_map (λ k. Some k) (seek m ls)

abbrev pub joined_to : Label → Option (Option ℕ) → ℕ → Result Record PlanFault
joined_to label (Some parent) p = Ok (record { label = label; joined = parent })
joined_to label None p = Err (Joined p)

-- a record with that first label, if it is lawful, and that second half at byte p, after records with the labels ls:
-- a label may be unlawful, the first label repeated, or the second break its rule, in this order
abbrev pub judged : Option Label → Result (Option Label) PlanFault → ℕ → List Label → Result Record PlanFault
judged None second p ls = Err (Unlawful p)
judged (Some label) (Err e) p ls = Err e
judged (Some label) (Ok second) p ls =
    cond (is_some (seek label ls)) (Err (Repeated p))
    (joined_to label (parent_for second ls) p)

-- the record at byte p of a file, after records with the labels ls
abbrev pub record_at : List ℕ → ℕ → List Label → Result Record PlanFault
record_at file p ls = judged (label_of (eight_at file p)) (second_of p (eight_at file (p + 8))) p ls

abbrev pub joined_on : List Label → List ℕ → Result Record PlanFault → (List Label → List ℕ → Result Records PlanFault) → Result Records PlanFault
joined_on ls js (Ok r) next = next (ls ++ r.label ∷ []) (js ++ join_of r.joined ∷ [])
joined_on ls js (Err e) next = Err e

-- the records at those bytes, after records with the labels ls and the joins js: causes 5, 6 and 7, record by record
abbrev pub records_from : List ℕ → List ℕ → List Label → List ℕ → Result Records PlanFault
records_from file [] ls js = Ok (record { labels = ls; joins = js })
records_from file (p ∷ ps) ls js = joined_on ls js (record_at file p ls) (records_from file ps)

-- the bytes where n records start, the first at byte p
abbrev pub places_of : ℕ → ℕ → List ℕ
places_of p zero = []
places_of p (suc n) = p ∷ places_of (p + 16) n

-- the bytes of block b
abbrev pub block_at : List ℕ → ℕ → List ℕ
block_at file b = take 512 (drop (512 * b) file)

abbrev pub placed : ℕ → List ℕ → Result ℕ BlockFault → (List ℕ → Result (List ℕ) PlanFault) → Result (List ℕ) PlanFault
placed p ps (Ok count) next = next (ps ++ places_of p count)
placed p ps (Err e) next = Err (Block e)

-- where the records start: in m blocks from block b on, of n in all, after blocks with records at ps; causes 2, 3 and
-- 4, block by block
abbrev pub blocks_from : List ℕ → ℕ → ℕ → ℕ → List ℕ → Result (List ℕ) PlanFault
blocks_from file n b zero ps = Ok ps
blocks_from file n b (suc m) ps = placed (512 * b + 4) ps (block_verdict (block_at file b) b (b + 1 == n) (512 * b)) (blocks_from file n (b + 1) m)

-- how many blocks a file of that length has, or none where it is empty, not whole blocks or over 34: cause 1
abbrev pub sized : ℕ → Option ℕ
sized bytes = cond (bytes == 0 || (not (bytes % 512 == 0) || nat_lt 34 (bytes / 512))) None (Some (bytes / 512))

-- no record, or over 1,024, is cause 8; then the records
abbrev pub counted : List ℕ → Result (List ℕ) PlanFault → Result Records PlanFault
counted file (Ok ps) = cond (length ps == 0 || nat_lt 1024 (length ps)) (Err Count) (records_from file ps [] [])
counted file (Err e) = Err e

abbrev pub in_blocks : List ℕ → Option ℕ → Result Records PlanFault
in_blocks file None = Err Size
in_blocks file (Some n) = counted file (blocks_from file n 0 n [])

-- the records of a file, or its first fault
abbrev pub read_file : List ℕ → Result Records PlanFault
read_file file = in_blocks file (sized (length file))

-- how many records block b says that it has
abbrev pub count_at : List ℕ → ℕ → ℕ
count_at file b = slice_index_or (block_at file b) 2 0

-- the bytes where the records of m blocks from block b on start, by their counts
abbrev pub starts : List ℕ → ℕ → ℕ → List ℕ
starts file b zero = []
starts file b (suc m) = places_of (512 * b + 4) (count_at file b) ++ starts file (b + 1) m

-- the blocks of the file, n of them, have that many records, each at most 31, where they are judged good; or the fault is the same
abbrev pub Judged : List ℕ → ℕ → Result ℕ PlanFault → Type 0
Judged file n (Ok total) = (blocks_from file n 0 n [] ≡ Ok (starts file 0 n)) × (length (starts file 0 n) ≡ total) × (total ≤ 31 * n) × ((b : ℕ) → b < n → count_at file b ≤ 31)
Judged file n (Err e) = Err e ≡ blocks_from file n 0 n []

-- the records as they then are, or the fault
abbrev pub told : Result Unit PlanFault → Records → Result Records PlanFault
told (Ok x) rs = Ok rs
told (Err e) rs = Err e
