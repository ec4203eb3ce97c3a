-- The worked examples.
use Rattle.std.specs.Prelude.{◌≡◌, ℕ, true, List, [], ◌∷◌, ◌++◌, replicate, Ok, Err}
use Rattle.label.specs.declared.label.Label.{Label}
use Rattle.label.specs.declared.fault.Layer.TheVariants.{Plan, Callout}
use Rattle.label.specs.declared.fault.TextFault.TheVariants.{NoLabel}
use Rattle.label.specs.Faults.{text_told}
use Rattle.label.specs.Typed.{typed_label}
use Rattle.block.specs.Blocks.{check_sum}
use Rattle.records.specs.Faults.{plan_told}
use Rattle.records.specs.Files.{read_file}
use Rattle.records.specs.declared.fault.PlanFault.TheVariants.{Count}
use Rattle.tree.specs.Caves.{Height}
use Rattle.tree.specs.Charts.{Charted}
use Rattle.tree.specs.Walks.{walk_labels}
use Rattle.rehearsal.specs.Cave.{label_a9, label_c1, label_c2, label_c3, label_d1, label_ent, example_records, example_stations}

-- the label J4
abbrev pub label_j4 : Label
label_j4 = record { b0 = 74; b1 = 52; b2 = 32; b3 = 32; b4 = 32; b5 = 32; b6 = 32; b7 = 32; ok = λ _. true }

-- the label A
abbrev pub label_a : Label
label_a = record { b0 = 65; b1 = 32; b2 = 32; b3 = 32; b4 = 32; b5 = 32; b6 = 32; b7 = 32; ok = λ _. true }

-- one block, the final one, with the station A alone, before its check
abbrev pub block_of_a : List ℕ
block_of_a = 0 ∷ 0 ∷ 1 ∷ 1 ∷ 65 ∷ replicate 15 32 ++ replicate 490 0

-- one block, the final one, without a record, before its check
abbrev pub block_of_none : List ℕ
block_of_none = 0 ∷ 0 ∷ 0 ∷ 1 ∷ replicate 506 0

pub record Worked : Type 0 where
  -- typed text: `j4` and two blanks, `J 4`, nothing, nine sign bytes
  pub small : typed_label (106 ∷ 52 ∷ 32 ∷ 32 ∷ []) ≡ Ok label_j4
  pub parted : typed_label (74 ∷ 32 ∷ 52 ∷ []) ≡ Err NoLabel
  pub nothing : typed_label [] ≡ Err NoLabel
  pub nine : typed_label (replicate 9 65) ≡ Err NoLabel
  pub twelve : text_told NoLabel ≡ record { number = 12; layer = Callout; byte = 0 }
  -- the check of the block with A alone, and the file that is this block
  pub check_of_a : check_sum (block_of_a ++ 0x19 ∷ 0xAC ∷ []) ≡ 0x19AC
  pub file_of_a : read_file (block_of_a ++ 0x19 ∷ 0xAC ∷ []) ≡ Ok (record { labels = label_a ∷ []; joins = 0 ∷ [] })
  -- the check of the block without a record, and the refusal of the file that is this block
  pub check_of_none : check_sum (block_of_none ++ 0x00 ∷ 0x04 ∷ []) ≡ 0x0004
  pub file_of_none : read_file (block_of_none ++ 0x00 ∷ 0x04 ∷ []) ≡ Err Count
  pub eight : plan_told Count ≡ record { number = 8; layer = Plan; byte = 0 }
  -- the example cave: its stations are those of its records, its walk, its height
  pub stations : Charted example_records example_stations
  pub walk : walk_labels example_stations ≡ label_a9 ∷ label_ent ∷ label_c1 ∷ label_c2 ∷ label_c1 ∷ label_c3 ∷ label_d1 ∷ label_c3 ∷ label_c1 ∷ label_ent ∷ label_a9 ∷ []
  pub height : Height example_stations 5
