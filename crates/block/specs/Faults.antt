-- What a fault of a block tells, and how it is printed.
use Rattle.std.specs.Prelude.{ℕ, List, ◌++◌, codes, decimal}
use Rattle.label.specs.declared.fault.Diagnostic.{Diagnostic}
use Rattle.label.specs.declared.fault.Layer.TheVariants.{Block}
use Rattle.block.specs.declared.fault.BlockCause.{BlockCause}
use Rattle.block.specs.declared.fault.BlockCause.TheVariants.{Check, Header, Padding}
use Rattle.block.specs.declared.fault.BlockFault.{BlockFault}

-- the number of a cause
abbrev pub block_number : BlockCause → ℕ
block_number Check = 2
block_number Header = 3
block_number Padding = 4

-- its number, the layer of blocks, and the byte where the block starts
abbrev pub block_told : BlockFault → Diagnostic
block_told f = record { number = block_number f.cause; layer = Block; byte = f.byte }

-- the sentence that says what is wrong with the block that starts at a byte
abbrev pub block_sentence : BlockCause → ℕ → List ℕ
block_sentence Check byte =
    codes "The file is damaged: the check of the block at byte " ++ decimal byte ++ codes " does not fit its bytes"
block_sentence Header byte =
    codes "The file is damaged: the block at byte " ++ decimal byte
    ++ codes " has a wrong place, count of records or final mark"
block_sentence Padding byte =
    codes "The file is damaged: the block at byte " ++ decimal byte ++ codes " has a byte behind its records that is not 0"
