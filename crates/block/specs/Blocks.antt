-- What a block of 512 bytes says. Bytes 0 and 1 are its place, byte 2 the count of its records, byte 3 the mark of
-- the final block; its records stand from byte 4 on, and its check in the last two bytes.
use Rattle.std.specs.Prelude.{ℕ, zero, suc, ◌+◌, ◌-◌, ◌*◌, ◌%◌, Bool, true, cond, not, ◌&&◌, ◌||◌, List, length, Ok, Err, Result, ◌==◌, nat_lt, slice_index}
use Rattle.block.specs.declared.fault.BlockCause.TheVariants.{Check, Header, Padding}
use Rattle.block.specs.declared.fault.BlockFault.{BlockFault}

-- the sum of (k + 1) × byte k over the k below n
abbrev pub weighted : List ℕ → ℕ → ℕ
weighted bs zero = 0
weighted bs (suc n) = weighted bs n + (n + 1) * slice_index bs n

-- the check of some bytes: that sum over all of them, modulo 65,536
unfoldable pub check_of : List ℕ → ℕ
check_of bs = weighted bs (length bs) % 65536

-- what the check has to be: that sum over all bytes before the check, modulo 65,536
unfoldable pub check_sum : List ℕ → ℕ
check_sum bs = weighted bs 510 % 65536

-- two bytes as a number, high byte first
abbrev pub word : List ℕ → ℕ → ℕ
word bs at = slice_index bs at * 256 + slice_index bs (at + 1)

-- the n bytes from start on are 0
abbrev pub blank_at : List ℕ → ℕ → ℕ → Bool
blank_at bs start zero = true
blank_at bs start (suc n) = slice_index bs (start + n) == 0 && blank_at bs start n

-- the bytes from start up to the check are 0
unfoldable pub blank_from : List ℕ → ℕ → Bool
blank_from bs start = blank_at bs start (510 - start)

-- the block at that place, final or not, that starts at that byte of the file: its first fault, the check before
-- the header and the header before the bytes that have to be 0, or else the count of its records
abbrev pub block_verdict : List ℕ → ℕ → Bool → ℕ → Result ℕ BlockFault
block_verdict bs place last byte =
    cond (not (check_sum bs == word bs 510)) (Err (record { cause = Check; byte = byte }))
    (cond (not (word bs 0 == place) || (nat_lt 31 (slice_index bs 2) || not (slice_index bs 3 == cond last 1 0))) (Err (record { cause = Header; byte = byte }))
    (cond (not (blank_from bs (4 + 16 * slice_index bs 2))) (Err (record { cause = Padding; byte = byte }))
    (Ok (slice_index bs 2))))
