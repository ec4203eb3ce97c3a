-- Slots of frames, counting and voting, for every kind of value.
use Rattle.std.specs.Prelude.{ℕ, zero, suc, ◌*◌, Bool, false, cond, not, ◌&&◌, List, [], ◌∷◌, ◌++◌, map, length, take, drop, Some, None, count_by, Option, ◌==◌, nat_le, nat_lt}
use Rattle.std.specs.List.{range_with_len}
use Rattle.std.specs.Str.{bytes_eq}
use Rattle.slot.specs.Codings.{Coding}
use Rattle.wire.specs.Boxes.{Box, from}

-- slot s of a frame of so many slots; missing where there is no such slot, or the frame has another length
abbrev pub slot_of : {K : Type 0} → Coding K → ℕ → ℕ → List ℕ → Option K
slot_of c slots s frame =
    cond (nat_lt s slots && length frame == c.wide * slots) (c.reads (take c.wide (drop (c.wide * s) frame))) None

-- the same of what came from a sender; missing where nothing came
abbrev pub slot_from : {K : Type 0} → Coding K → ℕ → ℕ → Option (List ℕ) → Option K
slot_from c slots s None = None
slot_from c slots s (Some frame) = slot_of c slots s frame

-- a slot's bytes
abbrev pub slot_bytes : {K : Type 0} → Coding K → Option K → List ℕ
slot_bytes c None = c.blank
slot_bytes c (Some v) = c.writes v

-- a frame of n slots, slot s with what f says
abbrev pub slotted : {K : Type 0} → Coding K → (ℕ → Option K) → ℕ → List ℕ
slotted c f zero = []
slotted c f (suc n) = slotted c f n ++ slot_bytes c (f n)

-- slot s of the frame of n slots from each of n senders
abbrev pub column : {K : Type 0} → Coding K → ℕ → ℕ → Box → List (Option K)
column c n s box = map (λ i. slot_from c n s (from box i)) (range_with_len 0 n)

-- is it this value? (values are told apart by what is written)
abbrev pub holds : {K : Type 0} → Coding K → K → Option K → Bool
holds c v None = false
holds c v (Some w) = bytes_eq (c.writes w) (c.writes v)

-- how many slots hold the value
abbrev pub count : {K : Type 0} → Coding K → K → List (Option K) → ℕ
count c v col = count_by (holds c v) col

-- the value, where it passes a test
abbrev pub kept : {K : Type 0} → (K → Bool) → Option K → Option K
kept p None = None
kept p (Some v) = cond (p v) (Some v) None

abbrev pub or_else : {K : Type 0} → Option K → Option K → Option K
or_else None b = b
or_else (Some v) b = Some v

-- the first value that passes a test
abbrev pub first_with : {K : Type 0} → (K → Bool) → List (Option K) → Option K
first_with p [] = None
first_with p (x ∷ xs) = or_else (kept p x) (first_with p xs)

-- at least q slots hold the value, and it is not the one left out
abbrev pub reaches : {K : Type 0} → Coding K → ℕ → List (Option K) → Option K → K → Bool
reaches c q col out v = not (holds c v out) && nat_le q (count c v col)

-- the value, other than that left out, that at least q slots hold; the first sender's, where there are several
abbrev pub vote : {K : Type 0} → Coding K → ℕ → Option K → List (Option K) → Option K
vote c q out col = first_with (reaches c q col out) col
