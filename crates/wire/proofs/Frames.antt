-- Frames and tables of frames.
use Rattle.std.proofs.Common.{◌≡◌, ℕ, zero, suc, ◌+◌, ◌-◌, ◌*◌, ◌<◌, ◌≤◌, ◌&&◌, eqb, ltb, leb, List, [], ◌∷◌, ◌++◌, map, length, get_or, take, drop, set, Some, None, Option, sym, refl, ap, ◌∙◌, mul-le-mul_right, mul-le-mul_left, mul-suc, arith, length-take, length-take-le, take-take, take_at}
use Rattle.std.proofs.lemmas.List.{map-set, set_past, length-map}
use Rattle.std.proofs.lemmas.Slice.{between_is}
use Rattle.std.proofs.lemmas.Bool.{and_from, and_right, cond-true, cond-false, eq-eqb, ne_eqb, lt-ltb, le-leb, lt-leb}
use Rattle.slot.specs.Codings.{Coding, Lawful}
use Rattle.slot.specs.Slots.{laid}
use Rattle.wire.specs.Boxes.{from}
use Rattle.wire.specs.Frames.{carried, framed, sent}
use Rattle.wire.specs.Slots.{slot_of}
use Rattle.wire.specs.declared.frame.Frame.{Frame}

-- bytes laid into a buffer with room for them stand at its start
pub laid_front : (bytes out : List ℕ) → length bytes ≤ length out → take (length bytes) (laid bytes out) ≡ bytes
laid_front bytes out h =
    ap (take (length bytes)) (cond-true (leb (length bytes) (length out)) (bytes ++ drop (length bytes) out) out (le-leb (length bytes) (length out) h))
    ∙ take_at bytes (drop (length bytes) out) (length bytes) refl

pub framed_short : (bytes : List ℕ) → length bytes ≤ 128 → framed bytes ≡ bytes
framed_short bytes h = cond-true (leb (length bytes) 128) bytes [] (le-leb (length bytes) 128 h)

-- a buffer that bytes were laid into, up to their length
pub framed_front : (bytes out : List ℕ) → length out ≡ 128 → length bytes ≤ 128 → take (length bytes) (laid bytes out) ≡ framed bytes
framed_front bytes out size h = laid_front bytes out (omega arith) ∙ sym (framed_short bytes h)

-- and up to a number that is their length
pub written_front : (bytes out : List ℕ) (w : ℕ) → length bytes ≡ w → length bytes ≤ length out → take w (laid bytes out) ≡ bytes
written_front bytes out w e h = ap (λ k. take k (laid bytes out)) (sym e) ∙ laid_front bytes out h

pub framed_long : (bytes : List ℕ) → 128 < length bytes → framed bytes ≡ []
framed_long bytes h = cond-false (leb (length bytes) 128) bytes [] (lt-leb (length bytes) 128 h)

-- what came from a sender, by the frame at its place
pub from_place : (fs : List (Option Frame)) (i : ℕ) (f : Option Frame) → i < length fs → f ≡ get_or fs i f → from (map sent fs) i ≡ sent f
from_place [] i f h e = absurd (omega arith)
from_place (x ∷ fs) zero f h e = ap sent (sym e)
from_place (x ∷ fs) (suc i) f h e = from_place fs i f (omega arith) e

-- a frame put at a place, and at none
pub put_place : (fs : List (Option Frame)) (i : ℕ) (f : Frame) (bytes : List ℕ) → carried f ≡ framed bytes
    → map sent (set fs i (Some f)) ≡ set (map sent fs) i (Some (framed bytes))
put_place fs i f bytes e = map-set sent fs i (Some f) ∙ ap (λ b. set (map sent fs) i (Some b)) e

pub put_past : (fs : List (Option Frame)) (i : ℕ) (b : Option (List ℕ)) → length fs ≤ i → map sent fs ≡ set (map sent fs) i b
put_past fs i b h = sym (set_past (map sent fs) i b (omega (arith, length-map fs sent)))

-- a slot ends within its frame
pub slot_ends : (w s n : ℕ) → s < n → w * s + w ≤ w * n
slot_ends w s n h = omega (arith, mul-suc w s, mul-le-mul_left {m = suc s} {n = n} w h)

-- every slot of a frame is missing where its length is not that of so many slots
pub other_length : {K : Type 0} (c : Coding K) (n s : ℕ) (frame : List ℕ) → (length frame ≡ c.wide * n → ⊥) → None ≡ slot_of c n s frame
other_length c n s frame other =
    sym (cond-false (ltb s n && eqb (length frame) (c.wide * n)) (c.reads (take c.wide (drop (c.wide * s) frame))) None
    (and_right (ltb s n) (eqb (length frame) (c.wide * n)) (ne_eqb _ _ other)))

-- and so where there are more slots than a frame can have
pub crowded : {K : Type 0} (c : Coding K) → Lawful c → (n s len : ℕ) (bytes : List ℕ) → len ≤ 128 → 128 < n → None ≡ slot_of c n s (take len bytes)
crowded c l n s len bytes short h =
    other_length c n s (take len bytes)
    (λ e. omega (arith, e, length-take len bytes, mul-le-mul_right {m = 1} {n = c.wide} n l.some))

module _ {K : Type 0} (c : Coding K) (n s len : ℕ) (bytes : List ℕ) (long : length bytes ≡ 128) (short : len ≤ 128) where
  pub slot_missing : (len ≡ c.wide * n → ⊥) → None ≡ slot_of c n s (take len bytes)
  slot_missing other = other_length c n s (take len bytes) (λ e. other (sym (length-take-le len bytes (omega arith)) ∙ e))

  -- the bytes that the code reads are the slot's
  pub slot_is : len ≡ c.wide * n → s < n
      → c.reads (take ((c.wide * s + c.wide) - c.wide * s) (drop (c.wide * s) bytes)) ≡ slot_of c n s (take len bytes)
  slot_is full within =
      let w = c.wide in
      let ends = slot_ends w s n within in
      let size : (w * s + w) - w * s ≡ w = omega arith in
      let le : w * s + w ≤ len = omega arith in
      let whole : length (take len bytes) ≡ w * n = length-take-le len bytes (omega arith) ∙ full in
      let a = between_is bytes (w * s) (w * s + w) in
      let b = between_is (take len bytes) (w * s) (w * s + w) in
      let same : take ((w * s + w) - w * s) (drop (w * s) bytes) ≡ take ((w * s + w) - w * s) (drop (w * s) (take len bytes)) =
      a ∙ ap (drop (w * s)) (sym (take-take (w * s + w) len bytes le)) ∙ sym b in
      ap c.reads (same ∙ ap (λ k. take k (drop (w * s) (take len bytes))) size)
      ∙ sym (cond-true (ltb s n && eqb (length (take len bytes)) (w * n)) (c.reads (take w (drop (w * s) (take len bytes)))) None
      (and_from (ltb s n) (eqb (length (take len bytes)) (w * n)) (lt-ltb s n within) (eq-eqb _ _ whole)))

-- the same for a number that is the width
pub slot_read : {K : Type 0} (c : Coding K) (n s len v : ℕ) (bytes : List ℕ) → v ≡ c.wide → length bytes ≡ 128 → len ≤ 128 → len ≡ v * n → s < n
    → c.reads (take ((v * s + v) - v * s) (drop (v * s) bytes)) ≡ slot_of c n s (take len bytes)
slot_read c n s len v bytes e long short full within =
    ap (λ w. c.reads (take ((w * s + w) - w * s) (drop (w * s) bytes))) e
    ∙ slot_is c n s len bytes long short (full ∙ ap (λ w. w * n) e) within
