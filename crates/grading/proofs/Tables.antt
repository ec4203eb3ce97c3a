-- A table of slots that a loop fills.
use Rattle.std.proofs.Common.{◌≡◌, ℕ, suc, ◌+◌, ◌-◌, ◌*◌, ◌<◌, ◌≤◌, leb, List, ◌++◌, length, take, drop, replicate, Option, sym, ap, ◌∙◌, subst, append-nil, mul-le-mul_right, mul-le-mul_left, mul-suc, add-one, arith, length-drop, take-append-drop, length-take, drop-drop}
use borrow.Rule.Slice.PartMut.{put_mid}
use Rattle.std.proofs.lemmas.List.{drop_all, drop-replicate}
use Rattle.std.proofs.lemmas.Slice.{take-put_mid, drop-put_mid}
use Rattle.std.proofs.lemmas.Bool.{cond-true, le-leb}
use Rattle.slot.specs.Codings.{Coding}
use Rattle.slot.specs.Slots.{laid}
use Rattle.wire.specs.Slots.{slot_bytes, slotted}
use Rattle.grading.specs.Gradings.{tabled}

-- bytes laid over as many
pub laid_all : (bytes out : List ℕ) → length bytes ≡ length out → laid bytes out ≡ bytes
laid_all bytes out e =
    cond-true (leb (length bytes) (length out)) (bytes ++ drop (length bytes) out) out (le-leb (length bytes) (length out) (omega arith))
    ∙ ap (λ rest. bytes ++ rest) (drop_all (length bytes) out (omega arith)) ∙ append-nil bytes

-- bytes laid over a slot of a table
pub laid_part : (w v s : ℕ) (bytes table : List ℕ) → v ≡ w → length bytes ≡ w → w * s + w ≤ length table
    → laid bytes (take ((v * s + v) - v * s) (drop (v * s) table)) ≡ bytes
laid_part w v s bytes table e size fits =
    laid_all bytes (take ((v * s + v) - v * s) (drop (v * s) table))
    (let whole : length (take ((w * s + w) - w * s) (drop (w * s) table)) ≡ w = simp (length-take, length-drop) (omega arith) in
    size ∙ sym whole ∙ ap (λ x. length (take ((x * s + x) - x * s) (drop (x * s) table))) (sym e))

-- n slots of at most eight bytes fit into 128
pub slots_fit : (w s n : ℕ) → w ≤ 8 → s < n → n ≤ 16 → w * s + w ≤ 128
slots_fit w s n narrow h few =
    omega (arith, mul-suc w s, mul-le-mul_left {m = suc s} {n = 16} w (omega arith), mul-le-mul_right {m = w} {n = 8} 16 narrow)

pub frame_fits : (w n : ℕ) → w ≤ 8 → n ≤ 16 → w * n ≤ 128
frame_fits w n narrow few = omega (arith, mul-le-mul_left {m = n} {n = 16} w few, mul-le-mul_right {m = w} {n = 8} 16 narrow)

module _ {K : Type 0} (c : Coding K) (f : ℕ → Option K) (s : ℕ) (table old ys : List ℕ)
    (size : length ys ≡ c.wide) (fits : c.wide * s + c.wide ≤ length table)
    (front : take (c.wide * s) table ≡ slotted c f s) (back : drop (c.wide * s) table ≡ drop (c.wide * s) old)
    (is : ys ≡ slot_bytes c (f s)) where
  abbrev Step : ℕ → Type 0
  Step v = (take (c.wide * (s + 1)) (put_mid (v * s) ((v * s + v) - v * s) table ys) ≡ slotted c f (s + 1))
      × (drop (c.wide * (s + 1)) (put_mid (v * s) ((v * s + v) - v * s) table ys) ≡ drop (c.wide * (s + 1)) old)

  step_at : Step c.wide
  step_at =
      let w = c.wide in
      let m : w * (s + 1) ≡ w * s + w = ap (λ k. w * k) (add-one s) ∙ mul-suc w s in
      let k : (w * s + w) - w * s ≡ w = omega arith in
      let t = take-put_mid (w * s) ((w * s + w) - w * s) table ys (w * (s + 1)) (omega arith) (omega arith) in
      let d = drop-put_mid (w * s) ((w * s + w) - w * s) table ys (w * (s + 1)) (omega arith) (omega arith) (omega arith) in
      let r : slotted c f (suc s) ≡ slotted c f (s + 1) = ap (slotted c f) (sym (add-one s)) in
      let l : take (w * s) table ++ ys ≡ slotted c f (suc s) = ap (λ a. a ++ ys) front ∙ ap (λ b. slotted c f s ++ b) is in
      (t ∙ l ∙ r, d ∙ ap (λ j. drop j table) m ∙ sym (drop-drop w (w * s) table) ∙ ap (drop w) back ∙ drop-drop w (w * s) old ∙ ap (λ j. drop j old) (sym m))

  -- one slot more
  pub slotted_more : (v : ℕ) → v ≡ c.wide → Step v
  slotted_more v e = subst Step (sym e) step_at

-- all slots
pub slotted_all : {K : Type 0} (c : Coding K) (f : ℕ → Option K) (s n : ℕ) (table old : List ℕ) → s ≡ n
    → take (c.wide * s) table ≡ slotted c f s → drop (c.wide * s) table ≡ drop (c.wide * s) old → table ≡ slotted c f n ++ drop (c.wide * n) old
slotted_all c f s n table old e front back =
    sym (take-append-drop (c.wide * s) table) ∙ ap (λ a. a ++ drop (c.wide * s) table) front ∙ ap (λ b. slotted c f s ++ b) back
    ∙ ap (λ k. slotted c f k ++ drop (c.wide * k) old) e

pub tabled_is : {K : Type 0} (c : Coding K) (f : ℕ → Option K) (n : ℕ) → slotted c f n ++ drop (c.wide * n) (replicate 128 0) ≡ tabled c f n
tabled_is c f n = ap (λ b. slotted c f n ++ b) (drop-replicate (c.wide * n) 128 0)
