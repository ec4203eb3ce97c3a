-- Frames of n slots: what is written is read.
use Rattle.std.proofs.Common.{◌≡◌, ℕ, zero, suc, ◌*◌, ◌<◌, ◌&&◌, eqb, ltb, ◌++◌, length, take, drop, Some, None, Option, sym, ap, ◌∙◌, ⊎_elim, mul-suc, arith, length-append, length-drop, take_all, drop_at}
use lib.Seq.{drop-append-le, take-append-le}
use Rattle.std.proofs.lemmas.Bool.{cases_lt, cond-true, eq-eqb, lt-ltb, and_from}
use Rattle.slot.specs.Codings.{Coding, Lawful}
use Rattle.wire.specs.Slots.{slot_of, slot_bytes, slotted}
use Rattle.wire.proofs.Frames.{slot_ends}

module _ {K : Type 0} (c : Coding K) (l : Lawful c) where
  pub slot_long : (o : Option K) → length (slot_bytes c o) ≡ c.wide
  slot_long None = l.empty
  slot_long (Some v) = l.long v

  slot_back : (o : Option K) → c.reads (slot_bytes c o) ≡ o
  slot_back None = l.missing
  slot_back (Some v) = l.written v

  module _ (f : ℕ → Option K) where
    pub slotted-length : (n : ℕ) → length (slotted c f n) ≡ c.wide * n
    slotted-length zero = omega arith
    slotted-length (suc n) =
        omega (arith, length-append (slotted c f n) (slot_bytes c (f n)), slotted-length n, slot_long (f n), mul-suc c.wide n)

    slotted-at : (n s : ℕ) → s < n → take c.wide (drop (c.wide * s) (slotted c f n)) ≡ slot_bytes c (f s)
    slotted-at zero s h = absurd (omega arith)
    slotted-at (suc n) s h =
        let w = c.wide in
        let y = slot_bytes c (f n) in
        let xs = slotted c f n in
        let size = slotted-length n in
        ⊎_elim
        (λ lt.
        let le = slot_ends w s n lt in
        ap (take w) (drop-append-le (w * s) xs y (omega arith))
        ∙ take-append-le w (drop (w * s) xs) y (omega (arith, length-drop (w * s) xs))
        ∙ slotted-at n s lt)
        (λ ge.
        let e : s ≡ n = omega arith in
        ap (λ k. take w (drop (w * k) (xs ++ y))) e
        ∙ ap (take w) (drop_at xs y (w * n) size)
        ∙ take_all w y (omega (arith, slot_long (f n)))
        ∙ ap (λ k. slot_bytes c (f k)) (sym e))
        (cases_lt s n)

    -- slot s of a frame of n slots gives what was written there
    pub slotted-read : (n s : ℕ) → s < n → slot_of c n s (slotted c f n) ≡ f s
    slotted-read n s h =
        cond-true (ltb s n && eqb (length (slotted c f n)) (c.wide * n)) (c.reads (take c.wide (drop (c.wide * s) (slotted c f n)))) None
        (and_from (ltb s n) (eqb (length (slotted c f n)) (c.wide * n)) (lt-ltb s n h) (eq-eqb _ _ (slotted-length n)))
        ∙ ap c.reads (slotted-at n s h) ∙ slot_back (f s)
