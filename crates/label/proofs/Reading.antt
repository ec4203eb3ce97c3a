-- Reading a label from bytes, and writing it again.
use Rattle.std.proofs.Common.{◌≡◌, ℕ, ◌&&◌, Decides, eqb, Bool, true, false, ◌↔◌, List, [], ◌∷◌, length, get_or, is_some, Some, None, Option, sym, refl, ap, ◌∙◌, ⊎_elim, true≢false, arith}
use mathlib.Core.Bool.{Bool-set}
use Rattle.std.proofs.lemmas.Slice.Eq.{text_from_reads}
use Rattle.std.proofs.lemmas.Bool.Decides.{Decides-at, Decides-and, Decides-like, Decides-eqb}
use Rattle.std.proofs.lemmas.Bool.{cases_eq}
use Rattle.label.specs.Labels.{bytes_of, label_of, passed, Shaped, ReadExactly, AllShaped}
use Rattle.label.specs.Signs.{lawful}
use Rattle.label.specs.declared.label.Label.{Label}
use Rattle.label.proofs.Shapes.{lawful_shaped, shaped_lawful}

pub passed_true : {X : Type 0} (t : Bool) (f : t ≡ true → X) (e : t ≡ true) → Some (f e) ≡ passed t f
passed_true true f e = ap (λ p. Some (f p)) (Bool-set true true e refl)
passed_true false f e = absurd (true≢false (sym e))

pub passed_false : {X : Type 0} (t : Bool) (f : t ≡ true → X) → t ≡ false → None ≡ passed t f
passed_false true f e = absurd (true≢false e)
passed_false false f e = refl

passed_some : {X : Type 0} (t : Bool) (f : t ≡ true → X) (x : X) → passed t f ≡ Some x → (e : t ≡ true) × (f e ≡ x)
passed_some true f x q = (refl, cc)
passed_some false f x q = let z : ◌≡◌ {A = ℕ} 0 1 = cc in absurd (omega arith)

passed_test : {X : Type 0} (t : Bool) (f : t ≡ true → X) → is_some (passed t f) ≡ t
passed_test true f = refl
passed_test false f = refl

-- what was written is read again
pub read_written : (l : Label) → label_of (bytes_of l) ≡ Some l
read_written l = sym (passed_true (lawful (bytes_of l)) (λ p. record { b0 = l.b0; b1 = l.b1; b2 = l.b2; b3 = l.b3; b4 = l.b4; b5 = l.b5; b6 = l.b6; b7 = l.b7; ok = p }) l.ok)

-- a label is its bytes
pub same_label_lem : (l m : Label) → bytes_of l ≡ bytes_of m → l ≡ m
same_label_lem l m e =
    let p = read_written l in
    let q = read_written m in
    let r = ap label_of e in
    cc

-- whether the eight bytes are the same tells whether the labels are
pub same_bytes : (l m : Label) (r : Bool)
    → r ≡ (eqb l.b0 m.b0 && (eqb l.b1 m.b1 && (eqb l.b2 m.b2 && (eqb l.b3 m.b3 && (eqb l.b4 m.b4 && (eqb l.b5 m.b5 && (eqb l.b6 m.b6 && eqb l.b7 m.b7)))))))
    → Decides r (l ≡ m)
same_bytes l m r e =
    let d = λ (a b : ℕ). Decides-eqb a b in
    Decides-at _ _ e (Decides-like _
    (λ p. same_label_lem l m (cc))
    (λ (q : l ≡ m). let s = λ (f : Label → ℕ). ap f q in (s (λ x. x.b0), (s (λ x. x.b1), (s (λ x. x.b2), (s (λ x. x.b3), (s (λ x. x.b4), (s (λ x. x.b5), (s (λ x. x.b6), s (λ x. x.b7)))))))))
    (Decides-and _ _ (d l.b0 m.b0) (Decides-and _ _ (d l.b1 m.b1) (Decides-and _ _ (d l.b2 m.b2) (Decides-and _ _ (d l.b3 m.b3)
    (Decides-and _ _ (d l.b4 m.b4) (Decides-and _ _ (d l.b5 m.b5) (Decides-and _ _ (d l.b6 m.b6) (d l.b7 m.b7)))))))))

pub bytes_shaped : (l : Label) → Shaped (bytes_of l)
bytes_shaped l = lawful_shaped (bytes_of l) refl l.ok

pub eight : (xs : List ℕ) → length xs ≡ 8 → xs ≡ get_or xs 0 0 ∷ get_or xs 1 0 ∷ get_or xs 2 0 ∷ get_or xs 3 0 ∷ get_or xs 4 0 ∷ get_or xs 5 0 ∷ get_or xs 6 0 ∷ get_or xs 7 0 ∷ []
eight xs h = text_from_reads xs _ h (refl, (refl, (refl, (refl, (refl, (refl, (refl, (refl, tt))))))))

-- other lengths are no label
pub not_eight : (xs : List ℕ) → (length xs ≡ 8 → ⊥) → label_of xs ≡ None
not_eight [] h = refl
not_eight (_ ∷ []) h = refl
not_eight (_ ∷ _ ∷ []) h = refl
not_eight (_ ∷ _ ∷ _ ∷ []) h = refl
not_eight (_ ∷ _ ∷ _ ∷ _ ∷ []) h = refl
not_eight (_ ∷ _ ∷ _ ∷ _ ∷ _ ∷ []) h = refl
not_eight (_ ∷ _ ∷ _ ∷ _ ∷ _ ∷ _ ∷ []) h = refl
not_eight (_ ∷ _ ∷ _ ∷ _ ∷ _ ∷ _ ∷ _ ∷ []) h = refl
not_eight (_ ∷ _ ∷ _ ∷ _ ∷ _ ∷ _ ∷ _ ∷ _ ∷ []) h = absurd (h refl)
not_eight (_ ∷ _ ∷ _ ∷ _ ∷ _ ∷ _ ∷ _ ∷ _ ∷ _ ∷ _) h = refl

-- what was read is written again
pub label_bytes : (bs : List ℕ) (l : Label) → label_of bs ≡ Some l → bytes_of l ≡ bs
label_bytes bs l q =
    ⊎_elim
    (λ (h : length bs ≡ 8).
    let r = eight bs h in
    ap bytes_of (sym (passed_some _ _ l (sym (ap label_of r) ∙ q)).1) ∙ sym r)
    (λ (h : length bs ≡ 8 → ⊥).
    let r = not_eight bs h in
    let z : ◌≡◌ {A = ℕ} 0 1 = cc in
    absurd (omega arith))
    (cases_eq (length bs) 8)

some_lawful : (bs : List ℕ) → length bs ≡ 8 → is_some (label_of bs) ≡ lawful bs
some_lawful bs h = let r = eight bs h in ap (λ xs. is_some (label_of xs)) r ∙ passed_test _ _ ∙ sym (ap lawful r)

-- a label stands in just the bytes that have its shape
pub label_exact : (bs : List ℕ) → (is_some (label_of bs) ≡ true) ↔ Shaped bs
label_exact bs = (read, λ s. some_lawful bs s.eight ∙ shaped_lawful bs s)
  where
    read : is_some (label_of bs) ≡ true → Shaped bs
    read q =
        ⊎_elim
        (λ (h : length bs ≡ 8). lawful_shaped bs h (sym (some_lawful bs h) ∙ q))
        (λ (h : length bs ≡ 8 → ⊥). absurd (true≢false (sym q ∙ ap is_some (not_eight bs h))))
        (cases_eq (length bs) 8)

-- lawful bytes are lawful one by one
pub eight_lawful : (bs : List ℕ) → length bs ≡ 8 → lawful bs ≡ true
    → lawful (get_or bs 0 0 ∷ get_or bs 1 0 ∷ get_or bs 2 0 ∷ get_or bs 3 0 ∷ get_or bs 4 0 ∷ get_or bs 5 0 ∷ get_or bs 6 0 ∷ get_or bs 7 0 ∷ []) ≡ true
eight_lawful bs h e = sym (ap lawful (eight bs h)) ∙ e

-- the label whose bytes are these eight is read
pub found : (bs : List ℕ) (l : Label) → length bs ≡ 8
    → bytes_of l ≡ get_or bs 0 0 ∷ get_or bs 1 0 ∷ get_or bs 2 0 ∷ get_or bs 3 0 ∷ get_or bs 4 0 ∷ get_or bs 5 0 ∷ get_or bs 6 0 ∷ get_or bs 7 0 ∷ []
    → Some l ≡ label_of bs
found bs l h e = sym (read_written l) ∙ ap label_of (e ∙ sym (eight bs h))

pub read_exact : (bs : List ℕ) (o : Option Label) → o ≡ label_of bs → ReadExactly bs o
read_exact bs o e = let both = label_exact bs in record { shaped = λ q. both.0 (sym (ap is_some e) ∙ q); whole = λ s. ap is_some e ∙ both.1 s }

pub all_shaped : AllShaped
all_shaped = record { every = bytes_shaped }
