-- Seeking a label among others.
use Rattle.std.proofs.Common.{◌≡◌, ◌≢◌, ℕ, zero, suc, ◌+◌, ◌<◌, Bool, true, false, cond, not, ◌&&◌, ◌==◌, List, [], ◌∷◌, length, position, Some, None, Option, Decides, sym, refl, ap, ◌∙◌, arith}
use Rattle.std.specs.List.{position_or_len, position_from}
use lib.ListN.{length-map}
use Rattle.std.proofs.lemmas.Iterator.Adapters.{position_from-zero}
use Rattle.std.proofs.lemmas.Slice.Eq.{bytes_eq-Decides}
use Rattle.std.proofs.lemmas.Bool.{cond-false, cond-true, eqb-true, eqb-false}
use Rattle.label.specs.Labels.{bytes_of}
use Rattle.label.specs.declared.label.Label.{Label}
use Rattle.label.specs.Orders.{key_of}
use Rattle.label.proofs.Keys.{same_key}
use Rattle.label.proofs.Reading.{same_label_lem, same_bytes}
use Rattle.tree.specs.Records.{label_at}
use Rattle.records.specs.Files.{seek}
use Rattle.records.specs.Lists.{labels_of}
use Rattle.records.specs.declared.record.Record.{Record}
use Rattle.records.specs.Halves.{same_label}

pub same_decides : (l m : Label) → Decides (same_label l m) (l ≡ m)
same_decides l m = let d = bytes_eq-Decides (bytes_of l) (bytes_of m) in (λ e. same_label_lem l m (d.0 e), λ e. d.1 (ap bytes_of e))

same_not : (l m : Label) → (l ≡ m → ⊥) → same_label l m ≡ false
same_not l m no' = go (same_label l m) (same_decides l m).0
  where
    go : (b : Bool) → (b ≡ true → l ≡ m) → b ≡ false
    go true f = absurd (no' (f refl))
    go false f = refl

-- the test of the derived `==`, byte by byte
pub same_chain : (l m : Label) (r : Bool)
    → r ≡ (l.b0 == m.b0 && (l.b1 == m.b1 && (l.b2 == m.b2 && (l.b3 == m.b3 && (l.b4 == m.b4 && (l.b5 == m.b5 && (l.b6 == m.b6 && l.b7 == m.b7)))))))
    → r ≡ same_label l m
same_chain l m r e = go r (same_label l m) (same_bytes l m r e) (same_decides l m)
  where
    go : (a b : Bool) → Decides a (l ≡ m) → Decides b (l ≡ m) → a ≡ b
    go true true f g = refl
    go true false f g = sym (g.1 (f.0 refl))
    go false true f g = f.1 (g.0 refl)
    go false false f g = refl

-- the test that the code makes, by keys
pub same_keys : (l m : Label) (a b : ℕ) (r : Bool) → a ≡ key_of l → b ≡ key_of m → r ≡ (a == b) → r ≡ same_label l m
same_keys l m a b r ea eb e = go r e (same_label l m) (same_decides l m)
  where
    go : (r : Bool) → r ≡ (a == b) → (s : Bool) → Decides s (l ≡ m) → r ≡ s
    go true q true d = refl
    go true q false d = sym (d.1 (same_key l m (sym ea ∙ eqb-true a b (sym q) ∙ eb)))
    go false q true d = absurd (eqb-false a b (sym q) (ea ∙ ap key_of (d.0 refl) ∙ sym eb))
    go false q false d = refl

-- a search among records is one among their labels
pub seek_records : (label : Label) (rs : List Record) → position (λ r. same_label r.label label) rs ≡ seek label (labels_of rs)
seek_records label rs = let n = length-map rs (λ (r : Record). r.label) in let e = go rs in rw (n, e)
  where
    go : (rs : List Record) → position_or_len (λ l. same_label l label) (labels_of rs) ≡ position_or_len (λ r. same_label r.label label) rs
    go [] = refl
    go (r ∷ rs) = ap (λ (n : ℕ). cond (not (same_label r.label label)) (1 + n) 0) (go rs)

-- from place k on
abbrev seek_from : Label → ℕ → List Label → Option ℕ
seek_from label k ls = position_from (λ l. same_label l label) k ls

seek_is : (label : Label) (ls : List Label) → seek label ls ≡ seek_from label 0 ls
seek_is label ls = position_from-zero (λ l. same_label l label) ls

clash : {A : Type 0} {x : A} → None ≡ Some x → ⊥
clash e = let z : ◌≡◌ {A = ℕ} 0 1 = cc in omega arith

from_none : (l : Label) (k : ℕ) (ls : List Label) → seek_from l k ls ≡ None → (i : ℕ) → i < length ls → label_at ls i ≡ l → ⊥
from_none l k [] e i h f = omega arith
from_none l k (x ∷ ls) e i h f = go (same_label x l) (same_decides x l) e i h f (λ t. from_none l (k + 1) ls t)
  where
    go : (b : Bool) → Decides b (x ≡ l) → cond b (Some k) (seek_from l (k + 1) ls) ≡ None → (i : ℕ) → i < length (x ∷ ls) → label_at (x ∷ ls) i ≡ l → (seek_from l (k + 1) ls ≡ None → (i : ℕ) → i < length ls → label_at ls i ≡ l → ⊥) → ⊥
    go true d q i h f rec = clash (sym q)
    go false d q zero h f rec = let t = d.1 f in let z : ◌≡◌ {A = ℕ} 0 1 = cc in omega arith
    go false d q (suc i) h f rec = rec q i (omega arith) f

from_some : (l : Label) (k : ℕ) (ls : List Label) (p : ℕ) → seek_from l k ls ≡ Some p → (i : ℕ) × ((p ≡ k + i) × (i < length ls) × (label_at ls i ≡ l))
from_some l k [] p e = absurd (clash e)
from_some l k (x ∷ ls) p e = go (same_label x l) (same_decides x l) e (λ t. from_some l (k + 1) ls p t)
  where
    go : (b : Bool) → Decides b (x ≡ l) → cond b (Some k) (seek_from l (k + 1) ls) ≡ Some p → (seek_from l (k + 1) ls ≡ Some p → (i : ℕ) × ((p ≡ k + 1 + i) × (i < length ls) × (label_at ls i ≡ l))) → (i : ℕ) × ((p ≡ k + i) × (i < length (x ∷ ls)) × (label_at (x ∷ ls) i ≡ l))
    go true d q rec = let same : k ≡ p = cc in (0, (omega arith, omega arith, d.0 refl))
    go false d q rec = let h = rec q in (suc h.0, (omega arith, omega arith, h.1.2))

from_absent : (l : Label) (k : ℕ) (ls : List Label) → ((i : ℕ) → i < length ls → label_at ls i ≡ l → ⊥) → seek_from l k ls ≡ None
from_absent l k [] h = refl
from_absent l k (x ∷ ls) h = cond-false (same_label x l) (Some k) (seek_from l (k + 1) ls) (same_not x l (h 0 (omega arith))) ∙ from_absent l (k + 1) ls (λ i o. h (suc i) (omega arith))

from_found : (l : Label) (k : ℕ) (ls : List Label) (p : ℕ) → p < length ls → label_at ls p ≡ l → ((i : ℕ) → i < p → label_at ls i ≡ l → ⊥) → seek_from l k ls ≡ Some (k + p)
from_found l k [] p h e none = absurd (omega arith)
from_found l k (x ∷ ls) zero h e none = cond-true (same_label x l) (Some k) (seek_from l (k + 1) ls) ((same_decides x l).1 e) ∙ (let z : k ≡ k + 0 = omega arith in ap (λ (i : ℕ). Some i) z)
from_found l k (x ∷ ls) (suc p) h e none =
    cond-false (same_label x l) (Some k) (seek_from l (k + 1) ls) (same_not x l (none 0 (omega arith))) ∙ from_found l (k + 1) ls p (omega arith) e (λ i o. none (suc i) (omega arith))
    ∙ (let z : k + 1 + p ≡ k + suc p = omega arith in ap (λ (i : ℕ). Some i) z)

-- a label that is not found stands nowhere
pub seek_none : (l : Label) (ls : List Label) → seek l ls ≡ None → (i : ℕ) → i < length ls → label_at ls i ≢ l
seek_none l ls e = from_none l 0 ls (sym (seek_is l ls) ∙ e)

-- the place that is found has the label
pub seek_some : (l : Label) (ls : List Label) (p : ℕ) → seek l ls ≡ Some p → (p < length ls) × (label_at ls p ≡ l)
seek_some l ls p e =
    let f = from_some l 0 ls p (sym (seek_is l ls) ∙ e) in
    let here : f.0 ≡ p = omega arith in
    (omega arith, sym (ap (label_at ls) here) ∙ f.1.2)

-- a label that stands nowhere is not found
pub seek_absent : (l : Label) (ls : List Label) → ((i : ℕ) → i < length ls → label_at ls i ≢ l) → seek l ls ≡ None
seek_absent l ls h = seek_is l ls ∙ from_absent l 0 ls h

-- a label is found at its first place
pub seek_found : (l : Label) (ls : List Label) (p : ℕ) → p < length ls → label_at ls p ≡ l → ((i : ℕ) → i < p → label_at ls i ≢ l) → seek l ls ≡ Some p
seek_found l ls p h e none = seek_is l ls ∙ from_found l 0 ls p h e none ∙ (let z : 0 + p ≡ p = omega arith in ap (λ (i : ℕ). Some i) z)
