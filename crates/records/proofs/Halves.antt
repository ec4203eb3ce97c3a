-- What the halves of a record are, by what is read from them.
use Rattle.std.proofs.Common.{◌≡◌, ℕ, ◌<◌, Bool, true, false, cond, List, [], ◌∷◌, length, is_some, Some, None, Ok, Err, Option, Result, sym, refl, ap, ◌∙◌, arith}
use Rattle.std.specs.Str.{bytes_eq}
use Rattle.std.specs.Prelude.{option_map}
use Rattle.std.proofs.lemmas.Slice.Eq.{bytes_eq-Decides}
use Rattle.std.proofs.lemmas.Bool.{cond-false}
use Rattle.label.specs.Labels.{bytes_of, label_of}
use Rattle.label.specs.declared.label.Label.{Label}
use Rattle.label.proofs.Reading.{read_written, label_bytes}
use Rattle.tree.specs.Records.{label_at}
use Rattle.records.specs.Files.{seek, parent_for, joined_to, judged}
use Rattle.records.specs.Halves.{eight_blanks, named_or, second_of}
use Rattle.records.specs.Lists.{JoinedBefore}
use Rattle.records.specs.declared.fault.PlanFault.{PlanFault}
use Rattle.records.specs.declared.fault.PlanFault.TheVariants.{Repeated}
use Rattle.records.specs.declared.record.Record.{Record}
use Rattle.records.proofs.Seeks.{seek_some}

-- the second half -------------------------------------------------------------------------------

pub second_blank : (p : ℕ) (bs : List ℕ) → second_of p bs ≡ Ok None → bs ≡ eight_blanks
second_blank p bs e = go (bytes_eq bs eight_blanks) (bytes_eq-Decides bs eight_blanks).0 (label_of bs) e
  where
    go : (b : Bool) → (b ≡ true → bs ≡ eight_blanks) → (o : Option Label) → cond b (Ok None) (named_or p o) ≡ Ok None → bs ≡ eight_blanks
    go true d o q = d refl
    go false d (Some l) q = cc
    go false d None q = cc

pub second_named : (p : ℕ) (bs : List ℕ) (m : Label) → second_of p bs ≡ Ok (Some m) → bs ≡ bytes_of m
second_named p bs m e = go (bytes_eq bs eight_blanks) (label_of bs) refl e
  where
    go : (b : Bool) (o : Option Label) → label_of bs ≡ o → cond b (Ok None) (named_or p o) ≡ Ok (Some m) → bs ≡ bytes_of m
    go true o f q = cc
    go false (Some l) f q = let same : l ≡ m = cc in sym (label_bytes bs m (f ∙ ap (λ (x : Label). Some x) same))
    go false None f q = cc

pub blank_second : (p : ℕ) (bs : List ℕ) → bs ≡ eight_blanks → second_of p bs ≡ Ok None
blank_second p bs e = ap (second_of p) e

-- no label is blank
not_blank : (m : Label) → bytes_eq (bytes_of m) eight_blanks ≡ false
not_blank m = go (bytes_eq (bytes_of m) eight_blanks) (bytes_eq-Decides (bytes_of m) eight_blanks).0
  where
    go : (b : Bool) → (b ≡ true → bytes_of m ≡ eight_blanks) → b ≡ false
    go true d = let none : None ≡ Some m = sym (ap label_of (d refl)) ∙ read_written m in cc
    go false d = refl

pub named_second : (p : ℕ) (bs : List ℕ) (m : Label) → bs ≡ bytes_of m → second_of p bs ≡ Ok (Some m)
named_second p bs m e = ap (second_of p) e ∙ cond-false (bytes_eq (bytes_of m) eight_blanks) (Ok None) (named_or p (label_of (bytes_of m))) (not_blank m) ∙ ap (named_or p) (read_written m)

-- the first record is joined to none
pub parent_first : (second : Option Label) (ls : List Label) (o : Option ℕ) → parent_for second ls ≡ Some o → length ls ≡ 0 → (second ≡ None) × (o ≡ None)
parent_first None [] o e h = (refl, cc)
parent_first None (l ∷ ls) o e h = absurd (omega arith)
parent_first (Some m) [] o e h = cc
parent_first (Some m) (l ∷ ls) o e h = absurd (omega arith)

-- every other to an earlier station
pub parent_later : (second : Option Label) (ls : List Label) (o : Option ℕ) → parent_for second ls ≡ Some o → 0 < length ls → (j : ℕ) × ((o ≡ Some j) × (j < length ls) × (second ≡ Some (label_at ls j)))
parent_later None [] o e h = absurd (omega arith)
parent_later None (l ∷ ls) o e h = cc
parent_later (Some m) ls o e h = go (seek m ls) refl e
  where
    go : (q : Option ℕ) → seek m ls ≡ q → option_map (λ k. Some k) q ≡ Some o → (j : ℕ) × ((o ≡ Some j) × (j < length ls) × (Some m ≡ Some (label_at ls j)))
    go None f q = cc
    go (Some j) f q = let s = seek_some m ls j f in (j, (cc, s.0, ap (λ (x : Label). Some x) (sym s.1)))

pub parent_before : (second : Option Label) (ls : List Label) (o : Option ℕ) → parent_for second ls ≡ Some o → JoinedBefore (length ls) o
parent_before None [] o e = go o cc
  where
    go : (o : Option ℕ) → o ≡ None → JoinedBefore 0 o
    go None q = refl
    go (Some j) q = cc
parent_before None (l ∷ ls) o e = cc
parent_before (Some m) ls o e = go (seek m ls) refl e
  where
    is : (j : ℕ) (o : Option ℕ) → j < length ls → o ≡ Some j → JoinedBefore (length ls) o
    is j None l q = cc
    is j (Some i) l q = let same : i ≡ j = cc in λ some. omega arith

    go : (q : Option ℕ) → seek m ls ≡ q → option_map (λ k. Some k) q ≡ Some o → JoinedBefore (length ls) o
    go None f q = cc
    go (Some j) f q = is j o (seek_some m ls j f).0 cc

-- the whole record ------------------------------------------------------------------------------

-- what a record says that has no fault
pub record Taken (first : Option Label) (second : Result (Option Label) PlanFault) (ls : List Label) (r : Record) : Type 0 where
  pub named : first ≡ Some r.label
  pub half : Option Label
  pub lawful : second ≡ Ok half
  pub fresh : seek r.label ls ≡ None
  pub joins : parent_for half ls ≡ Some r.joined

pub taken : (first : Option Label) (second : Result (Option Label) PlanFault) (p : ℕ) (ls : List Label) (r : Record) → judged first second p ls ≡ Ok r → Taken first second ls r
taken None second p ls r e = cc
taken (Some l) (Err x) p ls r e = cc
taken (Some l) (Ok half) p ls r e = go (seek l ls) refl (parent_for half ls) refl e
  where
    go : (o : Option ℕ) → seek l ls ≡ o → (q : Option (Option ℕ)) → parent_for half ls ≡ q → cond (is_some o) (Err (Repeated p)) (joined_to l q p) ≡ Ok r → Taken (Some l) (Ok half) ls r
    go (Some k) f q g t = cc
    go None f None g t = cc
    go None f (Some j) g t =
        let same : record { label = l; joined = j } ≡ r = cc in
        let name = ap (λ (x : Record). x.label) same in
        record {
          named = ap (λ (x : Label). Some x) name;
          half = half;
          lawful = refl;
          fresh = sym (ap (λ (x : Label). seek x ls) name) ∙ f;
          joins = g ∙ ap (λ (x : Record). Some x.joined) same;
        }

pub takes : (first : Option Label) (second : Result (Option Label) PlanFault) (p : ℕ) (ls : List Label) (l : Label) (half : Option Label) (j : Option ℕ) → first ≡ Some l → second ≡ Ok half → seek l ls ≡ None → parent_for half ls ≡ Some j
    → judged first second p ls ≡ Ok (record { label = l; joined = j })
takes first second p ls l half j e u f g =
    ap (λ (o : Option Label). judged o second p ls) e
    ∙ ap (λ (s : Result (Option Label) PlanFault). judged (Some l) s p ls) u
    ∙ cond-false (is_some (seek l ls)) (Err (Repeated p)) (joined_to l (parent_for half ls) p) (ap is_some f)
    ∙ ap (λ (o : Option (Option ℕ)). joined_to l o p) g
