-- What holds of the records that are read, one after another.
use Rattle.std.proofs.Common.{◌≡◌, ◌≢◌, ℕ, ◌<◌, ◌≤◌, List, [], ◌∷◌, ◌++◌, length, get_or, Some, None, Option, sym, refl, ap, ◌∙◌, subst, ⊎_elim, arith}
use lib.ListN.{length-map}
use Rattle.std.proofs.lemmas.Bool.{cases_lt}
use Rattle.std.proofs.lemmas.List.{map-append, get_or_append_left, get_or_push, length_push, get_or-map}
use Rattle.label.specs.Labels.{zero_label}
use Rattle.label.specs.declared.label.Label.{Label}
use Rattle.tree.specs.Records.{Records, label_at, Different, Earlier}
use Rattle.records.specs.Files.{seek}
use Rattle.records.specs.Lists.{join_of, labels_of, joins_of, joined_at, JoinedBefore, Lawful, records_of}
use Rattle.records.specs.declared.record.Record.{Record}
use Rattle.records.proofs.Seeks.{seek_none}

pub labels_push : (rs : List Record) (r : Record) → labels_of (rs ++ r ∷ []) ≡ labels_of rs ++ r.label ∷ []
labels_push rs r = map-append (λ (x : Record). x.label) rs (r ∷ [])

pub different_push : (ls : List Label) (l : Label) → Different ls → ((i : ℕ) → i < length ls → label_at ls i ≢ l) → Different (ls ++ l ∷ [])
different_push ls l d fresh a b h m e =
    let n = length_push ls l in
    ⊎_elim
    (λ (o : b < length ls). d a b h o (sym (get_or_append_left ls (l ∷ []) zero_label a (omega arith)) ∙ e ∙ get_or_append_left ls (l ∷ []) zero_label b o))
    (λ (o : length ls ≤ b). fresh a (omega arith) (sym (get_or_append_left ls (l ∷ []) zero_label a (omega arith)) ∙ e ∙ get_or_push ls l zero_label b (omega arith)))
    (cases_lt b (length ls))

-- one more record
pub lawful_push : (rs : List Record) (r : Record) → length rs < 1024 → seek r.label (labels_of rs) ≡ None → JoinedBefore (length (labels_of rs)) r.joined → Lawful rs → Lawful (rs ++ r ∷ [])
lawful_push rs r room fresh before w =
    let n = length-map rs (λ (x : Record). x.label) in
    let m = length_push rs r in
    record {
      few = omega arith;
      different = subst Different (sym (labels_push rs r)) (different_push (labels_of rs) r.label w.different (seek_none r.label (labels_of rs) fresh));
      joined = λ k h.
          ⊎_elim
          (λ (o : k < length rs). subst (JoinedBefore k) (sym (ap (λ (x : Record). x.joined) (get_or_append_left rs (r ∷ []) _ k o))) (w.joined k o))
          (λ (o : length rs ≤ k).
          let here : length (labels_of rs) ≡ k = omega arith in
          subst (JoinedBefore k) (sym (ap (λ (x : Record). x.joined) (get_or_push rs r _ k (omega arith)))) (subst (λ (i : ℕ). JoinedBefore i r.joined) here before))
          (cases_lt k (length rs));
    }

-- the records rs, as a list of rows, and one more row
pub lawful_more : (rows new : List Record) (r : Record) (rs : Records) → records_of rows ≡ rs → length rs.labels < 1024 → seek r.label rs.labels ≡ None → JoinedBefore (length rs.labels) r.joined → Lawful rows
    → new ≡ rows ++ r ∷ [] → Lawful new
lawful_more rows new r rs is room fresh before w e =
    let same : labels_of rows ≡ rs.labels = ap (λ (x : Records). x.labels) is in
    subst Lawful (sym e)
    (lawful_push rows r (omega (arith, ap length same, length-map rows (λ (x : Record). x.label))) (ap (seek r.label) same ∙ fresh) (subst (λ (ls : List Label). JoinedBefore (length ls) r.joined) (sym same) before) w)

-- a record is joined to an earlier one, where 0 stands for none
pub joined_earlier : (rs : List Record) → Lawful rs → Earlier (joins_of rs)
joined_earlier rs w k some l =
    let n = length-map rs (λ (x : Record). join_of x.joined) in
    let at = get_or-map (λ (x : Record). join_of x.joined) rs k (record { label = zero_label; joined = None }) 0 (omega arith) in
    go (joined_at rs k) refl (w.joined k (omega arith))
  where
    go : (o : Option ℕ) → joined_at rs k ≡ o → JoinedBefore k o → get_or (joins_of rs) k 0 < k
    go None e b = absurd (omega arith)
    go (Some j) e b =
        let n = length-map rs (λ (x : Record). join_of x.joined) in
        let at = get_or-map (λ (x : Record). join_of x.joined) rs k (record { label = zero_label; joined = None }) 0 (omega arith) in
        omega (arith, ap join_of e, b some)
