-- A file is read exactly when it is good.
use Rattle.std.proofs.Common.{◌≡◌, ℕ, zero, suc, ◌+◌, ◌*◌, ◌<◌, ◌≤◌, Bool, true, false, cond, ◌||◌, eqb, ltb, List, [], ◌∷◌, ◌++◌, length, get_or, take, drop, Some, None, Ok, Err, Option, Result, sym, refl, ap, ◌∙◌, subst, ⊎_elim, append_assoc, append-nil, arith}
use Rattle.std.proofs.lemmas.Bool.{cases_lt, eqb-false, ne_eqb, ltb-false, le-ltb, or_from, cond-false}
use Rattle.std.proofs.lemmas.List.{get_or_append_left, get_or_push, length_push, take_all, drop_all, drop_more, take_more, get_or-take, length-take-le}
use Rattle.label.specs.Labels.{bytes_of, label_of, zero_label}
use Rattle.label.specs.declared.label.Label.{Label}
use Rattle.label.proofs.Reading.{read_written, label_bytes}
use Rattle.tree.specs.Records.{Records, label_at, Different}
use Rattle.records.specs.Accepts.{GoodBlock, spots, Stands, Written, Accepted, ReadWhenGood}
use Rattle.records.specs.Files.{parent_for, record_at, records_from, joined_on, blocks_from, counted, in_blocks, sized, read_file}
use Rattle.std.specs.Prelude.{option_map}
use Rattle.records.specs.Lists.{join_of}
use Rattle.records.specs.Halves.{eight_at, eight_blanks, second_of}
use Rattle.records.specs.declared.fault.PlanFault.{PlanFault}
use Rattle.records.specs.declared.fault.PlanFault.TheVariants.{Count}
use Rattle.records.specs.declared.record.Record.{Record}
use Rattle.records.proofs.Blocks.{Told, blocks_told, told_blocks, sized_some, some_sized}
use Rattle.records.proofs.Halves.{second_blank, second_named, blank_second, named_second, parent_first, parent_later, Taken, taken, takes}
use Rattle.records.proofs.Seeks.{seek_none, seek_absent, seek_found}

-- records that are read are written so ---------------------------------------------------------

-- what a record at byte p of the file says that is taken
abbrev TakenAt : List ℕ → ℕ → List Label → Record → Type 0
TakenAt file p ls r = Taken (label_of (eight_at file p)) (second_of p (eight_at file (p + 8))) ls r

module _ (file qs : List ℕ) (ls : List Label) (js : List ℕ) (p : ℕ) (r : Record) (w : Written file qs (record { labels = ls; joins = js })) (t : TakenAt file p ls r) where
  abbrev byte : ℕ → ℕ
  byte k = get_or (qs ++ p ∷ []) k 0

  abbrev name : ℕ → Label
  name k = label_at (ls ++ r.label ∷ []) k

  abbrev join : ℕ → ℕ
  join k = get_or (js ++ join_of r.joined ∷ []) k 0

  old_byte : (k : ℕ) → k < length qs → byte k ≡ get_or qs k 0
  old_byte k h = get_or_append_left qs (p ∷ []) 0 k h

  new_byte : (k : ℕ) → k ≡ length qs → byte k ≡ p
  new_byte k e = get_or_push qs p 0 k (sym e)

  old_name : (k : ℕ) → k < length qs → name k ≡ label_at ls k
  old_name k h = let e = w.labels_long in get_or_append_left ls (r.label ∷ []) zero_label k (omega arith)

  new_name : (k : ℕ) → k ≡ length qs → name k ≡ r.label
  new_name k h = let e = w.labels_long in get_or_push ls r.label zero_label k (omega arith)

  old_join : (k : ℕ) → k < length qs → join k ≡ get_or js k 0
  old_join k h = let e = w.joins_long in get_or_append_left js (join_of r.joined ∷ []) 0 k (omega arith)

  new_join : (k : ℕ) → k ≡ length qs → join k ≡ join_of r.joined
  new_join k h = let e = w.joins_long in get_or_push js (join_of r.joined) 0 k (omega arith)

  push_label : (k : ℕ) → k < length (qs ++ p ∷ []) → Stands file (byte k) (name k)
  push_label k h =
      let nq = length_push qs p in
      ⊎_elim
      (λ (o : k < length qs). ap (eight_at file) (old_byte k o) ∙ w.label k o ∙ sym (ap bytes_of (old_name k o)))
      (λ (o : length qs ≤ k).
      let e : k ≡ length qs = omega arith in
      ap (eight_at file) (new_byte k e) ∙ sym (label_bytes (eight_at file p) r.label t.named) ∙ sym (ap bytes_of (new_name k e)))
      (cases_lt k (length qs))

  push_different : Different (ls ++ r.label ∷ [])
  push_different a b h m e =
      let nl = length_push ls r.label in
      let el = w.labels_long in
      ⊎_elim
      (λ (o : b < length qs). w.different a b h (omega arith) (sym (old_name a (omega arith)) ∙ e ∙ old_name b o))
      (λ (o : length qs ≤ b). seek_none r.label ls t.fresh a (omega arith) (sym (old_name a (omega arith)) ∙ e ∙ new_name b (omega arith)))
      (cases_lt b (length qs))

  push_first : (eight_at file (byte 0 + 8) ≡ eight_blanks) × (join 0 ≡ 0)
  push_first =
      let el = w.labels_long in
      ⊎_elim
      (λ (o : 0 < length qs). (ap (λ (x : ℕ). eight_at file (x + 8)) (old_byte 0 o) ∙ (w.first o).0, old_join 0 o ∙ (w.first o).1))
      (λ (o : length qs ≤ 0).
      let e : 0 ≡ length qs = omega arith in
      let f = parent_first t.half ls r.joined t.joins (omega arith) in
      (ap (λ (x : ℕ). eight_at file (x + 8)) (new_byte 0 e) ∙ second_blank p (eight_at file (p + 8)) (t.lawful ∙ ap (λ (o : Option Label). Ok o) f.0), new_join 0 e ∙ ap join_of f.1))
      (cases_lt 0 (length qs))

  push-later : (k : ℕ) → 0 < k → k < length (qs ++ p ∷ []) → (join k < k) × Stands file (byte k + 8) (name (join k))
  push-later k q h =
      let nq = length_push qs p in
      let el = w.labels_long in
      ⊎_elim
      (λ (o : k < length qs).
      let old = w.later k q o in
      let same = old_join k o in
      (omega (arith, old.0), ap (λ (x : ℕ). eight_at file (x + 8)) (old_byte k o) ∙ old.1 ∙ sym (ap bytes_of (ap name same ∙ old_name (get_or js k 0) (omega (arith, old.0))))))
      (λ (o : length qs ≤ k).
      let e : k ≡ length qs = omega arith in
      let i = parent_later t.half ls r.joined t.joins (omega arith) in
      let same : join k ≡ i.0 = new_join k e ∙ ap join_of i.1.0 in
      (omega (arith, i.1.1), ap (λ (x : ℕ). eight_at file (x + 8)) (new_byte k e) ∙ second_named p (eight_at file (p + 8)) (label_at ls i.0) (t.lawful ∙ ap (λ (o : Option Label). Ok o) i.1.2) ∙ sym (ap bytes_of (ap name same ∙ old_name i.0 (omega (arith, i.1.1))))))
      (cases_lt k (length qs))

  written_push : Written file (qs ++ p ∷ []) (record { labels = ls ++ r.label ∷ []; joins = js ++ join_of r.joined ∷ [] })
  written_push =
      let nq = length_push qs p in
      let nl = length_push ls r.label in
      let nj = length_push js (join_of r.joined) in
      let el = w.labels_long in
      let ej = w.joins_long in
      record {
        labels_long = omega arith;
        joins_long = omega arith;
        label = push_label;
        different = push_different;
        first = λ h. push_first;
        later = push-later;
      }

written_none : (file : List ℕ) → Written file [] (record { labels = []; joins = [] })
written_none file =
    record {
      labels_long = refl;
      joins_long = refl;
      label = λ k h. absurd (omega arith);
      different = λ a b h m e. omega arith;
      first = λ h. absurd (omega arith);
      later = λ k q h. absurd (omega arith);
    }

records_written : (file ps qs : List ℕ) (ls : List Label) (js : List ℕ) (rs : Records) → Written file qs (record { labels = ls; joins = js }) → records_from file ps ls js ≡ Ok rs → Written file (qs ++ ps) rs
records_written file [] qs ls js rs w e =
    let same : record { labels = ls; joins = js } ≡ rs = cc in
    subst (λ (xs : List ℕ). Written file xs rs) (sym (append-nil qs)) (subst (Written file qs) same w)
records_written file (p ∷ ps) qs ls js rs w e = go (record_at file p ls) refl e (λ vs us ks v f. records_written file ps vs us ks rs v f)
  where
    go : (v : Result Record PlanFault) → record_at file p ls ≡ v → joined_on ls js v (records_from file ps) ≡ Ok rs
        → ((vs : List ℕ) (us : List Label) (ks : List ℕ) → Written file vs (record { labels = us; joins = ks }) → records_from file ps us ks ≡ Ok rs → Written file (vs ++ ps) rs) → Written file (qs ++ p ∷ ps) rs
    go (Ok r) q f rec =
        subst (λ (xs : List ℕ). Written file xs rs) (append_assoc qs (p ∷ []) ps)
        (rec (qs ++ p ∷ []) (ls ++ r.label ∷ []) (js ++ join_of r.joined ∷ []) (written_push file qs ls js p r w (taken (label_of (eight_at file p)) (second_of p (eight_at file (p + 8))) p ls r q)) f)
    go (Err x) q f rec = let z : ◌≡◌ {A = ℕ} 0 1 = cc in absurd (omega arith)

-- records that are written so are read ---------------------------------------------------------

module _ (file ps : List ℕ) (rs : Records) (w : Written file ps rs) where
  -- what the second half of record k says, and the place that it names among the labels before
  record SecondAt (k : ℕ) : Type 0 where
    half : Option Label
    joined : Option ℕ
    lawful : second_of (get_or ps k 0) (eight_at file (get_or ps k 0 + 8)) ≡ Ok half
    names : parent_for half (take k rs.labels) ≡ Some joined
    same : join_of joined ≡ get_or rs.joins k 0

  earlier_label : (k i : ℕ) → i < k → label_at (take k rs.labels) i ≡ label_at rs.labels i
  earlier_label k i l = get_or-take k rs.labels i zero_label l

  second_at : (k : ℕ) → k < length ps → SecondAt k
  second_at k h =
      let el = w.labels_long in
      let long : length (take k rs.labels) ≡ k = length-take-le k rs.labels (omega arith) in
      ⊎_elim
      (λ (o : 0 < k).
      let s = w.later k o h in
      record {
        half = Some (label_at rs.labels (get_or rs.joins k 0));
        joined = Some (get_or rs.joins k 0);
        lawful = named_second (get_or ps k 0) (eight_at file (get_or ps k 0 + 8)) (label_at rs.labels (get_or rs.joins k 0)) s.1;
        names = ap (option_map (λ i. Some i))
            (seek_found (label_at rs.labels (get_or rs.joins k 0)) (take k rs.labels) (get_or rs.joins k 0) (omega (arith, s.0)) (earlier_label k (get_or rs.joins k 0) s.0)
            (λ i l e. w.different i (get_or rs.joins k 0) l (omega (arith, s.0)) (sym (earlier_label k i (omega (arith, s.0))) ∙ e)));
        same = refl;
      })
      (λ (o : k ≤ 0).
      let z : k ≡ 0 = omega arith in
      let f = w.first (omega arith) in
      record {
        half = None;
        joined = None;
        lawful = blank_second (get_or ps k 0) (eight_at file (get_or ps k 0 + 8)) (ap (λ (i : ℕ). eight_at file (get_or ps i 0 + 8)) z ∙ f.0);
        names = ap (λ (i : ℕ). parent_for None (take i rs.labels)) z;
        same = sym (ap (λ (i : ℕ). get_or rs.joins i 0) z ∙ f.1);
      })
      (cases_lt 0 k)

  judged_at : (k : ℕ) (h : k < length ps) → record_at file (get_or ps k 0) (take k rs.labels) ≡ Ok (record { label = label_at rs.labels k; joined = (second_at k h).joined })
  judged_at k h =
      let el = w.labels_long in
      let long : length (take k rs.labels) ≡ k = length-take-le k rs.labels (omega arith) in
      let s = second_at k h in
      takes (label_of (eight_at file (get_or ps k 0))) (second_of (get_or ps k 0) (eight_at file (get_or ps k 0 + 8))) (get_or ps k 0) (take k rs.labels) (label_at rs.labels k) s.half s.joined
      (ap label_of (w.label k h) ∙ read_written (label_at rs.labels k))
      s.lawful
      (seek_absent (label_at rs.labels k) (take k rs.labels) (λ i o e. w.different i k (omega arith) (omega arith) (sym (earlier_label k i (omega arith)) ∙ e)))
      s.names

  written_records : (m k : ℕ) → k + m ≡ length ps → records_from file (drop k ps) (take k rs.labels) (take k rs.joins) ≡ Ok rs
  written_records zero k e =
      let el = w.labels_long in
      let ej = w.joins_long in
      ap (λ (xs : List ℕ). records_from file xs (take k rs.labels) (take k rs.joins)) (drop_all k ps (omega arith))
      ∙ ap (λ (xs : List Label). Ok (record { labels = xs; joins = take k rs.joins })) (take_all k rs.labels (omega arith))
      ∙ ap (λ (xs : List ℕ). Ok (record { labels = rs.labels; joins = xs })) (take_all k rs.joins (omega arith))
  written_records (suc m) k e =
      let el = w.labels_long in
      let ej = w.joins_long in
      let h : k < length ps = omega arith in
      ap (λ (xs : List ℕ). records_from file xs (take k rs.labels) (take k rs.joins)) (drop_more ps k 0 h)
      ∙ ap (λ v. joined_on (take k rs.labels) (take k rs.joins) v (records_from file (drop (k + 1) ps))) (judged_at k h)
      ∙ ap (λ (j : ℕ). records_from file (drop (k + 1) ps) (take k rs.labels ++ label_at rs.labels k ∷ []) (take k rs.joins ++ j ∷ [])) (second_at k h).same
      ∙ ap (λ (xs : List Label). records_from file (drop (k + 1) ps) xs (take k rs.joins ++ get_or rs.joins k 0 ∷ [])) (sym (take_more rs.labels k zero_label (omega arith)))
      ∙ ap (λ (xs : List ℕ). records_from file (drop (k + 1) ps) (take (k + 1) rs.labels) xs) (sym (take_more rs.joins k 0 (omega arith)))
      ∙ written_records m (k + 1) (omega arith)

-- the file --------------------------------------------------------------------------------------

pub read_good : (file : List ℕ) (rs : Records) → read_file file ≡ Ok rs → Accepted file rs
read_good file rs e = by_size (sized (length file)) refl e
  where
    counts : (n : ℕ) → length file ≡ 512 * n → 1 ≤ n → n ≤ 34 → (ps : List ℕ) → Told file n 0 n [] ps → (a : Bool) → eqb (length ps) 0 ≡ a → (b : Bool) → ltb 1024 (length ps) ≡ b → cond (a || b) (Err Count) (records_from file ps [] []) ≡ Ok rs → Accepted file rs
    counts n whole some most ps told true ea b eb q = let z : ◌≡◌ {A = ℕ} 0 1 = cc in absurd (omega arith)
    counts n whole some most ps told false ea true eb q = let z : ◌≡◌ {A = ℕ} 0 1 = cc in absurd (omega arith)
    counts n whole some most ps told false ea false eb q =
        let long = told.long in
        let are = ap length told.are in
        let ne : length ps ≡ 0 → ⊥ = eqb-false (length ps) 0 ea in
        let few : length ps ≤ 1024 = ltb-false 1024 (length ps) eb in
        record {
          counts = told.counts;
          whole = omega arith;
          some = omega arith;
          most = omega arith;
          blocks = λ b h. let z : 0 + b ≡ b = omega arith in subst (λ (x : ℕ). GoodBlock file x b (get_or told.counts b 0)) (sym long) (subst (λ (x : ℕ). GoodBlock file n x (get_or told.counts b 0)) z (told.good b (omega arith)));
          stations = omega arith;
          few = omega arith;
          written = subst (λ (xs : List ℕ). Written file xs rs) told.are (records_written file ps [] [] [] rs (written_none file) q);
        }

    after : (n : ℕ) → length file ≡ 512 * n → 1 ≤ n → n ≤ 34 → (v : Result (List ℕ) PlanFault) → blocks_from file n 0 n [] ≡ v → counted file v ≡ Ok rs → Accepted file rs
    after n whole some most (Ok ps) f q = counts n whole some most ps (blocks_told file n 0 n [] ps f) (eqb (length ps) 0) refl (ltb 1024 (length ps)) refl q
    after n whole some most (Err x) f q = let z : ◌≡◌ {A = ℕ} 0 1 = cc in absurd (omega arith)

    by_size : (o : Option ℕ) → sized (length file) ≡ o → in_blocks file o ≡ Ok rs → Accepted file rs
    by_size None s q = let z : ◌≡◌ {A = ℕ} 0 1 = cc in absurd (omega arith)
    by_size (Some n) s q = let z = sized_some (length file) n s in after n z.0 z.1 z.2 (blocks_from file n 0 n []) refl q

pub good_read : (file : List ℕ) (rs : Records) → Accepted file rs → read_file file ≡ Ok rs
good_read file rs a =
    ap (in_blocks file) (some_sized (length file) (length a.counts) a.whole a.some a.most)
    ∙ ap (counted file) (told_blocks file (length a.counts) 0 a.counts [] (λ i h. let z : i ≡ 0 + i = omega arith in subst (λ (x : ℕ). GoodBlock file (length a.counts) x (get_or a.counts i 0)) z (a.blocks i h)))
    ∙ cond-false _ _ _ (or_from _ _ (ne_eqb (length (spots 0 a.counts)) 0 (λ q. omega (arith, a.stations))) (le-ltb 1024 (length (spots 0 a.counts)) a.few))
    ∙ written_records file (spots 0 a.counts) rs a.written (length (spots 0 a.counts)) 0 (omega arith)

pub read_when_good : ReadWhenGood
read_when_good = record { good = read_good; taken = good_read }
