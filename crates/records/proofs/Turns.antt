-- One turn of the loops over blocks and records.
use Rattle.std.proofs.Common.{◌≡◌, ℕ, zero, suc, ◌+◌, ◌-◌, ◌*◌, ◌<◌, ◌≤◌, eqb, List, [], ◌∷◌, ◌++◌, length, take, drop, Ok, Err, Result, sym, refl, ap, ◌∙◌, append_assoc, append-nil, add-one, arith, length-append, length-drop}
use Rattle.std.proofs.lemmas.List.{take-take, drop-drop, drop-take, length-take-le}
use Rattle.std.proofs.Math.Seq.{take-append_seam, drop-append_seam}
use Rattle.label.specs.Labels.{label_of}
use Rattle.label.specs.declared.label.Label.{Label}
use Rattle.block.specs.Blocks.{block_verdict}
use Rattle.block.specs.declared.fault.BlockFault.{BlockFault}
use Rattle.tree.specs.Records.{Records}
use Rattle.records.specs.Accepts.{GoodBlock}
use Rattle.records.specs.Files.{judged, record_at, records_from, joined_on, places_of, block_at, placed, blocks_from, count_at, starts}
use Rattle.records.specs.Halves.{eight_at, second_of}
use Rattle.records.specs.Lists.{join_of}
use Rattle.records.specs.declared.fault.PlanFault.{PlanFault}
use Rattle.records.specs.declared.fault.PlanFault.TheVariants.{Block}
use Rattle.records.specs.declared.record.Record.{Record}
use Rattle.records.proofs.Blocks.{verdict_good}

-- chunks ----------------------------------------------------------------------------------------

-- the first chunk and what is left
pub first_chunk : (xs x t : List ℕ) (n : ℕ) → xs ≡ x ++ t → length x ≡ n → x ≡ take n xs
first_chunk xs x t n e l = sym (ap (take n) e ∙ ap (λ (k : ℕ). take k (x ++ t)) (sym l) ∙ take-append_seam x t)

pub after_chunk : (xs x t : List ℕ) (n : ℕ) → xs ≡ x ++ t → length x ≡ n → t ≡ drop n xs
after_chunk xs x t n e l = sym (ap (drop n) e ∙ ap (λ (k : ℕ). drop k (x ++ t)) (sym l) ∙ drop-append_seam x t)

-- records ---------------------------------------------------------------------------------------

-- the bytes of the records from r on, of count records from byte start on
abbrev pub run_left : List ℕ → ℕ → ℕ → ℕ → List ℕ
run_left file start count r = take (16 * (count - r)) (drop (start + 16 * r) file)

-- record r as the code reads it in its 16 bytes
abbrev pub verdict : List ℕ → ℕ → ℕ → List Label → Result Record PlanFault
verdict x start r ls = judged (label_of (eight_at x 0)) (second_of (start + 16 * r) (eight_at x 8)) (start + 16 * r) ls

pub verdict_same : (x : List ℕ) (start r k : ℕ) (ls ms : List Label) → r ≡ k → ls ≡ ms → verdict x start r ls ≡ verdict x start k ms
verdict_same x start r k ls ms e f = ap (λ (i : ℕ). verdict x start i ls) e ∙ ap (verdict x start k) f

-- x is record r, and t those after it
pub record NextRecord (file : List ℕ) (start count r : ℕ) (x t : List ℕ) : Type 0 where
  pub more : r < count
  pub next : t ≡ run_left file start count (r + 1)
  pub first : eight_at x 0 ≡ eight_at file (start + 16 * r)
  pub second : eight_at x 8 ≡ eight_at file (start + 16 * r + 8)

pub next_record : (file : List ℕ) (start count r : ℕ) (xs x t : List ℕ) (size : ℕ) → start + 16 * count ≤ length file → r ≤ count → xs ≡ run_left file start count r → xs ≡ x ++ t → length x ≡ size → size ≡ 16 → NextRecord file start count r x t
next_record file start count r xs x t size within few left cut long is =
    let e : run_left file start count r ≡ x ++ t = sym left ∙ cut in
    let more : r < count = omega (arith, length-take-le (16 * (count - r)) (drop (start + 16 * r) file) (omega (arith, length-drop (start + 16 * r) file)), ap length e, length-append x t) in
    let a : 16 * (count - r) ≡ 16 + 16 * (count - (r + 1)) = omega arith in
    let b : start + 16 * r + 16 ≡ start + 16 * (r + 1) = omega arith in
    let chunk : x ≡ take 16 (drop (start + 16 * r) file) = first_chunk (run_left file start count r) x t 16 e (long ∙ is) ∙ take-take 16 (16 * (count - r)) (drop (start + 16 * r) file) (omega arith) in
    record {
      more = more;
      next = after_chunk (run_left file start count r) x t 16 e (long ∙ is)
          ∙ ap (λ (n : ℕ). drop 16 (take n (drop (start + 16 * r) file))) a
          ∙ drop-take 16 (16 * (count - (r + 1))) (drop (start + 16 * r) file)
          ∙ ap (take (16 * (count - (r + 1)))) (drop-drop 16 (start + 16 * r) file ∙ ap (λ (n : ℕ). drop n file) b);
      first = ap (take 8) chunk ∙ take-take 8 16 (drop (start + 16 * r) file) (omega arith);
      second = ap (λ (xs : List ℕ). take 8 (drop 8 xs)) chunk
          ∙ ap (take 8) (drop-take 8 8 (drop (start + 16 * r) file) ∙ ap (take 8) (drop-drop 8 (start + 16 * r) file))
          ∙ take-take 8 8 (drop (start + 16 * r + 8) file) (omega arith);
    }

module _ {file : List ℕ} {start count r : ℕ} {x t : List ℕ} (k : NextRecord file start count r x t) where
  is_record : (ls : List Label) → verdict x start r ls ≡ record_at file (start + 16 * r) ls
  is_record ls = ap (λ (bs : List ℕ). judged (label_of bs) (second_of (start + 16 * r) (eight_at x 8)) (start + 16 * r) ls) k.first ∙ ap (λ (bs : List ℕ). judged (label_of (eight_at file (start + 16 * r))) (second_of (start + 16 * r) bs) (start + 16 * r) ls) k.second

  at_record : (ls : List Label) (js : List ℕ) (v : Result Record PlanFault) → v ≡ verdict x start r ls → joined_on ls js v (records_from file (places_of (start + 16 * (r + 1)) (count - (r + 1)))) ≡ records_from file (places_of (start + 16 * r) (count - r)) ls js
  at_record ls js v q =
      let s : count - r ≡ suc (count - (r + 1)) = omega (arith, k.more) in
      let b : start + 16 * (r + 1) ≡ start + 16 * r + 16 = omega arith in
      ap (λ (w : Result Record PlanFault). joined_on ls js w (records_from file (places_of (start + 16 * (r + 1)) (count - (r + 1))))) (q ∙ is_record ls)
      ∙ ap (λ (n : ℕ). joined_on ls js (record_at file (start + 16 * r) ls) (records_from file (places_of n (count - (r + 1))))) b
      ∙ sym (ap (λ (m : ℕ). records_from file (places_of (start + 16 * r) m) ls js) s)

  pub record_more : (ls : List Label) (js : List ℕ) (v : Record) → Ok v ≡ verdict x start r ls → records_from file (places_of (start + 16 * (r + 1)) (count - (r + 1))) (ls ++ v.label ∷ []) (js ++ join_of v.joined ∷ []) ≡ records_from file (places_of (start + 16 * r) (count - r)) ls js
  record_more ls js v q = at_record ls js (Ok v) q

  pub record_fault : (ls : List Label) (js : List ℕ) (f : PlanFault) → Err f ≡ verdict x start r ls → Err f ≡ records_from file (places_of (start + 16 * r) (count - r)) ls js
  record_fault ls js f q = at_record ls js (Err f) q

-- records at ps, then those at qs
records_on : (file ps qs : List ℕ) (ls : List Label) (js : List ℕ) (rs : Records) → records_from file ps ls js ≡ Ok rs → records_from file (ps ++ qs) ls js ≡ records_from file qs rs.labels rs.joins
records_on file [] qs ls js rs e = let same : record { labels = ls; joins = js } ≡ rs = cc in ap (λ (x : Records). records_from file qs x.labels x.joins) same
records_on file (p ∷ ps) qs ls js rs e = go (record_at file p ls) e (λ us ks f. records_on file ps qs us ks rs f)
  where
    go : (v : Result Record PlanFault) → joined_on ls js v (records_from file ps) ≡ Ok rs → ((us : List Label) (ks : List ℕ) → records_from file ps us ks ≡ Ok rs → records_from file (ps ++ qs) us ks ≡ records_from file qs rs.labels rs.joins)
        → joined_on ls js v (records_from file (ps ++ qs)) ≡ records_from file qs rs.labels rs.joins
    go (Ok r) q rec = rec (ls ++ r.label ∷ []) (js ++ join_of r.joined ∷ []) q
    go (Err f) q rec = cc

records_off : (file ps qs : List ℕ) (ls : List Label) (js : List ℕ) (f : PlanFault) → records_from file ps ls js ≡ Err f → records_from file (ps ++ qs) ls js ≡ Err f
records_off file [] qs ls js f e = cc
records_off file (p ∷ ps) qs ls js f e = go (record_at file p ls) e (λ us ks g. records_off file ps qs us ks f g)
  where
    go : (v : Result Record PlanFault) → joined_on ls js v (records_from file ps) ≡ Err f → ((us : List Label) (ks : List ℕ) → records_from file ps us ks ≡ Err f → records_from file (ps ++ qs) us ks ≡ Err f) → joined_on ls js v (records_from file (ps ++ qs)) ≡ Err f
    go (Ok r) q rec = rec (ls ++ r.label ∷ []) (js ++ join_of r.joined ∷ []) q
    go (Err g) q rec = q

-- as many more labels as records
pub records_long : (file ps : List ℕ) (ls : List Label) (js : List ℕ) (rs : Records) → records_from file ps ls js ≡ Ok rs → length rs.labels ≡ length ls + length ps
records_long file [] ls js rs e = let same : record { labels = ls; joins = js } ≡ rs = cc in omega (arith, ap (λ (x : Records). length x.labels) same)
records_long file (p ∷ ps) ls js rs e = go (record_at file p ls) e (λ us ks f. records_long file ps us ks rs f)
  where
    go : (v : Result Record PlanFault) → joined_on ls js v (records_from file ps) ≡ Ok rs → ((us : List Label) (ks : List ℕ) → records_from file ps us ks ≡ Ok rs → length rs.labels ≡ length us + length ps) → length rs.labels ≡ length ls + length (p ∷ ps)
    go (Ok r) q rec = omega (arith, rec (ls ++ r.label ∷ []) (js ++ join_of r.joined ∷ []) q, length-append ls (r.label ∷ []))
    go (Err f) q rec = cc

pub places_long : (p n : ℕ) → length (places_of p n) ≡ n
places_long p zero = refl
places_long p (suc n) = omega (arith, places_long (p + 16) n)

-- blocks ----------------------------------------------------------------------------------------

-- the blocks from block b on
abbrev pub blocks_left : List ℕ → ℕ → List ℕ
blocks_left file b = drop (512 * b) file

starts_more : (file : List ℕ) (b : ℕ) → starts file 0 (b + 1) ≡ starts file 0 b ++ places_of (512 * b + 4) (count_at file b)
starts_more file b = ap (starts file 0) (add-one b) ∙ go 0 b ∙ ap (λ (k : ℕ). starts file 0 b ++ places_of (512 * k + 4) (count_at file k)) z
  where
    z : 0 + b ≡ b
    z = omega arith

    go : (a m : ℕ) → starts file a (suc m) ≡ starts file a m ++ places_of (512 * (a + m) + 4) (count_at file (a + m))
    go a zero = let e : a ≡ a + 0 = omega arith in append-nil (places_of (512 * a + 4) (count_at file a)) ∙ ap (λ (k : ℕ). places_of (512 * k + 4) (count_at file k)) e
    go a (suc m) =
        let e : a + 1 + m ≡ a + suc m = omega arith in
        ap (λ (xs : List ℕ). places_of (512 * a + 4) (count_at file a) ++ xs) (go (a + 1) m ∙ ap (λ (k : ℕ). starts file (a + 1) m ++ places_of (512 * k + 4) (count_at file k)) e)
        ∙ sym (append_assoc (places_of (512 * a + 4) (count_at file a)) (starts file (a + 1) m) _)

starts_first : (file : List ℕ) (n b : ℕ) → b < n → starts file b (n - b) ≡ places_of (512 * b + 4) (count_at file b) ++ starts file (b + 1) (n - (b + 1))
starts_first file n b l = let s : n - b ≡ suc (n - (b + 1)) = omega arith in ap (starts file b) s

-- what is read of the blocks from b on, by what is read of block b
pub run_done : (file : List ℕ) (n b c : ℕ) → b < n → count_at file b ≡ c → (ls : List Label) (js : List ℕ) (rs : Records) → Ok rs ≡ records_from file (places_of (512 * b + 4) c) ls js
    → records_from file (starts file (b + 1) (n - (b + 1))) rs.labels rs.joins ≡ records_from file (starts file b (n - b)) ls js
run_done file n b c l k ls js rs e =
    sym (ap (λ (ps : List ℕ). records_from file ps ls js) (starts_first file n b l ∙ ap (λ (m : ℕ). places_of (512 * b + 4) m ++ starts file (b + 1) (n - (b + 1))) k)
    ∙ records_on file (places_of (512 * b + 4) c) (starts file (b + 1) (n - (b + 1))) ls js rs (sym e))

pub run_fault : (file : List ℕ) (n b c : ℕ) → b < n → count_at file b ≡ c → (ls : List Label) (js : List ℕ) (f : PlanFault) → Err f ≡ records_from file (places_of (512 * b + 4) c) ls js → Err f ≡ records_from file (starts file b (n - b)) ls js
run_fault file n b c l k ls js f e =
    sym (ap (λ (ps : List ℕ). records_from file ps ls js) (starts_first file n b l ∙ ap (λ (m : ℕ). places_of (512 * b + 4) m ++ starts file (b + 1) (n - (b + 1))) k)
    ∙ records_off file (places_of (512 * b + 4) c) (starts file (b + 1) (n - (b + 1))) ls js f (sym e))

pub starts_long : (file : List ℕ) (n b : ℕ) → b < n → length (starts file b (n - b)) ≡ count_at file b + length (starts file (b + 1) (n - (b + 1)))
starts_long file n b l = omega (arith, ap length (starts_first file n b l), length-append (places_of (512 * b + 4) (count_at file b)) (starts file (b + 1) (n - (b + 1))), places_long (512 * b + 4) (count_at file b))

-- x is block b, and t the blocks after it
pub record NextBlock (file : List ℕ) (n b : ℕ) (x t : List ℕ) : Type 0 where
  pub more : b < n
  pub next : t ≡ blocks_left file (b + 1)
  pub is : x ≡ block_at file b

pub next_block : (file : List ℕ) (n b : ℕ) (xs x t : List ℕ) (size : ℕ) → length file ≡ 512 * n → b ≤ n → xs ≡ blocks_left file b → xs ≡ x ++ t → length x ≡ size → size ≡ 512 → NextBlock file n b x t
next_block file n b xs x t size whole few left cut long is =
    let e : blocks_left file b ≡ x ++ t = sym left ∙ cut in
    let a : 512 * b + 512 ≡ 512 * (b + 1) = omega arith in
    record {
      more = omega (arith, length-drop (512 * b) file, ap length e, length-append x t);
      next = after_chunk (blocks_left file b) x t 512 e (long ∙ is) ∙ drop-drop 512 (512 * b) file ∙ ap (λ (k : ℕ). drop k file) a;
      is = first_chunk (blocks_left file b) x t 512 e (long ∙ is);
    }

module _ {file : List ℕ} {n b : ℕ} {x t : List ℕ} (k : NextBlock file n b x t) where
  at_block : (ps : List ℕ) (v : Result ℕ BlockFault) → v ≡ block_verdict x b (eqb (b + 1) n) (512 * b) → placed (512 * b + 4) ps v (blocks_from file n (b + 1) (n - (b + 1))) ≡ blocks_from file n b (n - b) ps
  at_block ps v q =
      let s : n - b ≡ suc (n - (b + 1)) = omega (arith, k.more) in
      ap (λ r. placed (512 * b + 4) ps r (blocks_from file n (b + 1) (n - (b + 1)))) (q ∙ ap (λ (bs : List ℕ). block_verdict bs b (eqb (b + 1) n) (512 * b)) k.is)
      ∙ sym (ap (λ (m : ℕ). blocks_from file n b m ps) s)

  pub block_good : (c : ℕ) → Ok c ≡ block_verdict x b (eqb (b + 1) n) (512 * b) → GoodBlock file n b c
  block_good c q = verdict_good file n b c (sym (q ∙ ap (λ (bs : List ℕ). block_verdict bs b (eqb (b + 1) n) (512 * b)) k.is))

  pub block_fault : (ps : List ℕ) (f : BlockFault) → Err f ≡ block_verdict x b (eqb (b + 1) n) (512 * b) → Err (Block f) ≡ blocks_from file n b (n - b) ps
  block_fault ps f q = at_block ps (Err f) q

  pub block_more : (c : ℕ) → Ok c ≡ block_verdict x b (eqb (b + 1) n) (512 * b) → blocks_from file n (b + 1) (n - (b + 1)) (starts file 0 (b + 1)) ≡ blocks_from file n b (n - b) (starts file 0 b)
  block_more c q =
      let g = block_good c q in
      ap (blocks_from file n (b + 1) (n - (b + 1))) (starts_more file b ∙ ap (λ (m : ℕ). starts file 0 b ++ places_of (512 * b + 4) m) g.count)
      ∙ at_block (starts file 0 b) (Ok c) q

  pub block_long : (c : ℕ) → Ok c ≡ block_verdict x b (eqb (b + 1) n) (512 * b) → length (starts file 0 (b + 1)) ≡ length (starts file 0 b) + c
  block_long c q =
      let g = block_good c q in
      let m = g.count in
      omega (arith, ap length (starts_more file b), length-append (starts file 0 b) (places_of (512 * b + 4) (count_at file b)), places_long (512 * b + 4) (count_at file b))
