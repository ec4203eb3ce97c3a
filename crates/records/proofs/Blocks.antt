-- Blocks are judged good exactly when they are.
use Rattle.std.proofs.Common.{◌≡◌, ℕ, zero, suc, ◌+◌, ◌-◌, ◌*◌, ◌/◌, ◌%◌, ◌<◌, ◌≤◌, Bool, true, false, cond, not, ◌||◌, eqb, ltb, List, [], ◌∷◌, ◌++◌, length, get_or, Some, None, Ok, Err, Result, sym, refl, ap, ◌∙◌, subst, append_assoc, append-nil, arith}
use Rattle.std.proofs.lemmas.Bool.{eqb-true, eqb-false, eq-eqb, ne_eqb, ltb-false, le-ltb, not-false, not_from_true, or_from, cond-false}
use Rattle.block.specs.declared.fault.BlockFault.{BlockFault}
use Rattle.block.specs.declared.fault.BlockCause.TheVariants.{Check, Header, Padding}
use Rattle.block.specs.Blocks.{block_verdict, check_sum, word, blank_from}
use Rattle.block.proofs.Steps.{blank_decides}
use Rattle.records.specs.Accepts.{GoodBlock, spots}
use Rattle.records.specs.Files.{places_of, block_at, placed, blocks_from, sized}

blank_true : (bs : List ℕ) (start : ℕ) → blank_from bs start ≡ true → (k : ℕ) → start ≤ k → k < 510 → get_or bs k 0 ≡ 0
unfolding blank_from
blank_true bs start e k h l =
    let at : start + (k - start) ≡ k = omega arith in
    subst (λ (i : ℕ). get_or bs i 0 ≡ 0) at ((blank_decides bs start (510 - start)).0 e (k - start) (omega arith))

true_blank : (bs : List ℕ) (start : ℕ) → ((k : ℕ) → start ≤ k → k < 510 → get_or bs k 0 ≡ 0) → blank_from bs start ≡ true
unfolding blank_from
true_blank bs start h = (blank_decides bs start (510 - start)).1 (λ k l. h (start + k) (omega arith) (omega arith))

module _ (file : List ℕ) (n : ℕ) where
  pub verdict_good : (b c : ℕ) → block_verdict (block_at file b) b (eqb (b + 1) n) (512 * b) ≡ Ok c → GoodBlock file n b c
  verdict_good b c e =
      go (not (eqb (check_sum (block_at file b)) (word (block_at file b) 510))) refl (not (eqb (word (block_at file b) 0) b)) refl (ltb 31 (get_or (block_at file b) 2 0)) refl (not (eqb (get_or (block_at file b) 3 0) (cond (eqb (b + 1) n) 1 0))) refl (not (blank_from (block_at file b) (4 + 16 * get_or (block_at file b) 2 0))) refl e
    where
      go : (a : Bool) → not (eqb (check_sum (block_at file b)) (word (block_at file b) 510)) ≡ a → (x : Bool) → not (eqb (word (block_at file b) 0) b) ≡ x → (t : Bool) → ltb 31 (get_or (block_at file b) 2 0) ≡ t → (y : Bool) → not (eqb (get_or (block_at file b) 3 0) (cond (eqb (b + 1) n) 1 0)) ≡ y → (d : Bool) → not (blank_from (block_at file b) (4 + 16 * get_or (block_at file b) 2 0)) ≡ d
          → ◌≡◌ {A = Result ℕ BlockFault} (cond a (Err (record { cause = Check; byte = 512 * b })) (cond (x || (t || y)) (Err (record { cause = Header; byte = 512 * b })) (cond d (Err (record { cause = Padding; byte = 512 * b })) (Ok (get_or (block_at file b) 2 0))))) (Ok c) → GoodBlock file n b c
      go true ea x ex t et y ey d ed q = let z : ◌≡◌ {A = ℕ} 0 1 = cc in absurd (omega arith)
      go false ea true ex t et y ey d ed q = let z : ◌≡◌ {A = ℕ} 0 1 = cc in absurd (omega arith)
      go false ea false ex true et y ey d ed q = let z : ◌≡◌ {A = ℕ} 0 1 = cc in absurd (omega arith)
      go false ea false ex false et true ey d ed q = let z : ◌≡◌ {A = ℕ} 0 1 = cc in absurd (omega arith)
      go false ea false ex false et false ey true ed q = let z : ◌≡◌ {A = ℕ} 0 1 = cc in absurd (omega arith)
      go false ea false ex false et false ey false ed q =
          let same : get_or (block_at file b) 2 0 ≡ c = cc in
          record {
            check = eqb-true _ _ (not-false _ ea);
            place = eqb-true _ _ (not-false _ ex);
            count = same;
            most = omega (arith, ltb-false 31 (get_or (block_at file b) 2 0) et);
            final = eqb-true _ _ (not-false _ ey);
            blanks = λ k h l. blank_true (block_at file b) (4 + 16 * get_or (block_at file b) 2 0) (not-false _ ed) k (omega arith) l;
          }

  pub good_verdict : (b c : ℕ) → GoodBlock file n b c → block_verdict (block_at file b) b (eqb (b + 1) n) (512 * b) ≡ Ok c
  good_verdict b c g =
      let e = g.count in
      cond-false _ _ _ (not_from_true _ (eq-eqb _ _ g.check))
      ∙ cond-false _ _ _ (or_from _ _ (not_from_true _ (eq-eqb _ _ g.place)) (or_from _ _ (le-ltb 31 (get_or (block_at file b) 2 0) (omega (arith, g.most))) (not_from_true _ (eq-eqb _ _ g.final))))
      ∙ cond-false _ _ _ (not_from_true _ (true_blank (block_at file b) (4 + 16 * get_or (block_at file b) 2 0) (λ k h l. g.blanks k (omega arith) l)))
      ∙ ap (λ (x : ℕ). Ok x) g.count

  -- what m blocks from b on have told
  pub record Told (b m : ℕ) (before after : List ℕ) : Type 0 where
    pub counts : List ℕ
    pub long : length counts ≡ m
    pub good : (i : ℕ) → i < m → GoodBlock file n (b + i) (get_or counts i 0)
    pub are : after ≡ before ++ spots b counts

  pub blocks_told : (b m : ℕ) (ps qs : List ℕ) → blocks_from file n b m ps ≡ Ok qs → Told b m ps qs
  blocks_told b zero ps qs e = let same : ps ≡ qs = cc in record { counts = []; long = refl; good = λ i h. absurd (omega arith); are = sym same ∙ sym (append-nil ps) }
  blocks_told b (suc m) ps qs e = go (block_verdict (block_at file b) b (eqb (b + 1) n) (512 * b)) refl e (λ us f. blocks_told (b + 1) m us qs f)
    where
      step : (c : ℕ) → GoodBlock file n b c → Told (b + 1) m (ps ++ places_of (512 * b + 4) c) qs → Told b (suc m) ps qs
      step c g t = record { counts = c ∷ t.counts; long = let l = t.long in omega arith; good = each; are = t.are ∙ append_assoc ps (places_of (512 * b + 4) c) (spots (b + 1) t.counts) }
        where
          each : (i : ℕ) → i < suc m → GoodBlock file n (b + i) (get_or (c ∷ t.counts) i 0)
          each zero h = let z : b ≡ b + 0 = omega arith in subst (λ (x : ℕ). GoodBlock file n x c) z g
          each (suc i) h = let z : b + 1 + i ≡ b + suc i = omega arith in subst (λ (x : ℕ). GoodBlock file n x (get_or t.counts i 0)) z (t.good i (omega arith))

      go : (v : Result ℕ BlockFault) → block_verdict (block_at file b) b (eqb (b + 1) n) (512 * b) ≡ v → placed (512 * b + 4) ps v (blocks_from file n (b + 1) m) ≡ Ok qs → ((us : List ℕ) → blocks_from file n (b + 1) m us ≡ Ok qs → Told (b + 1) m us qs) → Told b (suc m) ps qs
      go (Ok c) q f rec = step c (verdict_good b c q) (rec (ps ++ places_of (512 * b + 4) c) f)
      go (Err x) q f rec = let z : ◌≡◌ {A = ℕ} 0 1 = cc in absurd (omega arith)

  pub told_blocks : (b : ℕ) (cs ps : List ℕ) → ((i : ℕ) → i < length cs → GoodBlock file n (b + i) (get_or cs i 0)) → blocks_from file n b (length cs) ps ≡ Ok (ps ++ spots b cs)
  told_blocks b [] ps g = ap (λ (xs : List ℕ). Ok xs) (sym (append-nil ps))
  told_blocks b (c ∷ cs) ps g =
      let z : b + 0 ≡ b = omega arith in
      ap (λ v. placed (512 * b + 4) ps v (blocks_from file n (b + 1) (length cs))) (good_verdict b c (subst (λ (x : ℕ). GoodBlock file n x c) z (g 0 (omega arith))))
      ∙ told_blocks (b + 1) cs (ps ++ places_of (512 * b + 4) c) (λ i h. let s : b + suc i ≡ b + 1 + i = omega arith in subst (λ (x : ℕ). GoodBlock file n x (get_or cs i 0)) s (g (suc i) (omega arith)))
      ∙ ap (λ (xs : List ℕ). Ok xs) (append_assoc ps (places_of (512 * b + 4) c) (spots (b + 1) cs))

-- the length of the file
pub sized_some : (bytes n : ℕ) → sized bytes ≡ Some n → (bytes ≡ 512 * n) × (1 ≤ n) × (n ≤ 34)
sized_some bytes n e = go (eqb bytes 0) refl (not (eqb (bytes % 512) 0)) refl (ltb 34 (bytes / 512)) refl e
  where
    go : (a : Bool) → eqb bytes 0 ≡ a → (b : Bool) → not (eqb (bytes % 512) 0) ≡ b → (c : Bool) → ltb 34 (bytes / 512) ≡ c → cond (a || (b || c)) None (Some (bytes / 512)) ≡ Some n → (bytes ≡ 512 * n) × (1 ≤ n) × (n ≤ 34)
    go true ea b eb c ec q = let z : ◌≡◌ {A = ℕ} 0 1 = cc in absurd (omega arith)
    go false ea true eb c ec q = let z : ◌≡◌ {A = ℕ} 0 1 = cc in absurd (omega arith)
    go false ea false eb true ec q = let z : ◌≡◌ {A = ℕ} 0 1 = cc in absurd (omega arith)
    go false ea false eb false ec q =
        let same : bytes / 512 ≡ n = cc in
        let some : bytes ≡ 0 → ⊥ = eqb-false bytes 0 ea in
        let rest : bytes % 512 ≡ 0 = eqb-true _ _ (not-false _ eb) in
        let few : bytes / 512 ≤ 34 = ltb-false 34 (bytes / 512) ec in
        (omega arith, omega arith, omega arith)

pub some_sized : (bytes n : ℕ) → bytes ≡ 512 * n → 1 ≤ n → n ≤ 34 → sized bytes ≡ Some n
some_sized bytes n e h l =
    let same : bytes / 512 ≡ n = omega arith in
    let rest : bytes % 512 ≡ 0 = omega arith in
    cond-false _ _ _ (or_from _ _ (ne_eqb bytes 0 (λ q. omega arith)) (or_from _ _ (not_from_true _ (eq-eqb _ _ rest)) (le-ltb 34 (bytes / 512) (omega arith)))) ∙ ap (λ (x : ℕ). Some x) same
