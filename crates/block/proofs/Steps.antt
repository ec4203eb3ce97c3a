-- The check of a block, and its bytes that have to be 0.
use Rattle.std.proofs.Common.{◌≡◌, ℕ, zero, suc, ◌+◌, ◌-◌, ◌%◌, ◌<◌, ◌≤◌, ◌&&◌, Bool, eqb, List, length, take, drop, get_or, Decides, sym, refl, ap, ◌∙◌, add-one, arith}
use Rattle.std.proofs.lemmas.List.{get_or-take, get_or-drop, length-take-le, length-drop}
use Rattle.std.proofs.lemmas.List.Folds.{list_all_more}
use Rattle.std.specs.List.{list_all}
use Rattle.std.proofs.Math.Bool.{and_comm}
use Rattle.std.proofs.lemmas.Bool.Decides.{Decides-below_and, Decides-eqb}
use Rattle.block.specs.Blocks.{weighted, check_of, check_sum, blank_at, blank_from}

pub blank_decides : (bs : List ℕ) (start n : ℕ) → Decides (blank_at bs start n) ((k : ℕ) → k < n → get_or bs (start + k) 0 ≡ 0)
blank_decides bs start n = Decides-below_and (λ k. eqb (get_or bs (start + k) 0) 0) (λ k. get_or bs (start + k) 0 ≡ 0) (blank_at bs start) (λ k. Decides-eqb _ 0) refl (λ _. refl) n

-- the check of the first 510 bytes is the check of the block
weighted_taken : (bs : List ℕ) (m n : ℕ) → n ≤ m → weighted (take m bs) n ≡ weighted bs n
weighted_taken bs m zero h = refl
weighted_taken bs m (suc n) h =
    let rest = weighted_taken bs m n (omega arith) in
    let last : get_or (take m bs) n 0 ≡ get_or bs n 0 = get_or-take m bs n 0 (omega arith) in
    cc

pub check_before : (bs : List ℕ) → length bs ≡ 512 → check_of (take 510 bs) ≡ check_sum bs
unfolding check_of check_sum
check_before bs h =
    let n : length (take 510 bs) ≡ 510 = length-take-le 510 bs (omega arith) in
    ap (λ (k : ℕ). k % 65536) (ap (weighted (take 510 bs)) n ∙ weighted_taken bs 510 510 (omega arith))

-- all of the n bytes from start on pass a test for 0
pub all_blank : (bs : List ℕ) (start n : ℕ) → start + n ≤ length bs → list_all (λ b. eqb b 0) (take n (drop start bs)) ≡ blank_at bs start n
all_blank bs start zero h = refl
all_blank bs start (suc n) h =
    let more = list_all_more (λ (b : ℕ). eqb b 0) (drop start bs) n 0 (simp length-drop (omega arith)) in
    let rest = all_blank bs start n (omega arith) in
    let last = get_or-drop start bs n 0 in
    let turned = and_comm (blank_at bs start n) (eqb (get_or bs (start + n) 0) 0) in
    let joined : (list_all (λ (b : ℕ). eqb b 0) (take n (drop start bs)) && eqb (get_or (drop start bs) n 0) 0) ≡ (eqb (get_or bs (start + n) 0) 0 && blank_at bs start n) = cc in
    ap (λ (k : ℕ). list_all (λ (b : ℕ). eqb b 0) (take k (drop start bs))) (sym (add-one n)) ∙ more ∙ joined

pub blank_is : (bs : List ℕ) (start : ℕ) (r : Bool) → length bs ≡ 512 → start ≤ 510
    → r ≡ list_all (λ b. eqb b 0) (take (510 - start) (drop start bs)) → r ≡ blank_from bs start
unfolding blank_from
blank_is bs start r h l e = e ∙ all_blank bs start (510 - start) (omega arith)
