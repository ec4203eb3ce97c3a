-- Lawful bytes: each is below 256, and they are sign bytes and then blanks.
use Rattle.std.proofs.Common.{◌≡◌, ℕ, zero, suc, ◌<◌, ◌≤◌, Bool, true, false, cond, List, [], ◌∷◌, length, get_or, refl, ap, ◌∙◌, arith}
use Rattle.std.proofs.lemmas.Bool.Decides.{nat_tests}
use Rattle.std.proofs.lemmas.Bool.{and_parts, and_from, eqb-true, eq-eqb, both_ways}
use Rattle.std.specs.List.{AllByRecursion}
use Rattle.label.specs.Labels.{Shaped}
use Rattle.label.specs.Signs.{sign, blank, blanks, signs_then_blanks, lawful}

-- whatever the sign bytes are, they are bytes
pub sign_small : (b : ℕ) → sign b ≡ true → b < 256
sign_small b e = grind (arith, nat_tests)

-- a blank is no sign byte
pub blank_no_sign : sign 32 ≡ false
blank_no_sign = refl

blanks_small : (bs : List ℕ) → blanks bs ≡ true → AllByRecursion (λ b. b < 256) bs
blanks_small [] e = tt
blanks_small (b ∷ bs) e = let p = and_parts (blank b) (blanks bs) e in (omega (arith, eqb-true b 32 p.0), blanks_small bs p.1)

signs_small : (bs : List ℕ) → signs_then_blanks bs ≡ true → AllByRecursion (λ b. b < 256) bs
signs_small [] e = tt
signs_small (b ∷ bs) e = way (sign b) refl e (signs_small bs)
  where
    way : (t : Bool) → sign b ≡ t → cond t (signs_then_blanks bs) (blanks (b ∷ bs)) ≡ true
        → (signs_then_blanks bs ≡ true → AllByRecursion (λ x. x < 256) bs) → AllByRecursion (λ x. x < 256) (b ∷ bs)
    way true s q rest = (sign_small b s, rest q)
    way false s q rest = blanks_small (b ∷ bs) q

pub lawful_small : (bs : List ℕ) → lawful bs ≡ true → AllByRecursion (λ b. b < 256) bs
lawful_small [] e = tt
lawful_small (b ∷ bs) e = let p = and_parts (sign b) (signs_then_blanks bs) e in (sign_small b p.0, signs_small bs p.1)

-- the first n bytes of bs are sign bytes, and the others blanks
record Split (bs : List ℕ) (n : ℕ) : Type 0 where
  pub most : n ≤ length bs
  pub front : (i : ℕ) → i < n → sign (get_or bs i 0) ≡ true
  pub back : (i : ℕ) → n ≤ i → i < length bs → get_or bs i 0 ≡ 32

blanks_all : (bs : List ℕ) → blanks bs ≡ true → (i : ℕ) → i < length bs → get_or bs i 0 ≡ 32
blanks_all [] e i l = absurd (omega arith)
blanks_all (b ∷ bs) e zero l = eqb-true b 32 (and_parts (blank b) (blanks bs) e).0
blanks_all (b ∷ bs) e (suc i) l = blanks_all bs (and_parts (blank b) (blanks bs) e).1 i (omega arith)

all_blanks : (bs : List ℕ) → ((i : ℕ) → i < length bs → get_or bs i 0 ≡ 32) → blanks bs ≡ true
all_blanks [] h = refl
all_blanks (b ∷ bs) h = and_from (blank b) (blanks bs) (eq-eqb b 32 (h 0 (omega arith))) (all_blanks bs (λ i l. h (suc i) (omega arith)))

split_more : (b : ℕ) (bs : List ℕ) (n : ℕ) → sign b ≡ true → Split bs n → Split (b ∷ bs) (suc n)
split_more b bs n s p = record { most = omega (arith, p.most); front = front; back = back }
  where
    front : (i : ℕ) → i < suc n → sign (get_or (b ∷ bs) i 0) ≡ true
    front zero l = s
    front (suc i) l = p.front i (omega arith)

    back : (i : ℕ) → suc n ≤ i → i < length (b ∷ bs) → get_or (b ∷ bs) i 0 ≡ 32
    back zero m l = absurd (omega arith)
    back (suc i) m l = p.back i (omega arith) (omega arith)

signs_split : (bs : List ℕ) → signs_then_blanks bs ≡ true → (n : ℕ) × Split bs n
signs_split [] e = (0, record { most = omega arith; front = λ i l. absurd (omega arith); back = λ i m l. absurd (omega arith) })
signs_split (b ∷ bs) e = way (sign b) refl e (signs_split bs)
  where
    way : (t : Bool) → sign b ≡ t → cond t (signs_then_blanks bs) (blanks (b ∷ bs)) ≡ true
        → (signs_then_blanks bs ≡ true → (n : ℕ) × Split bs n) → (n : ℕ) × Split (b ∷ bs) n
    way true s q rest = let r = rest q in (suc r.0, split_more b bs r.0 s r.1)
    way false s q rest = (0, record { most = omega arith; front = λ i l. absurd (omega arith); back = λ i m l. blanks_all (b ∷ bs) q i l })

split_rest : (b : ℕ) (bs : List ℕ) (n : ℕ) → Split (b ∷ bs) (suc n) → Split bs n
split_rest b bs n p = record {
  most = omega (arith, p.most);
  front = λ i l. p.front (suc i) (omega arith);
  back = λ i m l. p.back (suc i) (omega arith) (omega arith);
}

split_signs : (bs : List ℕ) (n : ℕ) → Split bs n → signs_then_blanks bs ≡ true
split_signs [] n p = refl
split_signs (b ∷ bs) zero p = way (sign b) refl
  where
    is_blank : b ≡ 32
    is_blank = p.back 0 (omega arith) (omega arith)

    way : (t : Bool) → sign b ≡ t → cond t (signs_then_blanks bs) (blanks (b ∷ bs)) ≡ true
    way true s = absurd (both_ways (sign b) (ap sign is_blank ∙ blank_no_sign) s)
    way false s = all_blanks (b ∷ bs) (λ i l. p.back i (omega arith) l)
split_signs (b ∷ bs) (suc n) p = rw (p.front 0 (omega arith)) (split_signs bs n (split_rest b bs n p))

pub lawful_shaped : (bs : List ℕ) → length bs ≡ 8 → lawful bs ≡ true → Shaped bs
lawful_shaped [] l e = absurd (omega arith)
lawful_shaped (b ∷ bs) l e =
    let p = and_parts (sign b) (signs_then_blanks bs) e in
    let r = signs_split bs p.1 in
    let q = split_more b bs r.0 p.0 r.1 in
    record {
      eight = l;
      signs = suc r.0;
      some = omega arith;
      most = omega (arith, q.most);
      front = q.front;
      back = λ i m h. q.back i m (omega arith);
    }

pub shaped_lawful : (bs : List ℕ) → Shaped bs → lawful bs ≡ true
shaped_lawful [] s = absurd (omega (arith, s.eight))
shaped_lawful (b ∷ bs) s = way s.signs s.some (record { most = omega (arith, s.most, s.eight); front = s.front; back = λ i m l. s.back i m (omega (arith, s.eight)) })
  where
    way : (n : ℕ) → 1 ≤ n → Split (b ∷ bs) n → lawful (b ∷ bs) ≡ true
    way zero l p = absurd (omega arith)
    way (suc n) l p = and_from (sign b) (signs_then_blanks bs) (p.front 0 (omega arith)) (split_signs bs n (split_rest b bs n p))
