-- Keys follow the order byte by byte, and tell labels apart.
use Rattle.std.proofs.Common.{◌≡◌, ℕ, ◌+◌, ◌*◌, ◌<◌, ◌⊎◌, List, [], ◌∷◌, length, Less, Equal, Greater, refl, ap, ◌∙◌, inl, inr, arith}
use Rattle.std.proofs.lemmas.Bool.{cases_order, le-ltb, lt-ltb, cond-false, cond-true}
use Rattle.std.specs.List.{AllByRecursion}
use Rattle.label.specs.Labels.{bytes_of}
use Rattle.label.specs.Orders.{bytes_order, Lower, key_of, KeysFollow}
use Rattle.label.specs.declared.label.Label.{Label}
use Rattle.label.proofs.Shapes.{lawful_small}
use Rattle.label.proofs.Reading.{same_label_lem}

-- the number of bytes, high byte first, after a
abbrev num : ℕ → List ℕ → ℕ
num a [] = a
num a (x ∷ xs) = num (a * 256 + x) xs

-- how two lists of one length lie, by their bytes and by their numbers
data Lies (xs ys : List ℕ) : Type 0 where
  less : bytes_order xs ys ≡ Less → ((a : ℕ) → num a xs < num a ys) → Lies xs ys
  same : xs ≡ ys → bytes_order xs ys ≡ Equal → Lies xs ys
  more : bytes_order xs ys ≡ Greater → ((a : ℕ) → num a ys < num a xs) → Lies xs ys

num_lt : (xs ys : List ℕ) (a b : ℕ) → AllByRecursion (λ x. x < 256) xs → length xs ≡ length ys → a < b → num a xs < num b ys
num_lt [] [] a b s e h = h
num_lt [] (y ∷ ys) a b s e h = absurd (omega arith)
num_lt (x ∷ xs) [] a b s e h = absurd (omega arith)
num_lt (x ∷ xs) (y ∷ ys) a b s e h = num_lt xs ys (a * 256 + x) (b * 256 + y) s.1 (omega arith) (omega (arith, s.0))

step_less : (x y : ℕ) (xs ys : List ℕ) → x < y → bytes_order (x ∷ xs) (y ∷ ys) ≡ Less
step_less x y xs ys h = cond-true _ Less _ (lt-ltb x y h)

step_more : (x y : ℕ) (xs ys : List ℕ) → y < x → bytes_order (x ∷ xs) (y ∷ ys) ≡ Greater
step_more x y xs ys h = cond-false _ Less _ (le-ltb x y (omega arith)) ∙ cond-true _ Greater _ (lt-ltb y x h)

step_same : (x y : ℕ) (xs ys : List ℕ) → x ≡ y → bytes_order (x ∷ xs) (y ∷ ys) ≡ bytes_order xs ys
step_same x y xs ys h = cond-false _ Less _ (le-ltb x y (omega arith)) ∙ cond-false _ Greater _ (le-ltb y x (omega arith))

lies : (xs ys : List ℕ) → AllByRecursion (λ x. x < 256) xs → AllByRecursion (λ y. y < 256) ys → length xs ≡ length ys → Lies xs ys
lies [] [] s t e = same refl refl
lies [] (y ∷ ys) s t e = absurd (omega arith)
lies (x ∷ xs) [] s t e = absurd (omega arith)
lies (x ∷ xs) (y ∷ ys) s t e = way (cases_order x y) (lies xs ys s.1 t.1 (omega arith))
  where
    way : (x ≡ y) ⊎ ((x < y) ⊎ (y < x)) → Lies xs ys → Lies (x ∷ xs) (y ∷ ys)
    way (inl h) (less o n) = less (step_same x y xs ys h ∙ o) (λ a. rw h (n (a * 256 + y)))
    way (inl h) (same p o) = same (cc) (step_same x y xs ys h ∙ o)
    way (inl h) (more o n) = more (step_same x y xs ys h ∙ o) (λ a. rw h (n (a * 256 + y)))
    way (inr (inl h)) _ = less (step_less x y xs ys h) (λ a. num_lt xs ys (a * 256 + x) (a * 256 + y) s.1 (omega arith) (omega arith))
    way (inr (inr h)) _ = more (step_more x y xs ys h) (λ a. num_lt ys xs (a * 256 + y) (a * 256 + x) t.1 (omega arith) (omega arith))

key_num : (l : Label) → key_of l ≡ num 0 (bytes_of l)
key_num l = omega arith

labels_lie : (l m : Label) → Lies (bytes_of l) (bytes_of m)
labels_lie l m = lies (bytes_of l) (bytes_of m) (lawful_small (bytes_of l) l.ok) (lawful_small (bytes_of m) m.ok) refl

-- different labels have different keys
pub same_key : (l m : Label) → key_of l ≡ key_of m → l ≡ m
same_key l m e = way (labels_lie l m)
  where
    way : Lies (bytes_of l) (bytes_of m) → l ≡ m
    way (less o n) = absurd (omega (arith, n 0, key_num l, key_num m))
    way (same p o) = same_label_lem l m p
    way (more o n) = absurd (omega (arith, n 0, key_num l, key_num m))

lower_key : (l m : Label) → Lower l m → key_of l < key_of m
lower_key l m q = way (labels_lie l m)
  where
    way : Lies (bytes_of l) (bytes_of m) → key_of l < key_of m
    way (less o n) = omega (arith, n 0, key_num l, key_num m)
    way (same p o) = let z : ◌≡◌ {A = ℕ} 0 1 = cc in absurd (omega arith)
    way (more o n) = let z : ◌≡◌ {A = ℕ} 0 1 = cc in absurd (omega arith)

key_lower : (l m : Label) → key_of l < key_of m → Lower l m
key_lower l m h = way (labels_lie l m)
  where
    way : Lies (bytes_of l) (bytes_of m) → Lower l m
    way (less o n) = o
    way (same p o) = absurd (omega (arith, key_num l, key_num m, ap (num 0) p))
    way (more o n) = absurd (omega (arith, n 0, key_num l, key_num m))

pub keys_follow : KeysFollow
keys_follow = record { order = λ l m. (lower_key l m, key_lower l m); apart = same_key }
