-- What holds of each element of a list, by recursion on the list.
use Rattle.std.proofs.Common.{ℕ, zero, suc, ◌<◌, List, [], ◌∷◌, ◌++◌, length, get_or, arith}
use Rattle.std.specs.List.{AllByRecursion}

pub AllByRecursion-append : {X : Type 0} (P : X → Type 0) → (xs ys : List X) → AllByRecursion P xs → AllByRecursion P ys → AllByRecursion P (xs ++ ys)
AllByRecursion-append P [] ys a b = b
AllByRecursion-append P (x ∷ xs) ys a b = (a.0, AllByRecursion-append P xs ys a.1 b)

pub AllByRecursion-weaker : {X : Type 0} (P Q : X → Type 0) → ((x : X) → P x → Q x) → (xs : List X) → AllByRecursion P xs → AllByRecursion Q xs
AllByRecursion-weaker P Q f [] a = tt
AllByRecursion-weaker P Q f (x ∷ xs) a = (f x a.0, AllByRecursion-weaker P Q f xs a.1)

pub AllByRecursion-get_or : {X : Type 0} (P : X → Type 0) → (xs : List X) (i : ℕ) (d : X) → i < length xs → AllByRecursion P xs → P (get_or xs i d)
AllByRecursion-get_or P [] i d l a = absurd (omega arith)
AllByRecursion-get_or P (x ∷ xs) zero d l a = a.0
AllByRecursion-get_or P (x ∷ xs) (suc i) d l a = AllByRecursion-get_or P xs i d (omega arith) a.1
