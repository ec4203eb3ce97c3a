-- What a label shows, one byte after the other.
use Rattle.std.proofs.Common.{◌≡◌, ℕ, ◌+◌, ◌<◌, List, [], ◌∷◌, ◌++◌, length, get_or, take, sym, refl, ap, ◌∙◌}
use Rattle.std.proofs.lemmas.List.{take_more, append_assoc, append-nil}
use Rattle.label.specs.Shown.{shown_byte, shown_bytes}

shown_append : (xs ys : List ℕ) → shown_bytes (xs ++ ys) ≡ shown_bytes xs ++ shown_bytes ys
shown_append [] ys = refl
shown_append (x ∷ xs) ys = ap (λ zs. shown_byte x ++ zs) (shown_append xs ys) ∙ sym (append_assoc (shown_byte x) (shown_bytes xs) (shown_bytes ys))

pub shown_more : (bs : List ℕ) (i : ℕ) → i < length bs → shown_bytes (take i bs) ++ shown_byte (get_or bs i 0) ≡ shown_bytes (take (i + 1) bs)
shown_more bs i h =
    let last : shown_bytes (get_or bs i 0 ∷ []) ≡ shown_byte (get_or bs i 0) = append-nil (shown_byte (get_or bs i 0)) in
    ap (λ zs. shown_bytes (take i bs) ++ zs) (sym last) ∙ sym (shown_append (take i bs) (get_or bs i 0 ∷ [])) ∙ ap shown_bytes (sym (take_more bs i 0 h))
