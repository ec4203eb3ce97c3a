-- Whether some honest unit passes a test.
use Rattle.std.specs.Prelude.{◌≡◌, ℕ, zero, suc, Bool, true, false, ◌&&◌, ◌||◌, List, [], ◌∷◌}
use Rattle.std.proofs.Common.{sym, ◌∙◌, ⊎_elim}
use Rattle.std.proofs.lemmas.Bool.{cases_Bool, true≢false, false≢true, and_from, and_parts, or_left, or_right, or_cases}
use Rattle.wire.specs.Units.{Honest}

pub some_honest : List Bool → (ℕ → Bool) → Bool
some_honest [] q = false
some_honest (h ∷ hs) q = (h && q 0) || some_honest hs (λ i. q (suc i))

some_is : (hs : List Bool) (q : ℕ → Bool) (i : ℕ) → Honest hs i → q i ≡ true → some_honest hs q ≡ true
unfolding some_honest
some_is [] q i s e = absurd (false≢true s)
some_is (h ∷ hs) q zero s e = or_left (h && q 0) (some_honest hs (λ i. q (suc i))) (and_from h (q 0) s e)
some_is (h ∷ hs) q (suc i) s e = or_right (h && q 0) (some_honest hs (λ i. q (suc i))) (some_is hs (λ i. q (suc i)) i s e)

pub some_has : (hs : List Bool) (q : ℕ → Bool) → some_honest hs q ≡ true → (i : ℕ) × Honest hs i × (q i ≡ true)
unfolding some_honest
some_has [] q e = absurd (false≢true e)
some_has (h ∷ hs) q e =
    ⊎_elim
    (λ a. let b = and_parts h (q 0) a in (0, b.0, b.1))
    (λ a. let r = some_has hs (λ i. q (suc i)) a in (suc r.0, r.1, r.2))
    (or_cases (h && q 0) (some_honest hs (λ i. q (suc i))) e)

pub some_none : (hs : List Bool) (q : ℕ → Bool) → some_honest hs q ≡ false → (i : ℕ) → Honest hs i → q i ≡ false
some_none hs q e i s = ⊎_elim (λ t. absurd (true≢false (sym (some_is hs q i s t) ∙ e))) (λ f. f) (cases_Bool (q i))
