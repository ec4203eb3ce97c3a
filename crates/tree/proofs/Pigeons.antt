-- What maps the numbers below n into themselves and takes no value twice takes each.
use Rattle.std.proofs.Common.{◌≡◌, ℕ, zero, suc, ◌<◌, ◌≤◌, cond, eqb, sym, ◌∙◌, ⊎_elim, arith}
use Rattle.std.proofs.lemmas.Bool.{cases_lt, cases_eq, eq-eqb, ne_eqb, cond-true, cond-false}

abbrev pub Once : (ℕ → ℕ) → ℕ → Type 0
Once f n = (i j : ℕ) → i < n → j < n → f i ≡ f j → i ≡ j

abbrev pub Into : (ℕ → ℕ) → ℕ → ℕ → Type 0
Into f n m = (i : ℕ) → i < n → f i < m

pub each : (n : ℕ) (f : ℕ → ℕ) → Into f n n → Once f n → (x : ℕ) → x < n → (k : ℕ) × ((k < n) × (f k ≡ x))
each zero f into once x l = absurd (omega arith)
each (suc n) f into once x l =
    let m : ℕ = f n in
    let g : ℕ → ℕ = λ k. cond (eqb (f k) n) m (f k) in
    let at : (k : ℕ) → f k ≡ n → g k ≡ m = λ k e. cond-true (eqb (f k) n) m (f k) (eq-eqb (f k) n e) in
    let off : (k : ℕ) → (f k ≡ n → ⊥) → g k ≡ f k = λ k e. cond-false (eqb (f k) n) m (f k) (ne_eqb (f k) n e) in
    let apart : (k : ℕ) → k < n → f k ≡ m → ⊥ = λ k h e. omega (arith, once k n (omega arith) (omega arith) e) in
    let into' : Into g n n = λ k h.
    ⊎_elim
    (λ (e : f k ≡ n). omega (arith, at k e, into n (omega arith), apart k h))
    (λ (e : f k ≡ n → ⊥). omega (arith, off k e, into k (omega arith)))
    (cases_eq (f k) n) in
    let once' : Once g n = λ i j hi hj e.
    ⊎_elim
    (λ (p : f i ≡ n).
    ⊎_elim
    (λ (q : f j ≡ n). once i j (omega arith) (omega arith) (p ∙ sym q))
    (λ (q : f j ≡ n → ⊥). absurd (apart j hj (sym (off j q) ∙ sym e ∙ at i p)))
    (cases_eq (f j) n))
    (λ (p : f i ≡ n → ⊥).
    ⊎_elim
    (λ (q : f j ≡ n). absurd (apart i hi (sym (off i p) ∙ e ∙ at j q)))
    (λ (q : f j ≡ n → ⊥). once i j (omega arith) (omega arith) (sym (off i p) ∙ e ∙ off j q))
    (cases_eq (f j) n))
    (cases_eq (f i) n) in
    ⊎_elim
    (λ (here : m ≡ x). (n, (omega arith, here)))
    (λ (ne : m ≡ x → ⊥).
    ⊎_elim
    (λ (low : x < n).
    let k = each n g into' once' x low in
    ⊎_elim
    (λ (e : f k.0 ≡ n). absurd (ne (sym (at k.0 e) ∙ k.1.1)))
    (λ (e : f k.0 ≡ n → ⊥). (k.0, (omega arith, sym (off k.0 e) ∙ k.1.1)))
    (cases_eq (f k.0) n))
    (λ (high : n ≤ x).
    let k = each n g into' once' m (omega (arith, into n (omega arith))) in
    ⊎_elim
    (λ (e : f k.0 ≡ n). (k.0, (omega arith, omega arith)))
    (λ (e : f k.0 ≡ n → ⊥). absurd (apart k.0 k.1.0 (sym (off k.0 e) ∙ k.1.1)))
    (cases_eq (f k.0) n))
    (cases_lt x n))
    (cases_eq m x)

-- what maps the numbers below m to ones below n and takes no value twice: there are no more of them
pub at_most : (m n : ℕ) (f : ℕ → ℕ) → Into f m n → Once f m → m ≤ n
at_most m n f into once =
    ⊎_elim
    (λ (more : n < m).
    let k = each n f (λ i h. into i (omega arith)) (λ i j hi hj e. once i j (omega arith) (omega arith) e) (f n) (into n more) in
    absurd (omega (arith, once k.0 n (omega arith) more k.1.1)))
    (λ (le : m ≤ n). le)
    (cases_lt n m)
