-- Counting and voting.
use Rattle.std.proofs.Common.{◌≡◌, ℕ, ◌+◌, ◌≤◌, Bool, true, false, cond, not, leb, ◌⊎◌, List, [], ◌∷◌, length, Some, None, Decides, Option, sym, refl, ap, ◌∙◌, inl, inr, ⊎_elim, true≢false, arith}
use Rattle.std.specs.Option.{option_eq}
use Rattle.std.specs.Str.{bytes_eq}
use Rattle.std.proofs.lemmas.Slice.Eq.{bytes_eq-Decides}
use Rattle.std.proofs.lemmas.Bool.{cases_Bool, leb-true, le-leb, and_parts, and_from, not-true, not_from_false}
use Rattle.std.proofs.lemmas.Bool.Decides.{same_from_decides, Decides-like}
use Rattle.slot.specs.Codings.{Coding, Lawful}
use Rattle.wire.specs.Slots.{holds, count, or_else, first_with, reaches, vote}
use Rattle.wire.specs.Votes.{Voted}
use Rattle.wire.proofs.Counts.{one, count_cons, apart}

module _ {K : Type 0} (c : Coding K) (l : Lawful c) where
  pub writes_apart : (x y : K) → c.writes x ≡ c.writes y → x ≡ y
  writes_apart x y e =
      let a = l.written x in
      let b = l.written y in
      let r = ap c.reads e in
      cc

  -- values are told apart by what is written
  pub same_is : (x y : K) (r : Bool) → Decides r (x ≡ y) → r ≡ bytes_eq (c.writes x) (c.writes y)
  same_is x y r h = same_from_decides r (bytes_eq (c.writes x) (c.writes y)) h
      (Decides-like (bytes_eq (c.writes x) (c.writes y)) (writes_apart x y) (ap c.writes) (bytes_eq-Decides (c.writes x) (c.writes y)))

  -- and slots by them
  pub same_option : (eq : K → K → Bool) → ((x y : K) (r : Bool) → r ≡ eq x y → Decides r (x ≡ y)) → (v : K) (o : Option K) → option_eq eq o (Some v) ≡ holds c v o
  same_option eq h v None = refl
  same_option eq h v (Some w) = same_is w v (eq w v) (h w v (eq w v) refl)

  pub cases_same : (v w : K) → (v ≡ w) ⊎ (v ≡ w → ⊥)
  cases_same v w =
      ⊎_elim (λ t. inl (writes_apart v w ((bytes_eq-Decides (c.writes v) (c.writes w)).0 t)))
      (λ f. inr (λ e. true≢false (sym ((bytes_eq-Decides (c.writes v) (c.writes w)).1 (ap c.writes e)) ∙ f)))
      (cases_Bool (bytes_eq (c.writes v) (c.writes w)))

  pub holds_is : (v : K) (o : Option K) → holds c v o ≡ true → o ≡ Some v
  holds_is v None h = absurd (true≢false (sym h))
  holds_is v (Some w) h = ap Some (writes_apart w v ((bytes_eq-Decides (c.writes w) (c.writes v)).0 h))

  pub holds_self : (v : K) → holds c v (Some v) ≡ true
  holds_self v = (bytes_eq-Decides (c.writes v) (c.writes v)).1 refl

  -- two values share the places
  pub two_values : (v w : K) → (v ≡ w → ⊥) → (col : List (Option K)) → count c v col + count c w col ≤ length col
  two_values v w ne = apart (holds c v) (holds c w) (λ o hv hw. ne (
      let a = holds_is v o hv in
      let b = holds_is w o hw in
      cc))

  -- what first_with gives passes the test, and is held
  pick_says : (p : K → Bool) (w v : K) (rest : Option K) → (rest ≡ Some v → p v ≡ true) → (s : Bool) → p w ≡ s → or_else (cond s (Some w) None) rest ≡ Some v → p v ≡ true
  pick_says p w v rest later true ps e = cc
  pick_says p w v rest later false ps e = later e

  first_says : (p : K → Bool) (v : K) (xs : List (Option K)) → first_with p xs ≡ Some v → p v ≡ true
  first_says p v [] e = let z : ◌≡◌ {A = ℕ} 0 1 = cc in absurd (omega arith)
  first_says p v (None ∷ xs) e = first_says p v xs e
  first_says p v (Some w ∷ xs) e = pick_says p w v (first_with p xs) (first_says p v xs) (p w) refl e

  pick_held : (p : K → Bool) (w v : K) (xs : List (Option K)) → (first_with p xs ≡ Some v → 1 ≤ count c v xs)
      → (s : Bool) → or_else (cond s (Some w) None) (first_with p xs) ≡ Some v → 1 ≤ count c v (Some w ∷ xs)
  pick_held p w v xs later true e =
      let same : w ≡ v = cc in
      omega (arith, count_cons (holds c v) (Some w) xs, ap one (ap (λ x. holds c v (Some x)) same ∙ holds_self v))
  pick_held p w v xs later false e = omega (arith, count_cons (holds c v) (Some w) xs, later e)

  first_held : (p : K → Bool) (v : K) (xs : List (Option K)) → first_with p xs ≡ Some v → 1 ≤ count c v xs
  first_held p v [] e = let z : ◌≡◌ {A = ℕ} 0 1 = cc in absurd (omega arith)
  first_held p v (None ∷ xs) e = omega (arith, count_cons (holds c v) None xs, first_held p v xs e)
  first_held p v (Some w ∷ xs) e = pick_held p w v xs (first_held p v xs) (p w) e

  -- where it gives nothing, no value that passes is held
  pick_none : (p : K → Bool) (w v : K) (xs : List (Option K)) → p v ≡ true → (first_with p xs ≡ None → count c v xs ≡ 0)
      → (s : Bool) → p w ≡ s → or_else (cond s (Some w) None) (first_with p xs) ≡ None → count c v (Some w ∷ xs) ≡ 0
  pick_none p w v xs pv later true ps e = let z : ◌≡◌ {A = ℕ} 0 1 = cc in absurd (omega arith)
  pick_none p w v xs pv later false ps e =
      ⊎_elim (λ t. let i = holds_is v (Some w) t in let q : true ≡ false = cc in absurd (true≢false q))
      (λ f. omega (arith, count_cons (holds c v) (Some w) xs, ap one f, later e))
      (cases_Bool (holds c v (Some w)))

  first_none : (p : K → Bool) (v : K) → p v ≡ true → (xs : List (Option K)) → first_with p xs ≡ None → count c v xs ≡ 0
  first_none p v pv [] e = refl
  first_none p v pv (None ∷ xs) e = omega (arith, count_cons (holds c v) None xs, first_none p v pv xs e)
  first_none p v pv (Some w ∷ xs) e = pick_none p w v xs pv (first_none p v pv xs) (p w) refl e

  module _ (q : ℕ) (out : Option K) (col : List (Option K)) where
    says : (r : Option K) → vote c q out col ≡ r → (v : K) → r ≡ Some v → (not (holds c v out) ≡ true) × (leb q (count c v col) ≡ true)
    says r e v s = and_parts (not (holds c v out)) (leb q (count c v col)) (first_says (reaches c q col out) v col (e ∙ s))

    pub voted : (r : Option K) → r ≡ vote c q out col → Voted c q out col r
    voted r e = record {
      enough = λ v s. leb-true q (count c v col) (says r (sym e) v s).1;
      held = λ v s. first_held (reaches c q col out) v col (sym e ∙ s);
      other = λ v s o. true≢false (sym (ap (holds c v) o ∙ holds_self v) ∙ not-true (holds c v out) (says r (sym e) v s).0);
      none = λ s v many some.
          ⊎_elim (λ t. holds_is v out t)
          (λ f. absurd (omega (arith, some, first_none (reaches c q col out) v (and_from (not (holds c v out)) (leb q (count c v col)) (not_from_false (holds c v out) f) (le-leb q (count c v col) many)) col (sym e ∙ s))))
          (cases_Bool (holds c v out));
    }
