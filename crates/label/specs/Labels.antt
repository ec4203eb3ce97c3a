-- A label as its eight bytes, and the label that bytes hold.
use Rattle.std.specs.Prelude.{◌≡◌, ℕ, ◌<◌, ◌≤◌, Bool, true, false, List, [], ◌∷◌, length, is_some, Some, None, Option, slice_index}
use Rattle.label.specs.Signs.{sign, lawful}
use Rattle.label.specs.declared.label.Label.{Label}

abbrev pub bytes_of : Label → List ℕ
bytes_of l = l.b0 ∷ l.b1 ∷ l.b2 ∷ l.b3 ∷ l.b4 ∷ l.b5 ∷ l.b6 ∷ l.b7 ∷ []

-- the value that f makes of a test that holds
abbrev pub passed : {X : Type 0} → (t : Bool) → (t ≡ true → X) → Option X
passed true f = Some (f (λ _. true))
passed false f = None

-- the label that stands in the bytes: eight, and lawful
abbrev pub label_of : List ℕ → Option Label
label_of [] = None
label_of (_ ∷ []) = None
label_of (_ ∷ _ ∷ []) = None
label_of (_ ∷ _ ∷ _ ∷ []) = None
label_of (_ ∷ _ ∷ _ ∷ _ ∷ []) = None
label_of (_ ∷ _ ∷ _ ∷ _ ∷ _ ∷ []) = None
label_of (_ ∷ _ ∷ _ ∷ _ ∷ _ ∷ _ ∷ []) = None
label_of (_ ∷ _ ∷ _ ∷ _ ∷ _ ∷ _ ∷ _ ∷ []) = None
label_of (a ∷ b ∷ c ∷ d ∷ e ∷ f ∷ g ∷ h ∷ []) =
    passed (lawful (a ∷ b ∷ c ∷ d ∷ e ∷ f ∷ g ∷ h ∷ []))
    (λ p. record { b0 = a; b1 = b; b2 = c; b3 = d; b4 = e; b5 = f; b6 = g; b7 = h; ok = p })
label_of (_ ∷ _ ∷ _ ∷ _ ∷ _ ∷ _ ∷ _ ∷ _ ∷ _ ∷ _) = None

-- eight bytes: the first `signs` of them, at least one, are sign bytes, and the others are blanks
pub record Shaped (bs : List ℕ) : Type 0 where
  pub eight : length bs ≡ 8
  pub signs : ℕ
  pub some : 1 ≤ signs
  pub most : signs ≤ 8
  pub front : (i : ℕ) → i < signs → sign (slice_index bs i) ≡ true
  pub back : (i : ℕ) → signs ≤ i → i < 8 → slice_index bs i ≡ 32

-- a label is read exactly from bytes of this shape
pub record ReadExactly (bs : List ℕ) (r : Option Label) : Type 0 where
  pub shaped : is_some r ≡ true → Shaped bs
  pub whole : Shaped bs → is_some r ≡ true

-- every label has this shape
pub record AllShaped : Type 0 where
  pub every : (l : Label) → Shaped (bytes_of l)

-- the label `0`, the station of a plan made without a file
abbrev pub zero_label : Label
zero_label = record { b0 = 48; b1 = 32; b2 = 32; b3 = 32; b4 = 32; b5 = 32; b6 = 32; b7 = 32; ok = λ _. true }
