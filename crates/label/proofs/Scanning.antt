-- A scan ends well just where the bytes are lawful.
use Rattle.std.proofs.Common.{◌≡◌, ℕ, Bool, true, false, cond, ◌&&◌, List, [], ◌∷◌, fold, refl}
use Rattle.label.specs.Scans.{next, ends}
use Rattle.label.specs.Signs.{sign, blank, blanks, signs_then_blanks, lawful}
use Rattle.label.specs.declared.scan.Scan.{Scan}
use Rattle.label.specs.declared.scan.Scan.TheVariants.{Start, Signs, Blanks, Broken}

-- how the scan of bs ends that starts at s
abbrev ended : Scan → List ℕ → Bool
ended s bs = ends (fold next s bs)

ended_broken : (bs : List ℕ) → ended Broken bs ≡ false
ended_broken [] = refl
ended_broken (b ∷ bs) = ended_broken bs

ended_blanks : (bs : List ℕ) → ended Blanks bs ≡ blanks bs
ended_blanks [] = refl
ended_blanks (b ∷ bs) = way (blank b) (ended_blanks bs)
  where
    way : (t : Bool) → ended Blanks bs ≡ blanks bs → ended (cond t Blanks Broken) bs ≡ (t && blanks bs)
    way true rest = rest
    way false rest = ended_broken bs

ended_signs : (bs : List ℕ) → ended Signs bs ≡ signs_then_blanks bs
ended_signs [] = refl
ended_signs (b ∷ bs) = way (sign b) (blank b) (ended_signs bs)
  where
    way : (s t : Bool) → ended Signs bs ≡ signs_then_blanks bs
        → ended (cond s Signs (cond t Blanks Broken)) bs ≡ cond s (signs_then_blanks bs) (t && blanks bs)
    way true t rest = rest
    way false true rest = ended_blanks bs
    way false false rest = ended_broken bs

pub scan_lawful : (bs : List ℕ) → ends (fold next Start bs) ≡ lawful bs
scan_lawful [] = refl
scan_lawful (b ∷ bs) = way (sign b)
  where
    way : (s : Bool) → ended (cond s Signs Broken) bs ≡ (s && signs_then_blanks bs)
    way true = ended_signs bs
    way false = ended_broken bs
