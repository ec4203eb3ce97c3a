-- The scan of a label's bytes, one after the other.
use Rattle.std.specs.Prelude.{ℕ, Bool, true, false, cond}
use Rattle.label.specs.Signs.{sign, blank}
use Rattle.label.specs.declared.scan.Scan.{Scan}
use Rattle.label.specs.declared.scan.Scan.TheVariants.{Start, Signs, Blanks, Broken}

abbrev pub next : Scan → ℕ → Scan
next Start b = cond (sign b) Signs Broken
next Signs b = cond (sign b) Signs (cond (blank b) Blanks Broken)
next Blanks b = cond (blank b) Blanks Broken
next Broken b = Broken

abbrev pub ends : Scan → Bool
ends Start = false
ends Signs = true
ends Blanks = true
ends Broken = false
