-- What positions owe as a kind of value, and what is said of two of them.
use Rattle.std.specs.Prelude.{◌≡◌, ◌+◌, ◌*◌, ◌/◌, ◌%◌, Bool, Some, Decides}
use Rattle.std.proofs.Common.{sym, ap, ◌∙◌, eqb, arith}
use Rattle.std.proofs.lemmas.Bool.{eqb-true, eq-eqb}
use Rattle.label.proofs.Reading.{passed_true}
use Rattle.slot.specs.Ranges.{in_range}
use Rattle.slot.specs.Positions.{position_at, position_of, position_bytes}
use Rattle.slot.specs.declared.position.Position.{Position}

pub position_at_lem : (p : Position) → position_at p.value ≡ Some p
position_at_lem p = sym (passed_true (in_range p.value) (λ q. record { value = p.value; ok = q }) p.ok)

pub read_written : (p : Position) → position_of (position_bytes p) ≡ Some p
read_written p =
    let e : 256 * (p.value / 256) + p.value % 256 ≡ p.value = omega arith in
    ap position_at e ∙ position_at_lem p

pub same_position : (p q : Position) → p.value ≡ q.value → p ≡ q
same_position p q e =
    let a = position_at_lem p in
    let b = position_at_lem q in
    let r = ap position_at e in
    cc

-- whether the numbers are the same tells whether the positions are
pub same_number : (p q : Position) (r : Bool) → r ≡ eqb p.value q.value → Decides r (p ≡ q)
same_number p q r h = (λ e. same_position p q (eqb-true _ _ (sym h ∙ e)), λ e. h ∙ eq-eqb _ _ (ap (λ (x : Position). x.value) e))
