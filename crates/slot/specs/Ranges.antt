-- The numbers of positions.
use Rattle.std.specs.Prelude.{◌≡◌, ℕ, min, max, Bool, true, ◌&&◌, nat_le}
use Rattle.std.proofs.Common.{arith}
use Rattle.std.proofs.lemmas.Bool.{le-leb, and_from}

abbrev pub in_range : ℕ → Bool
in_range n = nat_le 1 n && nat_le n 2047

-- the nearer end of 1 to top, where a number lies outside
abbrev pub cut : ℕ → ℕ → ℕ
cut top x = min top (max 1 x)

pub cut_in_range : (x : ℕ) → in_range (cut 2047 x) ≡ true
cut_in_range x = and_from (nat_le 1 (cut 2047 x)) (nat_le (cut 2047 x) 2047) (le-leb 1 (cut 2047 x) (omega arith)) (le-leb (cut 2047 x) 2047 (omega arith))
