-- What a line does while rounds are left, and past the last one.
use Rattle.std.specs.Prelude.{◌≡◌, ℕ, zero, suc, ◌-◌}
use Rattle.std.proofs.Common.{arith}

-- by how many rounds are left before a round: where one is, what it makes, by how many are left after it; else what there was
abbrev pub while_left : {A : Type 0} → A → (ℕ → A) → ℕ → A
while_left past next zero = past
while_left past next (suc l) = next l

-- what holds past the last round and after every round
pub left_cases : {A : Type 0} (P : A → Type 0) (past : A) (next : ℕ → A) (l : ℕ) → P past → ((k : ℕ) → P (next k)) → P (while_left past next l)
left_cases P past next zero h f = h
left_cases P past next (suc l) h f = f l

pub left_less : {A : Type 0} (left : A → ℕ) (past : A) (next : ℕ → A) (l : ℕ) → left past ≡ l → ((k : ℕ) → left (next k) ≡ k) → left (while_left past next l) ≡ l - 1
left_less left past next zero e f = e
left_less left past next (suc l) e f = omega (arith, f l)
