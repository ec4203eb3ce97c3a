-- How the values of a kind stand in slots.
use Rattle.std.specs.Prelude.{◌≡◌, ℕ, ◌≤◌, List, length, Some, None, Option}

pub record Coding (K : Type 0) : Type 0 where
  -- the width of a slot in bytes
  pub wide : ℕ
  -- the value in a slot's bytes; none where the slot is missing
  pub reads : List ℕ → Option K
  pub writes : K → List ℕ
  -- a missing slot's bytes
  pub blank : List ℕ

-- What every kind owes: a value that is written is read again, a missing slot reads as missing, and all slots have one
-- width, of 1 to 8 bytes.
pub record Lawful {K : Type 0} (c : Coding K) : Type 0 where
  pub written : (x : K) → c.reads (c.writes x) ≡ Some x
  pub missing : c.reads c.blank ≡ None
  pub long : (x : K) → length (c.writes x) ≡ c.wide
  pub empty : length c.blank ≡ c.wide
  pub some : 1 ≤ c.wide
  pub narrow : c.wide ≤ 8
