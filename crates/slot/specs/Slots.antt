-- Laying a slot's bytes into a buffer.
use Rattle.std.specs.Prelude.{ℕ, cond, List, ◌++◌, length, drop, nat_le}

-- the bytes at the start and what stands behind them kept, where there is room for them
abbrev pub laid : List ℕ → List ℕ → List ℕ
laid bytes out = cond (nat_le (length bytes) (length out)) (bytes ++ drop (length bytes) out) out
