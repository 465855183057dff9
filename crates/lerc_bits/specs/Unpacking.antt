-- What private functions promise; not part of the rules.
-- Assumes nothing.
use Rattle.std.specs.Prelude.{ℕ, cond, List, ◌++◌, drop, eqb}
use Rattle.lerc_bits.specs.declared.Plan.{Plan}
use Rattle.lerc_words.specs.Res.{little}
use Rattle.lerc_bits.specs.Bits.{run_bytes, digits}

-- the first k values of a run of n stand in front, and the entries behind them keep what they held
unfoldable pub begun : List ℕ → ℕ → ℕ → ℕ → ℕ → List ℕ → List ℕ
begun s at n bits k old = digits (little (run_bytes n bits) s at) k bits ++ drop k old

-- the width of each value that a plan leads to: of a table that of its entries
abbrev pub value_bits : Plan → ℕ
value_bits p = cond (eqb p.entries 0) p.width p.bits
