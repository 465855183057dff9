-- Steps by whole numbers: which errors make one, and a word of a kind of integers as a number that is not negative.
-- Assumes nothing.
use Rattle.std.specs.Prelude.{not, ◌&&◌, cond, ℕ, ◌+◌, ◌-◌, ◌*◌, ◌/◌, ◌%◌, ◌^◌, leb, ltb, eqb}
use Rattle.lerc_numeric.specs.Numeric.{negative, mag}
use Rattle.lerc_numeric.specs.Kinds.{modulus, signed_kind}

-- twice the number w, where that is a whole number from 1 to 2 ^ 20, else 0: 1 is 2 ^ 1074 units
unfoldable pub twice_whole : ℕ → ℕ
twice_whole w =
    let q = mag w * 2 / 2 ^ 1074 in
    cond (not (negative w) && eqb (q * 2 ^ 1074) (mag w * 2) && leb q (2 ^ 20)) q 0

-- the whole number that a word of a kind of integers stands for, 2 ^ 32 more, so that none is negative; other kinds have none: 0
unfoldable pub raised : ℕ → ℕ → ℕ
raised kind w =
    let v = w % modulus kind in
    cond (ltb kind 6) (2 ^ 32 + v - cond (signed_kind kind && leb (modulus kind / 2) v) (modulus kind) 0) 0
