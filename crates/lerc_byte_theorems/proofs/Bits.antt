-- Bits one by one.
-- Assumes nothing.
use mathlib.Core.Path.{◌≡◌}
use Prim.Native.Nat.{◌+◌, ◌-◌, ◌*◌, ◌/◌, ◌%◌}
use native.Mathlib.Omega.{arith}
use native.Mathlib.Nat.{mod-one}
use lib.Pow.{shr-shr, high}
use Rattle.lerc_words.specs.Res.{little}
use Rattle.lerc_byte_image.specs.Table.{two_words, bits_at}
use Rattle.lerc_byte_image.proofs.BitLaws.{word_lt}
use Rattle.lerc_byte_theorems.specs.Images.{NoBits, OneBit}

pub no_bits : NoBits
unfolding bits_at
no_bits s at p = mod-one _

pub one_bit : OneBit
unfolding bits_at
one_bit s at p b =
    let e : 64 - p % 32 - 1 ≡ 32 + (31 - p % 32) = omega arith in
    rw (e, ← shr-shr (two_words s at p) 32 (31 - p % 32), high (little 4 s (at + p / 32 * 4)) 32 (word_lt s (at + p / 32 * 4 + 4) b))
