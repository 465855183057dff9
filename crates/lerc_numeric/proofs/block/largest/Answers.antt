use Prim.Native.Nat.{◌^◌, ◌≤◌, min}
use mathlib.Core.Path.{◌≡◌}
use native.Mathlib.Omega.{arith}
use lib.Pow.{pow_pos, pow_mono}
use Rattle.lerc_words.proofs.Little.{unit}
use Rattle.lerc_numeric.proofs.block.largest.Goals as goal

pub overflow_sub-result : goal.overflow_sub-result
overflow_sub-result c = let b = c.args.bits in rw (unit b (omega arith)) (pow_pos b)

pub overflow_cast-result : goal.overflow_cast-result
overflow_cast-result c =
    let b = c.args.bits in
    let l : 2 ^ b ≤ 2 ^ 32 = pow_mono {j = 32} (omega arith) in
    record { fits = rw (unit b (omega arith)) (omega (arith, pow_pos b)) }

pub returns-then-bits-lt32 : goal.returns-then-bits-lt32
returns-then-bits-lt32 c =
    let b = c.args.bits in
    let e : min b 32 ≡ b = omega arith in
    rw (unit b (omega arith), e)

pub returns-else-bits-lt32 : goal.returns-else-bits-lt32
returns-else-bits-lt32 c =
    let b = c.args.bits in
    let e : min b 32 ≡ 32 = omega arith in
    rw (e)
