use Prim.Native.Nat.{◌<◌, ◌*◌, min}
use mathlib.Core.Path.{◌≡◌}
use native.Mathlib.Omega.{arith}
use lib.Pow.{pow_pos}
use Rattle.lerc_words.proofs.Little.{unit}
use Rattle.lerc_words.proofs.low_bits.Goals as goal

pub overflow_sub-result : goal.overflow_sub-result
overflow_sub-result c = let a = c.args in let h : 8 * a.size < 64 = omega arith in rw (unit (8 * a.size) h) (pow_pos (8 * a.size))

pub returns-then-size-lt8 : goal.returns-then-size-lt8
returns-then-size-lt8 c =
    let a = c.args in
    let h : 8 * a.size < 64 = omega arith in
    let e : min a.size 8 ≡ a.size = omega arith in
    rw (unit (8 * a.size) h, e)

pub returns : goal.returns
returns c = let e : min c.args.size 8 ≡ 8 = omega arith in rw (e)
