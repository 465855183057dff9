use Prim.Native.Nat.{◌≤◌, ◌<◌, ◌*◌, min}
use mathlib.Core.Path.{◌≡◌}
use native.Mathlib.Omega.{arith}
use lib.Pow.{pow_pos}
use Rattle.lerc_words.proofs.Little.{Bytes, little-word, unit}
use Rattle.lerc_words.proofs.bytes.Goals as goal

pub returns-then-size-ge8 : goal.returns-then-size-ge8
returns-then-size-ge8 c = let a = c.args in let e : min a.size 8 ≡ 8 = omega arith in rw (e) c.peek-v.ensures

pub nonzero_rem-result : goal.nonzero_rem-result
nonzero_rem-result c = let a = c.args in let h : 8 * a.size < 64 = omega arith in rw (unit (8 * a.size) h) (pow_pos (8 * a.size))

pub returns : goal.returns
returns c =
    let a = c.args in
    let s = a.s.now in
    let h : 8 * a.size < 64 = omega arith in
    let b : Bytes s = λ i. omega (arith, c.type_inv.s i) in
    let k : a.size ≤ 8 = omega arith in
    let e : min a.size 8 ≡ a.size = omega arith in
    rw (c.peek-v.ensures, unit (8 * a.size) h, little-word a.size s a.at b k, e)
