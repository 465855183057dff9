use native.Mathlib.Omega.{arith}
use Prim.Native.Nat.{◌<◌}
use Rattle.lerc_numeric.specs.Numeric.{field, negative}
use Rattle.lerc_numeric.proofs.Integers.{modulus-ge, bound-le, cut-kind, cut-large, cut_out, cut-pos, cut-neg}
use Rattle.lerc_numeric.proofs.to_integer.Goals as goal

pub returns-then-kind-ge6 : goal.returns-then-kind-ge6
returns-then-kind-ge6 c = cut-kind _ _ c.if-kind-ge6.true

pub returns-then-exponent-ge1074 : goal.returns-then-exponent-ge1074
returns-then-exponent-ge1074 c = cut-large _ _ _ c.exponent.ensures c.if-kind-ge6.false c.if-exponent-ge1074.true

pub returns-then-bound-q : goal.returns-then-bound-q
returns-then-bound-q c = cut_out _ _ _ _ c.whole-q.ensures c.bound.ensures c.if-bound-q.true

pub overflow_sub-result : goal.overflow_sub-result
overflow_sub-result c =
    omega (arith, c.bound.ensures, c.modulus-m.ensures, bound-le c.args.kind (negative c.args.v))

pub nonzero_rem-result : goal.nonzero_rem-result
nonzero_rem-result c = omega (arith, c.modulus-m.ensures, modulus-ge c.args.kind)

pub returns-then-v-lt9223372036854775808 : goal.returns-then-v-lt9223372036854775808
returns-then-v-lt9223372036854775808 c =
    let f : field c.args.v < 2047 = omega (arith, c.exponent.ensures) in
    cut-pos _ _ _ _ c.whole-q.ensures c.bound.ensures c.if-kind-ge6.false f c.if-bound-q.false c.if-v-lt9223372036854775808.true

pub returns-else-v-lt9223372036854775808 : goal.returns-else-v-lt9223372036854775808
returns-else-v-lt9223372036854775808 c =
    let f : field c.args.v < 2047 = omega (arith, c.exponent.ensures) in
    cut-neg _ _ _ _ c.whole-q.ensures c.bound.ensures c.if-kind-ge6.false f c.if-bound-q.false c.if-v-lt9223372036854775808.false _ c.modulus-m.ensures
