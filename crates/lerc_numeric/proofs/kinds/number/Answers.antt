use native.Mathlib.Omega.{arith}
use native.Mathlib.Nat.{mod-lt}
use Prim.Native.Nat.{◌<◌}
use Rattle.lerc_numeric.proofs.Integers.{modulus-ge, value-int, value-six, value-last}
use Rattle.lerc_numeric.proofs.kinds.number.Goals as goal

pub nonzero_rem-v : goal.nonzero_rem-v
nonzero_rem-v c = omega (arith, c.modulus.ensures, modulus-ge c.args.kind)

pub integer-requires : goal.integer-requires
integer-requires c =
    let p : 0 < c.modulus.result = omega (arith, c.modulus.ensures, modulus-ge c.args.kind) in
    record { kind_bound = c.if-kind-lt6.true; v_bound = omega (arith, c.modulus.ensures, mod-lt c.args.v p) }

pub returns-then-kind-lt6 : goal.returns-then-kind-lt6
returns-then-kind-lt6 c = value-int _ c.args.v _ _ c.modulus.ensures c.if-kind-lt6.true c.integer.ensures

pub returns-then-kind-eq6 : goal.returns-then-kind-eq6
returns-then-kind-eq6 c = value-six _ c.args.v _ c.if-kind-eq6.true c.widen.ensures

pub returns-else-kind-eq6 : goal.returns-else-kind-eq6
returns-else-kind-eq6 c = value-last _ _ c.if-kind-lt6.false c.if-kind-eq6.false c.ranges.v.fits
