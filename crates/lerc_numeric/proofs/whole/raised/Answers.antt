use native.Mathlib.Omega.{arith}
use Rattle.lerc_numeric.proofs.Integers.{modulus-ge, modulus-le}
use Rattle.lerc_numeric.proofs.WholeNumbers.{raised-none, raised-fits, raised-upper, raised-lower, raised-plain}
use Rattle.lerc_numeric.proofs.whole.raised.Goals as goal

pub returns-then-kind-ge6 : goal.returns-then-kind-ge6
returns-then-kind-ge6 c = raised-none _ _ c.if-kind-ge6.true

pub overflow_sub-v : goal.overflow_sub-v
overflow_sub-v c = omega (arith, c.modulus-m.ensures, modulus-ge c.args.kind)

pub overflow_add-result : goal.overflow_add-result
overflow_add-result c = record { fits = raised-fits _ c.args.w _ c.if-kind-ge6.false c.modulus-m.ensures }

pub overflow_sub-result : goal.overflow_sub-result
overflow_sub-result c = omega (arith, c.modulus-m.ensures, modulus-le _ c.if-kind-ge6.false)

pub overflow_add-result-else-kind-eq0 : goal.overflow_add-result-else-kind-eq0
overflow_add-result-else-kind-eq0 c = record { fits = raised-fits _ c.args.w _ c.if-kind-ge6.false c.modulus-m.ensures }

pub returns-then-m-v : goal.returns-then-m-v
returns-then-m-v c = raised-upper _ _ _ c.if-kind-ge6.false c.modulus-m.ensures c.if-kind-eq0.true c.if-m-v.true

pub returns-else-m-v : goal.returns-else-m-v
returns-else-m-v c = raised-lower _ _ _ c.if-kind-ge6.false c.modulus-m.ensures c.if-m-v.false

pub returns-else-kind-eq0 : goal.returns-else-kind-eq0
returns-else-kind-eq0 c = raised-plain _ _ _ c.if-kind-ge6.false c.modulus-m.ensures c.if-kind-eq0.false
