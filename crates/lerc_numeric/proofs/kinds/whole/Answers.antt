use native.Mathlib.Omega.{arith}
use Rattle.lerc_numeric.proofs.Integers.{whole-zero, whole-some}
use Rattle.lerc_numeric.proofs.kinds.whole.Goals as goal

pub returns-then-e-le1010 : goal.returns-then-e-le1010
returns-then-e-le1010 c = whole-zero _ _ c.exponent-e.ensures c.if-e-le1010.true

pub returns-else-e-le1010 : goal.returns-else-e-le1010
returns-else-e-le1010 c = whole-some _ _ _ c.significand.ensures c.exponent-e.ensures (omega (arith, c.exponent-e.ensures, c.requires))
