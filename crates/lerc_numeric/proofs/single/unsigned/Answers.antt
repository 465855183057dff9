use native.Mathlib.Omega.{arith}
use Rattle.lerc_numeric.proofs.Binary32.{narrow-top, narrow-inf, narrow-normal, narrow-fits, narrow-zero, narrow-small}
use Rattle.lerc_numeric.proofs.single.unsigned.Goals as goal

pub returns-then-v-eq2047 : goal.returns-then-v-eq2047
returns-then-v-eq2047 c = narrow-top c.args.v c.if-v-eq2047.true

pub overflow_add-result-else-e-ge254 : goal.overflow_add-result-else-e-ge254
overflow_add-result-else-e-ge254 c =
    record { fits = omega (arith, narrow-fits _ _ _ c.significand-m.ensures c.exponent-e.ensures c.if-v-eq2047.false _ c.if-e-ge896.true c.nearest.ensures) }

pub returns-then-e-ge254 : goal.returns-then-e-ge254
returns-then-e-ge254 c =
    narrow-inf _ _ _ c.significand-m.ensures c.exponent-e.ensures c.if-v-eq2047.false c.if-e-ge896.true c.if-e-ge254.true

pub returns-else-e-ge254 : goal.returns-else-e-ge254
returns-else-e-ge254 c =
    narrow-normal _ _ _ c.significand-m.ensures c.exponent-e.ensures c.if-v-eq2047.false _ c.if-e-ge896.true c.nearest.ensures c.if-e-ge254.false

pub returns-then-e-le861 : goal.returns-then-e-le861
returns-then-e-le861 c =
    narrow-zero _ _ _ c.significand-m.ensures c.exponent-e.ensures c.if-v-eq2047.false c.if-e-ge896.false c.if-e-le861.true

pub returns-else-e-le861 : goal.returns-else-e-le861
returns-else-e-le861 c =
    narrow-small _ _ _ c.significand-m.ensures c.exponent-e.ensures c.if-v-eq2047.false _ c.if-e-ge896.false c.nearest-else-e-le861.ensures
