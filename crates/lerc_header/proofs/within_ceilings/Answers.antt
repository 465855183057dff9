use native.Mathlib.Omega.{arith}
use Rattle.lerc_header.specs.Header.{within_ceilings}
use Rattle.lerc_header.proofs.Sizes.{product-fits}
use Rattle.lerc_header.proofs.Kept.{factors-fit}
use Rattle.lerc_header.proofs.within_ceilings.Goals as goal

pub overflow_mul-result : goal.overflow_mul-result
overflow_mul-result c =
    let a = c.args in
    record { fits = product-fits a.h.rows a.h.columns (omega arith) (omega arith) }

pub overflow_mul-result-then-factors : goal.overflow_mul-result-then-factors
overflow_mul-result-then-factors c = record { fits = factors-fit _ _ _ c.if-factors.true }

pub returns-then-factors : goal.returns-then-factors
unfolding within_ceilings
returns-then-factors c = rw c.if-factors.true

pub returns-else-factors : goal.returns-else-factors
unfolding within_ceilings
returns-else-factors c = rw c.if-factors.false
