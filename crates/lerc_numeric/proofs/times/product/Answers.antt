use native.Mathlib.Omega.{arith}
use Rattle.lerc_numeric.proofs.Product.{low_fits, high_fits, top-fits, product-none, product-some}
use Rattle.lerc_numeric.proofs.times.product.Goals as goal

pub overflow_mul-p : goal.overflow_mul-p
overflow_mul-p c = record { fits = low_fits _ _ _ _ c.low.ensures c.requires.1 c.requires.2 }

pub overflow_mul-top : goal.overflow_mul-top
overflow_mul-top c = record { fits = high_fits _ _ c.args.i _ c.low.ensures c.requires.0 }

pub overflow_add-top : goal.overflow_add-top
overflow_add-top c = record { fits = top-fits _ _ c.args.i _ c.low.ensures c.requires.0 }

pub overflow_add-result : goal.overflow_add-result
overflow_add-result c =
    let h = top-fits _ _ c.args.i _ c.low.ensures c.requires.0 in
    record { fits = omega (arith, h) }

pub returns-then-r-eq0 : goal.returns-then-r-eq0
returns-then-r-eq0 c =
    product-none _ _ c.args.i _ c.low.ensures _ c.low-r.ensures c.if-r-eq0.true

pub returns-else-r-eq0 : goal.returns-else-r-eq0
returns-else-r-eq0 c =
    product-some _ _ c.args.i _ c.low.ensures _ c.low-r.ensures c.if-r-eq0.false
