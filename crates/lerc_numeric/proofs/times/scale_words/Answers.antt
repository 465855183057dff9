use native.Mathlib.Omega.{arith}
use Rattle.lerc_numeric.proofs.Magnitude.{weight-fits}
use Rattle.lerc_numeric.proofs.Product.{digits-fit, digits-wide, scaled-fit, scaled-wide, sig-digits, count-digits}
use Rattle.lerc_numeric.proofs.times.scale_words.Goals as goal

pub overflow_add-s : goal.overflow_add-s
overflow_add-s c =
    let s = sig-digits _ _ _ c.significand-m.ensures c.digits.ensures in
    let t = count-digits _ _ c.ranges.q.fits c.digits-2.ensures in
    record { fits = omega arith }

pub overflow_mul-m : goal.overflow_mul-m
overflow_mul-m c = record { fits = digits-fit _ _ _ _ c.digits.ensures c.digits-2.ensures c.if-s-le64.true }

pub overflow_add-result : goal.overflow_add-result
overflow_add-result c = record { fits = weight-fits _ _ _ c.ranges.a.fits c.pack.ensures }

pub product-requires : goal.product-requires
product-requires c =
    let s = sig-digits _ _ _ c.significand-m.ensures c.digits.ensures in
    let t = count-digits _ _ c.ranges.q.fits c.digits-2.ensures in
    (digits-wide _ _ _ _ c.digits.ensures c.digits-2.ensures c.if-s-le64.false, c.ranges.q.fits, omega arith)

pub overflow_add-i : goal.overflow_add-i
overflow_add-i c =
    let s = sig-digits _ _ _ c.significand-m.ensures c.digits.ensures in
    let t = count-digits _ _ c.ranges.q.fits c.digits-2.ensures in
    record { fits = omega arith }

pub pack-requires-else-s-le64 : goal.pack-requires-else-s-le64
pack-requires-else-s-le64 c =
    let s = sig-digits _ _ _ c.significand-m.ensures c.digits.ensures in
    let t = count-digits _ _ c.ranges.q.fits c.digits-2.ensures in
    omega arith

pub overflow_add-result-else-s-le64 : goal.overflow_add-result-else-s-le64
overflow_add-result-else-s-le64 c = record { fits = weight-fits _ _ _ c.ranges.a.fits c.pack-else-s-le64.ensures }

pub returns-then-s-le64 : goal.returns-then-s-le64
returns-then-s-le64 c =
    scaled-fit _ _ _ _ c.ranges.a.fits c.significand-m.ensures c.exponent-e.ensures _ c.pack.ensures

pub returns-else-s-le64 : goal.returns-else-s-le64
returns-else-s-le64 c =
    let s = sig-digits _ _ _ c.significand-m.ensures c.digits.ensures in
    let t = count-digits _ _ c.ranges.q.fits c.digits-2.ensures in
    scaled-wide _ _ _ _ c.ranges.a.fits c.significand-m.ensures c.exponent-e.ensures _ _ _ _
    c.digits.ensures c.digits-2.ensures c.if-s-le64.false s t c.product.ensures c.pack-else-s-le64.ensures
