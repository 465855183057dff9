use mathlib.Core.Path.{sym}
use Prim.Native.Nat.{◌<◌}
use native.Mathlib.Omega.{arith}
use native.Mathlib.Nat.{add_comm}
use borrow.Author.Tests.{ne_eqb}
use Rattle.lerc_numeric.specs.Numeric.{field, mag}
use Rattle.lerc_numeric.proofs.Magnitude.{weight-fits, mag-lt, mag-eq}
use Rattle.lerc_numeric.proofs.Infinity.{bits-infinite, absorbs-both, sum_left, sum-right}
use Rattle.lerc_numeric.proofs.Sums.{sum_same, sum_below, sum-above, sum-none}
use Rattle.lerc_numeric.proofs.add.plus_words.Goals as goal

pub overflow_add-result : goal.overflow_add-result
overflow_add-result c = record { fits = weight-fits _ _ _ c.ranges.a.fits c.total.ensures }

pub overflow_add-result-else-x-y : goal.overflow_add-result-else-x-y
overflow_add-result-else-x-y c = record { fits = weight-fits _ _ _ c.ranges.a.fits c.total-else-x-y.ensures }

pub overflow_add-result-else-y-eq-INFINITY : goal.overflow_add-result-else-y-eq-INFINITY
overflow_add-result-else-y-eq-INFINITY c = record { fits = weight-fits _ _ _ c.ranges.b.fits c.rest.ensures }

pub overflow_add-result-else-x-eq-INFINITY : goal.overflow_add-result-else-x-eq-INFINITY
overflow_add-result-else-x-eq-INFINITY c = record { fits = weight-fits _ _ _ c.ranges.a.fits c.rest-else-x-eq-INFINITY.ensures }

-- one sign
pub returns-then-x-y : goal.returns-then-x-y
returns-then-x-y c =
    rw (c.total.ensures, add_comm (mag c.args.b) (mag c.args.a)) (sum_same c.args.a c.args.b c.ranges.a.fits c.ranges.b.fits c.if-s-t.true)

pub returns-else-x-y : goal.returns-else-x-y
returns-else-x-y c =
    rw c.total-else-x-y.ensures (sum_same c.args.a c.args.b c.ranges.a.fits c.ranges.b.fits c.if-s-t.true)

-- two signs, b farther out
pub returns-then-y-eq-INFINITY : goal.returns-then-y-eq-INFINITY
returns-then-y-eq-INFINITY c =
    let k = c.args in
    let near : field k.a < 2047 = omega (arith, c.if-y-eq-INFINITY.true, c.if-x-y-2.true) in
    sym (sum-right k.a k.b (absorbs-both k.b k.a (bits-infinite k.b c.if-y-eq-INFINITY.true) near))

pub returns-else-y-eq-INFINITY : goal.returns-else-y-eq-INFINITY
returns-else-y-eq-INFINITY c =
    rw c.rest.ensures
    (sum_below c.args.a c.args.b c.ranges.a.fits c.ranges.b.fits c.if-s-t.false (mag-lt c.args.a c.args.b c.if-x-y-2.true) (ne_eqb _ _ c.if-y-eq-INFINITY.false))

-- two signs, a farther out
pub returns-then-x-eq-INFINITY : goal.returns-then-x-eq-INFINITY
returns-then-x-eq-INFINITY c =
    let k = c.args in
    let near : field k.b < 2047 = omega (arith, c.if-x-eq-INFINITY.true, c.if-y-x.true) in
    sym (sum_left k.a k.b (absorbs-both k.a k.b (bits-infinite k.a c.if-x-eq-INFINITY.true) near))

pub returns-else-x-eq-INFINITY : goal.returns-else-x-eq-INFINITY
returns-else-x-eq-INFINITY c =
    rw c.rest-else-x-eq-INFINITY.ensures
    (sum-above c.args.a c.args.b c.ranges.a.fits c.ranges.b.fits c.if-s-t.false (mag-lt c.args.b c.args.a c.if-y-x.true) (ne_eqb _ _ c.if-x-eq-INFINITY.false))

-- two signs, equally far
pub returns-else-y-x : goal.returns-else-y-x
returns-else-y-x c =
    sum-none c.args.a c.args.b c.ranges.a.fits c.ranges.b.fits c.if-s-t.false (mag-eq c.args.a c.args.b (omega (arith, c.if-x-y-2.false, c.if-y-x.false)))
