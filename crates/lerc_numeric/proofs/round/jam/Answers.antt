use mathlib.Core.Path.{sym, ◌∙◌}
use Prim.Native.Nat.{◌%◌, ◌^◌, ◌<◌}
use native.Mathlib.Omega.{arith}
use Rattle.lerc_numeric.proofs.Jam.{jam_wide, jam_none, jam_some}
use Rattle.lerc_numeric.proofs.Shift.{quot-lt}
use Rattle.lerc_numeric.proofs.round.jam.Goals as goal

pub returns-then-v-eq0 : goal.returns-then-v-eq0
returns-then-v-eq0 c = omega (arith, jam_wide c.args.v c.args.n c.if-n-ge64.true c.ranges.v.fits)

pub returns-else-v-eq0 : goal.returns-else-v-eq0
returns-else-v-eq0 c = omega (arith, c.if-v-eq0.false, jam_wide c.args.v c.args.n c.if-n-ge64.true c.ranges.v.fits)

pub overflow_add-result : goal.overflow_add-result
overflow_add-result c =
    let p : 0 < c.args.v % 2 ^ c.args.n = omega (arith, c.low.ensures, c.if-low-eq0.false) in
    record { fits = omega (arith, quot-lt c.args.v c.args.n p) }

pub returns-then-low-eq0 : goal.returns-then-low-eq0
returns-then-low-eq0 c = jam_none c.args.v c.args.n (sym c.low.ensures ∙ c.if-low-eq0.true)

pub returns-else-low-eq0 : goal.returns-else-low-eq0
returns-else-low-eq0 c =
    let p : 0 < c.args.v % 2 ^ c.args.n = omega (arith, c.low.ensures, c.if-low-eq0.false) in
    jam_some c.args.v c.args.n p
