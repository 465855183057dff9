use native.Mathlib.Omega.{arith}
use Rattle.lerc_numeric.proofs.Rounds.{no-nan-bits}
use Rattle.lerc_numeric.proofs.Stepping.{moved-no-nan, taken-bits, left-bits}
use Rattle.lerc_numeric.proofs.machine.step.Goals as goal

pub float_from_bits-top : goal.float_from_bits-top
float_from_bits-top c = no-nan-bits c.args.top (omega arith)

pub float_to_bits-result : goal.float_to_bits-result
float_to_bits-result c =
    rw c.moved-v.ensures (moved-no-nan c.args.offset c.args.error c.args.q (omega arith) (omega arith) c.ranges.q.fits)

pub returns-then-v-top : goal.returns-then-v-top
returns-then-v-top c =
    rw c.moved-v.ensures
    (taken-bits c.args.offset c.args.error c.args.q (omega arith) (omega arith) c.ranges.q.fits c.args.top (omega arith)
    (rw c.moved-v.ensures at c.if-v-top.true))

pub returns-else-v-top : goal.returns-else-v-top
returns-else-v-top c =
    left-bits c.args.offset c.args.error c.args.q (omega arith) (omega arith) c.ranges.q.fits c.args.top (omega arith)
    (rw c.moved-v.ensures at c.if-v-top.false)
