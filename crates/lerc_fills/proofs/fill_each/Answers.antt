-- `fill_each`: the numbers below k are done.
-- Assumes nothing.
use native.Mathlib.Omega.{arith}
use Rattle.lerc_words.specs.Res.{accepts}
use Rattle.lerc_fills.proofs.Turns.{one-le, turn-none, turn-next, turn-all}
use Rattle.lerc_fills.proofs.fill_each.Goals as goal

pub loop-number-init : goal.loop-number-init
loop-number-init c = turn-none _ _ _ _ _ _ _

pub overflow_add-filled : goal.overflow_add-filled
overflow_add-filled c =
    omega (arith, c.loop-number.invariant.least, one-le (accepts c.fill-answer.result) c.one-filled.ensures, c.loop-number-test.true)

pub loop-number-preserved : goal.loop-number-preserved
loop-number-preserved c =
    turn-next _ _ _ _ _ c.loop-number.invariant c.loop-number-test.true c.fill-answer.ensures c.one-filled.ensures

pub shape_of-image : goal.shape_of-image
shape_of-image c = c.loop-number.invariant.long

pub returns : goal.returns
returns c = turn-all _ _ _ _ _ c.loop-number.invariant c.loop-number-test.false
