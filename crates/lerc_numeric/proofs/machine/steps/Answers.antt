use mathlib.Core.Path.{sym, ◌∙◌}
use native.Mathlib.Omega.{arith}
use Rattle.lerc_numeric.proofs.Rounds.{no-nan-bits}
use Rattle.lerc_numeric.proofs.Stepping.{test-is}
use Rattle.lerc_numeric.proofs.Counts.{mapped-free}
use Rattle.lerc_numeric.proofs.machine.steps.Goals as goal

pub float_from_bits-top : goal.float_from_bits-top
float_from_bits-top c = no-nan-bits c.args.top (omega arith)

pub returns-then-moved-top : goal.returns-then-moved-top
returns-then-moved-top c =
    let a = c.args in
    mapped-free a.offset a.error a.top a.low a.counts.now a.out.now (omega arith)
    (sym (test-is a.offset a.error a.low (omega arith) (omega arith) c.ranges.low.fits a.top (omega arith))
    ∙ (rw c.moved.ensures at c.if-moved-top.true))
    c.steps_free.ensures
