use native.Mathlib.Omega.{arith}
use Rattle.lerc_image.proofs.Cursors.{corner-fits}
use Rattle.lerc_image.proofs.Rows.{rows_none, rows_next, rows_all, rows-small, rows_fit}
use Rattle.lerc_image.proofs.count_rows.Goals as goal

pub overflow_mul-first : goal.overflow_mul-first
overflow_mul-first c = omega (arith, corner-fits c.args.h c.args.t c.requires)

pub overflow_add-first : goal.overflow_add-first
overflow_add-first c = omega (arith, corner-fits c.args.h c.args.t c.requires)

pub loop-init : goal.loop-init
loop-init c = rows_none _ c.requires

pub overflow_add-found : goal.overflow_add-found
overflow_add-found c = omega (arith, c.count_from-found.ensures, rows-small c.loop.invariant c.loop-test.true)

pub overflow_add-first-in-loop : goal.overflow_add-first-in-loop
overflow_add-first-in-loop c = omega (arith, rows_fit c.loop.invariant c.loop-test.true)

pub loop-preserved : goal.loop-preserved
loop-preserved c = rw c.count_from-found.ensures (rows_next c.loop.invariant c.loop-test.true)

pub returns : goal.returns
returns c = rows_all c.loop.invariant c.loop-test.false
