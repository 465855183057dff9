use native.Mathlib.Omega.{arith}
use Rattle.lerc_image.proofs.Cursors.{corner-fits}
use Rattle.lerc_image.proofs.Standing.{asked_in}
use Rattle.lerc_image.proofs.RowTurns.{start-in, row_in, row_step, full-first, full-next, full-all}
use Rattle.lerc_image.proofs.put.copy_rows.Goals as goal

pub overflow_mul-start : goal.overflow_mul-start
overflow_mul-start c = omega (arith, corner-fits c.args.h c.args.t (asked_in c.requires))

pub overflow_add-start : goal.overflow_add-start
overflow_add-start c = omega (arith, corner-fits c.args.h c.args.t (asked_in c.requires))

pub overflow_mul-start-2 : goal.overflow_mul-start-2
overflow_mul-start-2 c = omega (arith, start-in c.requires)

pub overflow_add-start-2 : goal.overflow_add-start-2
overflow_add-start-2 c = omega (arith, start-in c.requires)

pub loop-row-init : goal.loop-row-init
loop-row-init c = full-first _ c.requires

pub copy_row-requires : goal.copy_row-requires
copy_row-requires c = row_in c.loop-row.invariant.at c.loop-row-test.true

pub overflow_mul-start-in-loop-row : goal.overflow_mul-start-in-loop-row
overflow_mul-start-in-loop-row c = omega (arith, row_step c.loop-row.invariant.at c.loop-row-test.true)

pub overflow_add-start-in-loop-row : goal.overflow_add-start-in-loop-row
overflow_add-start-in-loop-row c =
    let a = c.loop-row.invariant.at in
    omega (arith, row_step a c.loop-row-test.true, (row_in a c.loop-row-test.true).fits)

pub overflow_add-used : goal.overflow_add-used
overflow_add-used c = omega (arith, (row_in c.loop-row.invariant.at c.loop-row-test.true).words)

pub loop-row-preserved : goal.loop-row-preserved
loop-row-preserved c =
    full-next c.loop-row.invariant c.loop-row-test.true c.copy_row.ensures

pub shape_of-image : goal.shape_of-image
shape_of-image c = c.loop-row.invariant.at.long

pub returns : goal.returns
returns c = full-all c.loop-row.invariant c.loop-row-test.false
