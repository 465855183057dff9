use native.Mathlib.Omega.{arith}
use Rattle.lerc_image.proofs.Cursors.{corner-fits}
use Rattle.lerc_image.proofs.Standing.{asked_in}
use Rattle.lerc_image.proofs.RowTurns.{row_in, full-all, eights-first, eights-in, eights-next}
use Rattle.lerc_image.proofs.put.copy_eights.Goals as goal

pub overflow_mul-start : goal.overflow_mul-start
overflow_mul-start c = omega (arith, corner-fits c.args.h c.args.t (asked_in c.requires.0))

pub overflow_add-start : goal.overflow_add-start
overflow_add-start c = omega (arith, corner-fits c.args.h c.args.t (asked_in c.requires.0))

pub loop-init : goal.loop-init
loop-init c = let p = c.requires in eights-first p.1 p.2 p.0

pub copy_eight-requires : goal.copy_eight-requires
copy_eight-requires c =
    let p = c.requires in
    eights-in p.1 p.2 c.loop.invariant c.loop-test.true

pub overflow_add-start-in-loop : goal.overflow_add-start-in-loop
overflow_add-start-in-loop c =
    let a = c.loop.invariant.at in
    omega (arith, a.asked.shaped.columns.1, (row_in a c.loop-test.true).fits)

pub overflow_add-used : goal.overflow_add-used
overflow_add-used c = omega (arith, (row_in c.loop.invariant.at c.loop-test.true).words)

pub loop-preserved : goal.loop-preserved
loop-preserved c =
    let p = c.requires in
    eights-next p.1 p.2 c.loop.invariant c.loop-test.true c.copy_eight.ensures

pub shape_of-image : goal.shape_of-image
shape_of-image c = c.loop.invariant.at.long

pub returns : goal.returns
returns c = full-all c.loop.invariant c.loop-test.false
