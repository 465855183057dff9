use Prim.Native.Nat.{◌<◌}
use native.Mathlib.Omega.{arith}
use Rattle.lerc_image.proofs.Cursors.{corner-fits}
use Rattle.lerc_image.proofs.Rows.{rows_none, rows_next, rows_all, rows-small, rows_fit}
use Rattle.lerc_image.proofs.RunRows.{rows-set}
use Rattle.lerc_image.proofs.own.count_tile.Goals as goal
use Rattle.lerc_image.proofs.own.count_tile.Goals.{In-loop-row}

-- a tile has at most 16 rows
within : (c : In-loop-row) → c.loop-row.row < 16
within c = omega (arith, c.loop-row-test.true, c.requires.1)

pub overflow_mul-first : goal.overflow_mul-first
overflow_mul-first c = omega (arith, corner-fits c.args.h c.args.t c.requires.0)

pub overflow_add-first : goal.overflow_add-first
overflow_add-first c = omega (arith, corner-fits c.args.h c.args.t c.requires.0)

pub loop-row-init : goal.loop-row-init
loop-row-init c = let p = c.requires in (rows_none _ p.0, p.2)

pub count_row-got-requires : goal.count_row-got-requires
count_row-got-requires c =
    let l = c.loop-row in
    (l.invariant.1.way l.row, omega (arith, rows_fit l.invariant.0 c.loop-row-test.true, l.invariant.0.tile.column))

pub overflow_add-found : goal.overflow_add-found
overflow_add-found c =
    omega (arith, c.count_row-got.ensures.found, rows-small c.loop-row.invariant.0 c.loop-row-test.true)

pub overflow_add-first-in-loop-row : goal.overflow_add-first-in-loop-row
overflow_add-first-in-loop-row c =
    omega (arith, rows_fit c.loop-row.invariant.0 c.loop-row-test.true)

pub loop-row-preserved : goal.loop-row-preserved
loop-row-preserved c =
    let i = (goal.at.loop-row-preserved c).In-loop-row in
    let l = c.loop-row in
    let counted = c.count_row-got.ensures in
    (rw counted.found (rows_next l.invariant.0 c.loop-row-test.true), rows-set l.invariant.1 l.row (within i) _ counted.way)

pub returns : goal.returns
returns c = let i = c.loop-row.invariant in (rows_all i.0 c.loop-row-test.false, i.1)
