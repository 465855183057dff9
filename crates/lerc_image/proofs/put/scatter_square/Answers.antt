use native.Mathlib.Omega.{arith}
use Rattle.lerc_words.proofs.Little.{Bytes}
use Rattle.lerc_image.proofs.Cursors.{corner-fits}
use Rattle.lerc_image.proofs.Standing.{asked_in}
use Rattle.lerc_image.proofs.Squares.{start_fits}
use Rattle.lerc_image.proofs.RowTurns.{start-in, row_step}
use Rattle.lerc_image.proofs.put.scatter_square.Invariants.Turn.{squares-none, squares-all, in-tile, squares-in, squares-on, squares-row, squares-next}
use Rattle.lerc_image.proofs.put.scatter_square.Goals as goal

pub overflow_mul-k : goal.overflow_mul-k
overflow_mul-k c = omega (arith, start_fits c.args.h c.args.t (asked_in c.requires.0))

pub overflow_add-k : goal.overflow_add-k
overflow_add-k c = omega (arith, start_fits c.args.h c.args.t (asked_in c.requires.0))

pub overflow_mul-first : goal.overflow_mul-first
overflow_mul-first c = omega (arith, corner-fits c.args.h c.args.t (asked_in c.requires.0))

pub overflow_add-first : goal.overflow_add-first
overflow_add-first c = omega (arith, corner-fits c.args.h c.args.t (asked_in c.requires.0))

pub overflow_mul-first-2 : goal.overflow_mul-first-2
overflow_mul-first-2 c = omega (arith, start-in c.requires.0)

pub overflow_add-first-2 : goal.overflow_add-first-2
overflow_add-first-2 c = omega (arith, start-in c.requires.0)

pub loop-init : goal.loop-init
loop-init c = let p = c.requires in squares-none _ p.0 p.1 p.2

pub bounds-mask-k : goal.bounds-mask-k
bounds-mask-k c = squares-in c.loop.invariant c.loop-test.true

pub scatter_byte-used-requires : goal.scatter_byte-used-requires
scatter_byte-used-requires c = squares-row c.loop.invariant c.loop-test.true

pub overflow_add-k-in-loop : goal.overflow_add-k-in-loop
overflow_add-k-in-loop c = omega (arith, squares-on c.loop.invariant c.loop-test.true)

pub overflow_mul-first-in-loop : goal.overflow_mul-first-in-loop
overflow_mul-first-in-loop c = omega (arith, row_step c.loop.invariant.at (in-tile c.loop.invariant c.loop-test.true))

pub overflow_add-first-in-loop : goal.overflow_add-first-in-loop
overflow_add-first-in-loop c =
    let s = c.loop.invariant in
    omega (arith, row_step s.at (in-tile s c.loop-test.true), (squares-row s c.loop-test.true).fits)

pub loop-preserved : goal.loop-preserved
loop-preserved c =
    let b : Bytes c.args.mask.now = λ j. omega (arith, c.type_inv.mask j) in
    let e = c.scatter_byte-used.ensures in
    squares-next c.loop.invariant c.loop-test.true b e.0 e.1

pub shape_of-image : goal.shape_of-image
shape_of-image c = c.loop.invariant.at.long

pub returns : goal.returns
returns c = squares-all c.loop.invariant c.loop-test.false
