use mathlib.Core.Path.{◌≡◌, refl}
use native.Mathlib.Omega.{arith}
use borrow.Author.Tests.{eq-eqb, ne_eqb}
use Rattle.lerc_image.proofs.Laying.{laid_none, laid-length, laid-used, laid-room, laid-fits, laid-bit}
use Rattle.lerc_image.proofs.put.scatter_byte.Goals as goal
use Rattle.lerc_image.proofs.put.scatter_byte.Goals.{then-bit-eq1, else-bit-eq1}

pub loop-c-init : goal.loop-c-init
loop-c-init c = laid_none _ _ _ _ _ _

pub bounds-image-at : goal.bounds-image-at
bounds-image-at c = laid-room c.loop-c.invariant c.requires c.loop-c-test.true

pub offset_bounds-words-used : goal.offset_bounds-words-used
offset_bounds-words-used c = omega (arith, laid-used c.loop-c.invariant c.requires c.loop-c-test.true)

pub bounds-words-used : goal.bounds-words-used
bounds-words-used c = laid-used c.loop-c.invariant c.requires c.loop-c-test.true

pub bounds-image-at-in-loop-c : goal.bounds-image-at-in-loop-c
bounds-image-at-in-loop-c c = laid-room c.loop-c.invariant c.requires c.loop-c-test.true

pub overflow_add-used : goal.overflow_add-used
overflow_add-used c = omega (arith, laid-used c.loop-c.invariant c.requires c.loop-c-test.true)

pub overflow_add-at : goal.overflow_add-at
overflow_add-at c = omega (arith, laid-fits c.loop-c.invariant c.requires c.loop-c-test.true)

pub loop-c-preserved : goal.loop-c-preserved
loop-c-preserved c =
    laid-bit c.loop-c.invariant c.ranges.byte.fits c.loop-c-test.true refl (elim c.if-bit-eq1.branch [
      | then-bit-eq1 w ↦ rw (eq-eqb _ _ w.if-bit-eq1.true) w.image-is
      | else-bit-eq1 w ↦ rw (ne_eqb _ _ w.if-bit-eq1.false) w.image-is
    ])

pub shape_of-image : goal.shape_of-image
shape_of-image c = laid-length c.loop-c.invariant

pub returns : goal.returns
returns c =
    let e : c.loop-c.c ≡ 8 = omega arith in
    (rw (e) at c.loop-c.invariant.used-is, rw (e) at c.loop-c.invariant.same)
