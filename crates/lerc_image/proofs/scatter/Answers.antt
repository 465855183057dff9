use mathlib.Core.Path.{◌∙◌, sym}
use native.Mathlib.Omega.{arith}
use Rattle.lerc_header.proofs.Sizes.{pixels-few}
use Rattle.lerc_image.proofs.Cursors.{size-le, stepped-fits}
use Rattle.lerc_image.proofs.Standing.{asked_in}
use Rattle.lerc_image.proofs.Scattering.{scattering-none, scattering-length, scattering-all, scattering-few, scattering-room, scattering-used, scattering-valid, scattering-skip}
use Rattle.lerc_image.proofs.scatter.Goals as goal
use Rattle.lerc_image.proofs.scatter.Goals.{then-is_valid, else-is_valid}

pub overflow_mul-size : goal.overflow_mul-size
overflow_mul-size c =
    omega (arith, size-le c.args.h c.args.t (asked_in c.requires), pixels-few c.args.h c.requires.shaped)

pub first-at-requires : goal.first-at-requires
first-at-requires c = asked_in c.requires

pub loop-init : goal.loop-init
loop-init c = rw c.first-at.ensures (scattering-none _ _ c.requires)

pub offset_bounds-words-used : goal.offset_bounds-words-used
offset_bounds-words-used c = omega (arith, scattering-used c.loop.invariant c.loop-test.true)

pub bounds-words-used : goal.bounds-words-used
bounds-words-used c = scattering-used c.loop.invariant c.loop-test.true

pub overflow_mul-image : goal.overflow_mul-image
overflow_mul-image c = omega (arith, scattering-few c.loop.invariant c.loop-test.true)

pub overflow_add-image : goal.overflow_add-image
overflow_add-image c = omega (arith, scattering-few c.loop.invariant c.loop-test.true)

pub offset_bounds-image-at : goal.offset_bounds-image-at
offset_bounds-image-at c =
    omega (arith, scattering-few c.loop.invariant c.loop-test.true)

pub bounds-image-at : goal.bounds-image-at
bounds-image-at c = scattering-room c.loop.invariant c.loop-test.true

pub overflow_add-used : goal.overflow_add-used
overflow_add-used c = omega (arith, scattering-used c.loop.invariant c.loop-test.true)

pub step-at-requires : goal.step-at-requires
step-at-requires c = stepped-fits c.loop.invariant.stepped c.loop-test.true

pub loop-preserved : goal.loop-preserved
loop-preserved c =
    let s = c.loop.invariant in
    let l = c.loop-test.true in
    let v = sym c.is_valid.ensures in
    rw c.step-at.ensures
    (elim c.if-is_valid.branch [
      | then-is_valid w ↦ rw (w.image-is, w.used-is) (scattering-valid s l (v ∙ w.if-is_valid.true))
      | else-is_valid w ↦ rw (w.image-is, w.used-is) (scattering-skip s l (v ∙ w.if-is_valid.false))
    ])

pub shape_of-image : goal.shape_of-image
shape_of-image c = scattering-length c.loop.invariant

pub returns : goal.returns
returns c = scattering-all c.loop.invariant c.loop-test.false
