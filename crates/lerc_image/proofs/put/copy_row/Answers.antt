use Prim.Native.Nat.{◌+◌}
use mathlib.Core.Path.{◌≡◌, refl}
use mathlib.Core.Bool.{true}
use native.Mathlib.Omega.{arith}
use Rattle.lerc_image.proofs.Laying.{laid_none, laid-length, laid_next, laid-room, laid-fits}
use Rattle.lerc_image.proofs.put.copy_row.Goals as goal

pub loop-c-init : goal.loop-c-init
loop-c-init c = let z : c.args.from + 0 ≡ c.args.from = omega arith in rw (z) (laid_none _ _ _ _ _ _)

pub bounds-image-at : goal.bounds-image-at
bounds-image-at c = laid-room c.loop-c.invariant c.requires c.loop-c-test.true

pub overflow_add-at : goal.overflow_add-at
overflow_add-at c = omega (arith, laid-fits c.loop-c.invariant c.requires c.loop-c-test.true)

pub loop-c-preserved : goal.loop-c-preserved
loop-c-preserved c =
    let z : c.args.from + (c.loop-c.c + 1) ≡ c.args.from + c.loop-c.c + 1 = omega arith in
    rw (z) (laid_next c.loop-c.invariant true refl)

pub shape_of-image : goal.shape_of-image
shape_of-image c = laid-length c.loop-c.invariant

pub returns : goal.returns
returns c =
    let e : c.loop-c.c ≡ c.args.w = omega arith in
    rw (e) at c.loop-c.invariant.same
