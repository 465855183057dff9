use Prim.Native.Nat.{◌^◌}
use native.Mathlib.Omega.{arith}
use Rattle.lerc_words.proofs.Little.{Bytes}
use Rattle.lerc_image.proofs.Squares.{joined-none, joined_in, joined-on, joined-fits, joined-next, joined-all}
use Rattle.lerc_image.proofs.side_by_side.Goals as goal
use Rattle.lerc_image.proofs.side_by_side.Goals.{At-loop}

bytes : (l : At-loop) → Bytes l.args.mask.now
bytes l = λ i. omega (arith, l.type_inv.mask i)

pub loop-init : goal.loop-init
loop-init c = joined-none _ _ _

pub overflow_mul-bits : goal.overflow_mul-bits
overflow_mul-bits c =
    let l = (goal.at.overflow_mul-bits c).At-loop in
    omega (arith, joined-fits c.loop.invariant c.loop-test.true (bytes l))

pub bounds-mask-k : goal.bounds-mask-k
bounds-mask-k c =
    joined_in c.loop.invariant c.loop-test.true _ c.requires.0

pub overflow_add-bits : goal.overflow_add-bits
overflow_add-bits c =
    let l = (goal.at.overflow_add-bits c).At-loop in
    omega (arith, c.wide.ensures, joined-fits c.loop.invariant c.loop-test.true (bytes l))

pub overflow_add-k : goal.overflow_add-k
overflow_add-k c =
    omega (arith, joined-on c.loop.invariant c.loop-test.true (2 ^ 64) c.requires.1)

pub loop-preserved : goal.loop-preserved
loop-preserved c =
    let l = (goal.at.loop-preserved c).At-loop in
    rw c.wide.ensures (joined-next c.loop.invariant c.loop-test.true (bytes l))

pub returns : goal.returns
returns c = joined-all c.loop.invariant c.loop-test.false
