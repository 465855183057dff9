use Prim.Native.Nat.{◌≤◌, ◌-◌, ◌+◌, ◌*◌, ◌/◌, ◌%◌}
use mathlib.Core.Path.{◌≡◌}
use native.Mathlib.Omega.{arith}
use native.Mathlib.Nat.{add-mul}
use lib.ListN.{length}
use Rattle.lerc_words.proofs.Little.{Bytes}
use Rattle.lerc_bits.proofs.Begun.{begun-none, begun-four, length-begun, fours-room}
use Rattle.lerc_bits.proofs.unpack_fours.Goals as goal
use Rattle.lerc_bits.proofs.unpack_fours.Goals.{At-loop-k}

-- the array keeps its length
long : (c : At-loop-k) → length c.loop-k.out ≡ length c.args.out.now
long c = rw c.loop-k.invariant.4 (length-begun _ _ _ _ c.loop-k.k _ (omega arith))

pub loop-k-init : goal.loop-k-init
loop-k-init c = (omega arith, omega arith, omega arith, omega arith, begun-none _ _ _ _ _)

pub loop-k-preserved : goal.loop-k-preserved
loop-k-preserved c =
    let a = c.args in
    let s = a.s.now in
    let k = c.loop-k.k in
    let bit = c.loop-k.bit in
    let y : Bytes s = λ i. omega (arith, c.type_inv.s i) in
    let r : bit % 8 + 4 * a.bits ≤ 64 = rw c.loop-k.invariant.2 (fours-room k a.bits c.loop-k.invariant.1 (omega arith)) in (
      omega arith,
      omega arith,
      rw (c.loop-k.invariant.2, add-mul),
      omega arith,
      rw (c.put_four.ensures, c.peek-v.ensures, c.loop-k.invariant.4)
          (begun-four a.n a.bits k (bit % 8) (a.at + bit / 8) s a.at a.out.now y (omega arith) (omega arith) (omega arith) r (omega arith)),
    )

pub returns : goal.returns
returns c =
    let n = c.args.n in
    let e : c.loop-k.k ≡ n - n % 4 = omega arith in
    rw (c.loop-k.invariant.4, e)

pub put_four-requires : goal.put_four-requires
put_four-requires c = (omega arith, omega (arith, long (goal.at.put_four-requires c).At-loop-k))

pub shape_of-out : goal.shape_of-out
shape_of-out c = long (goal.at.shape_of-out c).At-loop-k
