use Prim.Native.Nat.{◌+◌, ◌*◌}
use mathlib.Core.Path.{◌≡◌, refl}
use native.Mathlib.Omega.{arith}
use native.Mathlib.Numerals.{add-one}
use native.Mathlib.Nat.{suc-mul}
use lib.ListN.{length}
use Rattle.lerc_words.proofs.Little.{Bytes}
use Rattle.lerc_bits.proofs.Run.{small_product}
use Rattle.lerc_bits.proofs.Begun.{begun-one, length-begun}
use Rattle.lerc_bits.proofs.unpack_from.Goals as goal
use Rattle.lerc_bits.proofs.unpack_from.Goals.{At-loop-k}

-- the array keeps its length
long : (c : At-loop-k) → length c.loop-k.out ≡ length c.args.out.now
long c = rw c.loop-k.invariant.3 (length-begun _ _ _ _ c.loop-k.k _ (omega arith))

pub overflow_mul-bit : goal.overflow_mul-bit
overflow_mul-bit c =
    let a = c.args in
    record { fits = (omega (arith, small_product a.first a.bits (omega arith) (omega arith))) }

pub loop-k-init : goal.loop-k-init
loop-k-init c =
    let a = c.args in
    (omega arith, refl, small_product a.first a.bits (omega arith) (omega arith), c.requires.out_value)

pub loop-k-preserved : goal.loop-k-preserved
loop-k-preserved c =
    let a = c.args in
    let k = c.loop-k.k in
    let y : Bytes a.s.now = λ i. omega (arith, c.type_inv.s i) in
    let e : c.loop-k.bit + a.bits ≡ (k + 1) * a.bits = rw (c.loop-k.invariant.1, add-one, suc-mul) in (
      omega arith,
      e,
      rw (e) (small_product (k + 1) a.bits (omega arith) (omega arith)),
      rw (c.lowest.ensures, c.peek-v.ensures, c.loop-k.invariant.1, c.loop-k.invariant.3)
          (begun-one a.n a.bits k a.s.now a.at a.out.now y (omega arith) (omega arith) (omega arith)),
    )

pub returns : goal.returns
returns c =
    let e : c.loop-k.k ≡ c.args.n = omega arith in
    rw (c.loop-k.invariant.3, e)

pub bounds-out-k : goal.bounds-out-k
bounds-out-k c = omega (arith, long (goal.at.bounds-out-k c).At-loop-k)

pub shape_of-out : goal.shape_of-out
shape_of-out c = long (goal.at.shape_of-out c).At-loop-k
