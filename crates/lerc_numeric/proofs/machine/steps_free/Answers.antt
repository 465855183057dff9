use native.Mathlib.Nat.{lt_of_le_of_lt}
use native.Mathlib.Omega.{arith}
use lib.ListN.{get_or}
use lib.Bits.{bit_and, and_le_r}
use Rattle.lerc_numeric.specs.Numeric.{sum, scaled}
use Rattle.lerc_numeric.proofs.Mapping.{mapping-none, mapping-more}
use Rattle.lerc_numeric.proofs.Stepping.{moved-no-nan, moved-bits}
use Rattle.lerc_numeric.proofs.machine.steps_free.Goals as goal

pub loop-k-init : goal.loop-k-init
loop-k-init c =
    let a = c.args in
    mapping-none (λ c. sum a.offset (scaled a.error (bit_and c a.low))) a.counts.now a.out.now _ (omega arith)

pub float_to_bits-out : goal.float_to_bits-out
float_to_bits-out c =
    let a = c.args in
    let x = get_or a.counts.now c.loop-k.k 0 in
    rw c.moved.ensures (moved-no-nan a.offset a.error (bit_and x a.low) (omega arith) (omega arith) (lt_of_le_of_lt (and_le_r x a.low) c.ranges.low.fits))

pub loop-k-preserved : goal.loop-k-preserved
loop-k-preserved c =
    let a = c.args in
    let x = get_or a.counts.now c.loop-k.k 0 in
    mapping-more c.loop-k.invariant _ (omega arith)
    (rw c.moved.ensures (moved-bits a.offset a.error (bit_and x a.low) (omega arith) (omega arith) (lt_of_le_of_lt (and_le_r x a.low) c.ranges.low.fits)))
