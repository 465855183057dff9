use native.Mathlib.Omega.{arith}
use lib.Bits.{bit_and}
use Rattle.lerc_numeric.specs.Steps.{step_of}
use Rattle.lerc_numeric.proofs.Mapping.{mapping-none, mapping-more}
use Rattle.lerc_numeric.proofs.block.all_words.Goals as goal

pub loop-k-init : goal.loop-k-init
loop-k-init c =
    let a = c.args in
    mapping-none (λ c. step_of a.offset a.error a.top (bit_and c a.low)) a.counts.now a.out.now _ (omega arith)

pub loop-k-preserved : goal.loop-k-preserved
unfolding step_of
loop-k-preserved c = mapping-more c.loop-k.invariant _ (omega arith) c.step_words.ensures
