use lib.Bits.{bit_and}
use Rattle.lerc_numeric.specs.Numeric.{sum, scaled}
use Rattle.lerc_numeric.proofs.Mapping.{Mapping}
use Rattle.lerc_numeric.proofs.machine.steps_free.Given as goal

abbrev pub invariant-loop-k : goal.invariant-loop-k
invariant-loop-k l = Mapping (λ c. sum l.offset (scaled l.error (bit_and c l.low))) l.counts l.initial.out l.k-end l.k l.out
