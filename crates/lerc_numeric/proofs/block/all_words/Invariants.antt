use lib.Bits.{bit_and}
use Rattle.lerc_numeric.specs.Steps.{step_of}
use Rattle.lerc_numeric.proofs.Mapping.{Mapping}
use Rattle.lerc_numeric.proofs.block.all_words.Given as goal

abbrev pub invariant-loop-k : goal.invariant-loop-k
invariant-loop-k l = Mapping (λ c. step_of l.offset l.error l.top (bit_and c l.low)) l.counts l.initial.out l.k-end l.k l.out
