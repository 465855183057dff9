use Rattle.lerc_words.proofs.Each.{Staged}
use Rattle.lerc_block.specs.Steps.{step_word}
use Rattle.lerc_block.proofs.convert.Given as goal

abbrev pub invariant-loop-k : goal.invariant-loop-k
invariant-loop-k l = Staged (step_word l.kind l.error l.top l.offset) l.counts l.k l.initial.out l.out
