use Rattle.lerc_numeric.specs.Kinds.{narrowed}
use Rattle.lerc_numeric.proofs.Mapping.{Mapping}
use Rattle.lerc_numeric.proofs.single.narrow_each.Given as goal
use lib.ListN.{length}

abbrev pub invariant-loop-word : goal.invariant-loop-word
invariant-loop-word l = Mapping narrowed l.initial.words l.initial.words (length l.initial.words) l.word-index l.words
