use Rattle.lerc_image.specs.Parts.{bit_set}
use Rattle.lerc_image.proofs.Laying.{Laid}
use Rattle.lerc_image.proofs.put.scatter_byte.Given as goal

abbrev pub invariant-loop-c : goal.invariant-loop-c
invariant-loop-c l = Laid (bit_set l.byte) l.words l.from l.depth l.start l.initial.image l.image l.c l.at l.used
