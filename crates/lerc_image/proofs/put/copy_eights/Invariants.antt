use Rattle.lerc_image.proofs.RowTurns.{FullRows}
use Rattle.lerc_image.proofs.put.copy_eights.Given as goal

abbrev pub invariant-loop : goal.invariant-loop
invariant-loop l = FullRows l.h l.fn.t l.number l.words l.initial.image l.image l.start l.counter l.used
