use Rattle.lerc_image.proofs.Rows.{Carried}
use Rattle.lerc_image.proofs.Walking.{Walking}
use Rattle.lerc_image.proofs.check_blocks.Given as goal

abbrev pub invariant-loop : goal.invariant-loop
invariant-loop l = Walking l.s l.h l.maxima l.mask l.at l.e l.p l.counter l.next × Carried l.e.shape l.mask l.counter l.valid
