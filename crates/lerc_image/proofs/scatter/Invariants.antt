use Rattle.lerc_image.proofs.Scattering.{Scattering}
use Rattle.lerc_image.proofs.scatter.Given as goal

abbrev pub invariant-loop : goal.invariant-loop
invariant-loop l = Scattering l.h l.t l.number l.mask l.words l.initial.image l.size l.image l.at l.counter l.used
