use Rattle.lerc_fills.proofs.Turns.{Turn}
use Rattle.lerc_fills.proofs.fill_each.Given as goal

abbrev pub invariant-loop-number : goal.invariant-loop-number
invariant-loop-number l = Turn l.blob l.h l.ranges l.mask l.list l.numbers l.initial.image l.image l.number-index l.filled
