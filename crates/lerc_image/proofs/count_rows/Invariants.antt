use Rattle.lerc_image.proofs.Rows.{RowsCounted}
use Rattle.lerc_image.proofs.count_rows.Given as goal

abbrev pub invariant-loop : goal.invariant-loop
invariant-loop l = RowsCounted l.h l.mask l.t l.first l.counter l.found
