use Rattle.lerc_image.proofs.RunRows.{RowCounting}
use Rattle.lerc_image.proofs.own.count_row.Given as goal

abbrev pub invariant-loop-k : goal.invariant-loop-k
invariant-loop-k l = RowCounting l.want l.section l.first l.n l.place l.k l.found
