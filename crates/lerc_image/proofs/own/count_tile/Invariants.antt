use Rattle.lerc_mask.specs.Seek.{given}
use Rattle.lerc_image.specs.Own.{RowsOnWay}
use Rattle.lerc_image.proofs.Rows.{RowsCounted}
use Rattle.lerc_image.proofs.own.count_tile.Given as goal

abbrev pub invariant-loop-row : goal.invariant-loop-row
invariant-loop-row l = RowsCounted l.h (given l.want l.section) l.t l.first l.row l.found × RowsOnWay l.want l.section l.places
