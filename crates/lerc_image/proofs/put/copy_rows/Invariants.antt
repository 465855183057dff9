use Rattle.lerc_image.proofs.RowTurns.{FullRows}
use Rattle.lerc_image.proofs.put.copy_rows.Given as goal

abbrev pub invariant-loop-row : goal.invariant-loop-row
invariant-loop-row l =
    FullRows l.h l.t l.number l.words l.initial.image l.image l.start l._row l.used
