use Rattle.lerc_pack_writer.proofs.Passes.{Judging}
use Rattle.lerc_pack_writer.proofs.parts.tiles_right.Given as goal

abbrev pub invariant-loop-i : goal.invariant-loop-i
invariant-loop-i l = Judging (record { rows = l.rows; columns = l.columns; lengths = l.lengths; bodies = l.bodies }) l.i l.at l.least
