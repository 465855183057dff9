use Rattle.lerc_pack_writer.proofs.Putting.{Putting}
use Rattle.lerc_pack_writer.proofs.parts.put_entries.Given as goal

abbrev pub invariant-loop-i : goal.invariant-loop-i
invariant-loop-i l = Putting (record { rows = l.rows; columns = l.columns; lengths = l.lengths; bodies = l.bodies }) l.i l.at l.initial.out l.out
