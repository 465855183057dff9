use Rattle.lerc_pack.proofs.Passes.{Passed}
use Rattle.lerc_pack.proofs.table.entries_right.Given as goal

abbrev pub invariant-loop-i : goal.invariant-loop-i
invariant-loop-i l = Passed l.pack l.count l.i l.at l.least
