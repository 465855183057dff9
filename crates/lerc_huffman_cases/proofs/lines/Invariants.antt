use Rattle.std.proofs.Common.{◌≤◌}
use Rattle.lerc_huffman_cases.proofs.lines.Given as goal

abbrev pub invariant-loop-i : goal.invariant-loop-i
invariant-loop-i g l = l.same ≤ l.i
