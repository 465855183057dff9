use Rattle.std.proofs.Common.{◌≤◌}
use Rattle.lerc_byte_image.proofs.symbols.seek_near.Given as goal

abbrev pub invariant-loop-k : goal.invariant-loop-k
invariant-loop-k l = l.k ≤ l.range.count
