use Rattle.std.proofs.Common.{◌<◌}
use Rattle.lerc_huffman_cases.proofs.sum_of.Given as goal

abbrev pub invariant-loop-word : goal.invariant-loop-word
invariant-loop-word l = l.sum < 4294967291
