use Rattle.std.proofs.Common.{◌<◌}
use Rattle.lerc_mask_cases.proofs.parts_of.Given as goal

abbrev pub invariant-loop-p : goal.invariant-loop-p
invariant-loop-p l = l.sum < 1000003
