use Prim.Native.Nat.{◌-◌}
use lib.ListN.{length}
use Rattle.lerc_mask.specs.Mask.{mask_bytes}
use Rattle.lerc_mask.proofs.Passes.{Going}
use Rattle.lerc_mask.proofs.check.Given as goal

abbrev pub invariant-loop-next : goal.invariant-loop-next
invariant-loop-next l = Going l.s (mask_bytes l.pixels) l.w

abbrev pub decreases-loop-next : goal.decreases-loop-next
decreases-loop-next l = length l.s - l.w.at
