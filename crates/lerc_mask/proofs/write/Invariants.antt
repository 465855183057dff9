use Prim.Native.Nat.{◌-◌}
use lib.ListN.{length}
use Rattle.lerc_mask.proofs.Passes.{Putting}
use Rattle.lerc_mask.proofs.write.Given as goal

abbrev pub invariant-loop-next : goal.invariant-loop-next
invariant-loop-next l = Putting l.s l.want l.initial.out l.place.at l.place.made l.out

abbrev pub decreases-loop-next : goal.decreases-loop-next
decreases-loop-next l = length l.s - l.place.at
