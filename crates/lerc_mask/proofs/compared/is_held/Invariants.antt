use Prim.Native.Nat.{◌-◌}
use lib.ListN.{length}
use Rattle.lerc_mask.proofs.Meeting.{Meeting}
use Rattle.lerc_mask.proofs.compared.is_held.Given as goal

abbrev pub invariant-loop-next : goal.invariant-loop-next
invariant-loop-next l = Meeting l.s l.want l.held l.place.at l.place.made

abbrev pub decreases-loop-next : goal.decreases-loop-next
decreases-loop-next l = length l.s - l.place.at
