use Prim.Native.Nat.{◌-◌}
use lib.ListN.{length}
use Rattle.lerc_mask.proofs.Seeking.{Seeking}
use Rattle.lerc_mask.proofs.seek.byte_from.Given as goal

abbrev pub invariant-loop-byte : goal.invariant-loop-byte
invariant-loop-byte l = Seeking l.section l.want l.i l.initial.place l.place

abbrev pub decreases-loop-byte : goal.decreases-loop-byte
decreases-loop-byte l = length l.section - l.place.at
