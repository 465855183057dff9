use Prim.Native.Nat.{◌+◌}
use Rattle.lerc_image.specs.Parts.{every_one}
use Rattle.lerc_image.proofs.Laying.{Laid}
use Rattle.lerc_image.proofs.put.copy_row.Given as goal

abbrev pub invariant-loop-c : goal.invariant-loop-c
invariant-loop-c l = Laid every_one l.words l.from l.depth l.start l.initial.image l.image l.c l.at (l.from + l.c)
