use Prim.Native.Nat.{◌≤◌}
use lib.ListN.{length, take}
use Rattle.lerc_text.specs.Text.{Put}
use Rattle.lerc_text.proofs.put_text.Given as goal

abbrev pub invariant-loop-b : goal.invariant-loop-b
invariant-loop-b l = (l.b-index ≤ length l.s) × Put l.initial.out l.at (take l.b-index l.s) l.p l.out
