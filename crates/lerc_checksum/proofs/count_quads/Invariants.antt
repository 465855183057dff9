use Prim.Native.Nat.{◌*◌, ◌≤◌}
use mathlib.Core.Path.{◌≡◌}
use Rattle.lerc_checksum.specs.Parts.{lanes_of}
use Rattle.lerc_checksum.proofs.count_quads.Given as goal

abbrev pub invariant-loop-i : goal.invariant-loop-i
invariant-loop-i l = (2 * l.i ≤ l.m) × (l.lanes ≡ lanes_of l.s l.k (2 * l.i))
