use Prim.Native.Nat.{◌≤◌}
use mathlib.Core.Path.{◌≡◌}
use Rattle.lerc_checksum.specs.Parts.{run}
use Rattle.lerc_checksum.proofs.count_rest.Given as goal

abbrev pub invariant-loop-i : goal.invariant-loop-i
invariant-loop-i l = (l.i ≤ l.n) × (l.sums ≡ run l.s l.k l.i l.initial.sums)
