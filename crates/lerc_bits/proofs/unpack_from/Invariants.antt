use Prim.Native.Nat.{◌≤◌, ◌*◌}
use mathlib.Core.Path.{◌≡◌}
use Rattle.lerc_bits.specs.Unpacking.{begun}
use Rattle.lerc_bits.proofs.unpack_from.Given as goal

abbrev pub invariant-loop-k : goal.invariant-loop-k
invariant-loop-k l = (l.k ≤ l.n) × (l.bit ≡ l.k * l.bits) × (l.bit ≤ 7936) × (l.out ≡ begun l.s l.at l.n l.bits l.k l.initial.out)
