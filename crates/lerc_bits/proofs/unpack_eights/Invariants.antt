use Prim.Native.Nat.{◌≤◌, ◌-◌, ◌+◌, ◌*◌, ◌%◌}
use mathlib.Core.Path.{◌≡◌}
use Rattle.lerc_bits.specs.Unpacking.{begun}
use Rattle.lerc_bits.proofs.unpack_eights.Given as goal

abbrev pub invariant-loop-k : goal.invariant-loop-k
invariant-loop-k l = (l.k ≤ l.n) × (l.k % 8 ≡ 0) × (8 * l.place ≡ 8 * l.at + l.k * l.bits) × (l.place ≤ l.at + l.k) × (l.out ≡ begun l.s l.at l.n l.bits l.k l.initial.out)

abbrev pub decreases-loop-k : goal.decreases-loop-k
decreases-loop-k l = l.n - l.k
