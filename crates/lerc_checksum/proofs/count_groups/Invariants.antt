use Prim.Native.Nat.{◌%◌, min}
use mathlib.Core.Path.{◌≡◌}
use Rattle.lerc_checksum.specs.Checksum.{closed_to, group_words}
use Rattle.lerc_checksum.proofs.count_groups.Given as goal

abbrev pub invariant-loop-k : goal.invariant-loop-k
invariant-loop-k l = (l.k % group_words ≡ 0) × (l.sums ≡ closed_to l.s (min l.k l.words))
