use Prim.Native.Nat.{◌≤◌, ◌*◌, ◌/◌}
use mathlib.Core.Path.{◌≡◌}
use lib.ListN.{take, drop}
use Rattle.lerc_mask.specs.Passes.{ones_all}
use Rattle.lerc_mask.proofs.ones_in.Given as goal

abbrev pub invariant-loop-k : goal.invariant-loop-k
invariant-loop-k l = (l.k ≤ l.n / 8) × (l.total ≤ 8 * (8 * l.k)) × (l.total ≡ ones_all (take (8 * l.k) (drop l.from l.s)))
