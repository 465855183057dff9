use Prim.Native.Nat.{suc, ◌≤◌, ◌<◌, ◌^◌}
use mathlib.Core.Path.{◌≡◌}
use mathlib.Core.List.{◌++◌}
use lib.ListN.{length, drop}
use Rattle.lerc_text.specs.Text.{digits, decimal}
use Rattle.lerc_text.proofs.put_number.Given as goal

abbrev pub invariant-loop-rest : goal.invariant-loop-rest
invariant-loop-rest l = (length l.found ≡ 20) × (l.k ≤ 19) × (l.rest < 10 ^ suc l.k) × (decimal l.n ≡ digits (suc l.k) l.rest ++ drop (suc l.k) l.found)

abbrev pub decreases-loop-rest : goal.decreases-loop-rest
decreases-loop-rest l = l.rest
