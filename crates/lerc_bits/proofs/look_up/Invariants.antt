use Prim.Native.Nat.{◌≤◌}
use mathlib.Core.Path.{◌≡◌}
use mathlib.Core.List.{◌++◌}
use lib.ListN.{get_or, drop}
use Rattle.lerc_words.specs.Lists.{tabulate}
use Rattle.lerc_bits.proofs.look_up.Given as goal

abbrev pub invariant-loop-k : goal.invariant-loop-k
invariant-loop-k l = (l.k ≤ l.n) × (l.out ≡ tabulate l.k (λ j. get_or l.table (get_or l.index j 0) 0) ++ drop l.k l.initial.out)
