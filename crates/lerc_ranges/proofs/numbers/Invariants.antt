use mathlib.Core.Path.{◌≡◌}
use Rattle.lerc_ranges.specs.Ranges.{by_depth, number_at}
use Rattle.lerc_ranges.proofs.numbers.Given as goal

abbrev pub invariant-loop-i : goal.invariant-loop-i
invariant-loop-i l = (l.out ≡ by_depth l.i (number_at l.kind l.s l.at) l.rest)
