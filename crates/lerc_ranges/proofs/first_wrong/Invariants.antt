use mathlib.Core.Path.{◌≡◌}
use mathlib.Core.Bool.{true}
use Rattle.lerc_ranges.specs.Ranges.{pairs_right}
use Rattle.lerc_ranges.proofs.first_wrong.Given as goal

-- every pair before i is right
abbrev pub invariant-loop-i : goal.invariant-loop-i
invariant-loop-i l = (pairs_right l.i l.r ≡ true)
