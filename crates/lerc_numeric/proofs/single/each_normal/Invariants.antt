use mathlib.Core.Path.{◌≡◌}
use mathlib.Core.Bool.{true}
use Prim.Native.Nat.{ℕ, ◌<◌}
use lib.ListN.{get_or}
use Rattle.lerc_numeric.specs.Inside.{normal32}
use Rattle.lerc_numeric.proofs.single.each_normal.Given as goal

abbrev pub invariant-loop-word : goal.invariant-loop-word
invariant-loop-word l = l.all ≡ true → (i : ℕ) → i < l.word-index → normal32 (get_or l.words i 0) ≡ true
