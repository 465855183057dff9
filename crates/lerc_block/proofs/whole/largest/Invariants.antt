use Prim.Native.Nat.{ℕ, ◌≤◌, ◌<◌}
use lib.ListN.{get_or}
use Rattle.lerc_block.proofs.whole.largest.Given as goal

-- no count before this place is above `most`
abbrev pub invariant-loop-count : goal.invariant-loop-count
invariant-loop-count l = (i : ℕ) → i < l.count-index → get_or l.counts i 0 ≤ l.most
