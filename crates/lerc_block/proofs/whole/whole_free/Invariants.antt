use Prim.Native.Nat.{◌+◌, ◌*◌, ◌%◌, ◌^◌}
use lib.ListN.{length, get_or}
use Rattle.lerc_words.proofs.Filling.{Filling}
use Rattle.lerc_block.proofs.whole.whole_free.Given as goal

abbrev pub invariant-loop-k : goal.invariant-loop-k
invariant-loop-k l = Filling (λ j. (l.base + l.step * get_or l.counts j 0) % 2 ^ (8 * l.size)) (length l.counts) l.k l.initial.out l.out
