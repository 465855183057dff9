use Rattle.std.proofs.Common.{◌≡◌, true, leb, get_or}
use Rattle.lerc_words.specs.Lists.{all_to}
use Rattle.lerc_byte_image.proofs.table.all_short.Given as goal

abbrev pub invariant-loop-len : goal.invariant-loop-len
invariant-loop-len l = all_to l.len-index (λ i. leb (get_or l.lengths i 0) 32) ≡ true
