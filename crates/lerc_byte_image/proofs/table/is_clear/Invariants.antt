use Rattle.std.proofs.Common.{◌≡◌, true, get_or}
use Rattle.lerc_words.specs.Lists.{all_to}
use Rattle.lerc_byte_image.specs.TableParts.{apart}
use Rattle.lerc_byte_image.proofs.table.is_clear.Given as goal

abbrev pub invariant-loop-i : goal.invariant-loop-i
invariant-loop-i l = all_to l.i (λ j. apart (get_or l.lengths j 0) (get_or l.codes j 0) (get_or l.lengths l.k 0) (get_or l.codes l.k 0)) ≡ true
