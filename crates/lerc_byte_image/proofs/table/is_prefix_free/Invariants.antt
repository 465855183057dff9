use Rattle.std.proofs.Common.{◌≡◌, true}
use Rattle.lerc_words.specs.Lists.{all_to}
use Rattle.lerc_byte_image.specs.TableParts.{clear}
use Rattle.lerc_byte_image.proofs.table.is_prefix_free.Given as goal

abbrev pub invariant-loop-k : goal.invariant-loop-k
invariant-loop-k l = all_to l.k (clear l.lengths l.codes) ≡ true
