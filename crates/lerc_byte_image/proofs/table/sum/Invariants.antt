use Rattle.std.proofs.Common.{◌≡◌}
use Rattle.lerc_byte_image.specs.TableParts.{bits_of}
use Rattle.lerc_byte_image.proofs.table.sum.Given as goal

abbrev pub invariant-loop-len : goal.invariant-loop-len
invariant-loop-len l = l.bits ≡ bits_of l.len-index l.lengths
