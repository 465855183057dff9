use Rattle.std.proofs.Common.{◌≡◌, length, get_or}
use Rattle.lerc_words.proofs.Filling.{Filling}
use Rattle.lerc_byte_image.specs.Table.{bits_at}
use Rattle.lerc_byte_image.specs.TableParts.{bits_of}
use Rattle.lerc_byte_image.proofs.table.read_codes.Given as goal

abbrev pub invariant-loop-k : goal.invariant-loop-k
invariant-loop-k l = (l.p ≡ bits_of l.k l.lengths) × Filling (λ i. bits_at l.s l.at (bits_of i l.lengths) (get_or l.lengths i 0)) (length l.lengths) l.k l.initial.codes l.codes
