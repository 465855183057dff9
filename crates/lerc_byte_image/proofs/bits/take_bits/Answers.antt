use Rattle.std.proofs.Common.{arith}
use Rattle.lerc_byte_image.proofs.BitLaws.{take-is}
use Rattle.lerc_byte_image.proofs.bits.take_bits.Goals as goal

pub returns : goal.returns
returns c = let a = c.args in take-is a.s.now a.at a.p c.two_words-v.ensures a.n (omega arith)
