use lib.Pow.{pow_pos}
use Rattle.lerc_words.proofs.Little.{unit}
use Rattle.lerc_numeric.proofs.Shift.{mask}
use Rattle.lerc_numeric.proofs.round.low.Goals as goal

pub overflow_sub-result : goal.overflow_sub-result
overflow_sub-result c = rw (unit c.args.d c.requires) (pow_pos c.args.d)

pub returns : goal.returns
returns c = mask c.args.m c.args.d c.requires
