use native.Mathlib.Omega.{arith}
use lib.Count.{leading_le}
use Rattle.lerc_numeric.proofs.Digits.{size-leading}
use Rattle.lerc_numeric.proofs.round.digits.Goals as goal

pub overflow_cast-result : goal.overflow_cast-result
overflow_cast-result c = record { fits = omega (arith, leading_le 64 c.args.m) }

pub overflow_sub-result : goal.overflow_sub-result
overflow_sub-result c = leading_le 64 c.args.m

pub returns : goal.returns
returns c = size-leading c.args.m c.ranges.m.fits
