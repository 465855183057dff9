use native.Mathlib.Omega.{arith}
use Rattle.lerc_numeric.proofs.Binary32.{unsigned-lt, narrow-is}
use Rattle.lerc_numeric.proofs.single.narrow_any.Goals as goal

pub overflow_add-result : goal.overflow_add-result
overflow_add-result c = record { fits = omega (arith, c.unsigned.ensures, unsigned-lt c.args.v) }

pub overflow_cast-result : goal.overflow_cast-result
overflow_cast-result c = record { fits = omega (arith, c.unsigned.ensures, unsigned-lt c.args.v) }

pub returns : goal.returns
returns c = rw c.unsigned.ensures (narrow-is c.args.v c.ranges.v.fits)
