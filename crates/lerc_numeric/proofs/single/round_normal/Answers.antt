use native.Mathlib.Omega.{arith}
use mathlib.Core.Path.{refl, ◌∙◌}
use Rattle.lerc_numeric.proofs.Binary32.{narrow-is}
use Rattle.lerc_numeric.proofs.Normal.{normal-is}
use Rattle.lerc_numeric.proofs.OneSum.{one-sum, sign-apart}
use Rattle.lerc_numeric.proofs.single.round_normal.Goals as goal

pub overflow_add-y : goal.overflow_add-y
overflow_add-y c = let n = normal-is c.args.v c.requires.0 in record { fits = omega (arith, n.1, c.ranges.v.fits) }

pub overflow_add-y-2 : goal.overflow_add-y-2
overflow_add-y-2 c = let n = normal-is c.args.v c.requires.0 in record { fits = omega (arith, n.1, c.ranges.v.fits) }

pub overflow_sub-result : goal.overflow_sub-result
overflow_sub-result c = let n = normal-is c.args.v c.requires.0 in omega (arith, n.0, c.ranges.v.fits, c.requires.1)

pub returns : goal.returns
returns c =
    let v = c.args.v in
    let n = normal-is v c.requires.0 in
    sign-apart v c.args.sign c.ranges.v.fits c.requires.1 n.0 _ (one-sum v _ refl n.0 n.1) ∙ narrow-is v c.ranges.v.fits
