use native.Mathlib.Omega.{arith}
use Rattle.lerc_header.specs.Shape.{strips}
use Rattle.lerc_image.specs.Geometry.{position_of}
use Rattle.lerc_image.proofs.Partition.{across-pos}
use Rattle.lerc_image.proofs.Steps.{corner-x, corner-y, corner-is}
use Rattle.lerc_image.proofs.Position.of.Goals as goal

pub nonzero_rem-result : goal.nonzero_rem-result
unfolding strips
nonzero_rem-result c =
    across-pos c.args.h c.requires.shaped

pub overflow_mul-result : goal.overflow_mul-result
unfolding strips
overflow_mul-result c =
    omega (arith, corner-x c.args.h c.requires.shaped c.args.n c.requires.n_bound, c.requires.shaped.columns.1)

pub nonzero_div-result : goal.nonzero_div-result
unfolding strips
nonzero_div-result c =
    across-pos c.args.h c.requires.shaped

pub overflow_mul-result-2 : goal.overflow_mul-result-2
unfolding strips
overflow_mul-result-2 c =
    omega (arith, corner-y c.args.h c.requires.shaped c.args.n c.requires.n_bound, c.requires.shaped.rows.1)

pub returns : goal.returns
unfolding strips position_of
returns c =
    rw (corner-is c.args.h c.requires.shaped c.args.n c.requires.n_bound)
