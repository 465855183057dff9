use native.Mathlib.Omega.{arith}
use Rattle.lerc_header.specs.Header.{shape_of}
use Rattle.lerc_header.proofs.Sizes.{pixels-few, tiles-le, blocks-le}
use Rattle.lerc_header.proofs.measure.Goals as goal

pub overflow_mul-pixels : goal.overflow_mul-pixels
overflow_mul-pixels c = let h = shape_of c.args.h in omega (arith, pixels-few h c.requires)

pub overflow_add-result : goal.overflow_add-result
overflow_add-result c = let h = shape_of c.args.h in omega (arith, pixels-few h c.requires)

pub overflow_mul-result-2 : goal.overflow_mul-result-2
overflow_mul-result-2 c =
    let h = shape_of c.args.h in
    rw (c.strips.ensures, c.strips-2.ensures) (omega (arith, tiles-le h c.requires, pixels-few h c.requires))

pub overflow_mul-result-3 : goal.overflow_mul-result-3
overflow_mul-result-3 c =
    let h = shape_of c.args.h in
    rw (c.strips.ensures, c.strips-2.ensures) (omega (arith, blocks-le h c.requires))

pub returns : goal.returns
returns c = rw (c.strips.ensures, c.strips-2.ensures)
