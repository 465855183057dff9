use native.Mathlib.Omega.{arith}
use Rattle.lerc_ranges.specs.Ranges.{coded_ranges}
use Rattle.lerc_ranges.proofs.coded.Goals as goal

pub overflow_add-result : goal.overflow_add-result
overflow_add-result c =
    omega (arith, c.width-width.ensures, c.struct_known-1.given)

pub overflow_add-result-2 : goal.overflow_add-result-2
overflow_add-result-2 c =
    omega (arith, c.width-width.ensures, c.struct_known-1.given)

pub returns : goal.returns
unfolding coded_ranges
returns c =
    rw (c.all_same-constant.ensures, c.numbers-max.ensures, c.numbers-min.ensures, c.width-width.ensures.0)
