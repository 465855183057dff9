use mathlib.Core.Path.{refl}
use native.Mathlib.Omega.{arith}
use Rattle.lerc_ranges.proofs.ByDepth.{steps-small}
use Rattle.lerc_ranges.proofs.width.Goals as goal

pub overflow_mul-result : goal.overflow_mul-result
overflow_mul-result c =
    let a = c.args in
    rw c.size.ensures (omega (arith, steps-small a.h.depth a.h.kind c.requires))

pub returns : goal.returns
returns c = let a = c.args in rw c.size.ensures (refl, steps-small a.h.depth a.h.kind c.requires)
