use mathlib.Core.Path.{sym, ◌∙◌}
use Rattle.lerc_numeric.proofs.Binary32.{narrowed-lt}
use Rattle.lerc_numeric.proofs.single.narrow.Goals as goal

pub round_signed-requires : goal.round_signed-requires
round_signed-requires c = sym c.is_normal.ensures ∙ c.if-is_normal.true

pub overflow_cast-result : goal.overflow_cast-result
overflow_cast-result c =
    record { fits = rw c.round_signed.ensures (narrowed-lt c.args.v c.ranges.v.fits) }

pub returns-then-is_normal : goal.returns-then-is_normal
returns-then-is_normal c = c.round_signed.ensures

pub returns-else-is_normal : goal.returns-else-is_normal
returns-else-is_normal c = c.narrow_any.ensures
