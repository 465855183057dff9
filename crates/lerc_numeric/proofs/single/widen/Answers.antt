use Rattle.lerc_numeric.proofs.Binary32.{wide-top, wide-zero, wide-some, wide_fits}
use Rattle.lerc_numeric.proofs.single.widen.Goals as goal

pub overflow_add-result-then-x-eq0 : goal.overflow_add-result-then-x-eq0
overflow_add-result-then-x-eq0 c = record { fits = wide_fits _ c.requires _ _ c.pack.ensures }

pub overflow_add-result-else-x-eq0 : goal.overflow_add-result-else-x-eq0
overflow_add-result-else-x-eq0 c = record { fits = wide_fits _ c.requires _ _ c.pack-else-x-eq0.ensures }

pub returns-then-x-eq255 : goal.returns-then-x-eq255
returns-then-x-eq255 c = wide-top _ c.requires c.if-x-eq255.true

pub returns-then-x-eq0 : goal.returns-then-x-eq0
returns-then-x-eq0 c = wide-zero _ c.requires _ c.if-x-eq0.true c.pack.ensures

pub returns-else-x-eq0 : goal.returns-else-x-eq0
returns-else-x-eq0 c = wide-some _ c.requires _ c.if-x-eq255.false c.if-x-eq0.false c.pack-else-x-eq0.ensures
