use Rattle.lerc_numeric.proofs.Integers.{int-neg, int-low, int-plain, int-fits}
use Rattle.lerc_numeric.proofs.kinds.integer.Goals as goal

pub overflow_add-result : goal.overflow_add-result
overflow_add-result c = record { fits = int-fits _ _ c.pack.ensures }

pub returns-then-m-v : goal.returns-then-m-v
returns-then-m-v c = int-neg _ _ _ c.modulus-m.ensures _ c.if-kind-eq0.true c.if-m-v.true c.pack.ensures

pub returns-else-m-v : goal.returns-else-m-v
returns-else-m-v c = int-low _ _ _ c.modulus-m.ensures _ c.if-kind-eq0.true c.if-m-v.false c.pack-else-m-v.ensures

pub returns-else-kind-eq0 : goal.returns-else-kind-eq0
returns-else-kind-eq0 c = int-plain _ _ _ c.modulus-m.ensures _ c.if-kind-eq0.false c.pack-else-kind-eq0.ensures
