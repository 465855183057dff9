use borrow.Author.Tests.{lt-ltb, le-ltb, eq-eqb, ne_eqb}
use Rattle.lerc_sweep.specs.Sweep.{moded}
use Rattle.lerc_sweep.proofs.after_sweep.Goals as goal

pub returns-then-kind-ge2 : goal.returns-then-kind-ge2
unfolding moded
returns-then-kind-ge2 c = rw (le-ltb _ 2 c.if-kind-ge2.true)

pub returns-then-error-ne4602678819172646912 : goal.returns-then-error-ne4602678819172646912
unfolding moded
returns-then-error-ne4602678819172646912 c = rw (lt-ltb _ 2 c.if-kind-ge2.false, ne_eqb _ 0x3fe0000000000000 c.if-error-ne4602678819172646912.true)

pub returns : goal.returns
unfolding moded
returns c = rw (lt-ltb _ 2 c.if-kind-ge2.false, eq-eqb _ 0x3fe0000000000000 c.if-error-ne4602678819172646912.false) c.read_mode.ensures
