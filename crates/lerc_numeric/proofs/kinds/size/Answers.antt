use borrow.Author.Tests.{lt-ltb, le-ltb}
use Rattle.lerc_numeric.proofs.Integers.{sizes}
use Rattle.lerc_numeric.proofs.kinds.size.Goals as goal

pub returns-then-kind-lt2 : goal.returns-then-kind-lt2
returns-then-kind-lt2 c = rw (sizes, lt-ltb _ 2 c.if-kind-lt2.true)

pub returns-then-kind-lt4 : goal.returns-then-kind-lt4
returns-then-kind-lt4 c = rw (sizes, le-ltb _ 2 c.if-kind-lt2.false, lt-ltb _ 4 c.if-kind-lt4.true)

pub returns-then-kind-lt7 : goal.returns-then-kind-lt7
returns-then-kind-lt7 c = rw (sizes, le-ltb _ 2 c.if-kind-lt2.false, le-ltb _ 4 c.if-kind-lt4.false, lt-ltb _ 7 c.if-kind-lt7.true)

pub returns-else-kind-lt7 : goal.returns-else-kind-lt7
returns-else-kind-lt7 c = rw (sizes, le-ltb _ 2 c.if-kind-lt2.false, le-ltb _ 4 c.if-kind-lt4.false, le-ltb _ 7 c.if-kind-lt7.false)
