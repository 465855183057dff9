use mathlib.Core.Path.{sym}
use native.Mathlib.Nat.{add-zero}
use borrow.Author.Tests.{eq-eqb, ne_eqb}
use Rattle.lerc_numeric.proofs.kinds.bound.Goals as goal

pub returns-then-negative : goal.returns-then-negative
returns-then-negative c = rw (← c.modulus-m.ensures, eq-eqb _ 0 c.if-kind-eq0.true, c.if-negative.true)

pub returns-else-negative : goal.returns-else-negative
returns-else-negative c = rw (← c.modulus-m.ensures, eq-eqb _ 0 c.if-kind-eq0.true, c.if-negative.false) (sym (add-zero _))

pub returns-then-negative-2 : goal.returns-then-negative-2
returns-then-negative-2 c = rw (ne_eqb _ 0 c.if-kind-eq0.false, c.if-negative-2.true)

pub returns-else-negative-2 : goal.returns-else-negative-2
returns-else-negative-2 c = rw (← c.modulus-m.ensures, ne_eqb _ 0 c.if-kind-eq0.false, c.if-negative-2.false)
