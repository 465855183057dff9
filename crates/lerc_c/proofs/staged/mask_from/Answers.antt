use borrow.Author.Tests.{eq-eqb, ne_eqb}
use Rattle.lerc_c.specs.Records.{mask_from}
use Rattle.lerc_c.proofs.staged.mask_from.Goals as goal

pub returns-then-which-eq1 : goal.returns-then-which-eq1
unfolding mask_from
returns-then-which-eq1 c = rw (eq-eqb _ _ c.if-which-eq1.true)

pub returns : goal.returns
unfolding mask_from
returns c = rw (ne_eqb _ _ c.if-which-eq1.false)
