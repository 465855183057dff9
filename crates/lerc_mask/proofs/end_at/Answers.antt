use borrow.Author.Tests.{eq-eqb, ne_eqb}
use Rattle.lerc_mask.specs.Mask.{end_at}
use Rattle.lerc_mask.proofs.end_at.Goals as goal

pub returns-then-at-len : goal.returns-then-at-len
unfolding end_at
returns-then-at-len c = let a = c.args in rw (ne_eqb a.at a.len c.if-at-len.true)

pub returns-then-left-ne0 : goal.returns-then-left-ne0
unfolding end_at
returns-then-left-ne0 c = let a = c.args in rw (eq-eqb a.at a.len c.if-at-len.false, ne_eqb a.left 0 c.if-left-ne0.true)

pub returns : goal.returns
unfolding end_at
returns c = let a = c.args in rw (eq-eqb a.at a.len c.if-at-len.false, eq-eqb a.left 0 c.if-left-ne0.false)
