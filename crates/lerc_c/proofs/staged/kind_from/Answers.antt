use borrow.Author.Tests.{eq-eqb, ne_eqb}
use Rattle.lerc_c.specs.Records.{kind_from}
use Rattle.lerc_c.proofs.staged.kind_from.Goals as goal

pub returns-then-n-eq0 : goal.returns-then-n-eq0
unfolding kind_from
returns-then-n-eq0 c = rw (eq-eqb _ _ c.if-n-eq0.true)

pub returns-then-n-eq1 : goal.returns-then-n-eq1
unfolding kind_from
returns-then-n-eq1 c = rw (ne_eqb _ _ c.if-n-eq0.false, eq-eqb _ _ c.if-n-eq1.true)

pub returns-then-n-eq2 : goal.returns-then-n-eq2
unfolding kind_from
returns-then-n-eq2 c = rw (ne_eqb _ _ c.if-n-eq0.false, ne_eqb _ _ c.if-n-eq1.false, eq-eqb _ _ c.if-n-eq2.true)

pub returns-then-n-eq3 : goal.returns-then-n-eq3
unfolding kind_from
returns-then-n-eq3 c =
    rw (
      ne_eqb _ _ c.if-n-eq0.false,
      ne_eqb _ _ c.if-n-eq1.false,
      ne_eqb _ _ c.if-n-eq2.false,
      eq-eqb _ _ c.if-n-eq3.true,
    )

pub returns : goal.returns
unfolding kind_from
returns c =
    rw (
      ne_eqb _ _ c.if-n-eq0.false,
      ne_eqb _ _ c.if-n-eq1.false,
      ne_eqb _ _ c.if-n-eq2.false,
      ne_eqb _ _ c.if-n-eq3.false,
    )
