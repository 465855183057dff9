use borrow.Author.Tests.{eq-eqb, ne_eqb}
use Rattle.lerc_checksum.specs.Checksum as Rule
use Rattle.lerc_checksum.proofs.Groups.{last_word}
use Rattle.lerc_checksum.proofs.count_last.Goals as goal

pub returns-then-n-eq0 : goal.returns-then-n-eq0
unfolding Rule.with_last
returns-then-n-eq0 c = rw (eq-eqb _ _ c.if-n-eq0.true)

pub returns : goal.returns
unfolding Rule.with_last
returns c =
    let odd = c.if-n-eq0.false in
    rw (ne_eqb _ _ odd, c.pair.ensures.0, last_word _ odd)
