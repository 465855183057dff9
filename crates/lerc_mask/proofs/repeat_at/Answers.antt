use borrow.Author.Tests.{lt-ltb, le-ltb, le-leb, lt-leb}
use Rattle.lerc_mask.specs.Mask.{repeat_at}
use Rattle.lerc_mask.proofs.repeat_at.Goals as goal

pub returns-then-len-at : goal.returns-then-len-at
unfolding repeat_at
returns-then-len-at c =
    rw (le-ltb _ _ c.if-len-at.true)

pub returns-then-left-n : goal.returns-then-left-n
unfolding repeat_at
returns-then-left-n c =
    rw (lt-ltb _ _ c.if-len-at.false, lt-leb _ _ c.if-left-n.true)

pub returns : goal.returns
unfolding repeat_at
returns c =
    rw (lt-ltb _ _ c.if-len-at.false, le-leb _ _ c.if-left-n.false)
