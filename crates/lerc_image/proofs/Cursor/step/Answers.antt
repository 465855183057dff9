use borrow.Author.Tests.{lt-ltb, le-ltb}
use Rattle.lerc_image.proofs.Cursor.step.Goals as goal

pub returns-then-self-w : goal.returns-then-self-w
returns-then-self-w c = rw (lt-ltb _ _ c.if-self-w.true)

pub returns : goal.returns
returns c = rw (le-ltb _ _ c.if-self-w.false)
