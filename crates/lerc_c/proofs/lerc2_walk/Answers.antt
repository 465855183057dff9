use borrow.Author.Tests.{le-leb, lt-leb}
use mathlib.Core.Path.{refl}
use lib.ListN.{length}
use Rattle.lerc_c.proofs.Entries.{nowhere, somewhere}
use Rattle.lerc_c.proofs.lerc2_walk.Goals as goal

pub returns-then-place-lt1 : goal.returns-then-place-lt1
returns-then-place-lt1 c =
    let p = c.args.place.now in
    nowhere p c.if-place-lt1.true (rw (lt-leb 1 (length p) c.if-place-lt1.true) (record { why = refl; list = refl; said = refl }))

pub returns : goal.returns
returns c =
    let p = c.args.place.now in
    somewhere p c.of-walk_why.result (rw (le-leb 1 (length p) c.if-place-lt1.false, c.of-walk_why.ensures) c.walk.ensures)
