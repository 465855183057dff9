use native.Mathlib.Omega.{arith}
use Prim.Native.Nat.{suc, ◌<◌}
use mathlib.Core.Path.{sym}
use borrow.Author.Tests.{lt-leb}
use Rattle.lerc_pack.specs.Contents.{entry_place}
use Rattle.lerc_pack.proofs.Order.{holds-is}
use Rattle.lerc_pack.proofs.table.holds_entry.Goals as goal

pub returns-then-len-lt-HEAD : goal.returns-then-len-lt-HEAD
returns-then-len-lt-HEAD c =
    let h : c.args.len < entry_place (suc c.args.i) = omega (arith, c.if-len-lt-HEAD.true) in
    sym (lt-leb _ _ h)

pub returns : goal.returns
returns c = holds-is c.args.len c.args.i c.if-len-lt-HEAD.false
