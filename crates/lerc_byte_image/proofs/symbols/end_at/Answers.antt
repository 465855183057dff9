use Rattle.std.proofs.Common.{arith, le-leb}
use borrow.Author.Tests.{lt-leb}
use Rattle.lerc_byte_image.specs.Symbols.{end_of}
use Rattle.lerc_byte_image.specs.SymbolParts.{end_within}
use Rattle.lerc_byte_image.proofs.symbols.end_at.Goals as goal

pub returns-then-len-start : goal.returns-then-len-start
unfolding end_within
returns-then-len-start c =
    let a = c.args in
    rw (lt-leb (end_of a.start a.bits) a.len (omega (arith, c.if-len-start.true)))

pub returns : goal.returns
unfolding end_within
returns c =
    let a = c.args in
    rw (le-leb (end_of a.start a.bits) a.len (omega (arith, c.if-len-start.false)))
