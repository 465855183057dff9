use mathlib.Core.Path.{sym}
use Rattle.lerc_words.proofs.Little.{little-split}
use Rattle.lerc_header.proofs.eight.Goals as goal

pub returns : goal.returns
returns c =
    let a = c.args in
    rw (c.quad.ensures, c.quad-2.ensures) (sym (little-split 4 4 a.b.now a.at))
