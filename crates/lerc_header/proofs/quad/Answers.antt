use native.Mathlib.Omega.{arith}
use native.Mathlib.Numerals.{add-one, add-two, add-three}
use Rattle.lerc_words.specs.Res.{little}
use Rattle.lerc_header.proofs.quad.Goals as goal

pub returns : goal.returns
unfolding little
returns c = rw (c.four.ensures, add-one, add-two, add-three) (omega arith)
