use mathlib.Core.Path.{◌∙◌}
use native.Mathlib.Omega.{arith}
use Rattle.lerc_words.proofs.Little.{little-quads}
use Rattle.lerc_words.proofs.eight.Goals as goal

pub returns : goal.returns
returns c = c.from_le_bytes.ensures ∙ omega (arith, little-quads c.args.s.now c.args.at)
