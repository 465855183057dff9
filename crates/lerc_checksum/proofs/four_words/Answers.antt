use mathlib.Core.Path.{◌∙◌}
use native.Mathlib.Omega.{arith}
use Rattle.lerc_checksum.proofs.Quads.{by_bytes}
use Rattle.lerc_checksum.proofs.four_words.Goals as goal

pub returns : goal.returns
returns c = c.from_be_bytes.ensures ∙ omega (arith, by_bytes c.args.s.now c.args.k)
