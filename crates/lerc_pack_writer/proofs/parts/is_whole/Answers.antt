use mathlib.Core.Path.{◌∙◌, sym}
use Rattle.lerc_pack_writer.specs.Parts.{is_whole}
use Rattle.lerc_pack_writer.proofs.parts.is_whole.Goals as goal

pub returns-in_default : goal.returns-in_default
unfolding is_whole
returns-in_default c = rw (sym c.read_header.ensures ∙ c.in_default.is)

pub returns : goal.returns
unfolding is_whole
returns c = rw (sym c.read_header.ensures ∙ c.in-Ok.is)
