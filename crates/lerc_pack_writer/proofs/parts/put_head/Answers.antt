use mathlib.Core.Path.{◌∙◌, sym}
use Rattle.lerc_slices.proofs.Parts.{copied-whole}
use Rattle.lerc_pack_writer.proofs.Bytes.{head-is}
use Rattle.lerc_pack_writer.proofs.parts.put_head.Goals as goal

pub returns : goal.returns
returns c =
    c.copy.ensures ∙ copied-whole _ c.args.out.now (sym c.requires) ∙ head-is c.args.count
