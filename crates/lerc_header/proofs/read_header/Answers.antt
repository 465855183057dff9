use mathlib.Core.Path.{◌∙◌, sym}
use Rattle.lerc_words.proofs.Marking.{exits}
use Rattle.lerc_header.proofs.Kept.{open_no, open-header}
use Rattle.lerc_header.proofs.read_header.Goals as goal

pub returns-in_err-opened : goal.returns-in_err-opened
returns-in_err-opened c = exits _ c.from_residual.ensures.1 ∙ sym (open_no c.args.blob.now (sym c.in_err-opened.ensures))

pub returns : goal.returns
returns c = sym (open-header c.args.blob.now (sym c.in_ok-opened.ensures))
