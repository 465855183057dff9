use mathlib.Core.Path.{◌∙◌, sym}
use Rattle.lerc_c.specs.Records.{names_right}
use Rattle.lerc_c.proofs.RecordParts.{answer-wide, answer-unnamed, answer-named}
use Rattle.lerc_c.proofs.staged.staged_from.Goals as goal

pub returns-in_default : goal.returns-in_default
returns-in_default c =
    answer-wide c.args.l.now (sym c.header_from.ensures ∙ c.in_default.is)

pub returns-then-not-named : goal.returns-then-not-named
unfolding names_right
returns-then-not-named c =
    answer-unnamed c.args.l.now (sym c.header_from.ensures ∙ c.in-Ok.is) c.if-not-named.true

pub returns : goal.returns
unfolding names_right
returns c =
    answer-named c.args.l.now (sym c.header_from.ensures ∙ c.in-Ok.is) c.if-not-named.false
    c.kind_from-body.ensures c.mask_from-mask.ensures
