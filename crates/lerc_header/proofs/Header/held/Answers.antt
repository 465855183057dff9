use mathlib.Core.Path.{◌∙◌, sym}
use borrow.Author.Tests.{le-leb, lt-leb}
use Rattle.lerc_header.specs.Header.{held}
use Rattle.lerc_header.proofs.Kept.{fields-right, within-ceilings, shaped}
use Rattle.lerc_header.proofs.Header.held.Goals as goal

pub returns-then-not-fields_right : goal.returns-then-not-fields_right
unfolding held
returns-then-not-fields_right c = rw (sym c.fields_right.ensures ∙ c.if-not-fields_right.true)

pub returns-then-not-within_ceilings : goal.returns-then-not-within_ceilings
unfolding held
returns-then-not-within_ceilings c = rw (sym c.fields_right.ensures ∙ c.if-not-fields_right.false, sym c.within_ceilings.ensures ∙ c.if-not-within_ceilings.true)

pub returns-then-len-self : goal.returns-then-len-self
unfolding held
returns-then-len-self c = rw (sym c.fields_right.ensures ∙ c.if-not-fields_right.false, sym c.within_ceilings.ensures ∙ c.if-not-within_ceilings.false, lt-leb _ _ c.if-len-self.true)

pub measure-requires : goal.measure-requires
measure-requires c =
    let h = c.args.self in
    shaped h (fields-right h (sym c.fields_right.ensures ∙ c.if-not-fields_right.false)) (within-ceilings h (sym c.within_ceilings.ensures ∙ c.if-not-within_ceilings.false))

pub returns : goal.returns
unfolding held
returns c = rw (sym c.fields_right.ensures ∙ c.if-not-fields_right.false, sym c.within_ceilings.ensures ∙ c.if-not-within_ceilings.false, le-leb _ _ c.if-len-self.false, c.measure.ensures)
