use mathlib.Core.Path.{sym, ◌∙◌}
use borrow.Author.Tests.{eq-eqb}
use Rattle.lerc_numeric.proofs.ready.agrees.Goals as goal

pub returns : goal.returns
returns c =
    let sums = eq-eqb _ _ (c.plus.ensures ∙ sym c.plus_words.ensures) in
    let products = eq-eqb _ _ (c.scale.ensures ∙ sym c.scale_words.ensures) in
    let steps = eq-eqb _ _ (c.step.ensures ∙ sym c.step_words.ensures) in
    rw (sums, products, steps)
