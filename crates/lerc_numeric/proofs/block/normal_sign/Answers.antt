use mathlib.Core.Path.{sym, ◌∙◌}
use native.Mathlib.Omega.{arith}
use borrow.Author.Tests.{ltb-true, eqb-true}
use Rattle.lerc_words.proofs.Binding.{and_is}
use Rattle.lerc_numeric.specs.Steps.{step_of}
use Rattle.lerc_numeric.proofs.Normal.{steps-normal}
use Rattle.lerc_numeric.proofs.block.normal_sign.Goals as goal

pub returns-then-error-alike : goal.returns-then-error-alike
unfolding step_of
returns-then-error-alike c h =
    let a = c.args in
    let last = and_is _ _ c.if-error-alike.true in
    let first = and_is _ _ last.0 in
    let ends = and_is _ _ first.0 in
    steps-normal a.offset a.error a.top a.low _ _ (ltb-true _ _ ends.0) c.step-a.ensures c.step-b.ensures (eqb-true _ _ ends.1)
    (sym c.is_normal.ensures ∙ first.1)
    (sym c.is_normal-2.ensures ∙ last.1)
    h

pub returns-else-error-alike : goal.returns-else-error-alike
returns-else-error-alike c h = absurd (omega (arith, h))
