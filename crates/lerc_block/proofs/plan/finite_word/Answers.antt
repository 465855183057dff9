use mathlib.Core.Path.{◌∙◌, sym}
use Rattle.lerc_block.proofs.Finite.{finite-integer, finite-single, finite-last}
use Rattle.lerc_block.proofs.plan.finite_word.Goals as goal

pub returns-then-kind-lt6 : goal.returns-then-kind-lt6
returns-then-kind-lt6 c = let a = c.args in sym (finite-integer a.kind a.word c.if-kind-lt6.true)

pub returns-then-kind-eq6 : goal.returns-then-kind-eq6
returns-then-kind-eq6 c = let a = c.args in sym (finite-single a.kind a.word c.if-kind-eq6.true)

pub returns : goal.returns
returns c =
    let a = c.args in
    c.is_finite.ensures ∙ sym (finite-last a.kind a.word c.if-kind-lt6.false c.if-kind-eq6.false c.ranges.word.fits)
