use mathlib.Core.Path.{◌∙◌, sym}
use Rattle.lerc_words.proofs.Marking.{exits}
use Rattle.lerc_bits.proofs.Returns.{inspect-bare}
use Rattle.lerc_block.proofs.Planning.{steps-ok, steps-no}
use Rattle.lerc_block.proofs.plan.inspect_steps.Goals as goal

pub returns-in_err-counts : goal.returns-in_err-counts
returns-in_err-counts c =
    let a = c.args in
    exits _ c.from_residual.ensures.1 ∙ steps-no a.s.now a.at a.offset (sym (c.in_err-counts.ensures ∙ inspect-bare a.s.now a.at c.inspect.ensures))

pub returns : goal.returns
returns c =
    let a = c.args in
    steps-ok a.s.now a.at a.offset (sym (c.in_ok-counts.ensures ∙ inspect-bare a.s.now a.at c.inspect.ensures))
