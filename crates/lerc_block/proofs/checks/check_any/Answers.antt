use mathlib.Core.Path.{◌∙◌, sym, ap, refl}
use native.Mathlib.Omega.{arith}
use Rattle.lerc_words.proofs.Marking.{exits}
use Rattle.lerc_block.specs.Block.{next_block}
use Rattle.lerc_block.proofs.Leads.{answered-words, answered-sound, answered-no}
use Rattle.lerc_block.proofs.Fitting.{next-no}
use Rattle.lerc_block.proofs.checks.check_any.Goals as goal

pub returns-in_err-p : goal.returns-in_err-p
returns-in_err-p c =
    let a = c.args in
    exits _ c.from_residual.ensures.1 ∙ next-no (answered-no _ _ _ _ _ c.in_err-p.ensures a.error a.maximum refl)

pub check_planned-requires : goal.check_planned-requires
check_planned-requires c =
    answered-sound _ _ _ _ _ c.in_ok-p.ensures refl (λ j. omega (arith, c.type_inv.s j))

pub returns : goal.returns
returns c =
    let a = c.args in
    c.check_planned.ensures ∙ sym (ap next_block (answered-words _ _ _ _ _ c.in_ok-p.ensures refl a.error a.maximum))
