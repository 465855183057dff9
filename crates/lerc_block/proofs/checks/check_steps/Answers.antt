use mathlib.Core.Path.{◌∙◌, sym, ap, refl}
use Rattle.lerc_words.proofs.Marking.{exits}
use Rattle.lerc_bits.specs.Bits.{unpacked}
use Rattle.lerc_bits.proofs.Plans.{by-kept}
use Rattle.lerc_bits.proofs.Returns.{check-ok, check-no}
use Rattle.lerc_block.specs.Plan.{ended}
use Rattle.lerc_block.proofs.StepWords.{steps-other, steps-no}
use Rattle.lerc_block.proofs.Fitting.{next-no, steps_next}
use Rattle.lerc_block.proofs.checks.check_steps.Goals as goal

pub read_steps-requires : goal.read_steps-requires
read_steps-requires c = (c.requires.0, c.requires.0, c.requires.1)

pub returns-then-not-steps_fit : goal.returns-then-not-steps_fit
returns-then-not-steps_fit c = c.read_steps.ensures.says

pub returns-then-counts-n : goal.returns-then-counts-n
returns-then-counts-n c =
    let a = c.args in
    next-no (ap (ended a.next) (steps-other a.s.now a.kind a.error a.top a.n a.steps c.if-counts-n.true))

pub returns-in_err-check_plan : goal.returns-in_err-check_plan
returns-in_err-check_plan c =
    let a = c.args in
    let e = rw (by-kept a.s.now a.steps.counts c.requires.1.1) at c.in_err-check_plan.ensures in
    exits _ c.from_residual.ensures.1 ∙ next-no (ap (ended a.next) (steps-no a.s.now a.kind a.error a.top a.n a.steps c.if-counts-n.false (check-no _ e refl)))

pub returns : goal.returns
returns c =
    let a = c.args in
    let e = rw (by-kept a.s.now a.steps.counts c.requires.1.1) at c.in_ok-check_plan.ensures in
    let fit = sym c.steps_fit.ensures ∙ c.if-not-steps_fit.false in
    let (q, e, l, x) = check-ok (unpacked a.s.now a.steps.counts) e refl in
    steps_next a.s.now a.kind a.error a.top a.n a.steps a.next fit c.requires.1.0 c.if-counts-n.false e
