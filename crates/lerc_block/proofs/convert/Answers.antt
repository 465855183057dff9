use mathlib.Core.Path.{sym}
use native.Mathlib.Omega.{arith}
use Rattle.lerc_words.proofs.Marking.{exits}
use Rattle.lerc_block.proofs.StepWords.{converted-all, converted-no}
use Rattle.lerc_words.proofs.Each.{staged-none, staged-more, staged-fails, staged_done}
use Rattle.lerc_block.specs.Steps.{step_word}
use Rattle.lerc_block.proofs.convert.Goals as goal

pub loop-k-init : goal.loop-k-init
loop-k-init c =
    let a = c.args in
    staged-none (step_word a.kind a.error a.top a.offset) a.counts.now a.out.now (omega arith)

pub returns-in_err-out : goal.returns-in_err-out
returns-in_err-out c =
    let a = c.args in
    converted-no (exits _ c.from_residual.ensures.1) (staged-fails (step_word a.kind a.error a.top a.offset) a.counts.now c.loop-k.k a.out.now c.loop-k.out c.loop-k.invariant (omega arith) (sym c.in_err-out.ensures))

pub loop-k-preserved : goal.loop-k-preserved
loop-k-preserved c =
    let a = c.args in
    staged-more (step_word a.kind a.error a.top a.offset) a.counts.now c.loop-k.k a.out.now c.loop-k.out c.loop-k.invariant _ (omega arith) (sym c.in_ok-out.ensures)

pub returns : goal.returns
returns c =
    let a = c.args in
    converted-all c.loop-k.invariant.front (staged_done (step_word a.kind a.error a.top a.offset) a.counts.now c.loop-k.k a.out.now c.loop-k.out c.loop-k.invariant c.loop-k-test.false) c.loop-k.invariant.is
