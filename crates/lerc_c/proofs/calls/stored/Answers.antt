use Rattle.lerc_words.specs.Res.{refusal_of}
use Rattle.lerc_words.proofs.Marking.{exits}
use Rattle.lerc_c.proofs.Entries.{stored_short, stored_no, stored-done}
use mathlib.Core.Path.{refl, sym, ap}
use Rattle.lerc_c.proofs.calls.stored.Goals as goal

pub returns-then-said-lt1 : goal.returns-then-said-lt1
returns-then-said-lt1 c =
    let a = c.args in stored_short a.kind a.v a.said.now c.if-said-lt1.true

pub returns-in_err-word : goal.returns-in_err-word
returns-in_err-word c =
    let a = c.args in
    stored_no a.kind a.v a.said.now c.if-said-lt1.false (sym c.in_err-word.ensures) (ap refusal_of (exits _ c.from_residual.ensures.1))

pub returns : goal.returns
returns c =
    let a = c.args in stored-done a.kind a.v a.said.now c.if-said-lt1.false (sym c.in_ok-word.ensures) refl
