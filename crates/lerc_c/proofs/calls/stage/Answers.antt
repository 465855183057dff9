use Rattle.lerc_words.specs.Res.{refusal_of}
use Rattle.lerc_words.proofs.Marking.{exits}
use mathlib.Core.Path.{ap}
use Rattle.lerc.specs.Read.{Lent}
use Rattle.lerc_c.proofs.Entries.{stage-short, stage-refused, stage-done}
use Rattle.lerc_c.proofs.calls.stage.Goals as goal

pub returns-then-staged-lt-STAGED : goal.returns-then-staged-lt-STAGED
returns-then-staged-lt-STAGED c =
    let a = c.args in
    let l : Lent = record { kept = a.kept.now; spare = a.spare.now; list = a.list.now; image = a.image.now } in
    stage-short a.blob.now a.reuse l a.staged.now c.if-staged-lt-STAGED.true

pub returns-in_err-found : goal.returns-in_err-found
returns-in_err-found c =
    let a = c.args in
    let l : Lent = record { kept = a.kept.now; spare = a.spare.now; list = a.list.now; image = a.image.now } in
    stage-refused a.blob.now a.reuse l a.staged.now c.if-staged-lt-STAGED.false c.in_err-found.ensures (ap refusal_of (exits _ c.from_residual.ensures.1))

pub returns : goal.returns
returns c =
    let a = c.args in
    let l : Lent = record { kept = a.kept.now; spare = a.spare.now; list = a.list.now; image = a.image.now } in
    stage-done a.blob.now a.reuse l a.staged.now c.if-staged-lt-STAGED.false c.in_ok-found.ensures c.put_staged.ensures
