use Rattle.lerc_words.specs.Res.{refusal_of}
use Rattle.lerc_words.proofs.Marking.{exits}
use Rattle.lerc.specs.Read.{Lent}
use Rattle.lerc_c.proofs.Entries.{read_short, read-refused, read_whole}
use mathlib.Core.Path.{ap}
use Rattle.lerc_c.proofs.calls.read.Goals as goal

pub returns-then-said-lt-READ : goal.returns-then-said-lt-READ
returns-then-said-lt-READ c =
    let a = c.args in
    let l : Lent = record { kept = a.kept.now; spare = a.spare.now; list = a.list.now; image = a.image.now } in
    read_short a.blob.now a.reuse l a.said.now c.if-said-lt-READ.true

pub returns-in_err-header : goal.returns-in_err-header
returns-in_err-header c =
    let a = c.args in
    let l : Lent = record { kept = a.kept.now; spare = a.spare.now; list = a.list.now; image = a.image.now } in
    read-refused a.blob.now a.reuse l a.said.now c.if-said-lt-READ.false c.in_err-header.ensures
    (ap refusal_of (exits _ c.from_residual.ensures.1))

pub returns : goal.returns
returns c =
    let a = c.args in
    let l : Lent = record { kept = a.kept.now; spare = a.spare.now; list = a.list.now; image = a.image.now } in
    read_whole a.blob.now a.reuse l a.said.now c.if-said-lt-READ.false
    c.in_ok-header.ensures c.put_header.ensures c.put.ensures
