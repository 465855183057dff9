use mathlib.Core.Path.{refl}
use Rattle.lerc_words.proofs.Marking.{exits}
use Rattle.lerc.specs.Read.{Lent}
use Rattle.lerc.proofs.Both.{read-refused, read-not, read_done}
use Rattle.lerc.proofs.read.Goals as goal

pub returns-in_err-found : goal.returns-in_err-found
returns-in_err-found c =
    let a = c.args in
    let l : Lent = record { kept = a.kept.now; spare = a.spare.now; list = a.list.now; image = a.image.now } in
    rw (exits _ c.from_residual.ensures.1) (read-refused a.blob.now a.reuse l c.in_err-found.ensures)

pub returns-in_err-done : goal.returns-in_err-done
returns-in_err-done c =
    let a = c.args in
    let l : Lent = record { kept = a.kept.now; spare = a.spare.now; list = a.list.now; image = a.image.now } in
    absurd (read-not a.blob.now a.reuse l c.in_ok-found.ensures c.in_err-done.ensures refl)

pub returns : goal.returns
returns c =
    let a = c.args in
    let l : Lent = record { kept = a.kept.now; spare = a.spare.now; list = a.list.now; image = a.image.now } in
    read_done a.blob.now a.reuse l c.in_ok-found.ensures c.in_ok-done.ensures refl
