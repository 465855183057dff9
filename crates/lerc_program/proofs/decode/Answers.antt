use Rattle.lerc.specs.Read.{Lent}
use Rattle.lerc_program.proofs.Program.{refused-text, whole-few, whole-text}
use Rattle.lerc_program.proofs.decode.Goals as goal

pub put_image-requires : goal.put_image-requires
put_image-requires c =
    let a = c.args in
    let l : Lent = record { kept = a.kept.now; spare = a.spare.now; list = a.list.now; image = a.image.now } in
    whole-few a.blob.now l c.requires (rw c.in-Ok.is at c.read-answer.ensures)

pub returns-in-Ok : goal.returns-in-Ok
returns-in-Ok c =
    let a = c.args in
    let l : Lent = record { kept = a.kept.now; spare = a.spare.now; list = a.list.now; image = a.image.now } in
    rw (whole-text a.blob.now l c.requires (rw c.in-Ok.is at c.read-answer.ensures)) c.put_image.ensures

pub returns-in-Err : goal.returns-in-Err
returns-in-Err c =
    let a = c.args in
    let l : Lent = record { kept = a.kept.now; spare = a.spare.now; list = a.list.now; image = a.image.now } in
    rw (refused-text a.blob.now l c.requires (rw c.in-Err.is at c.read-answer.ensures)) c.refuse.ensures
