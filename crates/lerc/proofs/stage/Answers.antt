use Rattle.lerc.proofs.MaskKept.{room-is}
use Rattle.lerc.proofs.Endings.{header-no, room-no}
use Rattle.lerc.proofs.Staging.{stage-no}
use Rattle.lerc.specs.Read.{Lent}
use Rattle.lerc_header.proofs.Kept.{open_no, open-ok}
use Rattle.lerc_words.proofs.Marking.{exits}
use mathlib.Core.Path.{◌∙◌, sym}
use Rattle.lerc.proofs.stage.Goals as goal

pub returns-in_err-opened : goal.returns-in_err-opened
returns-in_err-opened c =
    let a = c.args in
    let b = a.blob.now in
    let l : Lent = record { kept = a.kept.now; spare = a.spare.now; list = a.list.now; image = a.image.now } in
    rw (exits _ c.from_residual.ensures.1) (stage-no b a.reuse l (header-no b a.reuse l (open_no b (sym c.in_err-opened.ensures))))

pub returns-then-not-has_room : goal.returns-then-not-has_room
returns-then-not-has_room c =
    let a = c.args in
    let b = a.blob.now in
    let l : Lent = record { kept = a.kept.now; spare = a.spare.now; list = a.list.now; image = a.image.now } in
    let (e, k) = open-ok b (sym c.in_ok-opened.ensures) in
    stage-no b a.reuse l (room-no b a.reuse l e (sym (room-is _ _ l k) ∙ sym c.has_room.ensures ∙ c.if-not-has_room.true))

pub stage_masked-requires : goal.stage_masked-requires
stage_masked-requires c =
    let a = c.args in
    let b = a.blob.now in
    let l : Lent = record { kept = a.kept.now; spare = a.spare.now; list = a.list.now; image = a.image.now } in
    let (e, k) = open-ok b (sym c.in_ok-opened.ensures) in
    (e, sym (room-is _ _ l k) ∙ sym c.has_room.ensures ∙ c.if-not-has_room.false)

pub returns : goal.returns
returns c = c.stage_masked.ensures
