use Rattle.lerc.proofs.MaskKept.{room-is}
use Rattle.lerc.proofs.Endings.{header-no, room-no, read_no}
use Rattle.lerc.proofs.Publishes.{publish-no}
use Rattle.lerc.specs.Read.{Lent}
use Rattle.lerc_header.proofs.Kept.{open_no, open-ok}
use Rattle.lerc_words.proofs.Marking.{exits}
use mathlib.Core.Path.{◌∙◌, sym}
use Rattle.lerc.proofs.publish.Goals as goal

pub returns-in_err-again : goal.returns-in_err-again
returns-in_err-again c =
    let a = c.args in
    let b = a.blob.now in
    let l : Lent = record { kept = a.kept.now; spare = a.spare.now; list = a.list.now; image = a.image.now } in
    rw (exits _ c.from_residual.ensures.1)
    (publish-no b a.reuse a.given l (read_no b a.reuse l (header-no b a.reuse l (open_no b (sym c.in_err-again.ensures)))))

pub returns-else-has_room : goal.returns-else-has_room
returns-else-has_room c =
    let a = c.args in
    let b = a.blob.now in
    let l : Lent = record { kept = a.kept.now; spare = a.spare.now; list = a.list.now; image = a.image.now } in
    let (e, k) = open-ok b (sym c.in_ok-again.ensures) in
    let none = sym (room-is _ _ l k) ∙ sym c.has_room.ensures ∙ c.if-has_room.false in
    publish-no b a.reuse a.given l (read_no b a.reuse l (room-no b a.reuse l e none))

pub publish_masked-requires : goal.publish_masked-requires
publish_masked-requires c =
    let a = c.args in
    let b = a.blob.now in
    let l : Lent = record { kept = a.kept.now; spare = a.spare.now; list = a.list.now; image = a.image.now } in
    let (e, k) = open-ok b (sym c.in_ok-again.ensures) in
    (e, sym (room-is _ _ l k) ∙ sym c.has_room.ensures ∙ c.if-has_room.true)

pub returns-then-has_room : goal.returns-then-has_room
returns-then-has_room c = c.publish_masked.ensures
