use Rattle.lerc_words.specs.Res.{refusal_of}
use Rattle.lerc_words.proofs.Marking.{exits}
use mathlib.Core.Path.{refl, ap}
use Rattle.lerc.specs.Read.{Lent}
use Rattle.lerc_c.specs.Records.{staged_room}
use Rattle.lerc_c.proofs.RecordParts.{both_long}
use Rattle.lerc_c.proofs.Entries.{publish-short, publish-refused, publish-done}
use Rattle.lerc_c.proofs.calls.publish.Goals as goal

pub returns-then-not-room : goal.returns-then-not-room
returns-then-not-room c =
    let a = c.args in
    let l : Lent = record { kept = a.kept.now; spare = a.spare.now; list = a.list.now; image = a.image.now } in
    publish-short a.blob.now a.reuse a.staged.now l a.said.now c.if-not-room.true

pub staged_from-given-requires : goal.staged_from-given-requires
staged_from-given-requires c =
    let a = c.args in
    (both_long staged_room 2 a.staged.now a.said.now c.if-not-room.false).0

pub returns-in_err-end : goal.returns-in_err-end
returns-in_err-end c =
    let a = c.args in
    let l : Lent = record { kept = a.kept.now; spare = a.spare.now; list = a.list.now; image = a.image.now } in
    publish-refused a.blob.now a.reuse a.staged.now l a.said.now c.if-not-room.false c.staged_from-given.ensures
    c.in_err-end.ensures (ap refusal_of (exits _ c.from_residual.ensures.1))

pub say-requires : goal.say-requires
say-requires c =
    let a = c.args in
    (both_long staged_room 2 a.staged.now a.said.now c.if-not-room.false).1

pub returns : goal.returns
returns c =
    let a = c.args in
    let l : Lent = record { kept = a.kept.now; spare = a.spare.now; list = a.list.now; image = a.image.now } in
    publish-done a.blob.now a.reuse a.staged.now l a.said.now c.if-not-room.false c.staged_from-given.ensures
    c.in_ok-end.ensures (refl, c.say.ensures)
