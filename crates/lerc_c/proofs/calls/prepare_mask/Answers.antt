use Rattle.lerc_words.specs.Res.{refusal_of}
use Rattle.lerc_words.proofs.Marking.{exits}
use Rattle.lerc_c.specs.Records.{header_room}
use Rattle.lerc_c.proofs.RecordParts.{both_long}
use Rattle.lerc_c.proofs.Entries.{prepare-short, prepare-wide, prepare-is, told-no, told-kept, told-spare}
use mathlib.Core.Path.{refl, sym, ap}
use Rattle.lerc_c.proofs.calls.prepare_mask.Goals as goal

pub returns-then-not-room : goal.returns-then-not-room
returns-then-not-room c =
    let a = c.args in prepare-short a.blob.now a.header.now a.reuse a.kept.now a.spare.now a.said.now c.if-not-room.true

pub header_from-requires : goal.header_from-requires
header_from-requires c =
    let a = c.args in
    (both_long header_room 2 a.header.now a.said.now c.if-not-room.false).0

pub returns-in_err-h : goal.returns-in_err-h
returns-in_err-h c =
    let a = c.args in
    prepare-wide a.blob.now a.header.now a.reuse a.kept.now a.spare.now a.said.now c.if-not-room.false (sym c.in_err-h.ensures) (ap refusal_of (exits _ c.from_residual.ensures.1))

pub say-requires : goal.say-requires
say-requires c =
    let a = c.args in
    (both_long header_room 2 a.header.now a.said.now c.if-not-room.false).1

pub say-requires-in-Spare : goal.say-requires-in-Spare
say-requires-in-Spare c =
    let a = c.args in
    (both_long header_room 2 a.header.now a.said.now c.if-not-room.false).1

pub returns-in-Kept : goal.returns-in-Kept
returns-in-Kept c =
    let a = c.args in
    prepare-is a.blob.now a.header.now a.reuse a.kept.now a.spare.now a.said.now c.if-not-room.false (sym c.in_ok-h.ensures)
    (told-kept a.said.now _ (rw c.in-Kept.is at c.in_ok-mask.ensures) (refl, c.say.ensures))

pub returns-in-Spare : goal.returns-in-Spare
returns-in-Spare c =
    let a = c.args in
    prepare-is a.blob.now a.header.now a.reuse a.kept.now a.spare.now a.said.now c.if-not-room.false (sym c.in_ok-h.ensures)
    (told-spare a.said.now _ (rw c.in-Spare.is at c.in_ok-mask.ensures) (refl, c.say-in-Spare.ensures))

pub returns-in_err-mask : goal.returns-in_err-mask
returns-in_err-mask c =
    let a = c.args in
    rw (ap refusal_of (exits _ c.from_residual-in_err-mask.ensures.1)) (prepare-is a.blob.now a.header.now a.reuse a.kept.now a.spare.now a.said.now c.if-not-room.false (sym c.in_ok-h.ensures)
    (told-no a.said.now _ c.in_err-mask.ensures))
