use Rattle.lerc_words.specs.Res.{refusal_of}
use Rattle.lerc_words.proofs.Marking.{exits}
use Rattle.lerc_c.specs.Records.{header_room, ranges_room}
use Rattle.lerc_c.proofs.RecordParts.{both_long}
use Rattle.lerc_c.proofs.Entries.{ranges-short, ranges-wide, ranges-no, ranges-done}
use mathlib.Core.Path.{sym, ap}
use Rattle.lerc_c.proofs.calls.read_ranges.Goals as goal

pub returns-then-not-room : goal.returns-then-not-room
returns-then-not-room c =
    let a = c.args in ranges-short a.blob.now a.header.now a.ranges.now c.if-not-room.true

pub header_from-requires : goal.header_from-requires
header_from-requires c =
    let a = c.args in
    (both_long header_room ranges_room a.header.now a.ranges.now c.if-not-room.false).0

pub returns-in_err-h : goal.returns-in_err-h
returns-in_err-h c =
    let a = c.args in
    ranges-wide a.blob.now a.header.now a.ranges.now c.if-not-room.false (sym c.in_err-h.ensures) (ap refusal_of (exits _ c.from_residual.ensures.1))

pub returns-in_err-r : goal.returns-in_err-r
returns-in_err-r c =
    let a = c.args in
    ranges-no a.blob.now a.header.now a.ranges.now c.if-not-room.false (sym c.in_ok-h.ensures)
    (sym c.in_err-r.ensures) (ap refusal_of (exits _ c.from_residual-in_err-r.ensures.1))

pub put_ranges-requires : goal.put_ranges-requires
put_ranges-requires c =
    let a = c.args in
    (both_long header_room ranges_room a.header.now a.ranges.now c.if-not-room.false).1

pub returns : goal.returns
returns c =
    let a = c.args in
    ranges-done a.blob.now a.header.now a.ranges.now c.if-not-room.false (sym c.in_ok-h.ensures)
    (sym c.in_ok-r.ensures) c.put_ranges.ensures
