use Rattle.lerc_words.specs.Res.{refusal_of}
use Rattle.lerc_words.proofs.Marking.{exits}
use Rattle.lerc_c.proofs.RecordParts.{long}
use Rattle.lerc_c.proofs.Entries.{walk-short, walk-wide, walk-mark, walk_no, walk-done}
use mathlib.Core.Path.{refl, sym, ap}
use Rattle.lerc_c.proofs.calls.walk.Goals as goal

pub returns-then-not-room : goal.returns-then-not-room
returns-then-not-room c =
    let a = c.args in walk-short a.blob.now a.header.now a.ranges.now a.mask.now a.list.now a.said.now c.if-not-room.true

pub header_from-requires : goal.header_from-requires
header_from-requires c =
    let a = c.args in
    (long 2 a.header.now a.ranges.now a.said.now c.if-not-room.false).header-fits

pub returns-in_err-h : goal.returns-in_err-h
returns-in_err-h c =
    let a = c.args in
    walk-wide a.blob.now a.header.now a.ranges.now a.mask.now a.list.now a.said.now c.if-not-room.false (sym c.in_err-h.ensures) (ap refusal_of (exits _ c.from_residual.ensures.1))

pub ranges_from-requires : goal.ranges_from-requires
ranges_from-requires c =
    let a = c.args in
    (long 2 a.header.now a.ranges.now a.said.now c.if-not-room.false).ranges-fit

pub returns-in_err-r : goal.returns-in_err-r
returns-in_err-r c =
    let a = c.args in
    walk-mark a.blob.now a.header.now a.ranges.now a.mask.now a.list.now a.said.now c.if-not-room.false (sym c.in_ok-h.ensures)
    (sym c.in_err-r.ensures) (ap refusal_of (exits _ c.from_residual-in_err-r.ensures.1))

pub returns-in_err-blocks : goal.returns-in_err-blocks
returns-in_err-blocks c =
    let a = c.args in
    rw (ap refusal_of (exits _ c.from_residual-in_err-blocks.ensures.1)) (walk_no a.blob.now a.header.now a.ranges.now a.mask.now a.list.now a.said.now c.if-not-room.false (sym c.in_ok-h.ensures)
    (sym c.in_ok-r.ensures) c.in_err-blocks.ensures)

pub say-requires : goal.say-requires
say-requires c =
    let a = c.args in
    (long 2 a.header.now a.ranges.now a.said.now c.if-not-room.false).said_fits

pub returns : goal.returns
returns c =
    let a = c.args in
    walk-done a.blob.now a.header.now a.ranges.now a.mask.now a.list.now a.said.now c.if-not-room.false (sym c.in_ok-h.ensures)
    (sym c.in_ok-r.ensures) c.in_ok-blocks.ensures (refl, c.say.ensures)
