use Rattle.lerc_words.specs.Res.{refusal_of}
use Rattle.lerc_words.proofs.Marking.{exits}
use Rattle.lerc_c.proofs.RecordParts.{long}
use Rattle.lerc_c.proofs.Entries.{fill-short, fill-wide, fill-mark, fill-no, fill_done}
use mathlib.Core.Path.{refl, sym, ap}
use Rattle.lerc_c.proofs.calls.fill.Goals as goal

pub returns-then-not-room : goal.returns-then-not-room
returns-then-not-room c =
    let a = c.args in fill-short a.blob.now a.header.now a.ranges.now a.mask.now a.list.now a.number a.image.now a.said.now c.if-not-room.true

pub header_from-requires : goal.header_from-requires
header_from-requires c =
    let a = c.args in
    (long 1 a.header.now a.ranges.now a.said.now c.if-not-room.false).header-fits

pub returns-in_err-h : goal.returns-in_err-h
returns-in_err-h c =
    let a = c.args in
    fill-wide a.blob.now a.header.now a.ranges.now a.mask.now a.list.now a.number a.image.now a.said.now c.if-not-room.false (sym c.in_err-h.ensures) (ap refusal_of (exits _ c.from_residual.ensures.1))

pub ranges_from-requires : goal.ranges_from-requires
ranges_from-requires c =
    let a = c.args in
    (long 1 a.header.now a.ranges.now a.said.now c.if-not-room.false).ranges-fit

pub returns-in_err-r : goal.returns-in_err-r
returns-in_err-r c =
    let a = c.args in
    fill-mark a.blob.now a.header.now a.ranges.now a.mask.now a.list.now a.number a.image.now a.said.now c.if-not-room.false (sym c.in_ok-h.ensures)
    (sym c.in_err-r.ensures) (ap refusal_of (exits _ c.from_residual-in_err-r.ensures.1))

pub returns-in_err-words : goal.returns-in_err-words
returns-in_err-words c =
    let a = c.args in
    fill-no a.blob.now a.header.now a.ranges.now a.mask.now a.list.now a.number a.image.now a.said.now c.if-not-room.false (sym c.in_ok-h.ensures)
    (sym c.in_ok-r.ensures) c.in_err-words.ensures (ap refusal_of (exits _ c.from_residual-in_err-words.ensures.1))

pub bounds-said-0 : goal.bounds-said-0
bounds-said-0 c =
    let a = c.args in
    (long 1 a.header.now a.ranges.now a.said.now c.if-not-room.false).said_fits

pub returns : goal.returns
returns c =
    let a = c.args in
    fill_done a.blob.now a.header.now a.ranges.now a.mask.now a.list.now a.number a.image.now a.said.now c.if-not-room.false (sym c.in_ok-h.ensures)
    (sym c.in_ok-r.ensures) c.in_ok-words.ensures refl
