use Rattle.std.proofs.Common.{◌≡◌, ◌+◌, ◌≤◌, true, ◌&&◌, leb, length, take, sym, arith}
use Rattle.lerc_words.specs.Res.{ok}
use Rattle.lerc_header.specs.Header.{held}
use Rattle.lerc_header.proofs.Kept.{held-shaped}
use Rattle.lerc_byte_image.proofs.Checking.{short}
use Rattle.lerc_byte_image.proofs.Writes.{unheld, no_room, no_table, form-is, blob-in, cells_in, written}
use Rattle.lerc_byte_image.proofs.write.Goals as goal
use Rattle.lerc_byte_image.proofs.write.Goals.{Else-not-room, In-Ok}

kept : (c : In-Ok) →
    let a = c.args in
    held a.h (length a.blob.now) ≡ ok c.in-Ok.e
kept c = sym c.in-Ok.ensures

room : (c : Else-not-room) →
    let a = c.args in
    (leb c.in-Ok.e.mask (length a.mask.now) && leb c.in-Ok.e.cells (length a.image.now)) ≡ true
room c = c.if-not-room.false

pub returns-in_default : goal.returns-in_default
returns-in_default c =
    let a = c.args in
    unheld a.blob.now a.h a.mode a.delta a.mask.now a.image.now (sym c.in_default.ensures)

pub returns-then-not-room : goal.returns-then-not-room
returns-then-not-room c =
    let k = (goal.at.returns-then-not-room c).In-Ok in
    let a = c.args in
    no_room a.blob.now a.h a.mode a.delta a.mask.now a.image.now (kept k) c.if-not-room.true

pub returns-then-e-mode : goal.returns-then-e-mode
returns-then-e-mode c =
    let t = (goal.at.returns-then-e-mode c).Else-not-room in
    let k = (goal.at.returns-then-e-mode c).In-Ok in
    let a = c.args in
    no_table a.blob.now a.h a.mode a.delta a.mask.now a.image.now (kept k) (room t) c.if-e-mode.true

pub slice_bounds-write_image-end : goal.slice_bounds-write_image-end
slice_bounds-write_image-end c =
    let t = (goal.at.slice_bounds-write_image-end c).Else-not-room in
    let k = (goal.at.slice_bounds-write_image-end c).In-Ok in
    let a = c.args in
    blob-in a.blob.now a.h a.mode a.delta a.mask.now a.image.now (kept k) (room t)

pub write_image-requires : goal.write_image-requires
write_image-requires c =
    let t = (goal.at.write_image-requires c).Else-not-room in
    let k = (goal.at.write_image-requires c).In-Ok in
    let a = c.args in
    let e = c.in-Ok.e in
    let form = form-is a.blob.now a.h a.mode a.delta a.mask.now a.image.now (kept k) (room t) in
    let s = blob-in a.blob.now a.h a.mode a.delta a.mask.now a.image.now (kept k) (room t) in
    let l : a.mode + 1 ≤ length (take e.size a.blob.now) = omega (arith, s, c.if-e-mode.false) in (
      form,
      short a.blob.now a.h a.mode (kept k),
      l,
      rw (form) (held-shaped a.h (length a.blob.now) (kept k)),
      rw (form) (cells_in a.blob.now a.h a.mode a.delta a.mask.now a.image.now (kept k) (room t)),
    )

pub returns : goal.returns
returns c =
    let t = (goal.at.returns c).Else-not-room in
    let k = (goal.at.returns c).In-Ok in
    let a = c.args in
    written a.blob.now a.h a.mode a.delta a.mask.now a.image.now (kept k) (room t) c.write_image.ensures
