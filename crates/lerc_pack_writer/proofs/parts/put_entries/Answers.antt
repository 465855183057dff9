use lib.ListN.{length-take, length-drop}
use mathlib.Core.Path.{ap}
use Rattle.lerc_pack.specs.declared.Entry.{Entry}
use native.Mathlib.Omega.{arith}
use Rattle.lerc_pack_writer.proofs.Putting.{entry-made, room_at, putting-none, putting-more, putting-all, putting-length}
use Rattle.lerc_pack_writer.proofs.parts.put_entries.Goals as goal

pub loop-i-init : goal.loop-i-init
loop-i-init c = putting-none _ _

pub offset_bounds-lengths-i : goal.offset_bounds-lengths-i
offset_bounds-lengths-i c =
    let j = c.requires.judged in
    let l = c.loop-i in
    omega (arith, j.few, j.lengths, j.columns, c.requires.fits, putting-length _ l.invariant c.requires.fits, c.loop-i-test.true)

pub bounds-lengths-i : goal.bounds-lengths-i
bounds-lengths-i c =
    let j = c.requires.judged in
    let l = c.loop-i in
    omega (arith, j.few, j.lengths, j.columns, c.requires.fits, putting-length _ l.invariant c.requires.fits, c.loop-i-test.true)

pub offset_bounds-rows-i : goal.offset_bounds-rows-i
offset_bounds-rows-i c =
    let j = c.requires.judged in
    let l = c.loop-i in
    omega (arith, j.few, j.lengths, j.columns, c.requires.fits, putting-length _ l.invariant c.requires.fits, c.loop-i-test.true)

pub bounds-rows-i : goal.bounds-rows-i
bounds-rows-i c =
    let j = c.requires.judged in
    let l = c.loop-i in
    omega (arith, j.few, j.lengths, j.columns, c.requires.fits, putting-length _ l.invariant c.requires.fits, c.loop-i-test.true)

pub offset_bounds-columns-i : goal.offset_bounds-columns-i
offset_bounds-columns-i c =
    let j = c.requires.judged in
    let l = c.loop-i in
    omega (arith, j.few, j.lengths, j.columns, c.requires.fits, putting-length _ l.invariant c.requires.fits, c.loop-i-test.true)

pub bounds-columns-i : goal.bounds-columns-i
bounds-columns-i c =
    let j = c.requires.judged in
    let l = c.loop-i in
    omega (arith, j.few, j.lengths, j.columns, c.requires.fits, putting-length _ l.invariant c.requires.fits, c.loop-i-test.true)

pub overflow_add-at : goal.overflow_add-at
overflow_add-at c =
    let j = c.requires.judged in
    let l = c.loop-i in
    let room = room_at _ l.i l.at j c.loop-i-test.true l.invariant.next in
    omega (arith, j.few, j.lengths, j.columns, j.small, c.requires.fits, putting-length _ l.invariant c.requires.fits, room.0, room.1)

pub overflow_add-at-in-loop-i : goal.overflow_add-at-in-loop-i
overflow_add-at-in-loop-i c =
    let j = c.requires.judged in
    let l = c.loop-i in
    let room = room_at _ l.i l.at j c.loop-i-test.true l.invariant.next in
    omega (arith, j.few, j.lengths, j.columns, j.small, c.requires.fits, putting-length _ l.invariant c.requires.fits, room.0, room.1)

pub overflow_mul-entry : goal.overflow_mul-entry
overflow_mul-entry c =
    let j = c.requires.judged in
    let l = c.loop-i in
    omega (arith, j.few, j.lengths, j.columns, c.requires.fits, putting-length _ l.invariant c.requires.fits, c.loop-i-test.true)

pub overflow_add-entry : goal.overflow_add-entry
overflow_add-entry c =
    let j = c.requires.judged in
    let l = c.loop-i in
    omega (arith, j.few, j.lengths, j.columns, c.requires.fits, putting-length _ l.invariant c.requires.fits, c.loop-i-test.true)

pub overflow_add-entry-in-loop-i : goal.overflow_add-entry-in-loop-i
overflow_add-entry-in-loop-i c =
    let j = c.requires.judged in
    let l = c.loop-i in
    let room = room_at _ l.i l.at j c.loop-i-test.true l.invariant.next in
    omega (arith, j.few, j.lengths, j.columns, j.small, c.requires.fits, putting-length _ l.invariant c.requires.fits, room.0, room.1)

pub overflow_mul-place : goal.overflow_mul-place
overflow_mul-place c =
    let j = c.requires.judged in
    let l = c.loop-i in
    omega (arith, j.few, j.lengths, j.columns, c.requires.fits, putting-length _ l.invariant c.requires.fits, c.loop-i-test.true)

pub overflow_add-end : goal.overflow_add-end
overflow_add-end c =
    let j = c.requires.judged in
    let l = c.loop-i in
    omega (arith, j.few, j.lengths, j.columns, c.requires.fits, putting-length _ l.invariant c.requires.fits, c.loop-i-test.true)

pub slice_bounds-put_entry-end : goal.slice_bounds-put_entry-end
slice_bounds-put_entry-end c =
    let j = c.requires.judged in
    let l = c.loop-i in
    omega (arith, j.few, j.lengths, j.columns, c.requires.fits, putting-length _ l.invariant c.requires.fits, c.loop-i-test.true)

pub put_entry-requires : goal.put_entry-requires
put_entry-requires c =
    let j = c.requires.judged in
    let l = c.loop-i in
    let t = c.loop-i-test.true in
    let deep = ap (λ (e : Entry). e.depth) (entry-made _ l.i l.at _ _ j t l.invariant.next c.quad.ensures c.quad-in-loop-i.ensures) in
    (simp (length-take, length-drop) (omega (arith, c.requires.fits, putting-length _ l.invariant c.requires.fits, t)), omega (arith, deep, j.deep l.i t))

pub overflow_add-at-in-loop-i-2 : goal.overflow_add-at-in-loop-i-2
overflow_add-at-in-loop-i-2 c =
    let j = c.requires.judged in
    let l = c.loop-i in
    let room = room_at _ l.i l.at j c.loop-i-test.true l.invariant.next in
    omega (arith, j.few, j.lengths, j.columns, j.small, c.requires.fits, putting-length _ l.invariant c.requires.fits, room.0, room.1)

pub loop-i-preserved : goal.loop-i-preserved
loop-i-preserved c =
    let j = c.requires.judged in
    let l = c.loop-i in
    let made = entry-made _ l.i l.at _ _ j c.loop-i-test.true l.invariant.next c.quad.ensures c.quad-in-loop-i.ensures in
    putting-more _ _ _ l.invariant c.loop-i-test.true made c.put_entry.ensures

pub shape_of-out : goal.shape_of-out
shape_of-out c = putting-length _ c.loop-i.invariant c.requires.fits

pub returns : goal.returns
returns c = putting-all _ c.loop-i.invariant c.loop-i-test.false c.requires.fits
