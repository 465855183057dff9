use Rattle.std.proofs.Common.{◌≡◌, ◌+◌, ◌*◌, ◌<◌, length, sym, ◌∙◌, mul-le-mul_right, mod-lt, add-mul, zero-add, zero-mul, arith}
use native.Mathlib.Nat.{zero-mod, mod-add-mod}
use lib.Arith.{digits_lt}
use Rattle.lerc_words.proofs.Counts.{count-zero}
use Rattle.lerc_header.specs.Shape.{cells}
use Rattle.lerc_mask.specs.Mask.{pixel_valid, valid_below}
use Rattle.lerc_image.proofs.Painting.{length-painted}
use Rattle.lerc_image.proofs.Pixels.{pixels-few, valid-less}
use Rattle.lerc_byte_image.specs.Parts.{table_by}
use Rattle.lerc_byte_image.specs.ImageParts.{plane_upto, plane_word}
use Rattle.lerc_byte_image.proofs.Spots.{spot-zero, spot-few, ready_on}
use Rattle.lerc_byte_image.proofs.LeftBehind.{left-none, left-no}
use Rattle.lerc_byte_image.proofs.PlaneCells.{plane-none, plane-skips}
use Rattle.lerc_byte_image.proofs.PlaneSteps.{symbol_in, pixel-step}
use Rattle.lerc_byte_image.proofs.image.write_masked_plane.Goals as goal
use Rattle.lerc_byte_image.proofs.image.write_masked_plane.Goals.{then-is_valid, else-is_valid}

pub overflow_mul-pixels : goal.overflow_mul-pixels
overflow_mul-pixels c = omega (arith, pixels-few c.args.h c.requires.0.shaped)

pub stop_of-stop-requires : goal.stop_of-stop-requires
stop_of-stop-requires c = let b = c.requires.0.ready.behind in (b.inside, b.short)

pub loop-i-init : goal.loop-i-init
loop-i-init c =
    let a = c.args in
    let h = a.h in
    let s = a.s.now in
    let m = a.mask.now in
    let t = table_by a.by.range a.by.start a.lengths.now a.codes.now in (
      omega arith,
      sym (zero-mod h.columns),
      rw (zero-mul, zero-add),
      rw (count-zero (pixel_valid m)) (sym (spot-zero s t a.p)),
      sym (left-none a.by.kind h.columns m (symbol_in m s t a.p)),
      plane-none h m a.d c.requires.1 a.image.now (plane_word h a.by.kind m s t a.p),
    )

pub entry-e-requires : goal.entry-e-requires
entry-e-requires c =
    let a = c.args in
    let t = table_by a.by.range a.by.start a.lengths.now a.codes.now in
    (rw c.loop-i.invariant.3 (ready_on a.s.now t a.quick.now a.p (valid_below c.loop-i.i a.mask.now) c.requires.0.ready), c.stop_of-stop.ensures)

pub predict-predicted-requires : goal.predict-predicted-requires
predict-predicted-requires c =
    let a = c.args in
    let h = a.h in
    let m = a.mask.now in
    let t = table_by a.by.range a.by.start a.lengths.now a.codes.now in
    let i = c.loop-i.i in
    let here : i < h.rows * h.columns = c.loop-i-test.true in
    let k : i * h.depth + a.d < cells h = digits_lt here c.requires.1 in
    let e : length c.loop-i.image ≡ length a.image.now = rw c.loop-i.invariant.5 (length-painted a.image.now (plane_word h a.by.kind m a.s.now t a.p) (plane_upto h m a.d i)) in
    (c.loop-i.invariant.1, omega (arith, c.loop-i.invariant.2, c.requires.0.room), λ g. omega (arith, c.loop-i.invariant.2, mul-le-mul_right h.depth g))

pub offset_bounds-image-cell : goal.offset_bounds-image-cell
offset_bounds-image-cell c =
    let a = c.args in
    let h = a.h in
    let here : c.loop-i.i < h.rows * h.columns = c.loop-i-test.true in
    let k : c.loop-i.i * h.depth + a.d < cells h = digits_lt here c.requires.1 in
    omega (arith, c.loop-i.invariant.2, c.requires.0.shaped.few)

pub bounds-image-cell : goal.bounds-image-cell
bounds-image-cell c =
    let a = c.args in
    let h = a.h in
    let m = a.mask.now in
    let t = table_by a.by.range a.by.start a.lengths.now a.codes.now in
    let i = c.loop-i.i in
    let here : i < h.rows * h.columns = c.loop-i-test.true in
    let k : i * h.depth + a.d < cells h = digits_lt here c.requires.1 in
    let e : length c.loop-i.image ≡ length a.image.now = rw c.loop-i.invariant.5 (length-painted a.image.now (plane_word h a.by.kind m a.s.now t a.p) (plane_upto h m a.d i)) in
    omega (arith, c.loop-i.invariant.2, c.requires.0.room)

pub overflow_add-q : goal.overflow_add-q
overflow_add-q c =
    let a = c.args in
    let t = table_by a.by.range a.by.start a.lengths.now a.codes.now in
    let e = c.entry-e in
    let f = spot-few a.s.now t a.quick.now a.p (valid_below c.loop-i.i a.mask.now) e.result c.loop-i.q c.requires.0.ready c.loop-i.invariant.3 e.ensures in
    omega arith

pub next_column-x-requires : goal.next_column-x-requires
next_column-x-requires c =
    rw c.loop-i.invariant.1 (mod-lt c.loop-i.i c.requires.0.shaped.columns.0)

pub overflow_add-cell : goal.overflow_add-cell
overflow_add-cell c =
    let a = c.args in
    let h = a.h in
    let here : c.loop-i.i < h.rows * h.columns = c.loop-i-test.true in
    let k : c.loop-i.i * h.depth + a.d < cells h = digits_lt here c.requires.1 in
    omega (arith, c.loop-i.invariant.2, c.requires.0.shaped.few, c.requires.0.shaped.depth.1)

pub loop-i-preserved : goal.loop-i-preserved
loop-i-preserved c =
    let a = c.args in
    let h = a.h in
    let m = a.mask.now in
    let s = a.s.now in
    let im = a.image.now in
    let t = table_by a.by.range a.by.start a.lengths.now a.codes.now in
    let i = c.loop-i.i in
    let v = c.loop-i.invariant in
    let valid = c.is_valid.ensures in
    let here : i < h.rows * h.columns = c.loop-i-test.true in
    let less = c.less_of-less in
    let step = pixel-step h m s t a.by.kind a.p a.d c.requires.0.shaped c.requires.1 im c.requires.0.room i here c.requires.0.ready.behind.kept less.result in (
      omega arith,
      c.next_column-x.ensures ∙ rw v.1 (mod-add-mod i h.columns 1),
      omega (arith, v.2, add-mul i 1 h.depth),
      elim c.if-is_valid.branch [
        | then-is_valid w ↦ w.q-is ∙ (step w.entry-e.result c.loop-i.last w.predict-predicted.result w.byte_of-last.result c.loop-i.q c.loop-i.cell c.loop-i.image (sym valid ∙ w.if-is_valid.true) less.ensures v.3 w.entry-e.ensures v.4 v.2 v.5 w.predict-predicted.ensures w.byte_of-last.ensures).0
        | else-is_valid w ↦ w.q-is ∙ rw (valid-less m i (sym valid ∙ w.if-is_valid.false)) v.3
      ],
      elim c.if-is_valid.branch [
        | then-is_valid w ↦ w.last-is ∙ (step w.entry-e.result c.loop-i.last w.predict-predicted.result w.byte_of-last.result c.loop-i.q c.loop-i.cell c.loop-i.image (sym valid ∙ w.if-is_valid.true) less.ensures v.3 w.entry-e.ensures v.4 v.2 v.5 w.predict-predicted.ensures w.byte_of-last.ensures).1
        | else-is_valid w ↦ w.last-is ∙ v.4 ∙ sym (left-no a.by.kind h.columns m (symbol_in m s t a.p) i (sym valid ∙ w.if-is_valid.false))
      ],
      elim c.if-is_valid.branch [
        | then-is_valid w ↦ w.image-is ∙ (step w.entry-e.result c.loop-i.last w.predict-predicted.result w.byte_of-last.result c.loop-i.q c.loop-i.cell c.loop-i.image (sym valid ∙ w.if-is_valid.true) less.ensures v.3 w.entry-e.ensures v.4 v.2 v.5 w.predict-predicted.ensures w.byte_of-last.ensures).2
        | else-is_valid w ↦ w.image-is ∙ v.5 ∙ plane-skips h m a.d c.requires.1 i im (plane_word h a.by.kind m s t a.p) (sym valid ∙ w.if-is_valid.false)
      ],
    )

pub shape_of-image : goal.shape_of-image
shape_of-image c =
    let a = c.args in
    let h = a.h in
    let m = a.mask.now in
    let t = table_by a.by.range a.by.start a.lengths.now a.codes.now in
    rw c.loop-i.invariant.5 (length-painted a.image.now (plane_word h a.by.kind m a.s.now t a.p) (plane_upto h m a.d c.loop-i.i))

pub returns : goal.returns
returns c =
    let a = c.args in
    let e : c.loop-i.i ≡ a.h.rows * a.h.columns = omega arith in
    record { image_after = rw (← e) c.loop-i.invariant.5; value = rw (← e) c.loop-i.invariant.3 }
