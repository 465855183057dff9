use Rattle.std.proofs.Common.{◌≡◌, ℕ, ◌+◌, ◌*◌, ◌<◌, false, length, sym, ◌∙◌, add-mul, zero-mul, arith}
use Rattle.lerc_words.proofs.Counts.{count-zero}
use Rattle.lerc_mask.specs.Mask.{pixel_valid, valid_below}
use Rattle.lerc_image.specs.Cells.{valid_upto}
use Rattle.lerc_image.proofs.Painting.{length-painted}
use Rattle.lerc_image.proofs.Pixels.{upto-none, upto_all, pixel-skips, pixel-adds, pixel-fits, pixels-few, valid-less}
use Rattle.lerc_byte_image.specs.Prediction.{byte_word}
use Rattle.lerc_byte_image.specs.Image.{spot, symbol_no}
use Rattle.lerc_byte_image.specs.Parts.{table_by}
use Rattle.lerc_byte_image.specs.ImageParts.{plain_run}
use Rattle.lerc_byte_image.proofs.Spots.{spot-zero, ready_on}
use Rattle.lerc_byte_image.proofs.PlainCells.{pixel-word, pixel-next}
use Rattle.lerc_byte_image.proofs.image.write_plain_masked.Goals as goal
use Rattle.lerc_byte_image.proofs.image.write_plain_masked.Goals.{then-is_valid, else-is_valid}

pub overflow_mul-pixels : goal.overflow_mul-pixels
overflow_mul-pixels c = omega (arith, pixels-few c.args.h c.requires.shaped)

pub loop-q-init : goal.loop-q-init
loop-q-init c =
    let a = c.args in
    let h = a.h in
    let m = a.mask.now in
    let t = table_by a.by.range a.by.start a.lengths.now a.codes.now in
    let z : 0 * h.depth ≡ 0 = zero-mul h.depth in
    (omega arith, sym z, rw (count-zero (pixel_valid m), z) (sym (spot-zero a.s.now t 0)), rw (z) (upto-none h m a.image.now (byte_word h a.by.kind false m (symbol_no a.s.now t 0))))

pub put_plain-p-requires : goal.put_plain-p-requires
put_plain-p-requires c =
    let a = c.args in
    let h = a.h in
    let m = a.mask.now in
    let t = table_by a.by.range a.by.start a.lengths.now a.codes.now in
    let q = c.loop-q.q in
    let i = c.loop-q.invariant in
    let here : q < h.rows * h.columns = c.loop-q-test.true in
    let e : length c.loop-q.image ≡ length a.image.now = rw i.3 (length-painted a.image.now (byte_word h a.by.kind false m (symbol_no a.s.now t 0)) (valid_upto h m (q * h.depth))) in
    let g = pixel-fits h m q here (length a.image.now) c.requires.room in
    (rw i.2 (ready_on a.s.now t a.quick.now 0 (valid_below q m * h.depth) c.requires.ready), omega (arith, i.1))

pub overflow_add-base : goal.overflow_add-base
overflow_add-base c =
    let here : c.loop-q.q < c.args.h.rows * c.args.h.columns = c.loop-q-test.true in
    let f = pixel-fits c.args.h c.args.mask.now c.loop-q.q here 4194304 c.requires.shaped.few in
    omega (arith, c.loop-q.invariant.1)

pub loop-q-preserved : goal.loop-q-preserved
loop-q-preserved c =
    let a = c.args in
    let h = a.h in
    let m = a.mask.now in
    let s = a.s.now in
    let im = a.image.now in
    let t = table_by a.by.range a.by.start a.lengths.now a.codes.now in
    let w : ℕ → ℕ = byte_word h a.by.kind false m (symbol_no s t 0) in
    let q = c.loop-q.q in
    let i = c.loop-q.invariant in
    let v = c.is_valid.ensures in
    let here : q < h.rows * h.columns = c.loop-q-test.true in
    let e : (q + 1) * h.depth ≡ q * h.depth + h.depth = omega (arith, add-mul q 1 h.depth) in (
      omega arith,
      rw (e, i.1),
      elim c.if-is_valid.branch [
        | then-is_valid y ↦ y.p-is ∙ y.put_plain-p.ensures.value ∙ rw i.2 (pixel-next h m s t a.by.kind q (sym v ∙ y.if-is_valid.true))
        | else-is_valid y ↦ y.p-is ∙ rw (valid-less m q (sym v ∙ y.if-is_valid.false)) i.2
      ],
      rw (e) (elim c.if-is_valid.branch [
        | then-is_valid y ↦ y.image-is ∙ y.put_plain-p.ensures.image_after ∙ rw (i.3, i.1, i.2) (pixel-adds h m q here im w (plain_run s t a.by.kind (spot s t 0 (valid_below q m * h.depth)) (q * h.depth)) (sym v ∙ y.if-is_valid.true) (pixel-word h m s t a.by.kind q))
        | else-is_valid y ↦ y.image-is ∙ i.3 ∙ pixel-skips h m q here im w (sym v ∙ y.if-is_valid.false)
      ]),
    )

pub shape_of-image : goal.shape_of-image
shape_of-image c =
    let a = c.args in
    let h = a.h in
    let m = a.mask.now in
    let t = table_by a.by.range a.by.start a.lengths.now a.codes.now in
    rw c.loop-q.invariant.3 (length-painted a.image.now (byte_word h a.by.kind false m (symbol_no a.s.now t 0)) (valid_upto h m (c.loop-q.q * h.depth)))

pub returns : goal.returns
returns c =
    let a = c.args in
    let h = a.h in
    let m = a.mask.now in
    let t = table_by a.by.range a.by.start a.lengths.now a.codes.now in
    let e : c.loop-q.q ≡ h.rows * h.columns = omega arith in
    c.loop-q.invariant.3 ∙ rw (e) (upto_all h m a.image.now (byte_word h a.by.kind false m (symbol_no a.s.now t 0)))
