use Rattle.std.proofs.Common.{◌≡◌, ℕ, ◌*◌, true, length, sym, ap, ◌∙◌, zero-mul, arith}
use Rattle.lerc_header.specs.Shape.{pixels}
use Rattle.lerc_mask.specs.Mask.{valid_below}
use Rattle.lerc_image.proofs.Painting.{length-painted}
use Rattle.lerc_image.proofs.Pixels.{pixels-few}
use Rattle.lerc_byte_image.specs.Prediction.{byte_word}
use Rattle.lerc_byte_image.specs.Image.{spot, symbol_no}
use Rattle.lerc_byte_image.specs.Parts.{table_by}
use Rattle.lerc_byte_image.specs.ImageParts.{Asked, plane_word, planes}
use Rattle.lerc_byte_image.proofs.Spots.{spot-zero, ready_on}
use Rattle.lerc_byte_image.proofs.PlaneCells.{planes-none, planes-more, planes-all, plane-word, plane-next}
use Rattle.lerc_byte_image.proofs.image.write_delta.Goals as goal
use Rattle.lerc_byte_image.proofs.image.write_delta.Goals.{In-loop-d, then-full, else-full}

pub overflow_mul-pixels : goal.overflow_mul-pixels
overflow_mul-pixels c = omega (arith, pixels-few c.args.h c.requires.shaped)

pub loop-d-init : goal.loop-d-init
loop-d-init c =
    let a = c.args in
    let m = a.mask.now in
    let t = table_by a.by.range a.by.start a.lengths.now a.codes.now in
    (omega arith, rw (zero-mul) (sym (spot-zero a.s.now t 0)), planes-none a.h m a.image.now (byte_word a.h a.by.kind true m (symbol_no a.s.now t 0)))

-- what one depth asks
asked : (c : In-loop-d) →
    let a = c.args in
    Asked a.h a.s.now (table_by a.by.range a.by.start a.lengths.now a.codes.now) a.quick.now c.loop-d.p c.loop-d.image
asked c =
    let a = c.args in
    let h = a.h in
    let m = a.mask.now in
    let i = c.loop-d.invariant in
    let t = table_by a.by.range a.by.start a.lengths.now a.codes.now in
    let e : length c.loop-d.image ≡ length a.image.now = rw i.2 (length-painted a.image.now (byte_word h a.by.kind true m (symbol_no a.s.now t 0)) (planes h m c.loop-d.d)) in
    record {
      shaped = c.requires.shaped;
      ready = rw i.1 (ready_on a.s.now t a.quick.now 0 (c.loop-d.d * valid_below (pixels h) m) c.requires.ready);
      room = omega (arith, c.requires.room);
    }

pub write_full_plane-p-requires : goal.write_full_plane-p-requires
write_full_plane-p-requires c = (asked (goal.at.write_full_plane-p-requires c).In-loop-d, c.loop-d-test.true)

pub write_masked_plane-p-requires : goal.write_masked_plane-p-requires
write_masked_plane-p-requires c = (asked (goal.at.write_masked_plane-p-requires c).In-loop-d, c.loop-d-test.true)

pub loop-d-preserved : goal.loop-d-preserved
loop-d-preserved c =
    let a = c.args in
    let h = a.h in
    let m = a.mask.now in
    let s = a.s.now in
    let im = a.image.now in
    let i = c.loop-d.invariant in
    let d = c.loop-d.d in
    let t = table_by a.by.range a.by.start a.lengths.now a.codes.now in
    let w : ℕ → ℕ = byte_word h a.by.kind true m (symbol_no s t 0) in
    let counted = c.count in
    let every : counted.result ≡ pixels h → valid_below (pixels h) m ≡ pixels h = λ e. sym counted.ensures ∙ e in
    let next = plane-next h m s t d in
    let more = planes-more h m d im w (plane_word h a.by.kind m s t (spot s t 0 (d * valid_below (pixels h) m))) c.loop-d-test.true (plane-word h m a.by.kind s t d) in (
      omega arith,
      elim c.if-full.branch [
        | then-full y ↦ y.p-is ∙ y.write_full_plane-p.ensures.value ∙ rw i.1 (ap (spot s t (spot s t 0 (d * valid_below (pixels h) m))) (sym (every (y.if-full.true))) ∙ next)
        | else-full y ↦ y.p-is ∙ y.write_masked_plane-p.ensures.value ∙ rw i.1 next
      ],
      elim c.if-full.branch [
        | then-full y ↦ y.image-is ∙ y.write_full_plane-p.ensures.by_index m (every (y.if-full.true)) ∙ rw (i.2, i.1) more
        | else-full y ↦ y.image-is ∙ y.write_masked_plane-p.ensures.image_after ∙ rw (i.2, i.1) more
      ],
    )

pub shape_of-image : goal.shape_of-image
shape_of-image c =
    let a = c.args in
    let m = a.mask.now in
    let t = table_by a.by.range a.by.start a.lengths.now a.codes.now in
    rw c.loop-d.invariant.2 (length-painted a.image.now (byte_word a.h a.by.kind true m (symbol_no a.s.now t 0)) (planes a.h m c.loop-d.d))

pub returns : goal.returns
returns c =
    let a = c.args in
    let h = a.h in
    let m = a.mask.now in
    let t = table_by a.by.range a.by.start a.lengths.now a.codes.now in
    let e : c.loop-d.d ≡ h.depth = omega arith in
    c.loop-d.invariant.2 ∙ rw (e) (planes-all h m a.image.now (byte_word h a.by.kind true m (symbol_no a.s.now t 0)) c.requires.shaped.depth.0)
