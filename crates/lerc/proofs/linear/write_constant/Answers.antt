use native.Mathlib.Nat.{zero-mul}
use Prim.Native.Nat.{◌-◌}
use mathlib.Core.Path.{◌≡◌, ◌∙◌, sym}
use Prim.Native.Nat.{◌<◌, ◌+◌, ◌*◌}
use native.Mathlib.Omega.{arith}
use native.Mathlib.Nat.{suc-mul}
use native.Mathlib.Numerals.{add-one}
use lib.ListN.{length, get_or}
use mathlib.Core.Bool.{true}
use Rattle.lerc_image.proofs.Painting.{length-painted}
use Rattle.lerc_image.specs.Cells.{valid_upto}
use Rattle.lerc.specs.Linear.{depth_word}
use Rattle.lerc_mask.specs.Mask.{pixel_valid}
use Rattle.lerc_words.proofs.Counts.{count-full}
use Rattle.lerc_image.proofs.Pixels.{upto-none, upto_all, pixel-skips, pixel-adds, pixel-fits, pixels-few, pixel-depth}
use Rattle.lerc.proofs.linear.write_constant.Goals as goal
use Rattle.lerc.proofs.linear.write_constant.Goals.{then-full, then-full-via-then-full, then-full-via-else-full+then-is_valid, else-full+else-is_valid}

pub overflow_mul-pixels : goal.overflow_mul-pixels
overflow_mul-pixels c = omega (arith, pixels-few c.args.h c.requires.0)

pub loop-p-init : goal.loop-p-init
loop-p-init c =
    let a = c.args in
    let e : 0 * a.h.depth ≡ 0 = zero-mul a.h.depth in
    (sym e, rw (e) (upto-none a.h a.mask.now a.image.now (depth_word a.h a.words.now)))

pub put_constant-requires : goal.put_constant-requires
put_constant-requires c =
    let a = c.args in
    let i = c.loop-p.invariant in
    let e : length c.loop-p.image ≡ length a.image.now = rw i.1 (length-painted a.image.now (depth_word a.h a.words.now) (valid_upto a.h a.mask.now (c.loop-p.p * a.h.depth))) in
    let f = pixel-fits a.h a.mask.now c.loop-p.p (omega arith) (length a.image.now) c.requires.1 in
    let few = c.requires.0.depth.1 in
    (omega (arith, few, c.requires.2), omega arith)

pub overflow_add-base : goal.overflow_add-base
overflow_add-base c =
    let a = c.args in
    let f = pixel-fits a.h a.mask.now c.loop-p.p (omega arith) 4194304 c.requires.0.few in
    omega arith

pub loop-p-preserved : goal.loop-p-preserved
loop-p-preserved c =
    let a = c.args in
    let h = a.h in
    let m = a.mask.now in
    let im = a.image.now in
    let words = a.words.now in
    let p = c.loop-p.p in
    let i = c.loop-p.invariant in
    let here : p < h.rows * h.columns = omega arith in
    let e : (p + 1) * h.depth ≡ p * h.depth + h.depth = rw (add-one) (omega (arith, suc-mul p h.depth)) in
    let counted = c.count.ensures in
    let every : c.count.result ≡ h.rows * h.columns → pixel_valid m p ≡ true = λ q. count-full (h.rows * h.columns) (pixel_valid m) (sym counted ∙ q) p here in (
      rw (e, i.0),
      rw (e) (elim c.if-full.branch [
        | then-full w ↦ w.image-is ∙ w.put_constant.ensures ∙ rw (i.1, i.0) (pixel-adds h m p here im (depth_word h words) (λ k. get_or words (k - p * h.depth) 0)
            (elim w.then-full.branch [
              | then-full-via-then-full k ↦ every k.if-full.true
              | then-full-via-else-full+then-is_valid k ↦ sym k.is_valid.ensures ∙ k.if-is_valid.true
            ])
            (λ k x y. rw (pixel-depth p h.depth k x y)))
        | else-full+else-is_valid w ↦ w.image-is ∙ i.1 ∙ pixel-skips h m p here im (depth_word h words) (sym w.is_valid.ensures ∙ w.if-is_valid.false)
      ]),
    )

pub shape_of-image : goal.shape_of-image
shape_of-image c =
    let a = c.args in
    rw c.loop-p.invariant.1 (length-painted a.image.now (depth_word a.h a.words.now) (valid_upto a.h a.mask.now (c.loop-p.p * a.h.depth)))

pub returns : goal.returns
returns c =
    let a = c.args in
    let e : c.loop-p.p ≡ a.h.rows * a.h.columns = omega arith in
    c.loop-p.invariant.1 ∙ rw (e) (upto_all a.h a.mask.now a.image.now (depth_word a.h a.words.now))
