use mathlib.Core.Bool.{true}
use Prim.Native.Nat.{◌-◌}
use mathlib.Core.Path.{◌≡◌, ◌∙◌, sym}
use Prim.Native.Nat.{ℕ, ◌<◌, ◌+◌, ◌*◌}
use native.Mathlib.Omega.{arith}
use native.Mathlib.Nat.{zero-mul, suc-mul, add-zero, add_assoc}
use native.Mathlib.Numerals.{add-one}
use lib.ListN.{length}
use Rattle.lerc_words.specs.Res.{little}
use Rattle.lerc_words.proofs.Counts.{count-zero}
use Rattle.lerc_mask.specs.Mask.{pixel_valid, valid_below}
use Rattle.lerc_image.proofs.Painting.{length-painted}
use Rattle.lerc_image.specs.Cells.{valid_upto}
use Rattle.lerc_image.proofs.Pixels.{upto-none, upto_all, pixel-skips, pixel-adds, pixel-fits, pixels-few, valid-less}
use Rattle.lerc.specs.Linear.{raw_word}
use Rattle.lerc.proofs.RawWords.{raw-next, raw-fits, raw_word_lem}
use Rattle.lerc.proofs.linear.write_raw_masked.Goals as goal
use Rattle.lerc.proofs.linear.write_raw_masked.Goals.{then-is_valid, else-is_valid}

pub overflow_mul-pixels : goal.overflow_mul-pixels
overflow_mul-pixels c = omega (arith, pixels-few c.args.h c.requires.shaped)

pub loop-p-init : goal.loop-p-init
loop-p-init c =
    let a = c.args in
    let h = a.h in
    let e : 0 * h.depth ≡ 0 = zero-mul h.depth in
    let z : 0 * a.size ≡ 0 = zero-mul a.size in
    (sym e, rw (count-zero (pixel_valid a.mask.now), e, z, add-zero), rw (e) (upto-none h a.mask.now a.image.now (raw_word a.s.now a.at a.size h a.mask.now)))

pub put_raw-requires : goal.put_raw-requires
put_raw-requires c =
    let a = c.args in
    let h = a.h in
    let m = a.mask.now in
    let im = a.image.now in
    let w : ℕ → ℕ = raw_word a.s.now a.at a.size h m in
    let p = c.loop-p.p in
    let i = c.loop-p.invariant in
    let v : pixel_valid m p ≡ true = sym c.is_valid.ensures ∙ c.if-is_valid.true in
    let f = raw-fits m (h.rows * h.columns) p h.depth a.size v (omega arith) in
    let e : length c.loop-p.image ≡ length im = rw i.2 (length-painted im w (valid_upto h m (p * h.depth))) in
    let g = pixel-fits h m p (omega arith) (length im) c.requires.room in
    (c.requires.small, omega (arith, c.requires.words), omega arith)

pub overflow_mul-from : goal.overflow_mul-from
overflow_mul-from c =
    let a = c.args in
    let h = a.h in
    let m = a.mask.now in
    let im = a.image.now in
    let w : ℕ → ℕ = raw_word a.s.now a.at a.size h m in
    let p = c.loop-p.p in
    let i = c.loop-p.invariant in
    let v : pixel_valid m p ≡ true = sym c.is_valid.ensures ∙ c.if-is_valid.true in
    let here : p < h.rows * h.columns = c.loop-p-test.true in
    let f = raw-fits m (h.rows * h.columns) p h.depth a.size v here in
    omega (arith, c.requires.words, i.1, c.well_formed)

pub overflow_add-from : goal.overflow_add-from
overflow_add-from c =
    let a = c.args in
    let h = a.h in
    let m = a.mask.now in
    let im = a.image.now in
    let w : ℕ → ℕ = raw_word a.s.now a.at a.size h m in
    let p = c.loop-p.p in
    let i = c.loop-p.invariant in
    let v : pixel_valid m p ≡ true = sym c.is_valid.ensures ∙ c.if-is_valid.true in
    let here : p < h.rows * h.columns = c.loop-p-test.true in
    let f = raw-fits m (h.rows * h.columns) p h.depth a.size v here in
    omega (arith, c.requires.words, i.1, c.well_formed)

pub overflow_add-base : goal.overflow_add-base
overflow_add-base c =
    let a = c.args in
    let h = a.h in
    let m = a.mask.now in
    let im = a.image.now in
    let w : ℕ → ℕ = raw_word a.s.now a.at a.size h m in
    let p = c.loop-p.p in
    let i = c.loop-p.invariant in
    let f = pixel-fits h m p (omega arith) 4194304 c.requires.shaped.few in
    omega arith

pub loop-p-preserved : goal.loop-p-preserved
loop-p-preserved c =
    let a = c.args in
    let h = a.h in
    let m = a.mask.now in
    let im = a.image.now in
    let w : ℕ → ℕ = raw_word a.s.now a.at a.size h m in
    let p = c.loop-p.p in
    let i = c.loop-p.invariant in
    let v = c.is_valid.ensures in
    let here : p < h.rows * h.columns = omega arith in
    let e : (p + 1) * h.depth ≡ p * h.depth + h.depth = rw (add-one) (omega (arith, suc-mul p h.depth)) in (
      rw (e, i.0),
      elim c.if-is_valid.branch [
        | then-is_valid y ↦ y.from-is ∙ rw (i.1, raw-next m p h.depth a.size (sym v ∙ y.if-is_valid.true), add_assoc)
        | else-is_valid y ↦ y.from-is ∙ rw (i.1, valid-less m p (sym v ∙ y.if-is_valid.false))
      ],
      rw (e) (elim c.if-is_valid.branch [
        | then-is_valid y ↦ y.image-is ∙ y.put_raw.ensures ∙ rw (i.2, i.0, i.1) (pixel-adds h m p here im w (λ k. little a.size a.s.now (a.at + valid_below p m * h.depth * a.size + (k - p * h.depth) * a.size)) (sym v ∙ y.if-is_valid.true) (raw_word_lem a.s.now a.at a.size h m p))
        | else-is_valid y ↦ y.image-is ∙ i.2 ∙ pixel-skips h m p here im w (sym v ∙ y.if-is_valid.false)
      ]),
    )

pub shape_of-image : goal.shape_of-image
shape_of-image c =
    let a = c.args in
    let h = a.h in
    let m = a.mask.now in
    let im = a.image.now in
    let w : ℕ → ℕ = raw_word a.s.now a.at a.size h m in
    let p = c.loop-p.p in
    let i = c.loop-p.invariant in
    rw i.2 (length-painted im w (valid_upto h m (p * h.depth)))

pub returns : goal.returns
returns c =
    let a = c.args in
    let h = a.h in
    let m = a.mask.now in
    let im = a.image.now in
    let w : ℕ → ℕ = raw_word a.s.now a.at a.size h m in
    let p = c.loop-p.p in
    let i = c.loop-p.invariant in
    let e : p ≡ h.rows * h.columns = omega arith in
    i.2 ∙ rw (e) (upto_all h m im w)
