use Rattle.std.proofs.Common.{◌≡◌, ℕ, ◌+◌, ◌-◌, ◌*◌, ◌/◌, ◌<◌, ◌≤◌, sym, refl, ap, ◌∙◌, mul-le-mul_right, suc-mul, add-mul, zero-mul, arith}
use lib.Arith.{digits_lt}
use Rattle.lerc_header.specs.declared.Shape.{Shape}
use Rattle.lerc_header.specs.Shape.{pixels, cells}
use Rattle.lerc_image.proofs.Painting.{length-painted}
use Rattle.lerc_image.proofs.Pixels.{pixels-few}
use Rattle.lerc_byte_image.specs.Image.{symbol_no}
use Rattle.lerc_byte_image.specs.Parts.{table_by}
use Rattle.lerc_byte_image.specs.ImageParts.{strip, chained, plane_word}
use Rattle.lerc_byte_image.proofs.Spots.{spot-zero, spot_on, ready_on}
use Rattle.lerc_byte_image.proofs.LeftBehind.{first-row}
use Rattle.lerc_byte_image.proofs.PlaneCells.{plane-none}
use Rattle.lerc_byte_image.proofs.PlaneSteps.{symbol_in}
use Rattle.lerc_byte_image.proofs.FullRows.{row_put, row_first}
use Rattle.lerc_byte_image.proofs.image.write_full_plane.Goals as goal

-- the pixels of a row, and its first cell
row_in : (h : Shape) (y : ℕ) → y < h.rows → y * h.columns + h.columns ≤ pixels h
row_in h y l = omega (arith, mul-le-mul_right h.columns l, suc-mul y h.columns)

cell_in : (h : Shape) (y d : ℕ) → y < h.rows → 0 < h.columns → d < h.depth → y * h.columns * h.depth + d < cells h
cell_in h y d l k e = let r = row_in h y l in let z : y * h.columns < pixels h = omega arith in digits_lt z e

pub loop-init : goal.loop-init
loop-init c =
    let a = c.args in
    let h = a.h in
    let s = a.s.now in
    let t = table_by a.by.range a.by.start a.lengths.now a.codes.now in
    let z : 0 * h.columns ≡ 0 = zero-mul h.columns in (
      omega arith,
      sym z,
      rw (z) (sym (spot-zero s t a.p)),
      refl,
      λ m e. (
        rw (z) (first-row a.by.kind h.columns m (symbol_in m s t a.p) c.requires.0.shaped.columns.0),
        rw (z) (plane-none h m a.d c.requires.1 a.image.now (plane_word h a.by.kind m s t a.p)),
      ),
    )

pub put_row-q-requires : goal.put_row-q-requires
put_row-q-requires c =
    let a = c.args in
    let h = a.h in
    let i = c.loop.invariant in
    let t = table_by a.by.range a.by.start a.lengths.now a.codes.now in
    let r = row_in h c.loop.counter c.loop-test.true in
    let k : (y : ℕ) → y ≡ c.loop.counter * h.columns → (y + h.columns) * h.depth ≤ cells h = λ y e. mul-le-mul_right h.depth (let g : y + h.columns ≤ pixels h = omega arith in g) in
    (rw i.2 (ready_on a.s.now t a.quick.now a.p (c.loop.counter * h.columns) c.requires.0.ready), c.requires.1, c.requires.0.shaped.depth.1, omega (arith, k c.loop.i i.1, i.3, c.requires.0.room))

pub overflow_mul-first : goal.overflow_mul-first
overflow_mul-first c =
    let a = c.args in
    let k = cell_in a.h c.loop.counter a.d c.loop-test.true c.requires.0.shaped.columns.0 c.requires.1 in
    rw c.loop.invariant.1 (omega (arith, c.requires.0.shaped.few))

pub overflow_add-first : goal.overflow_add-first
overflow_add-first c =
    let a = c.args in
    let k = cell_in a.h c.loop.counter a.d c.loop-test.true c.requires.0.shaped.columns.0 c.requires.1 in
    rw c.loop.invariant.1 (omega (arith, c.requires.0.shaped.few))

pub offset_bounds-image-i : goal.offset_bounds-image-i
offset_bounds-image-i c =
    let a = c.args in
    let k = cell_in a.h c.loop.counter a.d c.loop-test.true c.requires.0.shaped.columns.0 c.requires.1 in
    rw c.loop.invariant.1 (omega (arith, c.requires.0.shaped.few))

pub bounds-image-i : goal.bounds-image-i
bounds-image-i c =
    let a = c.args in
    let h = a.h in
    let t = table_by a.by.range a.by.start a.lengths.now a.codes.now in
    let w : ℕ → ℕ = λ j. chained a.by.kind (symbol_no a.s.now t c.loop.q) c.loop.first (j / h.depth - c.loop.i + 1) in
    let k = cell_in h c.loop.counter a.d c.loop-test.true c.requires.0.shaped.columns.0 c.requires.1 in
    rw (c.put_row-q.ensures.image_after, length-painted c.loop.image w (strip h.depth a.d c.loop.i h.columns), c.loop.invariant.3, c.loop.invariant.1)
    (omega (arith, c.requires.0.room))

pub overflow_add-i : goal.overflow_add-i
overflow_add-i c =
    let h = c.args.h in
    omega (arith, row_in h c.loop.counter c.loop-test.true, pixels-few h c.requires.0.shaped, c.loop.invariant.1)

pub loop-preserved : goal.loop-preserved
loop-preserved c =
    let a = c.args in
    let h = a.h in
    let s = a.s.now in
    let t = table_by a.by.range a.by.start a.lengths.now a.codes.now in
    let y = c.loop.counter in
    let i = c.loop.invariant in
    let put = c.put_row-q in
    let w : ℕ → ℕ = λ j. chained a.by.kind (symbol_no s t c.loop.q) c.loop.first (j / h.depth - c.loop.i + 1) in
    let here : y < h.rows = c.loop-test.true in
    let e : (y + 1) * h.columns ≡ y * h.columns + h.columns = omega (arith, add-mul y 1 h.columns) in
    let new = rw i.1 at put.ensures.image_after in (
      omega arith,
      rw (e, i.1),
      put.ensures.value ∙ rw (i.2, e) (spot_on s t a.p (y * h.columns) h.columns),
      rw (put.ensures.image_after, length-painted c.loop.image w (strip h.depth a.d c.loop.i h.columns)) i.3,
      λ m f. (
        rw (e, i.1) (row_first h m s t a.by.kind a.p a.d c.requires.0.shaped c.requires.1 f y c.loop.first c.loop.q here (i.4 m f).0 i.2 a.image.now c.loop.image _ c.requires.0.room (i.4 m f).1 new),
        rw (e) (row_put h m s t a.by.kind a.p a.d c.requires.0.shaped c.requires.1 f y c.loop.first c.loop.q here (i.4 m f).0 i.2 a.image.now c.loop.image _ c.requires.0.room (i.4 m f).1 new),
      ),
    )

pub shape_of-image : goal.shape_of-image
shape_of-image c = c.loop.invariant.3

pub returns : goal.returns
returns c =
    let h = c.args.h in
    let e : c.loop.counter ≡ h.rows = omega arith in
    let k : c.loop.counter * h.columns ≡ h.rows * h.columns = ap (λ (y : ℕ). y * h.columns) e in
    record { by_index = λ m f. rw (← k) (c.loop.invariant.4 m f).1; value = rw (← k) c.loop.invariant.2 }
