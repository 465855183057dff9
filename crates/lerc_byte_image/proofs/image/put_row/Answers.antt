use Rattle.std.proofs.Common.{◌≡◌, ℕ, ◌+◌, ◌-◌, ◌*◌, ◌/◌, ◌<◌, ◌≤◌, length, sym, add-zero, mul-le-mul_right, add-mul, arith}
use lib.Arith.{digits_lt}
use Rattle.lerc_image.proofs.Painting.{length-painted}
use Rattle.lerc_byte_image.specs.Image.{spot, symbol_no}
use Rattle.lerc_byte_image.specs.Parts.{table_by, entry_of}
use Rattle.lerc_byte_image.specs.ImageParts.{strip, chained}
use Rattle.lerc_byte_image.proofs.Spots.{spot-zero, spot-next, spot-few, ready_on}
use Rattle.lerc_byte_image.proofs.PlaneCells.{strip-none}
use Rattle.lerc_byte_image.proofs.FullRows.{chained-zero, row_last, row_more}
use Rattle.lerc_byte_image.proofs.image.put_row.Goals as goal

pub stop_of-stop-requires : goal.stop_of-stop-requires
stop_of-stop-requires c = let b = c.requires.0.behind in (b.inside, b.short)

pub overflow_mul-cell : goal.overflow_mul-cell
overflow_mul-cell c =
    let a = c.args in
    omega (arith, mul-le-mul_right a.depth (let l : a.i ≤ a.i + a.n = omega arith in l), c.requires.3, c.well_formed)

pub overflow_add-cell : goal.overflow_add-cell
overflow_add-cell c =
    let a = c.args in
    omega (arith, mul-le-mul_right a.depth (let l : a.i ≤ a.i + a.n = omega arith in l), c.requires.1, c.requires.2, c.requires.3, c.well_formed)

pub loop-init : goal.loop-init
loop-init c =
    let a = c.args in
    let s = a.s.now in
    let t = table_by a.by.range a.by.start a.lengths.now a.codes.now in
    let w : ℕ → ℕ = λ j. chained a.by.kind (symbol_no s t a.p) a.first (j / a.depth - a.i + 1) in
    (omega arith, sym (spot-zero s t a.p), rw (add-zero), sym (chained-zero a.by.kind (symbol_no s t a.p) a.first), strip-none a.image.now w a.depth a.d a.i)

pub entry-e-requires : goal.entry-e-requires
entry-e-requires c =
    let a = c.args in
    let t = table_by a.by.range a.by.start a.lengths.now a.codes.now in
    (rw c.loop.invariant.1 (ready_on a.s.now t a.quick.now a.p c.loop.counter c.requires.0), c.stop_of-stop.ensures)

-- a cell of the row lies in the image
inside : (i x n depth d len : ℕ) → x < n → d < depth → (i + n) * depth ≤ len → (i + x) * depth + d < len
inside i x n depth d len l k r =
    let y : i + x < i + n = omega arith in
    let z : (i + x) * depth + d < (i + n) * depth = digits_lt y k in
    omega arith

pub offset_bounds-image-cell : goal.offset_bounds-image-cell
offset_bounds-image-cell c =
    let a = c.args in
    let r = inside a.i c.loop.counter a.n a.depth a.d (length a.image.now) c.loop-test.true c.requires.1 c.requires.3 in
    omega (arith, c.well_formed, c.loop.invariant.2)

pub bounds-image-cell : goal.bounds-image-cell
bounds-image-cell c =
    let a = c.args in
    let s = a.s.now in
    let t = table_by a.by.range a.by.start a.lengths.now a.codes.now in
    let w : ℕ → ℕ = λ j. chained a.by.kind (symbol_no s t a.p) a.first (j / a.depth - a.i + 1) in
    let r = inside a.i c.loop.counter a.n a.depth a.d (length a.image.now) c.loop-test.true c.requires.1 c.requires.3 in
    rw (c.loop.invariant.4, length-painted a.image.now w (strip a.depth a.d a.i c.loop.counter), c.loop.invariant.2) r

pub overflow_add-q : goal.overflow_add-q
overflow_add-q c =
    let a = c.args in
    let t = table_by a.by.range a.by.start a.lengths.now a.codes.now in
    let f = spot-few a.s.now t a.quick.now a.p c.loop.counter c.entry-e.result c.loop.q c.requires.0 c.loop.invariant.1 c.entry-e.ensures in
    omega arith

pub overflow_add-cell-in-loop : goal.overflow_add-cell-in-loop
overflow_add-cell-in-loop c =
    let a = c.args in
    let r = inside a.i c.loop.counter a.n a.depth a.d (length a.image.now) c.loop-test.true c.requires.1 c.requires.3 in
    omega (arith, c.well_formed, c.loop.invariant.2, c.requires.2)

pub loop-preserved : goal.loop-preserved
loop-preserved c =
    let a = c.args in
    let s = a.s.now in
    let t = table_by a.by.range a.by.start a.lengths.now a.codes.now in
    let x = c.loop.counter in
    let i = c.loop.invariant in
    let kept = c.requires.0.behind.kept in
    let r = inside a.i x a.n a.depth a.d (length a.image.now) c.loop-test.true c.requires.1 c.requires.3 in
    let e : c.entry-e.result ≡ entry_of s t (spot s t a.p x) = rw (← i.1) c.entry-e.ensures in
    let z : a.i + (x + 1) ≡ a.i + x + 1 = omega arith in
    let less = c.less_of-less in (
      omega arith,
      rw i.1 (spot-next s t kept a.p x c.entry-e.result e),
      rw (i.2, z) (omega (arith, add-mul (a.i + x) 1 a.depth)),
      row_last s t kept a.by.kind less.result a.first a.p a.depth a.d a.i x c.entry-e.result c.loop.last c.byte_of-last.result c.requires.1 less.ensures e i.3 c.byte_of-last.ensures,
      rw (i.4, i.2) (row_more s t kept a.by.kind less.result a.first a.p a.depth a.d a.i x c.entry-e.result c.loop.last c.byte_of-last.result c.requires.1 less.ensures e i.3 c.byte_of-last.ensures a.image.now r),
    )

pub shape_of-image : goal.shape_of-image
shape_of-image c =
    let a = c.args in
    let s = a.s.now in
    let t = table_by a.by.range a.by.start a.lengths.now a.codes.now in
    let w : ℕ → ℕ = λ j. chained a.by.kind (symbol_no s t a.p) a.first (j / a.depth - a.i + 1) in
    rw c.loop.invariant.4 (length-painted a.image.now w (strip a.depth a.d a.i c.loop.counter))

pub returns : goal.returns
returns c =
    let a = c.args in
    let e : c.loop.counter ≡ a.n = omega arith in
    record { image_after = rw (← e) c.loop.invariant.4; value = rw (← e) c.loop.invariant.1 }
