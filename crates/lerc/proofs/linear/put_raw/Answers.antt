use Prim.Native.Nat.{◌-◌}
use mathlib.Core.Path.{◌≡◌, ◌∙◌, ap}
use Prim.Native.Nat.{ℕ, ◌<◌, ◌+◌, ◌*◌, min}
use native.Mathlib.Omega.{arith}
use native.Mathlib.Nat.{suc-mul, mul-le-mul_right, zero-mul, add-zero}
use native.Mathlib.Numerals.{add-one}
use lib.ListN.{length}
use Rattle.lerc_words.specs.Res.{little}
use Rattle.lerc_image.proofs.Painting.{length-painted}
use Rattle.lerc_image.specs.Cells.{within}
use Rattle.lerc_image.proofs.Pixels.{cells-none, cell-more}
use Rattle.lerc.proofs.linear.put_raw.Goals as goal

pub loop-d-init : goal.loop-d-init
loop-d-init c =
    let a = c.args in
    let w : ℕ → ℕ = λ i. little a.size a.s.now (a.at + (i - a.base) * a.size) in
    (rw (zero-mul a.size, add-zero), cells-none a.image.now w a.base)

pub bounds-image-base : goal.bounds-image-base
bounds-image-base c =
    let a = c.args in
    let im = a.image.now in
    let w : ℕ → ℕ = λ i. little a.size a.s.now (a.at + (i - a.base) * a.size) in
    rw (c.loop-d.invariant.1, length-painted im w (within a.base c.loop-d.d)) (omega arith)

pub overflow_add-from : goal.overflow_add-from
overflow_add-from c =
    let a = c.args in
    let im = a.image.now in
    omega (arith, c.well_formed, suc-mul c.loop-d.d a.size, mul-le-mul_right a.size c.loop-d-test.true)

pub loop-d-preserved : goal.loop-d-preserved
loop-d-preserved c =
    let a = c.args in
    let im = a.image.now in
    let w : ℕ → ℕ = λ i. little a.size a.s.now (a.at + (i - a.base) * a.size) in
    let d = c.loop-d.d in
    let h : a.base + d < length im = omega arith in
    let e : a.base + d - a.base ≡ d = omega arith in
    let f : min a.size 8 ≡ a.size = omega arith in
    let word = (rw (f) at c.bytes.ensures) ∙ ap (λ (i : ℕ). little a.size a.s.now i) c.loop-d.invariant.0 in
    (rw (c.loop-d.invariant.0, add-one) (omega (arith, suc-mul d a.size)), rw (c.loop-d.invariant.1, word) (rw (e) at (cell-more im w a.base d h)))

pub shape_of-image : goal.shape_of-image
shape_of-image c =
    let a = c.args in
    let w : ℕ → ℕ = λ i. little a.size a.s.now (a.at + (i - a.base) * a.size) in
    rw c.loop-d.invariant.1 (length-painted a.image.now w (within a.base c.loop-d.d))

pub returns : goal.returns
returns c = let e : c.loop-d.d ≡ c.args.depth = omega arith in rw (← e) c.loop-d.invariant.1
