use Rattle.std.proofs.Common.{◌≡◌, ◌+◌, ◌<◌, length, sym, arith}
use Rattle.lerc_image.specs.Cells.{within}
use Rattle.lerc_image.proofs.Painting.{length-painted}
use Rattle.lerc_image.proofs.Pixels.{cells-none}
use Rattle.lerc_byte_image.specs.Image.{spot}
use Rattle.lerc_byte_image.specs.Parts.{table_by, entry_of}
use Rattle.lerc_byte_image.specs.ImageParts.{plain_run}
use Rattle.lerc_byte_image.proofs.Spots.{spot-zero, spot-next, spot-few, ready_on}
use Rattle.lerc_byte_image.proofs.PlainCells.{run_more}
use Rattle.lerc_byte_image.proofs.image.put_plain.Goals as goal

pub stop_of-stop-requires : goal.stop_of-stop-requires
stop_of-stop-requires c = let b = c.requires.0.behind in (b.inside, b.short)

pub loop-k-init : goal.loop-k-init
loop-k-init c =
    let a = c.args in
    let t = table_by a.by.range a.by.start a.lengths.now a.codes.now in
    (omega arith, sym (spot-zero a.s.now t a.p), cells-none a.image.now (plain_run a.s.now t a.by.kind a.p a.base) a.base)

pub entry-e-requires : goal.entry-e-requires
entry-e-requires c =
    let a = c.args in
    let t = table_by a.by.range a.by.start a.lengths.now a.codes.now in
    (rw c.loop-k.invariant.1 (ready_on a.s.now t a.quick.now a.p c.loop-k.k c.requires.0), c.stop_of-stop.ensures)

pub bounds-image-base : goal.bounds-image-base
bounds-image-base c =
    let a = c.args in
    let t = table_by a.by.range a.by.start a.lengths.now a.codes.now in
    let h : c.loop-k.k < a.n = c.loop-k-test.true in
    rw (c.loop-k.invariant.2, length-painted a.image.now (plain_run a.s.now t a.by.kind a.p a.base) (within a.base c.loop-k.k)) (omega (arith, c.requires.1))

pub overflow_add-q : goal.overflow_add-q
overflow_add-q c =
    let a = c.args in
    let t = table_by a.by.range a.by.start a.lengths.now a.codes.now in
    let f = spot-few a.s.now t a.quick.now a.p c.loop-k.k c.entry-e.result c.loop-k.q c.requires.0 c.loop-k.invariant.1 c.entry-e.ensures in
    omega arith

pub loop-k-preserved : goal.loop-k-preserved
loop-k-preserved c =
    let a = c.args in
    let s = a.s.now in
    let t = table_by a.by.range a.by.start a.lengths.now a.codes.now in
    let k = c.loop-k.k in
    let kept = c.requires.0.behind.kept in
    let h : k < a.n = c.loop-k-test.true in
    let r : a.base + k < length a.image.now = omega (arith, c.requires.1) in
    let e : c.entry-e.result ≡ entry_of s t (spot s t a.p k) = rw (← c.loop-k.invariant.1) c.entry-e.ensures in (
      omega arith,
      rw c.loop-k.invariant.1 (spot-next s t kept a.p k c.entry-e.result e),
      rw c.loop-k.invariant.2 (run_more s t kept a.by.kind c.less_of-less.result a.p a.base k c.entry-e.result c.byte_of.result a.image.now r c.less_of-less.ensures e c.byte_of.ensures),
    )

pub shape_of-image : goal.shape_of-image
shape_of-image c =
    let a = c.args in
    let t = table_by a.by.range a.by.start a.lengths.now a.codes.now in
    rw c.loop-k.invariant.2 (length-painted a.image.now (plain_run a.s.now t a.by.kind a.p a.base) (within a.base c.loop-k.k))

pub returns : goal.returns
returns c =
    let a = c.args in
    let e : c.loop-k.k ≡ a.n = omega arith in
    record { image_after = rw (← e) c.loop-k.invariant.2; value = rw (← e) c.loop-k.invariant.1 }
