use mathlib.Core.Path.{◌≡◌, ◌∙◌, ap}
use native.Mathlib.Omega.{arith}
use Rattle.lerc_mask.specs.Mask.{pixel_valid}
use Rattle.lerc_text.specs.Text.{valid_in}
use Rattle.lerc_text.proofs.Putting.{put-none, put_then, put-length, cells-none, cells-more}
use Rattle.lerc_text.proofs.put_cells.Goals as goal

pub loop-cell-init : goal.loop-cell-init
loop-cell-init c = (omega arith, rw (cells-none) (put-none _ _ _ c.min-p.ensures))

pub loop-cell-preserved : goal.loop-cell-preserved
loop-cell-preserved c =
    let a = c.args in
    let e : c.is_valid-valid.result ≡ valid_in a.depth a.mask.now c.loop-cell.cell = c.is_valid-valid.ensures ∙ ap (pixel_valid a.mask.now) c.pixel_of.ensures in
    (omega arith, rw (cells-more) (put_then c.loop-cell.invariant.1 (rw (e, c.word_at.ensures) at c.put_cell-p.ensures)))

pub shape_of-out : goal.shape_of-out
shape_of-out c = put-length c.loop-cell.invariant.1

pub returns : goal.returns
returns c =
    let e : c.loop-cell.cell ≡ c.args.count = omega arith in
    rw (e) at c.loop-cell.invariant.1
