use Rattle.lerc_words.proofs.Marking.{exits}
use mathlib.Core.Path.{◌∙◌, sym}
use native.Mathlib.Omega.{arith}
use lib.ListN.{length, length-take}
use Rattle.lerc_header.proofs.Kept.{held-size, held-shaped}
use Rattle.lerc_ranges.specs.Ranges.{read_ranges_says}
use Rattle.lerc_ranges.proofs.Judged.{ranges-few}
use Rattle.lerc_ranges.proofs.read_ranges.Goals as goal

pub returns-in_err-held : goal.returns-in_err-held
unfolding read_ranges_says
returns-in_err-held c = exits _ c.from_residual.ensures.1 ∙ rw (sym c.in_err-held.ensures)

pub slice_bounds-ranges_in-end : goal.slice_bounds-ranges_in-end
slice_bounds-ranges_in-end c =
    let a = c.args in
    let q = sym c.in_ok-held.ensures in
    simp length-take (omega (arith, held-size a.h (length a.blob.now) q))

pub returns : goal.returns
unfolding read_ranges_says
returns c =
    let a = c.args in
    let k = sym c.in_ok-held.ensures in
    rw (c.ranges_in.ensures, k) (ranges-few _ a.h (held-shaped a.h (length a.blob.now) k).depth.1)
