use native.Mathlib.Omega.{arith}
use mathlib.Core.Path.{◌∙◌, sym}
use lib.ListN.{replicate, length-replicate, length-take}
use Rattle.lerc_slices.proofs.Parts.{front-filled}
use Rattle.lerc_header.specs.Header.{shape_of}
use Rattle.lerc_header.specs.Shape.{mask_length}
use Rattle.lerc_validity.proofs.Preparing.{refused, spared, uniform-no, uniform-ok}
use Rattle.lerc_validity.proofs.put_uniform.Goals as goal

pub returns-then-h-ne0 : goal.returns-then-h-ne0
returns-then-h-ne0 c =
    let a = c.args in
    refused (uniform-no a.h a.byte c.if-h-ne0.true)

pub slice_bounds-fill-end-2 : goal.slice_bounds-fill-end-2
slice_bounds-fill-end-2 c = simp length-take (omega arith)

pub returns : goal.returns
returns c =
    let a = c.args in
    let n = c.requires.0 in
    let filled = front-filled a.byte a.n a.spare.now (omega arith) c.fill.ensures in
    spared (replicate (mask_length (shape_of a.h)) a.byte) a.n (uniform-ok a.h a.byte c.if-h-ne0.false) (length-replicate _ _ ∙ sym n) (rw (length-replicate, ← n) filled)
