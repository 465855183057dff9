use Prim.Native.Nat.{ℕ}
use native.Mathlib.Omega.{arith}
use mathlib.Core.Path.{◌∙◌, sym, ap}
use lib.ListN.{replicate, length-replicate, length-take}
use Rattle.lerc_slices.specs.Slices.{begins_with}
use Rattle.lerc_slices.proofs.Begins.{begins-repeat}
use Rattle.lerc_header.specs.Header.{shape_of}
use Rattle.lerc_header.specs.Shape.{mask_length}
use Rattle.lerc_validity.proofs.Preparing.{uniform-no, uniform-ok}
use Rattle.lerc_validity.proofs.Comparing.{compared-no, compared-new}
use Rattle.lerc_validity.proofs.compared.meet_uniform.Goals as goal

pub returns-then-h-ne0 : goal.returns-then-h-ne0
returns-then-h-ne0 c =
    let a = c.args in
    compared-no (uniform-no a.h a.byte c.if-h-ne0.true)

pub slice_bounds-all_bytes-end : goal.slice_bounds-all_bytes-end
slice_bounds-all_bytes-end c = simp length-take (omega arith)

pub returns : goal.returns
returns c =
    let a = c.args in
    let n = c.requires.0 in
    let same = c.all_bytes.ensures ∙ begins-repeat a.byte a.n a.spare.now c.requires.1 ∙ ap (λ (k : ℕ). begins_with (replicate k a.byte) a.spare.now) n in
    compared-new (replicate (mask_length (shape_of a.h)) a.byte) a.n (uniform-ok a.h a.byte c.if-h-ne0.false) (length-replicate _ _ ∙ sym n) same
