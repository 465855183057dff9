use mathlib.Core.Path.{refl}
use native.Mathlib.Omega.{arith}
use lib.ListN.{length, length-take}
use Rattle.lerc_words.proofs.Marking.{exits}
use Rattle.lerc_header.proofs.Kept.{header-held, held-size}
use Rattle.lerc.specs.Read.{Lent}
use Rattle.lerc.proofs.Staging.{mask-refused, stage-asked, staged-behind}
use Rattle.lerc.proofs.stage_masked.Goals as goal

pub slice_bounds-s-end : goal.slice_bounds-s-end
slice_bounds-s-end c =
    let a = c.args in
    let b = a.blob.now in
    simp length-take (omega (arith, (held-size a.h (length b) (header-held b a.h c.requires.0).1).1))

pub returns-in_err-said : goal.returns-in_err-said
returns-in_err-said c =
    let a = c.args in
    let l : Lent = record { kept = a.kept.now; spare = a.spare.now; list = a.list.now; image = a.image.now } in
    rw (exits _ c.from_residual.ensures.1) (mask-refused a.blob.now a.reuse l a.h c.requires.0 c.requires.1 c.in_err-said.ensures refl)

pub stage_behind-requires : goal.stage_behind-requires
stage_behind-requires c =
    let a = c.args in
    let l : Lent = record { kept = a.kept.now; spare = a.spare.now; list = a.list.now; image = a.image.now } in
    stage-asked a.blob.now a.reuse l a.h c.requires.0 c.requires.1 c.in_ok-said.ensures refl

pub returns : goal.returns
returns c =
    let a = c.args in
    let l : Lent = record { kept = a.kept.now; spare = a.spare.now; list = a.list.now; image = a.image.now } in
    staged-behind a.blob.now a.reuse l a.h c.requires.0 c.requires.1 c.in_ok-said.ensures refl c.stage_behind.ensures
