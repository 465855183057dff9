use native.Mathlib.Omega.{arith}
use lib.ListN.{length, length-take}
use Rattle.lerc_words.proofs.Marking.{exits}
use Rattle.lerc_header.proofs.Kept.{header-held, held-size}
use Rattle.lerc.specs.Read.{Lent}
use Rattle.lerc.proofs.Publishes.{mask-refused, behind, published-behind, changed, published-changed}
use Rattle.lerc.proofs.publish_masked.Goals as goal

pub slice_bounds-s-end : goal.slice_bounds-s-end
slice_bounds-s-end c =
    let a = c.args in
    let b = a.blob.now in
    simp length-take (omega (arith, (held-size a.h (length b) (header-held b a.h c.requires.0).1).1))

pub returns-in_err-found : goal.returns-in_err-found
returns-in_err-found c =
    let a = c.args in
    let l : Lent = record { kept = a.kept.now; spare = a.spare.now; list = a.list.now; image = a.image.now } in
    rw (exits _ c.from_residual.ensures.1) (mask-refused a.blob.now a.reuse l a.h c.requires.0 c.requires.1 a.given c.in_err-found.ensures)

pub refuse_changed-requires : goal.refuse_changed-requires
refuse_changed-requires c =
    let a = c.args in
    let l : Lent = record { kept = a.kept.now; spare = a.spare.now; list = a.list.now; image = a.image.now } in
    changed a.blob.now a.reuse l a.h c.requires.0 c.requires.1 c.in_ok-found.ensures c.if-found.false

pub returns-else-found : goal.returns-else-found
returns-else-found c =
    let a = c.args in
    let l : Lent = record { kept = a.kept.now; spare = a.spare.now; list = a.list.now; image = a.image.now } in
    published-changed a.blob.now a.reuse l a.h c.requires.0 c.requires.1 c.in_ok-found.ensures c.if-found.false a.given c.refuse_changed.ensures

pub publish_behind-requires : goal.publish_behind-requires
publish_behind-requires c =
    let a = c.args in
    let l : Lent = record { kept = a.kept.now; spare = a.spare.now; list = a.list.now; image = a.image.now } in
    behind a.blob.now a.reuse l a.h c.requires.0 c.requires.1 c.in_ok-found.ensures c.if-found.true

pub returns-then-found : goal.returns-then-found
returns-then-found c =
    let a = c.args in
    let l : Lent = record { kept = a.kept.now; spare = a.spare.now; list = a.list.now; image = a.image.now } in
    published-behind a.blob.now a.reuse l a.h c.requires.0 c.requires.1 c.in_ok-found.ensures c.if-found.true c.publish_behind.ensures
