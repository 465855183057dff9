use mathlib.Core.Path.{◌≡◌, sym, ap}
use native.Mathlib.Omega.{arith}
use lib.ListN.{length, length-take}
use Rattle.lerc_words.specs.Res.{ok}
use Rattle.lerc_words.proofs.Marking.{exits}
use Rattle.lerc_header.specs.declared.Extent.{Extent}
use Rattle.lerc_header.specs.Header.{held}
use Rattle.lerc_header.proofs.Kept.{held-is, held-size}
use Rattle.lerc_validity.proofs.Preparing.{refused, prepare-no, prepare-find}
use Rattle.lerc_validity.proofs.prepare_mask.Goals as goal
use Rattle.lerc_validity.proofs.prepare_mask.Goals.{In_ok-e}

-- the header was held to the rules
holds : (c : In_ok-e) → held c.args.h (length c.args.blob.now) ≡ ok c.in_ok-e.e
holds c = sym c.in_ok-e.ensures

pub returns-in_err-e : goal.returns-in_err-e
returns-in_err-e c =
    let a = c.args in
    rw (exits _ c.from_residual.ensures.1) (refused (prepare-no a.blob.now a.h a.reuse a.kept.now (length a.spare.now) (sym c.in_err-e.ensures)))

pub slice_bounds-find_mask-end : goal.slice_bounds-find_mask-end
slice_bounds-find_mask-end c =
    let a = c.args in
    let k = holds c in
    let z = held-size a.h (length a.blob.now) k in
    let n = ap (λ (e : Extent). e.size) (held-is a.h (length a.blob.now) k) in
    simp length-take (omega arith)

pub returns : goal.returns
returns c =
    let t = (goal.at.returns c).In_ok-e in
    let a = c.args in
    let k = holds t in
    rw (prepare-find a.blob.now a.h a.reuse a.kept.now (length a.spare.now) k) (rw (held-is a.h (length a.blob.now) k) at c.find_mask.ensures)
