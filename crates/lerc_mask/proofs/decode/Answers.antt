use Prim.Native.Nat.{ℕ}
use mathlib.Core.Path.{◌∙◌, sym, ap}
use native.Mathlib.Omega.{arith}
use lib.ListN.{length}
use Rattle.lerc_mask.specs.Mask.{mask_runs}
use Rattle.lerc_mask.proofs.Runs.{decoded-room, decoded-is, decoded-six}
use Rattle.lerc_mask.proofs.Passes.{unrolled, unrolled-no}
use Rattle.lerc_mask.proofs.decode.Goals as goal

pub returns-then-out-want : goal.returns-then-out-want
returns-then-out-want c =
    let a = c.args in
    unrolled-no (decoded-room a.section.now a.pixels a.valid (length a.out.now) (omega (arith, c.bytes_for-want.ensures)))

pub returns-then-check : goal.returns-then-check
returns-then-check c =
    let a = c.args in
    let want = c.bytes_for-want.ensures in
    let d = decoded-is a.section.now a.pixels a.valid (length a.out.now) (omega arith) (sym c.check.ensures ∙ c.if-check.true) in
    unrolled d.mask _ d.is (d.size ∙ sym want) (c.write.ensures d.mask (ap (λ (k : ℕ). mask_runs k a.section.now) want ∙ d.runs))

pub returns : goal.returns
returns c =
    let a = c.args in
    let want = c.bytes_for-want.ensures in
    unrolled-no (decoded-six a.section.now a.pixels a.valid (length a.out.now) (omega arith) (sym c.check.ensures ∙ c.if-check.false))
