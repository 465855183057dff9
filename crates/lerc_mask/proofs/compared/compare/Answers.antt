use Prim.Native.Nat.{ℕ}
use mathlib.Core.Path.{◌∙◌, sym, ap}
use native.Mathlib.Omega.{arith}
use lib.ListN.{length}
use Rattle.lerc_mask.specs.Mask.{mask_runs}
use Rattle.lerc_mask.proofs.Runs.{decoded-room, decoded-is, decoded-six}
use Rattle.lerc_mask.proofs.Meeting.{compared, compared-no}
use Rattle.lerc_mask.proofs.compared.compare.Goals as goal

pub returns-then-held-want : goal.returns-then-held-want
returns-then-held-want c =
    let a = c.args in
    compared-no (decoded-room a.section.now a.pixels a.valid (length a.held.now) (omega (arith, c.bytes_for-want.ensures)))

pub returns-then-check : goal.returns-then-check
returns-then-check c =
    let a = c.args in
    let want = c.bytes_for-want.ensures in
    let d = decoded-is a.section.now a.pixels a.valid (length a.held.now) (omega arith) (sym c.check.ensures ∙ c.if-check.true) in
    compared d.mask _ d.is (d.size ∙ sym want) (c.is_held.ensures d.mask (ap (λ (k : ℕ). mask_runs k a.section.now) want ∙ d.runs))

pub returns : goal.returns
returns c =
    let a = c.args in
    let want = c.bytes_for-want.ensures in
    compared-no (decoded-six a.section.now a.pixels a.valid (length a.held.now) (omega arith) (sym c.check.ensures ∙ c.if-check.false))
