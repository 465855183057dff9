use mathlib.Core.Path.{◌∙◌, ap}
use native.Mathlib.Omega.{arith}
use Rattle.lerc_words.specs.Res.{marked}
use Rattle.lerc_block.specs.Plan.{plan_says, plan_end}
use Rattle.lerc_block.proofs.Leads.{plan-few, plan-any}
use Rattle.lerc_image.specs.Geometry.{valid_in_tile}
use Rattle.lerc_image.proofs.Cursors.{valid-small}
use Rattle.lerc_image.proofs.end_at.Goals as goal

pub returns-then-bytes-ne0 : goal.returns-then-bytes-ne0
returns-then-bytes-ne0 c =
    let a = c.args in
    let s = a.s.now in
    let x = a.t.x in
    let n = valid_in_tile a.h a.mask.now a.t in
    let d = rw c.bytes.ensures at c.if-bytes-ne0.true in
    c.block_end.ensures ∙ ap (λ p. plan_end (marked a.at p)) (plan-few s a.at a.kind x 0 (omega arith) ∙ plan-any s a.at a.kind x 0 n d)

pub returns : goal.returns
returns c =
    let a = c.args in
    let s = a.s.now in
    let x = a.t.x in
    let n = valid_in_tile a.h a.mask.now a.t in
    c.block_end-2.ensures
    ∙ ap (λ p. plan_end (marked a.at p)) (ap (λ k. plan_says s a.at a.kind x k) c.count_valid-valid.ensures ∙ plan-few s a.at a.kind x n (valid-small a.h a.t c.requires a.mask.now))
