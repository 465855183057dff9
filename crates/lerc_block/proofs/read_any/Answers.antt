use mathlib.Core.Path.{refl}
use native.Mathlib.Omega.{arith}
use Rattle.lerc_words.proofs.Marking.{exits}
use Rattle.lerc_block.proofs.Returns.{refused, likewise}
use Rattle.lerc_block.proofs.Leads.{answered-words, answered-sound, answered-no}
use Rattle.lerc_block.proofs.read_any.Goals as goal

pub returns-in_err-p : goal.returns-in_err-p
returns-in_err-p c =
    let a = c.args in
    refused (exits _ c.from_residual.ensures.1) (answered-no _ _ _ _ _ c.in_err-p.ensures a.error a.maximum refl)

pub read_planned-requires : goal.read_planned-requires
read_planned-requires c =
    let q = answered-sound _ _ _ _ _ c.in_ok-p.ensures refl (λ j. omega (arith, c.type_inv.s j)) in
    (q.0, omega (arith, q.0), q.1)

pub returns : goal.returns
returns c =
    let a = c.args in
    likewise (answered-words _ _ _ _ _ c.in_ok-p.ensures refl a.error a.maximum) c.read_planned.ensures
