use mathlib.Core.Path.{refl}
use native.Mathlib.Omega.{arith}
use Rattle.lerc_bits.proofs.Plans.{counts-by-plan}
use Rattle.lerc_bits.proofs.Returns.{refused, inspect-ok, inspect-at, counts-no-at, decoded-at}
use Rattle.lerc_bits.proofs.decode.Goals as goal

pub returns-in-Err : goal.returns-in-Err
returns-in-Err c =
    let a = c.args in
    refused (counts-no-at a.s.now a.start a.start (inspect-at a.s.now a.start c.in-Err.ensures refl))

pub returns : goal.returns
returns c =
    let a = c.args in
    let e = inspect-ok a.s.now a.start c.in-Ok.ensures refl in
    rw (counts-by-plan a.s.now a.start (λ i. omega (arith, c.type_inv.s i)) e) (decoded-at a.start c.decode_plan-got.ensures c.marked.ensures)
