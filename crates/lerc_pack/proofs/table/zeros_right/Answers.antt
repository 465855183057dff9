use native.Mathlib.Omega.{arith}
use Rattle.lerc_pack.proofs.Fields.{zeros-is}
use Rattle.lerc_pack.proofs.table.zeros_right.Goals as goal

pub returns : goal.returns
returns c =
    let a = c.args in
    zeros-is a.pack.now a.i _ (λ i. omega (arith, c.type_inv.pack i)) c.eight.ensures
