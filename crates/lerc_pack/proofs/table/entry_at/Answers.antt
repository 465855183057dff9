use native.Mathlib.Omega.{arith}
use Rattle.lerc_pack.proofs.Fields.{entry-is}
use Rattle.lerc_pack.proofs.table.entry_at.Goals as goal

pub returns : goal.returns
returns c =
    let a = c.args in
    entry-is a.pack.now a.i _ _ (λ i. omega (arith, c.type_inv.pack i)) c.eight-front.ensures c.eight-back.ensures
