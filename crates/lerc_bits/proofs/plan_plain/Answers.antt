use mathlib.Core.Path.{sym}
use native.Mathlib.Omega.{arith}
use Rattle.lerc_bits.specs.Bits.{plain_plan}
use Rattle.lerc_bits.proofs.Returns.{fits-ok, fits-no}
use Rattle.lerc_bits.proofs.plan_plain.Goals as goal

pub returns-then-len-at : goal.returns-then-len-at
returns-then-len-at c =
    let a = c.args in
    sym (fits-no a.len (plain_plan a.n a.bits a.at) (omega arith))

pub returns : goal.returns
returns c =
    let a = c.args in
    rw c.run_bytes-size.ensures.0 (sym (fits-ok a.len (plain_plan a.n a.bits a.at) (omega arith)))
