use Prim.Native.Nat.{◌≤◌, ◌*◌}
use native.Mathlib.Omega.{arith}
use native.Mathlib.Nat.{mul-le-mul}
use Rattle.lerc_numeric.proofs.Integers.{size-le}
use Rattle.lerc_block.proofs.Planning.{raw-ok, raw-no}
use Rattle.lerc_block.proofs.plan.inspect_raw.Goals as goal
use Rattle.lerc_block.proofs.plan.inspect_raw.Goals.{After-size}

whole : (k : After-size) → k.args.n * k.size.result ≤ 2048
whole k = mul-le-mul {n₂ = 256} {m₂ = 8} (omega arith) (rw k.size.ensures (size-le k.args.kind))

pub overflow_mul-whole : goal.overflow_mul-whole
overflow_mul-whole c = omega (arith, whole c)

pub returns-then-len-at : goal.returns-then-len-at
returns-then-len-at c =
    let a = c.args in
    raw-no a.len a.at a.kind a.n c.size.result c.size.ensures (omega arith)

pub returns : goal.returns
returns c =
    let a = c.args in
    raw-ok a.len a.at a.kind a.n c.size.result c.size.ensures (omega arith)
