use native.Mathlib.Omega.{arith}
use Prim.Native.Nat.{◌<◌}
use borrow.Author.Tests.{lt-ltb, le-ltb}
use Rattle.lerc_numeric.proofs.Integers.{sizes}
use Rattle.lerc_numeric.proofs.kinds.modulus.Goals as goal

pub returns-then-kind-lt2 : goal.returns-then-kind-lt2
returns-then-kind-lt2 c = rw (sizes, lt-ltb _ 2 c.if-kind-lt2.true)

pub returns-then-kind-lt4 : goal.returns-then-kind-lt4
returns-then-kind-lt4 c = rw (sizes, le-ltb _ 2 c.if-kind-lt2.false, lt-ltb _ 4 c.if-kind-lt4.true)

pub returns-else-kind-lt4 : goal.returns-else-kind-lt4
returns-else-kind-lt4 c =
    let h : c.args.kind < 7 = omega arith in
    rw (sizes, le-ltb _ 2 c.if-kind-lt2.false, le-ltb _ 4 c.if-kind-lt4.false, lt-ltb _ 7 h)
