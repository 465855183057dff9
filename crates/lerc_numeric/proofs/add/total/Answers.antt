use mathlib.Core.Path.{◌∙◌}
use Prim.Native.Nat.{◌≤◌}
use native.Mathlib.Omega.{arith}
use Rattle.lerc_numeric.specs.Numeric.{exp}
use Rattle.lerc_numeric.proofs.Align.{total-is, big_lt, small-le}
use Rattle.lerc_numeric.proofs.add.total.Goals as goal

pub overflow_add-t : goal.overflow_add-t
overflow_add-t c =
    let t = c.align-t in
    let h : exp c.args.b ≤ exp c.args.a = omega arith in
    record { fits = omega (arith, big_lt _ _ _ _ _ h t.ensures.0 t.ensures.1 t.ensures.2, small-le _ _ _ _ _ h t.ensures.0 t.ensures.1 t.ensures.2) }

pub returns : goal.returns
returns c =
    let t = c.align-t in
    let h : exp c.args.b ≤ exp c.args.a = omega arith in
    c.pack.ensures ∙ total-is _ _ _ _ _ h t.ensures.0 t.ensures.1 t.ensures.2
