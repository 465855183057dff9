use mathlib.Core.Path.{◌∙◌}
use Prim.Native.Nat.{◌≤◌}
use native.Mathlib.Omega.{arith}
use Rattle.lerc_numeric.specs.Numeric.{exp}
use Rattle.lerc_numeric.proofs.Align.{rest-is, rest_le}
use Rattle.lerc_numeric.proofs.add.rest.Goals as goal

pub overflow_sub-t : goal.overflow_sub-t
overflow_sub-t c =
    let t = c.align-t in
    let h : exp c.args.b ≤ exp c.args.a = omega arith in
    rest_le _ _ _ _ _ h t.ensures.0 t.ensures.1 t.ensures.2 c.requires

pub returns : goal.returns
returns c =
    let t = c.align-t in
    let h : exp c.args.b ≤ exp c.args.a = omega arith in
    c.pack.ensures ∙ rest-is _ _ _ _ _ h t.ensures.0 t.ensures.1 t.ensures.2
