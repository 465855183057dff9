use Prim.Native.Nat.{◌-◌}
use mathlib.Core.Path.{◌≡◌}
use native.Mathlib.Nat.{mul-zero, div-le_self}
use native.Mathlib.Omega.{arith}
use Rattle.lerc_words.proofs.Row.{row_inside}
use Rattle.lerc_words.proofs.inside.Goals as goal

pub returns-then-size-eq0 : goal.returns-then-size-eq0
returns-then-size-eq0 c =
    let a = c.args in
    let z : a.size ≡ 0 = omega arith in
    (omega arith, λ k l. (omega arith, rw (z, mul-zero) (omega arith)))

pub overflow_add-few : goal.overflow_add-few
overflow_add-few c = let a = c.args in omega (arith, div-le_self (a.end - 8 - a.at) a.size)

pub returns : goal.returns
returns c =
    let a = c.args in
    (omega arith, λ k l. (omega arith, row_inside a.end a.at a.size k (omega arith) c.if-end-at.false (omega (arith, c.min.ensures))))
