use Prim.Native.Nat.{◌-◌, ◌*◌, ◌/◌, ◌≤◌}
use mathlib.Core.Path.{◌≡◌}
use native.Mathlib.Nat.{add-zero, zero-mul, div-mul-le_self, zero-div}
use native.Mathlib.Omega.{arith}
use Rattle.lerc_numeric.proofs.Integers.{size-ge}
use Rattle.lerc.proofs.body.missing_word.Goals as goal
use Rattle.lerc.proofs.body.missing_word.Goals.{After-size-size}

pub returns-then-len-at : goal.returns-then-len-at
returns-then-len-at c =
    let a = c.args in
    let none : a.len - a.at ≡ 0 = omega arith in
    rw (none, zero-div, zero-mul, add-zero)

pub nonzero_div-result : goal.nonzero_div-result
nonzero_div-result c = rw c.size-size.ensures (size-ge c.args.kind)

-- the words that are whole end before the bytes do
whole : (c : After-size-size) → (c.args.len - c.args.at) / c.size-size.result * c.size-size.result ≤ c.args.len - c.args.at
whole c = div-mul-le_self _ _

pub overflow_mul-result : goal.overflow_mul-result
overflow_mul-result c = omega (arith, whole c)

pub overflow_add-result : goal.overflow_add-result
overflow_add-result c = omega (arith, whole c)

pub returns : goal.returns
returns c = rw c.size-size.ensures
