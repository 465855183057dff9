use Prim.Native.Nat.{◌≤◌, ◌-◌, ◌+◌, ◌*◌}
use native.Mathlib.Omega.{arith}
use lib.ListN.{get_or, length-replicate}
use native.Mathlib.Nat.{mul-le-mul_left}
use Rattle.lerc_mask.proofs.Steps.{all-repeated, last-repeated}
use Rattle.lerc_mask.proofs.repeated.Goals as goal

pub overflow_mul-total : goal.overflow_mul-total
overflow_mul-total c =
    let a = c.args in
    let q : (a.n - 1) * c.ones_of-2.result ≤ (a.n - 1) * 8 = mul-le-mul_left (a.n - 1) c.ones_of-2.ensures.1 in
    omega arith

pub overflow_add-total-2 : goal.overflow_add-total-2
overflow_add-total-2 c =
    let a = c.args in
    let q : (a.n - 1) * c.ones_of-2.result ≤ (a.n - 1) * 8 = mul-le-mul_left (a.n - 1) c.ones_of-2.ensures.1 in
    omega arith

pub returns : goal.returns
returns c =
    let a = c.args in
    let b = get_or a.s.now (a.w.at + 2) 0 in
    rw (length-replicate, all-repeated a.n b, last-repeated a.n b c.requires.0.0, c.ones_of.ensures.0, c.ones_of-2.ensures.0)
