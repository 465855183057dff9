use borrow.Author.Tests.{ltb-false}
use Prim.Native.Nat.{ℕ, ◌-◌, ◌*◌, ◌%◌, ◌^◌, ◌≤◌}
use mathlib.Core.Path.{◌≡◌}
use native.Mathlib.Omega.{arith}
use lib.ListN.{get_or}
use lib.Pow.{pow_pos, pow_mono}
use Rattle.lerc_words.proofs.Little.{unit}
use Rattle.lerc_block.proofs.WholeWords.{product-fits, below_last}
use Rattle.lerc_block.proofs.whole.passes.Goals as goal
use Rattle.lerc_block.proofs.whole.passes.Goals.{After-largest-most, Start}

abbrev bits : (c : Start) → ℕ
bits k = k.args.bits

unit-is : (k : Start) → (1 * 2 ^ bits k) % 2 ^ 64 ≡ 2 ^ bits k
unit-is k = unit (bits k) (omega (arith, k.requires.2.narrow))

pub overflow_sub-low : goal.overflow_sub-low
overflow_sub-low c = let k = (goal.at.overflow_sub-low c).Start in rw (unit-is k) (pow_pos (bits k))

product : (k : Start) → k.args.step * (2 ^ bits k - 1) ≤ 2 ^ 52
product k =
    let m : 2 ^ bits k ≤ 2 ^ 31 = pow_mono {j = 31} k.requires.2.narrow in
    product-fits _ _ k.requires.1 (omega (arith, m))

pub overflow_mul-step : goal.overflow_mul-step
overflow_mul-step c = let k = (goal.at.overflow_mul-step c).Start in rw (unit-is k) (omega (arith, product k))

pub overflow_add-base : goal.overflow_add-base
overflow_add-base c = let k = (goal.at.overflow_add-base c).Start in rw (unit-is k) (omega (arith, product k, c.requires.0))

pub returns-then-base-step : goal.returns-then-base-step
returns-then-base-step c e =
    let k = (goal.at.returns-then-base-step c).Start in
    let a = c.args in
    let few : (i : ℕ) → get_or a.counts.now i 0 ≤ 2 ^ bits k - 1 = λ i. omega (arith, c.requires.2.below i) in
    below_last a.base a.step a.last (2 ^ bits k - 1) a.counts.now few (rw (unit-is k) at c.if-base-step.true)

-- the largest count is one of 32 bits
most : (c : After-largest-most) → c.args.step * c.largest-most.result ≤ 2 ^ 52
most c = product-fits _ _ c.requires.1 (omega (arith, c.largest-most.type_inv))

pub overflow_mul-result : goal.overflow_mul-result
overflow_mul-result c = omega (arith, most (goal.at.overflow_mul-result c).After-largest-most)

pub overflow_add-result : goal.overflow_add-result
overflow_add-result c = omega (arith, most (goal.at.overflow_add-result c).After-largest-most, c.requires.0)

pub returns : goal.returns
returns c e =
    let a = c.args in
    below_last a.base a.step a.last c.largest-most.result a.counts.now c.largest-most.ensures (ltb-false _ _ e)
