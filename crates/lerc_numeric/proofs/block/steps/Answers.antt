use mathlib.Core.Path.{◌≡◌}
use mathlib.Core.List.{List}
use Prim.Native.Nat.{ℕ, ◌%◌, ◌^◌}
use native.Mathlib.Omega.{arith}
use lib.Bits.{bit_and}
use Rattle.lerc_numeric.specs.Steps.{step_of, mapped}
use Rattle.lerc_numeric.proofs.Counts.{mapped-lowest}
use Rattle.lerc_numeric.proofs.block.steps.Goals as goal
use Rattle.lerc_numeric.proofs.block.steps.Goals.{After-largest-low}

pub steps-requires : goal.steps-requires
steps-requires c = c.takes_step.ensures c.if-takes_step.true

counted : {ys : List ℕ} (k : After-largest-low)
    → let a = k.args in
    ys ≡ mapped (λ c. step_of a.offset a.error a.top (bit_and c k.largest-low.result)) a.counts.now a.out.now
    → ys ≡ mapped (λ c. step_of a.offset a.error a.top (c % 2 ^ a.bits)) a.counts.now a.out.now
counted k =
    let a = k.args in
    mapped-lowest (step_of a.offset a.error a.top) a.bits k.largest-low.result a.counts.now a.out.now k.largest-low.ensures (λ i. omega (arith, k.type_inv.counts i))

pub returns-then-takes_step : goal.returns-then-takes_step
returns-then-takes_step c = counted (goal.at.returns-then-takes_step c).After-largest-low c.steps.ensures

pub returns-else-takes_step : goal.returns-else-takes_step
returns-else-takes_step c = counted (goal.at.returns-else-takes_step c).After-largest-low c.all_words.ensures
