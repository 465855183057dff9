use Prim.Native.Nat.{ℕ, ◌*◌, ◌%◌, ◌^◌, ◌≤◌}
use mathlib.Core.Path.{◌∙◌, ap}
use native.Mathlib.Omega.{arith}
use lib.ListN.{length, get_or}
use lib.Pow.{pow_pos}
use Rattle.lerc_words.proofs.Tables.{table-over}
use Rattle.lerc_words.proofs.Filling.{filling-none, filling-more, filling-done}
use Rattle.lerc_block.proofs.WholeWords.{low-is, product-fits, lowest}
use Rattle.lerc_block.proofs.whole.whole_clamped.Goals as goal
use Rattle.lerc_block.proofs.whole.whole_clamped.Goals.{In-loop-k}

pub overflow_sub-low : goal.overflow_sub-low
overflow_sub-low c = rw (low-is c.args.size c.requires.3) (pow_pos (8 * c.args.size))

pub loop-k-init : goal.loop-k-init
loop-k-init c = filling-none _ (length c.args.counts.now) c.args.out.now c.requires.0

-- no step is large
small : (c : In-loop-k) → let a = c.args in a.step * get_or a.counts.now c.loop-k.k 0 ≤ 2 ^ 52
small c = product-fits _ _ c.requires.2 (omega (arith, c.type_inv.counts c.loop-k.k))

pub overflow_mul-step : goal.overflow_mul-step
overflow_mul-step c = omega (arith, small (goal.at.overflow_mul-step c).In-loop-k)

pub overflow_add-base : goal.overflow_add-base
overflow_add-base c = omega (arith, small (goal.at.overflow_add-base c).In-loop-k, c.requires.1)

pub loop-k-preserved : goal.loop-k-preserved
loop-k-preserved c =
    filling-more c.loop-k.invariant _ (omega arith) (lowest c.args.size _ c.requires.3 ∙ ap (λ (v : ℕ). v % 2 ^ (8 * c.args.size)) (omega (arith, c.min.ensures)))

pub returns : goal.returns
returns c = filling-done c.loop-k.invariant c.loop-k-test.false ∙ table-over _ _ _
