use Prim.Native.Nat.{◌-◌, ◌*◌, ◌^◌, ◌≤◌}
use mathlib.Core.Path.{◌∙◌}
use native.Mathlib.Omega.{arith}
use lib.Bits.{and_le_r}
use lib.ListN.{length, get_or}
use lib.Pow.{pow_pos}
use Rattle.lerc_words.proofs.Tables.{table-over}
use Rattle.lerc_words.proofs.Filling.{filling-none, filling-more, filling-done}
use Rattle.lerc_block.proofs.WholeWords.{low-is, product-fits, lowest-sum}
use Rattle.lerc_block.proofs.whole.whole_free.Goals as goal
use Rattle.lerc_block.proofs.whole.whole_free.Goals.{In-loop-k}

pub overflow_sub-low : goal.overflow_sub-low
overflow_sub-low c = let a = c.args in rw (low-is a.size c.requires.3) (pow_pos (8 * a.size))

pub loop-k-init : goal.loop-k-init
loop-k-init c = filling-none _ (length c.args.counts.now) c.args.out.now c.requires.0

-- no step is large
small : (c : In-loop-k) → let a = c.args in a.step * get_or a.counts.now c.loop-k.k 0 ≤ 2 ^ 52
small c = product-fits _ _ c.requires.2 (omega (arith, c.type_inv.counts c.loop-k.k))

pub overflow_mul-out : goal.overflow_mul-out
overflow_mul-out c = omega (arith, small (goal.at.overflow_mul-out c).In-loop-k)

pub overflow_add-out : goal.overflow_add-out
overflow_add-out c =
    let a = c.args in
    omega (arith, and_le_r (a.step * get_or a.counts.now c.loop-k.k 0) (2 ^ 32 - 1), c.requires.1)

pub loop-k-preserved : goal.loop-k-preserved
loop-k-preserved c =
    filling-more c.loop-k.invariant _ (omega arith) (lowest-sum c.args.size _ _ c.requires.3)

pub returns : goal.returns
returns c = filling-done c.loop-k.invariant c.loop-k-test.false ∙ table-over _ _ _
