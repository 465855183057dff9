-- Over `sum` the definitions of `By` are the reader's own.
-- Assumes nothing.
use mathlib.Core.Path.{◌≡◌, refl, ap}
use mathlib.Core.List.{List}
use Prim.Native.Nat.{ℕ, zero, suc}
use Rattle.lerc_words.specs.Res.{Res, ok, fail, ◌>>=◌, marked}
use Rattle.lerc_numeric.specs.Numeric.{sum}
use Rattle.lerc_numeric.specs.Steps.{step_of}
use Rattle.lerc_header.specs.declared.Header.{Header}
use Rattle.lerc_block.specs.Block.{Block, stepped_block, offset_block, formed, block_says}
use Rattle.lerc_image.specs.Blocks.{block_at, chain}
use Rattle.lerc_image.proofs.Chain.{fronted}
use Rattle.lerc_overflow.specs.By.{step_by, stepped_by, offset_by, formed_by, block_by, block_at_by, chain_by}

pub step_sum : (error top offset q : ℕ) → step_by sum error top offset q ≡ step_of offset error top q
unfolding step_by step_of
step_sum error top offset q = refl

pub block-sum : (s : List ℕ) (at kind error top x n : ℕ) → block_by sum s at kind error top x n ≡ block_says s at kind error top x n
unfolding block_by formed_by offset_by stepped_by step_by block_says formed offset_block stepped_block step_of
block-sum s at kind error top x n = refl

pub block-at-sum : (s : List ℕ) (h : Header) (maxima m : List ℕ) (n at : ℕ) → block_at_by sum s h maxima m n at ≡ block_at s h maxima m n at
unfolding block_at_by block_at
block-at-sum s h maxima m n at = ap (marked at) (block-sum s at h.kind h.error _ _ _)

pub chain-sum : (s : List ℕ) (h : Header) (maxima m : List ℕ) (f n at : ℕ) → chain_by sum s h maxima m f n at ≡ chain s h maxima m f n at
unfolding chain_by chain
chain-sum s h maxima m zero n at = refl
chain-sum s h maxima m (suc f) n at = rw (block-at-sum s h maxima m n at) (go (block_at s h maxima m n at) (λ b. chain-sum s h maxima m f (suc n) b.next))
  where
    go : (x : Res Block) → ((b : Block) → chain_by sum s h maxima m f (suc n) b.next ≡ chain s h maxima m f (suc n) b.next)
        → (x >>= λ b. chain_by sum s h maxima m f (suc n) b.next >>= λ c. ok (fronted at b c))
        ≡ (x >>= λ b. chain s h maxima m f (suc n) b.next >>= λ c. ok (fronted at b c))
    go (ok b) i = rw (i b)
    go (fail r) i = refl
