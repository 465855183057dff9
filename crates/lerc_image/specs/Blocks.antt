-- The blocks of a body, one after the other.
-- Assumes nothing.
use Rattle.std.specs.Prelude.{ℕ, zero, suc, List, [], ◌∷◌, get_or}
use Rattle.lerc_words.specs.Res.{Res, ok, ◌>>=◌, marked}
use Rattle.lerc_header.specs.declared.Header.{Header}
use Rattle.lerc_header.specs.Header.{shape_of}
use Rattle.lerc_header.specs.Shape.{block_count}
use Rattle.lerc_block.specs.Block.{Block, block_says}
use Rattle.lerc_image.specs.Geometry.{tile_of, valid_in_tile}

-- block n at a start: its tile's column, its tile's valid pixels, its depth's maximum. `maxima` has one for each depth.
-- "The place is the flag byte for any refusal inside a block"
unfoldable pub block_at : List ℕ → Header → List ℕ → List ℕ → ℕ → ℕ → Res Block
block_at s h maxima m n at =
    let t = tile_of (shape_of h) n in
    marked at (block_says s at h.kind h.error (get_or maxima t.d 0) t.x (valid_in_tile (shape_of h) m t))

-- where each block begins, the words of each, and where the last ends
pub record Chain : Type 0 where
  pub starts : List ℕ
  pub words : List (List ℕ)
  pub end : ℕ

-- f blocks from number n on, the first at `at`, each where the one before it ends
unfoldable pub chain : List ℕ → Header → List ℕ → List ℕ → ℕ → ℕ → ℕ → Res Chain
chain s h maxima m zero n at = ok (record { starts = []; words = []; end = at })
chain s h maxima m (suc f) n at = do
  b ← block_at s h maxima m n at
  c ← chain s h maxima m f (suc n) b.next
  ok (record { starts = at ∷ c.starts; words = b.words ∷ c.words; end = c.end })

-- all blocks of a body
abbrev pub all_blocks : List ℕ → Header → List ℕ → List ℕ → ℕ → Res Chain
all_blocks s h maxima m at = chain s h maxima m (block_count (shape_of h)) 0 at
