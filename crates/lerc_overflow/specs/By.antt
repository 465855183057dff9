-- The definitions of a step, a block, a chain of blocks, a body and a meaning over any addition: each is the text of the reader's own
-- definition, with `add` where `sum` stands there. Over `sum` they are those definitions (`OverSum`). Over `counted_sum`, in which an infinity
-- is counted as 2^1024, they say what blobs meant before "finite plus infinity, either way round, is that infinity".
-- Assumes nothing.
use Rattle.std.specs.Prelude.{ℕ, zero, suc, ◌+◌, ◌%◌, Bool, cond, List, [], ◌∷◌, length, get_or, replicate, take, eqb}
use Rattle.lerc_words.specs.Res.{Res, ok, ◌>>=◌, marked, require, each}
use Rattle.lerc_numeric.specs.Numeric.{scaled, lesser}
use Rattle.lerc_samples.specs.Samples.{stored}
use Rattle.lerc_bits.specs.Bits.{counts}
use Rattle.lerc_header.specs.declared.Header.{Header}
use Rattle.lerc_header.specs.Header.{shape_of, header_says}
use Rattle.lerc_header.specs.Shape.{block_count}
use Rattle.lerc_validity.specs.Validity.{MaskInForce, bytes_of, mask_says}
use Rattle.lerc_ranges.specs.declared.Ranges.{Ranges}
use Rattle.lerc_ranges.specs.Ranges.{ranges_says}
use Rattle.lerc_sweep.specs.Sweep.{Way, raw_from, blocks_from, huffman_from, swept}
use Rattle.lerc_block.specs.Block.{Block, raw_words, level_block, finite_offset, flag_at}
use Rattle.lerc_image.specs.Geometry.{tile_of, valid_in_tile}
use Rattle.lerc_image.specs.Blocks.{Chain}
use Rattle.lerc.specs.Meaning.{Body, empty, blocks, Meaning, raw_body, huffman_body, constant_body}

abbrev pub Adding : Type 0
Adding = ℕ → ℕ → ℕ

-- ---- a block

-- `step_of`
unfoldable pub step_by : Adding → ℕ → ℕ → ℕ → ℕ → ℕ
step_by add error top offset q = lesser (add offset (scaled error q)) top

-- `stepped_block`
unfoldable pub stepped_by : Adding → List ℕ → ℕ → ℕ → ℕ → ℕ → ℕ → ℕ → Res Block
stepped_by add s at kind error top offset n = do
  c ← counts s at
  _ ← require (eqb (length c.values) n) 8
  words ← each (λ q. stored kind (step_by add error top offset q)) c.values
  ok (record { words = words; next = c.next })

-- `offset_block`
unfoldable pub offset_by : Adding → List ℕ → ℕ → ℕ → ℕ → ℕ → ℕ → ℕ → Res Block
offset_by add s at kind error top flag n = do
  o ← finite_offset s at kind flag
  cond (eqb (flag % 4) 3) (level_block o.next kind o.value n) (stepped_by add s o.next kind error top o.value n)

-- `formed`
unfoldable pub formed_by : Adding → List ℕ → ℕ → ℕ → ℕ → ℕ → ℕ → ℕ → Res Block
formed_by add s at kind error top flag n =
    cond (eqb (flag % 4) 0) (raw_words s at kind n)
    (cond (eqb (flag % 4) 2) (ok (record { words = replicate n 0; next = at }))
    (offset_by add s at kind error top flag n))

-- `block_says`
unfoldable pub block_by : Adding → List ℕ → ℕ → ℕ → ℕ → ℕ → ℕ → ℕ → Res Block
block_by add s at kind error top x n = do
  flag ← flag_at s at x
  formed_by add s (at + 1) kind error top flag n

-- ---- blocks, one after the other

-- `block_at`
unfoldable pub block_at_by : Adding → List ℕ → Header → List ℕ → List ℕ → ℕ → ℕ → Res Block
block_at_by add s h maxima m n at =
    let t = tile_of (shape_of h) n in
    marked at (block_by add s at h.kind h.error (get_or maxima t.d 0) t.x (valid_in_tile (shape_of h) m t))

-- `chain`
unfoldable pub chain_by : Adding → List ℕ → Header → List ℕ → List ℕ → ℕ → ℕ → ℕ → Res Chain
chain_by add s h maxima m zero n at = ok (record { starts = []; words = []; end = at })
chain_by add s h maxima m (suc f) n at = do
  b ← block_at_by add s h maxima m n at
  c ← chain_by add s h maxima m f (suc n) b.next
  ok (record { starts = at ∷ c.starts; words = b.words ∷ c.words; end = c.end })

-- `all_blocks`
abbrev pub all_blocks_by : Adding → List ℕ → Header → List ℕ → List ℕ → ℕ → Res Chain
all_blocks_by add s h maxima m at = chain_by add s h maxima m (block_count (shape_of h)) 0 at

-- ---- a body and a blob

-- `block_body`
unfoldable pub block_body_by : Adding → List ℕ → Header → List ℕ → List ℕ → ℕ → Res Body
block_body_by add s h maxima m at = do
  c ← all_blocks_by add s h maxima m at
  ok (blocks c)

-- `body_from`
abbrev pub body_from_by : Adding → List ℕ → Header → Ranges → List ℕ → Way → Res Body
body_from_by add s h r m (raw_from at) = raw_body s h at
body_from_by add s h r m (blocks_from at) = block_body_by add s h r.max m at
body_from_by add s h r m (huffman_from delta mode) = huffman_body s h delta mode

-- `swept_body`
unfoldable pub swept_body_by : Adding → List ℕ → Header → Ranges → List ℕ → Res Body
swept_body_by add s h r m = do
  way ← swept s h.kind h.error r.at
  body_from_by add s h r m way

-- `body_says`
unfoldable pub body_by : Adding → List ℕ → Header → List ℕ → Res Body
body_by add s h m =
    cond (eqb h.valid 0) (ok empty)
    ((do
      r ← ranges_says s h
      cond r.constant (constant_body h r) (swept_body_by add s h r m)))

-- `meaning_from`
unfoldable pub meaning_from_by : Adding → List ℕ → Header → MaskInForce → Res Meaning
meaning_from_by add b h m = do
  y ← body_by add (take h.size b) h (bytes_of m)
  ok (record { header = h; mask = m; body = y })

-- `meaning`
unfoldable pub meaning_by : Adding → List ℕ → Bool → List ℕ → Res Meaning
meaning_by add b reuse old = do
  h ← header_says b
  m ← mask_says (take h.size b) h reuse old
  meaning_from_by add b h m
