-- The definitions without places: each is the text of the reader's own definition, named above it, with nothing marked. What is not here marks
-- nothing, or is there without its mark already (`mask_in`, `mode_byte`).
-- Assumes nothing.
use Rattle.std.specs.Prelude.{ℕ, zero, suc, ◌+◌, ◌*◌, Bool, not, cond, ◌&&◌, List, [], ◌∷◌, length, get_or, take, leb, ltb, eqb}
use Rattle.lerc_words.specs.Res.{Res, ok, fail, ◌>>=◌, refuse, require, word_at}
use Rattle.lerc_numeric.specs.Numeric.{same}
use Rattle.lerc_header.specs.declared.Header.{Header}
use Rattle.lerc_header.specs.Header.{shape_of, ranges_at, held, header_says}
use Rattle.lerc_header.specs.Limits.{depth_limit}
use Rattle.lerc_header.specs.Shape.{block_count, mask_length}
use Rattle.lerc_validity.specs.Validity.{MaskInForce, bytes_of, mask_in}
use Rattle.lerc_ranges.specs.declared.Ranges.{Ranges}
use Rattle.lerc_ranges.specs.Ranges.{ranges_end, uniform_ranges, coded_ranges, pairs_right}
use Rattle.lerc_sweep.specs.Sweep.{Way, raw_from, blocks_from, huffman_from, has_mode_byte, mode_byte}
use Rattle.lerc_block.specs.Block.{Block, raw_words, block_says}
use Rattle.lerc_image.specs.Geometry.{tile_of, valid_in_tile}
use Rattle.lerc_image.specs.Blocks.{Chain}
use Rattle.lerc_byte_image.specs.Symbols.{coded_at}
use Rattle.lerc.specs.Meaning.{Body, empty, raw, blocks, huffman, constant_body, Meaning}
use Rattle.lerc.specs.Read.{Lent, room, Masked}

-- ---- ranges and mask

-- `ranges_says`
unfoldable pub ranges_plain : List ℕ → Header → Res Ranges
ranges_plain s h =
    cond (same h.min h.max) (ok (uniform_ranges h))
    ((do
      _ ← require (leb (ranges_end h) (length s)) 1
      _ ← require (pairs_right h.depth (coded_ranges s h)) 7
      ok (coded_ranges s h)))

-- `ranges_in_says`
unfoldable pub ranges_in_plain : List ℕ → Header → Res Ranges
ranges_in_plain s h = do
  _ ← require (leb h.depth depth_limit) 4
  ranges_plain s h

-- `read_ranges_says`
unfoldable pub read_ranges_plain : List ℕ → Header → Res Ranges
read_ranges_plain b h = do
  _ ← held h (length b)
  ranges_plain (take h.size b) h

-- `find_says`
unfoldable pub find_plain : List ℕ → Header → Bool → List ℕ → ℕ → Res MaskInForce
find_plain s h reuse old room = do
  _ ← require (leb (mask_length (shape_of h)) (length old) && leb (mask_length (shape_of h)) room) 5
  _ ← require (leb (ranges_at h) (length s)) 1
  mask_in s h reuse old

-- `prepare_says`
unfoldable pub prepare_plain : List ℕ → Header → Bool → List ℕ → ℕ → Res MaskInForce
prepare_plain b h reuse old room = do
  e ← held h (length b)
  _ ← require (leb e.mask (length old) && leb e.mask room) 5
  mask_in (take h.size b) h reuse old

-- ---- the sweep byte, and the mode byte

-- `moded`
unfoldable pub moded_plain : List ℕ → ℕ → ℕ → ℕ → Res Way
moded_plain s kind error at = cond (has_mode_byte kind error) (mode_byte s at) (ok (blocks_from at))

-- `swept`
unfoldable pub swept_plain : List ℕ → ℕ → ℕ → ℕ → Res Way
swept_plain s kind error at = do
  sweep ← word_at 1 s at
  _ ← require (ltb sweep 2) 8
  cond (eqb sweep 1) (ok (raw_from (at + 1))) (moded_plain s kind error (at + 1))

-- ---- blocks

-- `block_at`
unfoldable pub block_plain : List ℕ → Header → List ℕ → List ℕ → ℕ → ℕ → Res Block
block_plain s h maxima m n at =
    let t = tile_of (shape_of h) n in
    block_says s at h.kind h.error (get_or maxima t.d 0) t.x (valid_in_tile (shape_of h) m t)

-- `chain`
unfoldable pub chain_plain : List ℕ → Header → List ℕ → List ℕ → ℕ → ℕ → ℕ → Res Chain
chain_plain s h maxima m zero n at = ok (record { starts = []; words = []; end = at })
chain_plain s h maxima m (suc f) n at = do
  b ← block_plain s h maxima m n at
  c ← chain_plain s h maxima m f (suc n) b.next
  ok (record { starts = at ∷ c.starts; words = b.words ∷ c.words; end = c.end })

-- `all_blocks`
abbrev pub all_blocks_plain : List ℕ → Header → List ℕ → List ℕ → ℕ → Res Chain
all_blocks_plain s h maxima m at = chain_plain s h maxima m (block_count (shape_of h)) 0 at

-- ---- walk and fill

-- `way_walked`
unfoldable pub way_walked_plain : List ℕ → Header → List ℕ → List ℕ → Way → Res Chain
way_walked_plain s h maxima m (raw_from at) = fail (refuse 10)
way_walked_plain s h maxima m (blocks_from at) = all_blocks_plain s h maxima m at
way_walked_plain s h maxima m (huffman_from delta mode) = fail (refuse 10)

-- `body_walked`
unfoldable pub body_walked_plain : List ℕ → Header → List ℕ → List ℕ → ℕ → Res Chain
body_walked_plain s h maxima m at = do
  way ← swept_plain s h.kind h.error at
  way_walked_plain s h maxima m way

-- `walk_says`
unfoldable pub walk_plain : List ℕ → Header → Ranges → List ℕ → ℕ → Res Chain
walk_plain b h r m room = do
  e ← held h (length b)
  _ ← require (leb e.mask (length m) && leb e.blocks room) 5
  _ ← require (pairs_right h.depth r) 7
  _ ← require (ltb 0 h.valid && not r.constant) 10
  body_walked_plain (take h.size b) h r.max m r.at

-- `fill_says`
unfoldable pub fill_plain : List ℕ → Header → Ranges → List ℕ → List ℕ → ℕ → ℕ → Res Block
fill_plain b h r m list n room = do
  e ← held h (length b)
  _ ← require (ltb n e.blocks) 11
  _ ← require (leb e.mask (length m) && leb e.blocks (length list) && leb e.cells room) 5
  _ ← require (pairs_right h.depth r) 7
  block_plain (take h.size b) h r.max m n (get_or list n 0)

-- ---- a blob

-- `raw_body`
unfoldable pub raw_plain : List ℕ → Header → ℕ → Res Body
raw_plain s h at = do
  b ← raw_words s at h.kind (h.valid * h.depth)
  ok (raw b.words b.next)

-- `block_body`
unfoldable pub block_body_plain : List ℕ → Header → List ℕ → List ℕ → ℕ → Res Body
block_body_plain s h maxima m at = do
  c ← all_blocks_plain s h maxima m at
  ok (blocks c)

-- `huffman_body`
unfoldable pub huffman_plain : List ℕ → Header → Bool → ℕ → Res Body
huffman_plain s h delta mode = do
  c ← coded_at s (mode + 1) (h.valid * h.depth)
  ok (huffman delta c.symbols c.end)

-- `body_from`
abbrev pub body_from_plain : List ℕ → Header → Ranges → List ℕ → Way → Res Body
body_from_plain s h r m (raw_from at) = raw_plain s h at
body_from_plain s h r m (blocks_from at) = block_body_plain s h r.max m at
body_from_plain s h r m (huffman_from delta mode) = huffman_plain s h delta mode

-- `swept_body`
unfoldable pub swept_body_plain : List ℕ → Header → Ranges → List ℕ → Res Body
swept_body_plain s h r m = do
  way ← swept_plain s h.kind h.error r.at
  body_from_plain s h r m way

-- `body_says`
unfoldable pub body_plain : List ℕ → Header → List ℕ → Res Body
body_plain s h m =
    cond (eqb h.valid 0) (ok empty)
    ((do
      r ← ranges_plain s h
      cond r.constant (constant_body h r) (swept_body_plain s h r m)))

-- `meaning_from`
unfoldable pub meaning_from_plain : List ℕ → Header → MaskInForce → Res Meaning
meaning_from_plain b h m = do
  y ← body_plain (take h.size b) h (bytes_of m)
  ok (record { header = h; mask = m; body = y })

-- `meaning`
unfoldable pub meaning_plain : List ℕ → Bool → List ℕ → Res Meaning
meaning_plain b reuse old = do
  h ← header_says b
  m ← mask_in (take h.size b) h reuse old
  meaning_from_plain b h m

-- `masked`
unfoldable pub masked_plain : List ℕ → Bool → Lent → Res Masked
masked_plain b reuse l = do
  h ← header_says b
  _ ← require (room h l) 5
  m ← mask_in (take h.size b) h reuse l.kept
  ok (record { header = h; mask = m })

-- `read_says`
unfoldable pub read_plain : List ℕ → Bool → Lent → Res Meaning
read_plain b reuse l = do
  m ← masked_plain b reuse l
  meaning_from_plain b m.header m.mask
