-- The meaning of a blob. It mentions no buffer: the kept mask is an input, and what the words are put into is not spoken of.
-- Assumes nothing.
use Rattle.std.specs.Prelude.{ℕ, ◌+◌, ◌-◌, ◌*◌, ◌/◌, ◌%◌, Bool, cond, List, [], length, get_or, take, eqb}
use Rattle.lerc_words.specs.Res.{Res, ok, ◌>>=◌, marked}
use Rattle.lerc_header.specs.declared.Header.{Header}
use Rattle.lerc_header.specs.Header.{shape_of, header_bytes, header_says}
use Rattle.lerc_numeric.specs.Kinds.{type_size}
use Rattle.lerc_mask.specs.Mask.{valid_below}
use Rattle.lerc_ranges.specs.declared.Ranges.{Ranges}
use Rattle.lerc_validity.specs.Validity.{MaskInForce, bytes_of, mask_says}
use Rattle.lerc_ranges.specs.Ranges.{ranges_says, constant_words}
use Rattle.lerc_block.specs.Block.{raw_words}
use Rattle.lerc_sweep.specs.Sweep.{Way, raw_from, blocks_from, huffman_from, swept}
use Rattle.lerc_image.specs.Blocks.{Chain, all_blocks}
use Rattle.lerc_image.specs.Paint.{word_of}
use Rattle.lerc_byte_image.specs.Prediction.{byte_word}
use Rattle.lerc_byte_image.specs.Image.{image_at}

-- "a constant, raw or block body", or an empty one; or a Huffman image, with prediction or without, its symbols and its end
pub data Body : Type 0 where
  empty : Body
  constant : List ℕ → ℕ → Body
  raw : List ℕ → ℕ → Body
  blocks : Chain → Body
  huffman : Bool → List ℕ → ℕ → Body

-- "the missing raw word's first byte": behind the words of a kind that lie whole between `at` and the end
abbrev pub missing_word_at : ℕ → ℕ → ℕ → ℕ
missing_word_at len at kind = at + (len - at) / type_size kind * type_size kind

-- "1 is raw words, valid pixels in order, depth innermost"
unfoldable pub raw_body : List ℕ → Header → ℕ → Res Body
raw_body s h at = do
  b ← marked (missing_word_at (length s) at h.kind) (raw_words s at h.kind (h.valid * h.depth))
  ok (raw b.words b.next)

unfoldable pub block_body : List ℕ → Header → List ℕ → List ℕ → ℕ → Res Body
block_body s h maxima m at = do
  c ← all_blocks s h maxima m at
  ok (blocks c)

-- "Mode bytes 1 (delta) and 2 now decode": the image whose mode byte stands at `mode`
unfoldable pub huffman_body : List ℕ → Header → Bool → ℕ → Res Body
huffman_body s h delta mode = do
  c ← image_at s h mode
  ok (huffman delta c.symbols c.end)

-- what sweep and mode byte say
abbrev pub body_from : List ℕ → Header → Ranges → List ℕ → Way → Res Body
body_from s h r m (raw_from at) = raw_body s h at
body_from s h r m (blocks_from at) = block_body s h r.max m at
body_from s h r m (huffman_from delta mode) = huffman_body s h delta mode

-- "Else a sweep byte": the body that it announces
unfoldable pub swept_body : List ℕ → Header → Ranges → List ℕ → Res Body
swept_body s h r m = do
  way ← swept s h.kind h.error r.at
  body_from s h r m way

-- "A constant body writes the minimum of each depth."
unfoldable pub constant_body : Header → Ranges → Res Body
constant_body h r = do
  words ← constant_words h.depth h.kind r.min
  ok (constant words r.at)

-- "Valid 0: the body is empty whatever min and max are"; else ranges, then a constant, raw or block body, or a Huffman image
unfoldable pub body_says : List ℕ → Header → List ℕ → Res Body
body_says s h m =
    cond (eqb h.valid 0) (ok empty)
    ((do
      r ← ranges_says s h
      cond r.constant (constant_body h r) (swept_body s h r m)))

-- "the end is 70" for an empty body
abbrev pub end_of : Body → ℕ
end_of empty = header_bytes
end_of (constant words end) = end
end_of (raw words end) = end
end_of (blocks c) = c.end
end_of (huffman delta symbols end) = end

-- "other bodies "blocks 0""
abbrev pub starts_of : Body → List ℕ
starts_of empty = []
starts_of (constant words end) = []
starts_of (raw words end) = []
starts_of (blocks c) = c.starts
starts_of (huffman delta symbols end) = []

-- the Lerc2 word of a valid cell
unfoldable pub cell_word : Header → List ℕ → Body → ℕ → ℕ
cell_word h m empty c = 0
cell_word h m (constant words end) c = get_or words (c % h.depth) 0
cell_word h m (raw words end) c = get_or words (valid_below (c / h.depth) m * h.depth + c % h.depth) 0
cell_word h m (blocks k) c = word_of (shape_of h) m (λ n. get_or k.words n []) c
cell_word h m (huffman delta symbols end) c = byte_word (shape_of h) h.kind delta m (λ i. get_or symbols i 0) c

-- "A reader of one Lerc2 version 4 blob: header, validity mask, ranges per depth, then a .. body."
pub record Meaning : Type 0 where
  pub header : Header
  pub mask : MaskInForce
  pub body : Body

-- the body that follows an accepted header and mask; "Bytes after size .. are never looked at"
unfoldable pub meaning_from : List ℕ → Header → MaskInForce → Res Meaning
meaning_from b h m = do
  y ← body_says (take h.size b) h (bytes_of m)
  ok (record { header = h; mask = m; body = y })

-- What a blob means, "header, validity mask, ranges per depth, then a constant, raw or block body", with or without reuse of a kept mask; no buffer is mentioned.
unfoldable pub meaning : List ℕ → Bool → List ℕ → Res Meaning
meaning b reuse old = do
  h ← header_says b
  m ← mask_says (take h.size b) h reuse old
  meaning_from b h m
