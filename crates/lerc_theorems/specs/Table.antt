-- The table of refusals, entry by entry: each line is a demand that fails, with its number and its place; the demands before it hold,
-- for "the first failing read decides the number".
-- Assumes nothing.
use Rattle.std.specs.Prelude.{◌≡◌, ◌≢◌, ◌⊎◌, Bool, true, false, List, ℕ, ◌+◌, ◌-◌, ◌*◌, ◌^◌, ◌≤◌, ◌<◌, min, length, get_or, take, drop}
use Rattle.lerc_words.specs.declared.Refusal.{Refusal}
use Rattle.lerc_words.specs.Res.{ok, refuse, placed, word_at, little, Res}
use Rattle.lerc_numeric.specs.Numeric.{negative, finite, mag, less, same}
use Rattle.lerc_numeric.specs.Kinds.{type_size}
use Rattle.lerc_checksum.specs.Checksum.{checksum}
use Rattle.lerc_header.specs.declared.Header.{Header}
use Rattle.lerc_header.specs.Limits.{depth_limit}
use Rattle.lerc_header.specs.Header.{header_bytes, ranges_at, shape_of, pair_right, fields_right, within_ceilings, key_right, header_of, header_says}
use Rattle.lerc_header.specs.Shape.{pixels, cells, mask_length, block_count}
use Rattle.lerc_mask.specs.Mask.{valid_below, mask_bytes}
use Rattle.lerc_ranges.specs.declared.Ranges.{Ranges}
use Rattle.lerc_validity.specs.Validity.{bytes_of}
use Rattle.lerc_ranges.specs.Ranges.{maxima_at, ranges_end, coded_ranges, pairs_right, ranges_says}
use Rattle.lerc_sweep.specs.Sweep.{raw_from, blocks_from, huffman_from, has_mode_byte, swept}
use Rattle.lerc_image.specs.Geometry.{tile_of, valid_in_tile}
use Rattle.lerc_image.specs.Blocks.{Chain, chain}
use Rattle.lerc_image.specs.Own.{own_mask}
use Rattle.lerc.specs.Meaning.{Meaning}
use Rattle.lerc.specs.Read.{Lent, room, Masked, masked, read_says}
use Rattle.lerc.specs.Stage.{was_staged}
use Rattle.lerc_theorems.specs.MaskTable.{CodedWrong}
use Rattle.lerc_theorems.specs.HuffmanTable.{HuffmanRefused}
use Rattle.lerc_theorems.specs.BlockTable.{At, ConstantsRefused, BlockRefused}
use Rattle.lerc.specs.declared.Staged.{Staged}

-- ---- tests that fail. Demands with one number have no order among themselves, but for ranges that are read: there the place tells which comes first

-- a minimum and a maximum: "a range number not finite, or maximum less than minimum"
pub data PairWrong (low high : ℕ) : Type 0 where
  low-not-finite : finite low ≡ false → PairWrong low high
  high-not-finite : finite high ≡ false → PairWrong low high
  crossed : less high low ≡ true → PairWrong low high

-- "7 for the pairs below the depth"
pub data SomePairWrong (depth : ℕ) (r : Ranges) : Type 0 where
  pair-at : (i : ℕ) → i < depth → PairWrong (get_or r.min i 0) (get_or r.max i 0) → SomePairWrong depth r

-- the pairs of the depths before are right
abbrev pub FirstAt : ℕ → ℕ → Ranges → Type 0
FirstAt i depth r = (i < depth) × ((j : ℕ) → j < i → pair_right (get_or r.min j 0) (get_or r.max j 0) ≡ true)

-- "rows, columns, depth, side at least 1; valid at most rows × columns; kind at most 7; error sign clear and below 2^1023;
-- min, max finite, max not less than min; size at least 70 + mask bytes"
pub data FieldWrong (h : Header) : Type 0 where
  no_rows : h.rows ≡ 0 → FieldWrong h
  no-columns : h.columns ≡ 0 → FieldWrong h
  no-depth : h.depth ≡ 0 → FieldWrong h
  no-side : h.side ≡ 0 → FieldWrong h
  valid-many : h.rows * h.columns < h.valid → FieldWrong h
  kind-large : 7 < h.kind → FieldWrong h
  error-negative : negative h.error ≡ true → FieldWrong h
  -- a word's magnitude is counted in units of 2^-1074
  error-large : 2 ^ (1023 + 1074) ≤ mag h.error → FieldWrong h
  min-max-wrong : PairWrong h.min h.max → FieldWrong h
  size_small : h.size < 70 + h.mask → FieldWrong h

-- "rows and columns 4,096, depth 64, cells (pixels × depth) 4,194,304, side 16, size 16,777,216"
pub data CeilingPassed (h : Header) : Type 0 where
  rows-many : 4096 < h.rows → CeilingPassed h
  columns-many : 4096 < h.columns → CeilingPassed h
  depth-large : 64 < h.depth → CeilingPassed h
  cells-many : 4194304 < h.rows * h.columns * h.depth → CeilingPassed h
  side-large : 16 < h.side → CeilingPassed h
  size-large : 16777216 < h.size → CeilingPassed h

-- "kept mask, spare mask, image or list is too short"
pub data TooShort (h : Header) (l : Lent) : Type 0 where
  kept-short : length l.kept < mask_length (shape_of h) → TooShort h l
  spare-short : length l.spare < mask_length (shape_of h) → TooShort h l
  list-short : length l.list < block_count (shape_of h) → TooShort h l
  image-short : length l.image < cells (shape_of h) → TooShort h l

-- ---- the header

-- a header by value is right for a slice of so many bytes
pub record HeldRight (h : Header) (len : ℕ) : Type 0 where
  pub fields : fields_right h ≡ true
  pub ceilings : within_ceilings h ≡ true
  pub whole : h.size ≤ len

-- "held to these rules again (3, 4, 1 for a slice shorter than the size ..)"
pub data HeldRefused (h : Header) (len : ℕ) : Refusal → Type 0 where
  field-wrong : FieldWrong h → HeldRefused h len (refuse 3)
  ceiling-passed : fields_right h ≡ true → CeilingPassed h → HeldRefused h len (refuse 4)
  blob-cut : fields_right h ≡ true → within_ceilings h ≡ true → len < h.size → HeldRefused h len (refuse 1)

-- the checksum that is stored at 10 is not that of the bytes behind it up to the size
abbrev pub ChecksumWrong : List ℕ → ℕ → Type 0
ChecksumWrong b size = little 4 b 10 ≢ checksum (take (size - 14) (drop 14 b))

-- "slice under 70 gives 1; then 2; then 3 ..; Then ceilings (4) ..; Then slice shorter than size: 1."; "Refusal 13, after the header's own refusals"
pub data HeaderRefused (b : List ℕ) : Refusal → Type 0 where
  header-cut : length b < header_bytes → HeaderRefused b (refuse 1)
  key-wrong : header_bytes ≤ length b → key_right b ≡ false → HeaderRefused b (refuse 2)
  not-held : {n : Refusal} → header_bytes ≤ length b → key_right b ≡ true → HeldRefused (header_of b) (length b) n → HeaderRefused b n
  checksum-wrong : header_bytes ≤ length b → key_right b ≡ true → HeldRight (header_of b) (length b) → ChecksumWrong b (header_of b).size → HeaderRefused b (refuse 13)

-- ---- the mask: "mask section wrong", "Any breach is 6."; "66 for 6"

-- all pixels are valid, or none is
abbrev pub UniformMask : Header → Type 0
UniformMask h = (h.valid ≡ 0) ⊎ (h.valid ≡ pixels (shape_of h))

pub data MaskWrong (s : List ℕ) (h : Header) (reuse : Bool) (old : List ℕ) : Type 0 where
  -- "mask bytes must then be 0"
  uniform-coded : UniformMask h → h.mask ≢ 0 → MaskWrong s h reuse old
  -- "if the caller allows reuse"
  not-allowed : (UniformMask h → ⊥) → h.mask ≡ 0 → reuse ≡ false → MaskWrong s h reuse old
  -- "Valid pixels must number `valid`."
  miscounted : (UniformMask h → ⊥) → h.mask ≡ 0 → reuse ≡ true → valid_below (pixels (shape_of h)) (take (mask_length (shape_of h)) old) ≢ h.valid → MaskWrong s h reuse old
  -- "Else runs"
  runs-wrong : (UniformMask h → ⊥) → h.mask ≢ 0 → CodedWrong (take h.mask (drop header_bytes s)) (pixels (shape_of h)) h.valid → MaskWrong s h reuse old

-- the runs of a section alone: 5 for a slice too short, 6 at 66 as everywhere
pub data RunsRefused (s : List ℕ) (count valid room : ℕ) : Refusal → Type 0 where
  runs-room : room < mask_bytes count → RunsRefused s count valid room (refuse 5)
  runs-breach : mask_bytes count ≤ room → CodedWrong s count valid → RunsRefused s count valid room (placed 66 (refuse 6))

-- prepare a mask: the header's, 5, 6
pub data PrepareRefused (b : List ℕ) (h : Header) (reuse : Bool) (old : List ℕ) (room : ℕ) : Refusal → Type 0 where
  mask-held : {n : Refusal} → HeldRefused h (length b) n → PrepareRefused b h reuse old room n
  mask-room : HeldRight h (length b) → (length old < mask_length (shape_of h)) ⊎ (room < mask_length (shape_of h)) → PrepareRefused b h reuse old room (refuse 5)
  mask-wrong : HeldRight h (length b) → mask_length (shape_of h) ≤ length old → mask_length (shape_of h) ≤ room → MaskWrong (take h.size b) h reuse old
      → PrepareRefused b h reuse old room (placed 66 (refuse 6))

-- the mask in the bytes of a blob that was opened: 5, a section that passes the bytes 1, 6
pub data FindRefused (s : List ℕ) (h : Header) (reuse : Bool) (old : List ℕ) (room : ℕ) : Refusal → Type 0 where
  find-room : (length old < mask_length (shape_of h)) ⊎ (room < mask_length (shape_of h)) → FindRefused s h reuse old room (refuse 5)
  section-cut : mask_length (shape_of h) ≤ length old → mask_length (shape_of h) ≤ room → length s < ranges_at h → FindRefused s h reuse old room (refuse 1)
  find-wrong : mask_length (shape_of h) ≤ length old → mask_length (shape_of h) ≤ room → ranges_at h ≤ length s → MaskWrong s h reuse old → FindRefused s h reuse old room (placed 66 (refuse 6))

-- ---- ranges: "all of which must fit (1) before a number is judged"

pub data RangesRefused (s : List ℕ) (h : Header) : Refusal → Type 0 where
  -- "the first range byte where the ranges do not fit"
  ranges-cut : same h.min h.max ≡ false → length s < ranges_end h → RangesRefused s h (placed (ranges_at h) (refuse 1))
  -- "the first byte of the first wrong number, depth by depth, minimum before maximum"
  minimum-wrong : (i : ℕ) → same h.min h.max ≡ false → ranges_end h ≤ length s → FirstAt i h.depth (coded_ranges s h)
      → finite (get_or (coded_ranges s h).min i 0) ≡ false → RangesRefused s h (placed (ranges_at h + i * type_size h.kind) (refuse 7))
  -- "the maximum where it is the lesser"
  maximum-wrong : (i : ℕ) → same h.min h.max ≡ false → ranges_end h ≤ length s → FirstAt i h.depth (coded_ranges s h)
      → finite (get_or (coded_ranges s h).min i 0) ≡ true → (finite (get_or (coded_ranges s h).max i 0) ≡ false) ⊎ (less (get_or (coded_ranges s h).max i 0) (get_or (coded_ranges s h).min i 0) ≡ true)
      → RangesRefused s h (placed (maxima_at h + i * type_size h.kind) (refuse 7))

-- the ranges in the bytes of a blob that was opened: more depths than there are entries 4, 1, 7
pub data RangesInRefused (s : List ℕ) (h : Header) : Refusal → Type 0 where
  depths-many : depth_limit < h.depth → RangesInRefused s h (refuse 4)
  ranges-not-in : {n : Refusal} → h.depth ≤ depth_limit → RangesRefused s h n → RangesInRefused s h n

-- read ranges: the header's, 1, 7
pub data ReadRangesRefused (b : List ℕ) (h : Header) : Refusal → Type 0 where
  ranges-held : {n : Refusal} → HeldRefused h (length b) n → ReadRangesRefused b h n
  ranges-wrong : {n : Refusal} → HeldRight h (length b) → RangesRefused (take h.size b) h n → ReadRangesRefused b h n

-- ranges by value: "7 for the pairs below the depth"
pub data PairsRefused (depth : ℕ) (r : Ranges) : Refusal → Type 0 where
  pair-wrong : SomePairWrong (min depth depth_limit) r → PairsRefused depth r (refuse 7)

-- ---- sweep and mode byte: "the sweep or mode byte for a fault in it .., or where the missing one should be"

-- "0 blocks; .. others 8"; "Mode bytes 1 (delta) and 2 now decode"
pub data ModeRefused (s : List ℕ) (at : ℕ) : Refusal → Type 0 where
  mode-cut : length s < at + 1 → ModeRefused s at (placed at (refuse 1))
  mode-wrong : (v : ℕ) → word_at 1 s at ≡ ok v → 3 ≤ v → ModeRefused s at (placed at (refuse 8))

-- "1 is raw words ..; 0 goes on; others are 8. Kinds 0 and 1 with error exactly 0.5 have a mode byte"
pub data SweepRefused (s : List ℕ) (kind error at : ℕ) : Refusal → Type 0 where
  sweep-cut : length s < at + 1 → SweepRefused s kind error at (placed at (refuse 1))
  sweep-wrong : (v : ℕ) → word_at 1 s at ≡ ok v → 2 ≤ v → SweepRefused s kind error at (placed at (refuse 8))
  mode-refused : {n : Refusal} → word_at 1 s at ≡ ok 0 → has_mode_byte kind error ≡ true → ModeRefused s (at + 1) n → SweepRefused s kind error at n

-- ---- blocks

-- block n at a start: its tile's column, its tile's valid pixels, its depth's maximum; "the flag byte for any refusal inside a block"
abbrev pub BlockAtRefused : List ℕ → Header → List ℕ → List ℕ → ℕ → ℕ → Refusal → Type 0
BlockAtRefused s h maxima m n at =
    let t = tile_of (shape_of h) n in
    At at (BlockRefused s at h.kind h.error (get_or maxima t.d 0) t.x (valid_in_tile (shape_of h) m t))

-- f blocks from number n on, the first at `at`: k of them are right, and the next is refused
pub data ChainRefused (s : List ℕ) (h : Header) (maxima m : List ℕ) (f n at : ℕ) : Refusal → Type 0 where
  block_refused : {j : Refusal} (k : ℕ) (c : Chain) → k < f → chain s h maxima m k n at ≡ ok c → BlockAtRefused s h maxima m (n + k) c.end j
      → ChainRefused s h maxima m f n at j

-- ---- walk

-- the body: sweep and mode byte; "walk on a body not in blocks": 10; the blocks
pub data WalkBodyRefused (s : List ℕ) (h : Header) (r : Ranges) (m : List ℕ) : Refusal → Type 0 where
  walk-sweep : {n : Refusal} → SweepRefused s h.kind h.error r.at n → WalkBodyRefused s h r m n
  walk-raw : (at : ℕ) → swept s h.kind h.error r.at ≡ ok (raw_from at) → WalkBodyRefused s h r m (placed r.at (refuse 10))
  -- "a walk still answers 10", at the mode byte
  walk-huffman : (delta : Bool) (mode : ℕ) → swept s h.kind h.error r.at ≡ ok (huffman_from delta mode) → WalkBodyRefused s h r m (placed mode (refuse 10))
  walk-blocks : {n : Refusal} (at : ℕ) → swept s h.kind h.error r.at ≡ ok (blocks_from at) → ChainRefused s h r.max m (block_count (shape_of h)) 0 at n
      → WalkBodyRefused s h r m n

-- room for the mask and the list
pub record WalkRoom (h : Header) (m : List ℕ) (entries : ℕ) : Type 0 where
  pub mask : mask_length (shape_of h) ≤ length m
  pub list : block_count (shape_of h) ≤ entries

-- 3, 4, 1, 5, 7, 10, then the body
pub data WalkRefused (b : List ℕ) (h : Header) (r : Ranges) (m : List ℕ) (entries : ℕ) : Refusal → Type 0 where
  walk-held : {n : Refusal} → HeldRefused h (length b) n → WalkRefused b h r m entries n
  walk-room : HeldRight h (length b) → (length m < mask_length (shape_of h)) ⊎ (entries < block_count (shape_of h)) → WalkRefused b h r m entries (refuse 5)
  walk-pairs : HeldRight h (length b) → WalkRoom h m entries → SomePairWrong h.depth r → WalkRefused b h r m entries (refuse 7)
  -- "Empty, constant and raw bodies give a walk 10"
  walk-other : HeldRight h (length b) → WalkRoom h m entries → pairs_right h.depth r ≡ true → (h.valid ≡ 0) ⊎ (r.constant ≡ true) → WalkRefused b h r m entries (refuse 10)
  walk-body : {n : Refusal} → HeldRight h (length b) → WalkRoom h m entries → pairs_right h.depth r ≡ true → h.valid ≢ 0 → r.constant ≡ false
      → WalkBodyRefused (take h.size b) h r m n → WalkRefused b h r m entries n

-- ---- fill, and all blocks at once

-- room for the mask, the list and the image, or not
pub record FillRoom (h : Header) (m : List ℕ) (entries words : ℕ) : Type 0 where
  pub mask : mask_length (shape_of h) ≤ length m
  pub list : block_count (shape_of h) ≤ entries
  pub image : cells (shape_of h) ≤ words

abbrev pub NoFillRoom : Header → List ℕ → ℕ → ℕ → Type 0
NoFillRoom h m entries words = (length m < mask_length (shape_of h)) ⊎ ((entries < block_count (shape_of h)) ⊎ (words < cells (shape_of h)))

-- "Fill checks 3, 4, 1, 11, 5, 7, then the block at the listed start."
pub data FillRefused (b : List ℕ) (h : Header) (r : Ranges) (m list : List ℕ) (n words : ℕ) : Refusal → Type 0 where
  fill-held : {j : Refusal} → HeldRefused h (length b) j → FillRefused b h r m list n words j
  fill-number : HeldRight h (length b) → block_count (shape_of h) ≤ n → FillRefused b h r m list n words (refuse 11)
  fill-room : HeldRight h (length b) → n < block_count (shape_of h) → NoFillRoom h m (length list) words → FillRefused b h r m list n words (refuse 5)
  fill-pairs : HeldRight h (length b) → n < block_count (shape_of h) → FillRoom h m (length list) words → SomePairWrong h.depth r → FillRefused b h r m list n words (refuse 7)
  fill-block : {j : Refusal} → HeldRight h (length b) → n < block_count (shape_of h) → FillRoom h m (length list) words → pairs_right h.depth r ≡ true
      → BlockAtRefused (take h.size b) h r.max m n (get_or list n 0) j → FillRefused b h r m list n words j

-- the same without a list and an image: nothing is written
pub data CheckRefused (b : List ℕ) (h : Header) (m maxima : List ℕ) (at : ℕ) : Refusal → Type 0 where
  check-held : {j : Refusal} → HeldRefused h (length b) j → CheckRefused b h m maxima at j
  check-room : HeldRight h (length b) → length m < mask_length (shape_of h) → CheckRefused b h m maxima at (refuse 5)
  check-blocks : {j : Refusal} → HeldRight h (length b) → mask_length (shape_of h) ≤ length m → ChainRefused (take h.size b) h maxima m (block_count (shape_of h)) 0 at j
      → CheckRefused b h m maxima at j

-- by the blob's own mask: no room is asked for
pub data OwnRefused (b : List ℕ) (h : Header) (maxima : List ℕ) (at : ℕ) : Refusal → Type 0 where
  own_held : {j : Refusal} → HeldRefused h (length b) j → OwnRefused b h maxima at j
  own-blocks : {j : Refusal} → HeldRight h (length b) → ChainRefused (take h.size b) h maxima (own_mask (take h.size b) h) (block_count (shape_of h)) 0 at j → OwnRefused b h maxima at j

pub data TilesRefused (b : List ℕ) (h : Header) (m maxima : List ℕ) (at entries words : ℕ) : Refusal → Type 0 where
  tiles-held : {j : Refusal} → HeldRefused h (length b) j → TilesRefused b h m maxima at entries words j
  tiles-room : HeldRight h (length b) → NoFillRoom h m entries words → TilesRefused b h m maxima at entries words (refuse 5)
  tiles-blocks : {j : Refusal} → HeldRight h (length b) → FillRoom h m entries words → ChainRefused (take h.size b) h maxima m (block_count (shape_of h)) 0 at j
      → TilesRefused b h m maxima at entries words j

-- ---- a Huffman image

-- behind a header by value: 3, 4, 1, then the image
pub data CheckImageRefused (b : List ℕ) (h : Header) (mode : ℕ) : Refusal → Type 0 where
  image-held : {j : Refusal} → HeldRefused h (length b) j → CheckImageRefused b h mode j
  image-wrong : {j : Refusal} → HeldRight h (length b) → HuffmanRefused (take h.size b) h mode j → CheckImageRefused b h mode j

-- ---- whole read

-- "Valid 0: the body is empty"; else ranges, then a constant, raw or block body, or a Huffman image
pub data BodyRefused (s : List ℕ) (h : Header) (m : List ℕ) : Refusal → Type 0 where
  body-ranges : {n : Refusal} → h.valid ≢ 0 → RangesRefused s h n → BodyRefused s h m n
  -- a minimum does not fit the kind
  body-constant : {n : Refusal} (r : Ranges) → h.valid ≢ 0 → ranges_says s h ≡ ok r → r.constant ≡ true → ConstantsRefused h.depth h.kind r.min n → BodyRefused s h m n
  body-sweep : {n : Refusal} (r : Ranges) → h.valid ≢ 0 → ranges_says s h ≡ ok r → r.constant ≡ false → SweepRefused s h.kind h.error r.at n → BodyRefused s h m n
  -- raw words that pass the size: "the missing raw word's first byte". Word k is the first that is not whole
  body-raw : (r : Ranges) (at k : ℕ) → h.valid ≢ 0 → ranges_says s h ≡ ok r → r.constant ≡ false → swept s h.kind h.error r.at ≡ ok (raw_from at)
      → k < h.valid * h.depth → at + k * type_size h.kind ≤ length s → length s < at + k * type_size h.kind + type_size h.kind
      → BodyRefused s h m (placed (at + k * type_size h.kind) (refuse 1))
  body-blocks : {n : Refusal} (r : Ranges) (at : ℕ) → h.valid ≢ 0 → ranges_says s h ≡ ok r → r.constant ≡ false → swept s h.kind h.error r.at ≡ ok (blocks_from at)
      → ChainRefused s h r.max m (block_count (shape_of h)) 0 at n → BodyRefused s h m n
  body-huffman : {n : Refusal} (r : Ranges) (delta : Bool) (mode : ℕ) → h.valid ≢ 0 → ranges_says s h ≡ ok r → r.constant ≡ false
      → swept s h.kind h.error r.at ≡ ok (huffman_from delta mode) → HuffmanRefused s h mode n → BodyRefused s h m n

-- the header's; "Room is judged right after the header's refusals": 5; the mask section: 6; the body's
pub data WholeRefused (b : List ℕ) (reuse : Bool) (l : Lent) : Refusal → Type 0 where
  whole-header : {n : Refusal} → HeaderRefused b n → WholeRefused b reuse l n
  whole_room : (h : Header) → header_says b ≡ ok h → TooShort h l → WholeRefused b reuse l (refuse 5)
  whole-mask : (h : Header) → header_says b ≡ ok h → room h l ≡ true → MaskWrong (take h.size b) h reuse l.kept → WholeRefused b reuse l (placed 66 (refuse 6))
  whole-body : {n : Refusal} (k : Masked) → masked b reuse l ≡ ok k → BodyRefused (take k.header.size b) k.header (bytes_of k.mask) n → WholeRefused b reuse l n

-- publishing: what the blob itself earns, then 3 for an answer, a spare or a list that staging did not give
pub data PublishRefused (b : List ℕ) (reuse : Bool) (given : Res Staged) (l : Lent) : Refusal → Type 0 where
  publish-blob : {n : Refusal} → WholeRefused b reuse l n → PublishRefused b reuse given l n
  publish-given : (m : Meaning) → read_says b reuse l ≡ ok m → was_staged m given l ≡ false → PublishRefused b reuse given l (refuse 3)
