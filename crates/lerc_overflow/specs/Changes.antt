-- What "finite plus infinity, either way round, is that infinity" changes: a step, a block and a blob over `sum`, and over `counted_sum`, in
-- which an infinity is counted as 2^1024.
-- Assumes nothing.
use Rattle.std.specs.Prelude.{ℕ, ◌+◌, ◌*◌, ◌/◌, ◌%◌, ◌^◌, ◌≤◌, ◌<◌, ◌≡◌, ◌≢◌, Bool, true, false, List, [], length, get_or, take, ltb, eqb}
use Rattle.lerc_words.specs.Res.{Res, ok, ◌>>=◌, require, word_at}
use Rattle.lerc_numeric.specs.Numeric.{negative, finite, infinite, mag, sum, counted_sum, scaled, less, lesser}
use Rattle.lerc_numeric.specs.Kinds.{value_of}
use Rattle.lerc_numeric.specs.Steps.{step_of}
use Rattle.lerc_samples.specs.Samples.{offset_kind}
use Rattle.lerc_bits.specs.Bits.{counts}
use Rattle.lerc_header.specs.declared.Header.{Header}
use Rattle.lerc_header.specs.Header.{shape_of, header_says}
use Rattle.lerc_validity.specs.Validity.{bytes_of}
use Rattle.lerc_ranges.specs.declared.Ranges.{Ranges}
use Rattle.lerc_ranges.specs.Ranges.{ranges_says}
use Rattle.lerc_block.specs.Block.{Block, finite_offset, block_says, next_block}
use Rattle.lerc_image.specs.Geometry.{tile_of, block_of}
use Rattle.lerc_image.specs.Paint.{index_of}
use Rattle.lerc_image.specs.Blocks.{chain}
use Rattle.lerc.specs.Meaning.{Body, empty, constant, raw, blocks, huffman, Meaning, starts_of, cell_word, meaning}
use Rattle.lerc_overflow.specs.By.{step_by, block_by, chain_by, meaning_by}

-- ---- over `sum` they are the reader's own definitions

pub record OverSum : Type 0 where
  pub step_sum : (error top offset q : ℕ) → step_by sum error top offset q ≡ step_of offset error top q
  pub block-sum : (s : List ℕ) (at kind error top x n : ℕ) → block_by sum s at kind error top x n ≡ block_says s at kind error top x n
  pub chain-sum : (s : List ℕ) (h : Header) (maxima m : List ℕ) (f n at : ℕ) → chain_by sum s h maxima m f n at ≡ chain s h maxima m f n at
  pub meaning-sum : (b : List ℕ) (reuse : Bool) (old : List ℕ) → meaning_by sum b reuse old ≡ meaning b reuse old

-- ---- one step: an offset and an error as blocks have them, and a finite maximum

pub record Stepping (error top offset : ℕ) : Type 0 where
  pub offset-finite : finite offset ≡ true
  pub error-right : negative error ≡ false
  pub top-finite : finite top ≡ true

-- how far out at least an offset is with which a cell can change: 3·2^970
abbrev pub far_offset : ℕ
far_offset = 3 * 2 ^ (970 + 1074)

pub record StepChanges : Type 0 where
  -- it changes only where the product is infinite, the offset being none
  pub step_same : (error top offset q : ℕ) → infinite offset ≡ false → infinite (scaled error q) ≡ false → step_of offset error top q ≡ step_by counted_sum error top offset q
  -- "Lerc2 gives infinity, and the clamp gives the maximum"
  pub step-most : (error top offset q : ℕ) → Stepping error top offset → infinite (scaled error q) ≡ true → step_of offset error top q ≡ top
  -- then it changes exactly where the offset and 2^1024 add to less than the maximum
  pub step-changed : (error top offset q : ℕ) → Stepping error top offset → infinite (scaled error q) ≡ true → less (counted_sum offset (scaled error q)) top ≡ true
      → step_of offset error top q ≢ step_by counted_sum error top offset q
  pub step_kept : (error top offset q : ℕ) → Stepping error top offset → infinite (scaled error q) ≡ true → less (counted_sum offset (scaled error q)) top ≡ false
      → step_of offset error top q ≡ step_by counted_sum error top offset q
  -- for which the offset is -3·2^970 or less
  pub step-offset : (error top offset q : ℕ) → Stepping error top offset → step_of offset error top q ≢ step_by counted_sum error top offset q → (negative offset ≡ true) × (far_offset ≤ mag offset)
  -- and so was read as a binary64: a finite number of another kind is nearer
  pub offset_near : (k w : ℕ) → k < 7 → finite (value_of k w) ≡ true → mag (value_of k w) < far_offset

-- ---- a block

-- the operands of the sum for the i-th count of the block at `at`, if it has counts
pub record Operands : Type 0 where
  pub offset : ℕ
  pub product : ℕ

unfoldable pub operands_at : List ℕ → ℕ → ℕ → ℕ → ℕ → Res Operands
operands_at s at kind error i = do
  flag ← word_at 1 s at
  _ ← require (eqb (flag % 4) 1) 8
  o ← finite_offset s (at + 1) kind flag
  c ← counts s o.next
  _ ← require (ltb i (length c.values)) 8
  ok (record { offset = o.value; product = scaled error (get_or c.values i 0) })

-- no operand of a sum of the block is infinite (an offset is finite)
abbrev pub Calm : List ℕ → ℕ → ℕ → ℕ → Type 0
Calm s at kind error = (i : ℕ) (p : Operands) → operands_at s at kind error i ≡ ok p → infinite p.product ≡ false

-- nor of any block that begins at one of these places
abbrev pub AllCalm : List ℕ → Header → List ℕ → Type 0
AllCalm s h starts = (i : ℕ) → i < length starts → Calm s (get_or starts i 0) h.kind h.error

-- its i-th product is infinite
pub record Overflows (s : List ℕ) (at kind error i : ℕ) : Type 0 where
  pub operands : Operands
  pub are : operands_at s at kind error i ≡ ok operands
  pub infinite-product : infinite operands.product ≡ true

pub record BlockChanges : Type 0 where
  -- accepted alike: the same refusal, or the same end
  pub block-next : (s : List ℕ) (at kind error top x n : ℕ) → next_block (block_by counted_sum s at kind error top x n) ≡ next_block (block_says s at kind error top x n)
  -- nothing changes for kinds 0 to 6
  pub block-kind : (s : List ℕ) (at kind error top x n : ℕ) → kind < 7 → block_by counted_sum s at kind error top x n ≡ block_says s at kind error top x n
  -- nor where no product is infinite
  pub block-calm : (s : List ℕ) (at kind error top x n : ℕ) → Calm s at kind error → block_by counted_sum s at kind error top x n ≡ block_says s at kind error top x n
  -- a word changes only where its own product is
  pub block-word : (s : List ℕ) (at kind error top x n : ℕ) (a b : Block) → block_by counted_sum s at kind error top x n ≡ ok a → block_says s at kind error top x n ≡ ok b
      → (i : ℕ) → get_or a.words i 0 ≢ get_or b.words i 0 → Overflows s at kind error i
  -- and of kind 7 wherever it is, if the offset and 2^1024 add to less than the maximum
  pub block-changed : (s : List ℕ) (at kind error top x n : ℕ) (a b : Block) → block_by counted_sum s at kind error top x n ≡ ok a → block_says s at kind error top x n ≡ ok b
      → 7 ≤ kind → negative error ≡ false → finite top ≡ true → (i : ℕ) (p : Operands) → operands_at s at kind error i ≡ ok p → infinite p.product ≡ true
      → less (counted_sum p.offset p.product) top ≡ true → get_or a.words i 0 ≢ get_or b.words i 0
  -- of which a word is its step, over either sum
  pub word-is : (add : ℕ → ℕ → ℕ) (s : List ℕ) (at kind error top x n : ℕ) (b : Block) → 7 ≤ kind → block_by add s at kind error top x n ≡ ok b
      → (i : ℕ) (p : Operands) → operands_at s at kind error i ≡ ok p → get_or b.words i 0 ≡ lesser (add p.offset p.product) top

-- ---- a blob

-- a body without the words of its blocks
abbrev pub body_outline : Body → Body
body_outline empty = empty
body_outline (constant words end) = constant words end
body_outline (raw words end) = raw words end
body_outline (blocks c) = blocks (record { starts = c.starts; words = []; end = c.end })
body_outline (huffman delta symbols end) = huffman delta symbols end

-- all that a meaning says apart from these words
abbrev pub outline : Meaning → Res Meaning
outline m = ok (record { header = m.header; mask = m.mask; body = body_outline m.body })

-- where the block of a cell begins
abbrev pub start_of_cell : Meaning → ℕ → ℕ
start_of_cell m c = get_or (starts_of m.body) (block_of (shape_of m.header) c) 0

-- the maximum of its depth
abbrev pub maximum_of : Header → Ranges → ℕ → ℕ
maximum_of h r c = get_or r.max (tile_of (shape_of h) (block_of (shape_of h) c)).d 0

-- a cell of kind 7 whose product is infinite; its offset was read as a binary64 and is far out, and with 2^1024 adds to less than the maximum, which is the cell's word now
pub record CellChanged (b : List ℕ) (m : Meaning) (c : ℕ) : Type 0 where
  pub kind : m.header.kind ≡ 7
  pub overflows : Overflows (take m.header.size b) (start_of_cell m c) m.header.kind m.header.error (index_of (shape_of m.header) (bytes_of m.mask) c)
  pub offset : (negative overflows.operands.offset ≡ true) × (far_offset ≤ mag overflows.operands.offset)
  pub as-binary64 : (flag : ℕ) → word_at 1 (take m.header.size b) (start_of_cell m c) ≡ ok flag → offset_kind 7 (flag / 64) ≡ ok 7
  pub ranges : Ranges
  pub ranges-are : ranges_says (take m.header.size b) m.header ≡ ok ranges
  pub below : less (counted_sum overflows.operands.offset overflows.operands.product) (maximum_of m.header ranges c) ≡ true
  pub is-maximum : cell_word m.header (bytes_of m.mask) m.body c ≡ maximum_of m.header ranges c

-- with such a product a cell of kind 7 is changed
abbrev pub ChangesThere : List ℕ → Meaning → Meaning → Type 0
ChangesThere b x y =
    let h = y.header in
    let m = bytes_of y.mask in
    let s = take h.size b in
    (c : ℕ) → block_of (shape_of h) c < length (starts_of y.body) → h.kind ≡ 7
    → (o : Overflows s (start_of_cell y c) h.kind h.error (index_of (shape_of h) m c))
    → (r : Ranges) → ranges_says s h ≡ ok r → less (counted_sum o.operands.offset o.operands.product) (maximum_of h r c) ≡ true
    → cell_word h m x.body c ≢ cell_word h m y.body c

pub record MeaningChanges : Type 0 where
  -- a blob is accepted exactly when it was, and refused by the same number at the same place; all but the words of its blocks is the same
  pub meaning-outline : (b : List ℕ) (reuse : Bool) (old : List ℕ) → (meaning_by counted_sum b reuse old >>= outline) ≡ (meaning b reuse old >>= outline)
  -- nothing changes for kinds 0 to 6
  pub meaning-kind : (b : List ℕ) (reuse : Bool) (old : List ℕ) (h : Header) → header_says b ≡ ok h → h.kind < 7 → meaning_by counted_sum b reuse old ≡ meaning b reuse old
  -- nor where no product is infinite
  pub meaning-calm : (b : List ℕ) (reuse : Bool) (old : List ℕ) (y : Meaning) → meaning b reuse old ≡ ok y → AllCalm (take y.header.size b) y.header (starts_of y.body) → meaning_by counted_sum b reuse old ≡ ok y
  -- "list which accepted blobs change": only those with such a cell
  pub meaning-cell : (b : List ℕ) (reuse : Bool) (old : List ℕ) (x y : Meaning) → meaning_by counted_sum b reuse old ≡ ok x → meaning b reuse old ≡ ok y
      → (c : ℕ) → let h = y.header in let m = bytes_of y.mask in cell_word h m x.body c ≢ cell_word h m y.body c → CellChanged b y c
  -- and all of those do
  pub meaning-changed : (b : List ℕ) (reuse : Bool) (old : List ℕ) (x y : Meaning) → meaning_by counted_sum b reuse old ≡ ok x → meaning b reuse old ≡ ok y → ChangesThere b x y

-- ---- all of it

pub record Changes : Type 0 where
  pub over-sum : OverSum
  pub step : StepChanges
  pub block : BlockChanges
  pub meaning : MeaningChanges
