-- Demand 2: a whole read accepts exactly the blobs that have a meaning, and leaves exactly that meaning.
-- Assumes nothing.
use Rattle.std.specs.Prelude.{ℕ, ◌+◌, ◌≤◌, ◌<◌, ◌≡◌, ◌↔◌, Bool, true, false, List, [], length, get_or, take}
use Rattle.lerc_words.specs.declared.Refusal.{Refusal}
use Rattle.lerc_words.specs.Res.{ok, fail, refuse, accepts, Res}
use Rattle.lerc_words.specs.Lists.{over, tabulate}
use Rattle.lerc_numeric.specs.Numeric.{same}
use Rattle.lerc_samples.specs.Samples.{stored}
use Rattle.lerc_header.specs.declared.Header.{Header}
use Rattle.lerc_header.specs.Shape.{pixels, cells, mask_length, block_count}
use Rattle.lerc_header.specs.Header.{shape_of, header_bytes, header_of, checksum_right, header_says}
use Rattle.lerc_mask.specs.Mask.{valid_below}
use Rattle.lerc_ranges.specs.declared.Ranges.{Ranges}
use Rattle.lerc_validity.specs.Validity.{MaskInForce, bytes_of, mask_says, spare_with, MaskTold}
use Rattle.lerc_image.specs.Geometry.{tile_size, tile_of, tile_here, cell_of, block_of, place_in, rank, is_valid_cell, position_of, next_of}
use Rattle.lerc_image.specs.Blocks.{Chain}
use Rattle.lerc.specs.Meaning.{Meaning, blocks, end_of, starts_of, cell_word, meaning}
use Rattle.lerc.specs.Read.{Lent, room, ReadTold}
use Rattle.lerc.proofs.read.Reads as read
use Rattle.lerc_theorems.specs.Promises.{lent}
use Rattle.lerc_theorems.specs.Calls.{HeaderCall, PrepareCall, HandedCall, RangesCall, ReadRanges, WalkCall, FillCalls, ReadCall}
use Rattle.lerc_theorems.specs.Unread.{SameWithin, Unread}
use Rattle.lerc_image.specs.Walk.{Walk}

-- the slices have the room that an accepted header asks for
abbrev pub Roomy : List ℕ → Lent → Type 0
Roomy b l = (h : Header) → header_says b ≡ ok h → room h l ≡ true

-- what a whole read of a blob with meaning m answers and leaves
pub record Exact (m : Meaning) (r : Res ReadTold) (old new : Lent) : Type 0 where
  -- the header, the count of blocks, and the end
  pub answer : r ≡ ok (record { header = m.header; blocks = length (starts_of m.body); end = end_of m.body })
  -- the mask in the kept mask's first bytes; what was made for it stands in the spare
  pub kept : new.kept ≡ over (bytes_of m.mask) old.kept
  pub spare : new.spare ≡ spare_with m.mask old.spare
  -- the starts of the blocks in the list's first entries
  pub list : new.list ≡ over (starts_of m.body) old.list
  -- each valid cell has the meaning's word; each other cell, also past the image's cells, is as it was
  pub long : length new.image ≡ length old.image
  pub valid : (c : ℕ) → is_valid_cell (shape_of m.header) (bytes_of m.mask) c ≡ true → get_or new.image c 0 ≡ cell_word m.header (bytes_of m.mask) m.body c
  pub other : (c : ℕ) → is_valid_cell (shape_of m.header) (bytes_of m.mask) c ≡ false → get_or new.image c 0 ≡ get_or old.image c 0
  pub past : (c : ℕ) → cells (shape_of m.header) ≤ c → get_or new.image c 0 ≡ get_or old.image c 0

-- Any calls of the operations one after the other, on the blob and the slices that a whole read was lent: each is accepted, the mask is the one in force, and in the end
-- spare, list and image are as the whole read left them. `new` is what it left.
pub record WalkAndFills (b : List ℕ) (reuse : Bool) (old new : Lent) (h : Header) (f : MaskInForce) (c : Chain) : Type 0 where
  pub header : (said : Res Header) → HeaderCall b said → said ≡ ok h
  pub mask : (said : Res MaskTold) (spare m : List ℕ) → PrepareCall b h reuse old.kept said old.spare spare → HandedCall old.kept spare said m → (m ≡ bytes_of f) × (spare ≡ new.spare)
  pub ranges : (said : Res Ranges) → RangesCall b h said → accepts said ≡ true
  pub walk : (r : Ranges) → ReadRanges b h r → (said : Res Walk) (list : List ℕ) → WalkCall b h r (bytes_of f) said old.list list
      → (said ≡ ok (record { blocks = (block_count (shape_of h)); end = c.end })) × (list ≡ new.list)
  pub fills : (r : Ranges) → ReadRanges b h r → (answers : List (Res ℕ)) (image : List ℕ)
      → FillCalls b h r (bytes_of f) new.list (tabulate (block_count (shape_of h)) (λ n. n)) answers old.image image → image ≡ new.image

-- what accepted calls of read header, prepare mask, mask in force, read ranges and walk tell: a meaning in blocks. m is the mask handed back, n and end the walk's answer.
pub record WalkMeans (b : List ℕ) (reuse : Bool) (kept : List ℕ) (h : Header) (m : List ℕ) (n end : ℕ) (old new : List ℕ) : Type 0 where
  pub mask : MaskInForce
  pub chain : Chain
  pub means : meaning b reuse kept ≡ ok (record { header = h; mask = mask; body = blocks chain })
  pub kept-long : mask_length (shape_of h) ≤ length kept
  pub handed : m ≡ bytes_of mask
  pub count : n ≡ block_count (shape_of h)
  pub ends : end ≡ chain.end
  pub list : new ≡ over chain.starts old

-- a constant body whose one value does not fit its kind: the header's minimum and maximum are the same, and cannot be stored
pub record Unstored (b : List ℕ) (reuse : Bool) (kept : List ℕ) : Type 0 where
  pub header : Header
  pub mask : MaskInForce
  pub read : header_says b ≡ ok header
  pub masked : mask_says (take header.size b) header reuse kept ≡ ok mask
  pub some : 0 < header.valid
  pub constant : same header.min header.max ≡ true
  pub unstored : stored header.kind header.min ≡ fail (refuse 9)

pub record DemandTwo : Type 0 where
  -- given room, a whole read accepts exactly where the blob has a meaning
  pub accepted-iff : (k : _) (a : _) (r : Res ReadTold) (x : _) → read.Post k a r x → Roomy a.0.now (lent a)
      → accepts r ≡ accepts (meaning a.0.now a.1.0 (lent a).kept)
  -- and it is refused with the number that the meaning is refused with, at its place
  pub refused_as : (k : _) (a : _) (r : Res ReadTold) (x : _) → read.Post k a r x → Roomy a.0.now (lent a)
      → (why : Refusal) → (r ≡ fail why) ↔ (meaning a.0.now a.1.0 (lent a).kept ≡ fail why)
  -- mask, end and every valid cell are that meaning; all other cells keep their words
  pub cells-exact : (k : _) (a : _) (r : Res ReadTold) (x : _) → read.Post k a r x → Roomy a.0.now (lent a)
      → (m : Meaning) → meaning a.0.now a.1.0 (lent a).kept ≡ ok m → Exact m r (lent a) (lent x)
  -- the mask has its length, and as many valid pixels as the header says
  pub mask-right : (b : List ℕ) (reuse : Bool) (kept : List ℕ) (m : Meaning) → meaning b reuse kept ≡ ok m → mask_length (shape_of m.header) ≤ length kept
      → (length (bytes_of m.mask) ≡ mask_length (shape_of m.header)) × (valid_below (pixels (shape_of m.header)) (bytes_of m.mask) ≡ m.header.valid)
  -- the meaning, or its refusal, depends on the bytes below the declared size alone
  pub below-size : (b c : List ℕ) (reuse : Bool) (kept : List ℕ) (n : ℕ) → header_bytes ≤ n → (header_of b).size ≤ n → take n b ≡ take n c
      → meaning b reuse kept ≡ meaning c reuse kept
  -- and so do the outcomes of each operation; what a part of the blob says depends on its own bytes alone
  pub unread : Unread
  -- with reuse it depends on the kept mask's first bytes alone, as many as the mask has
  pub kept-front : (b : List ℕ) (reuse : Bool) (kept other : List ℕ) (h : Header) → header_says b ≡ ok h → take (mask_length (shape_of h)) kept ≡ take (mask_length (shape_of h)) other
      → meaning b reuse kept ≡ meaning b reuse other
  -- and without reuse not at all
  pub kept-unread : (b kept other : List ℕ) → meaning b false kept ≡ meaning b false other
  -- of the bytes between the body's end and the size the checksum alone is looked at: a slice that is long enough, agrees below the end but for the checksum, and has a right one, has the same meaning
  pub behind-end : (b c : List ℕ) (reuse : Bool) (kept : List ℕ) (m : Meaning) → meaning b reuse kept ≡ ok m → SameWithin 0 10 b c → SameWithin 14 (end_of m.body) b c → m.header.size ≤ length c
      → checksum_right c m.header.size ≡ true → meaning c reuse kept ≡ ok m
  -- the end lies behind the header and within the declared size, which lies within the blob
  pub end-bounds : (b : List ℕ) (reuse : Bool) (kept : List ℕ) (m : Meaning) → meaning b reuse kept ≡ ok m
      → (header_bytes ≤ end_of m.body) × (end_of m.body ≤ m.header.size) × (m.header.size ≤ length b)
  -- a body in blocks has a start for each block; starts rise strictly, and lie below the end
  pub starts-rise : (b : List ℕ) (reuse : Bool) (kept : List ℕ) (h : Header) (f : MaskInForce) (c : Chain)
      → meaning b reuse kept ≡ ok (record { header = h; mask = f; body = blocks c })
      → (length c.starts ≡ block_count (shape_of h)) × ((i j : ℕ) → i < j → j < length c.starts → get_or c.starts i 0 < get_or c.starts j 0)
      × ((i : ℕ) → i < length c.starts → get_or c.starts i 0 < c.end)
  -- "A position (x, y, depth) steps depth first, then x, then y. That order numbers the blocks from 0.": block 0 stands at the corner, each block one step behind the one
  -- before it, and its tile is the one at its position
  pub order : (b : List ℕ) (h : Header) → header_says b ≡ ok h → let s = shape_of h in
      (position_of s 0 ≡ record { x = 0; y = 0; d = 0 })
      × ((n : ℕ) → n < block_count s → (position_of s (n + 1) ≡ next_of s (position_of s n)) × (tile_of s n ≡ tile_here s (position_of s n)))
  -- "at place pixel × depth count + depth, pixels row by row": each place of a tile has its cell, and each cell its block and its place there; the cell's word is the
  -- block's, by the valid pixels in front of it
  pub places : (b : List ℕ) (h : Header) → header_says b ≡ ok h → let s = shape_of h in
      ((n k : ℕ) → n < block_count s → k < tile_size (tile_of s n) → (cell_of s n k < cells s) × (block_of s (cell_of s n k) ≡ n) × (place_in s (cell_of s n k) ≡ k)
      × ((m : List ℕ) (c : Chain) → cell_word h m (blocks c) (cell_of s n k) ≡ get_or (get_or c.words n []) (rank s m (tile_of s n) k) 0))
      × ((c : ℕ) → c < cells s → (block_of s c < block_count s) × (place_in s c < tile_size (tile_of s (block_of s c))) × (cell_of s (block_of s c) (place_in s c) ≡ c))
  -- a whole read of a body in blocks is a walk, and then the fill of each number
  pub read-is-walk-and-fills : (b : List ℕ) (reuse : Bool) (r : Res ReadTold) (old new : Lent) (h : Header) (f : MaskInForce) (c : Chain) → ReadCall b reuse r old new → Roomy b old
      → meaning b reuse old.kept ≡ ok (record { header = h; mask = f; body = blocks c }) → WalkAndFills b reuse old new h f c
  -- and a blob that is prepared, whose ranges are read and that is walked has the meaning that the walk found; the walk may be lent a longer mask
  pub walk-is-read : (b : List ℕ) (reuse : Bool) (kept : List ℕ) (h : Header) (said : Res MaskTold) (spare prepared m q : List ℕ) (r : Ranges) (n end : ℕ) (old new : List ℕ)
      → HeaderCall b (ok h) → PrepareCall b h reuse kept said spare prepared → HandedCall kept prepared said m → ReadRanges b h r
      → take (mask_length (shape_of h)) q ≡ m → WalkCall b h r q (ok (record { blocks = n; end = end })) old new → WalkMeans b reuse kept h m n end old new
  -- in a whole read 9 comes from a constant body alone: a block's values are clamped to a maximum that was read in the blob's own kind, and so always fit, and a Huffman image has bytes alone
  pub nine-only-constant : (b : List ℕ) (reuse : Bool) (kept : List ℕ) (why : Refusal) → meaning b reuse kept ≡ fail why → why.number ≡ 9 → Unstored b reuse kept
  -- and such a body is refused 9, at place 0
  pub nine-constant : (b : List ℕ) (reuse : Bool) (kept : List ℕ) → Unstored b reuse kept → meaning b reuse kept ≡ fail (refuse 9)
