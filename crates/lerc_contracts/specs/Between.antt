-- Ours under upstream's names, as the laws of docs/CONTRACTS.md compare them: a plan, counts, a mask, ranges, a rounding, a block,
-- a chain of blocks, a body, a Huffman image.
-- Assumes nothing.
use Rattle.std.specs.Prelude.{ℕ, ◌+◌, ◌-◌, ◌*◌, ◌/◌, ◌%◌, ◌^◌, ◌≤◌, ◌<◌, ◌≡◌, Bool, true, false, cond, ◌&&◌, List, [], ◌⊎◌, length, get_or, take, leb}
use Rattle.std.proofs.Math.Option.{Option, none, some}
use Rattle.lerc_words.specs.Res.{Res, ok, ◌>>=◌}
use Rattle.lerc_words.specs.Lists.{count}
use Rattle.lerc_numeric.specs.Numeric.{signed, code}
use Rattle.lerc_numeric.specs.Kinds.{type_size}
use Rattle.lerc_header.specs.declared.Header.{Header}
use Rattle.lerc_header.specs.declared.Extent.{Extent}
use Rattle.lerc_header.specs.Header.{shape_of}
use Rattle.lerc_header.specs.Shape.{pixels}
use Rattle.lerc_mask.specs.Mask.{pixel_valid}
use Rattle.lerc_bits.specs.declared.Plan as our
use Rattle.lerc_bits.specs.Bits.{Counts, counts_by}
use Rattle.lerc_ranges.specs.declared.Ranges.{Ranges}
use Rattle.lerc_block.specs.Block.{Block}
use Rattle.lerc_block.specs.declared.plan.Form.{Form}
use Rattle.lerc_block.specs.declared.plan.Form.TheVariants as coded
use Rattle.lerc_block.specs.declared.plan.BlockPlan.{BlockPlan}
use Rattle.lerc_image.specs.Geometry.{tile_of, valid_in_tile, block_of, is_valid_cell}
use Rattle.lerc_image.specs.Blocks.{Chain}
use Rattle.lerc_image.specs.Tiles.{tiles_image}
use Rattle.lerc_image.specs.Paint.{painted, word_of, scattered}
use Rattle.lerc_byte_image.specs.Symbols.{Coded}
use Rattle.lerc_byte_image.specs.Prediction.{delta_place, plain_place, byte_word}
use Rattle.lerc.specs.Meaning.{Body, end_of, cell_word}
use Rattle.lerc_contracts.specs.Bits.{Plan, Items}
use Rattle.lerc_contracts.specs.Planes.{RangeModel}
use Rattle.lerc_contracts.specs.Block.{Mode, value, ResultModel, finished, block}
use Rattle.lerc_contracts.specs.Image.{tiles, linear}
use Rattle.lerc_contracts.specs.ByteImage.{decoded}

-- ---- lerc_numeric.rs

-- the sign, and v times 2 ^ e of `pack`, rounded once: ours, for every power
abbrev pub rounds : Bool → ℕ → ℕ → ℕ
rounds s v e = signed s (code 53 (2047 * 2 ^ 52) (v * 2 ^ (e - 3022)) (2 ^ (3022 - e)))

-- ---- lerc_bits.rs

-- a plan under upstream's names
abbrev pub theirs : our.Plan → Plan
theirs p = record { n = p.n; bits = p.bits; entries = p.entries; lut = p.table; at = p.at; next = p.next; width = p.width }

-- what upstream gives of the counts
abbrev pub items : Counts → Items
items c = record { end = c.next; values = c.values }

-- ---- lerc_planes.rs

-- a header whose mask has no section where all pixels are alike: else upstream passes over the section, and ours is 6
abbrev pub Sectioned : Header → Type 0
Sectioned h = ((h.valid ≡ 0) → h.mask ≡ 0) × ((h.valid ≡ pixels (shape_of h)) → h.mask ≡ 0)

-- a record under upstream's name, as its `model`
abbrev pub model : Ranges → RangeModel
model r = record { at = r.at; constant = r.constant; min = r.min; max = r.max }

-- ---- lerc_block.rs

-- a plan whose counts, if it has any, are accepted
abbrev pub counted_form : List ℕ → BlockPlan → Form → Res BlockPlan
counted_form s p (coded.Raw place) = ok p
counted_form s p coded.Zero = ok p
counted_form s p (coded.Level o) = ok p
counted_form s p (coded.Stepped steps) = counts_by s steps.counts >>= λ c. ok p

abbrev pub counted_plan : List ℕ → BlockPlan → Res BlockPlan
counted_plan s p = counted_form s p p.form

-- the valid pixels of tile n
abbrev pub valid_of : Header → List ℕ → ℕ → ℕ
valid_of h mask n = valid_in_tile (shape_of h) mask (tile_of (shape_of h) n)

-- steps of `finish`: the i-th word begins at `pos i`, with the count `idx i`
module _ (s : List ℕ) (h : Header) (m : Mode) (q : List ℕ) (maximum : ℕ) (pos idx : ℕ → ℕ) where
  -- a step to the i-th word, which goes on behind it
  abbrev pub Goes : ℕ → ℕ → Type 0
  Goes i w = value s h m q (pos i) (idx i) maximum ≡ some (record { value = w; at = pos (i + 1); q = idx (i + 1) })

  -- a step that goes on behind it, or none
  abbrev pub Stepping : ℕ → Type 0
  Stepping i = (value s h m q (pos i) (idx i) maximum ≡ none) ⊎ ((w : ℕ) × Goes i w)

  -- of all steps one to come, from the i-th on, is none; or the end is
  abbrev pub Stuck : ℕ → ℕ → Type 0
  Stuck all i = ((j : ℕ) × (i ≤ j) × (j < all) × (value s h m q (pos j) (idx j) maximum ≡ none)) ⊎ ((o : List ℕ) → finished m q (pos all) (idx all) o ≡ none)

-- upstream's cells of block n, from its listed start, in the blob cut at its size
abbrev pub their_fill : List ℕ → Header → Ranges → List ℕ → List ℕ → ℕ → List ℕ → Option ResultModel
their_fill b h ranges mask list n image =
    block (take h.size b) h (tile_of (shape_of h) n) mask (get_or ranges.max (tile_of (shape_of h) n).d 0) (get_or list n 0) image

-- room in a mask, a list and an image
abbrev pub room_for : Extent → List ℕ → List ℕ → List ℕ → Bool
room_for e mask list image = leb e.mask (length mask) && leb e.blocks (length list) && leb e.cells (length image)

-- a block of ours as upstream's result
abbrev pub result : Header → List ℕ → ℕ → List ℕ → Block → ResultModel
result h mask n image b = record { at = b.next; image = scattered (shape_of h) mask n b.words image }

-- ---- lerc_image.rs

-- the blocks from n on painted, the words of block n first
abbrev pub from : Header → List ℕ → ℕ → List (List ℕ) → List ℕ → List ℕ
from h mask n words image =
    painted image (λ i. is_valid_cell (shape_of h) mask i && leb n (block_of (shape_of h) i)) (word_of (shape_of h) mask (λ b. get_or words (b - n) []))

-- a chain of ours as upstream's result
abbrev pub painting : Header → List ℕ → ℕ → List ℕ → Chain → ResultModel
painting h mask n image c = record { at = c.end; image = from h mask n c.words image }

-- all of it
abbrev pub tiled_image : Header → List ℕ → List ℕ → Chain → ResultModel
tiled_image h mask image c = record { at = c.end; image = tiles_image h mask image c }

-- where the words of the first k cells end, that of the first valid one being at `at`
abbrev pub used_to : Header → List ℕ → ℕ → ℕ → ℕ
used_to h mask at k = at + count k (λ c. pixel_valid mask (c / h.depth)) * type_size h.kind

-- upstream's walk over the blob cut at its size, from the first position
abbrev pub their_tiles : List ℕ → Header → List ℕ → List ℕ → ℕ → List ℕ → Option ResultModel
their_tiles b h mask maxima at image = tiles (take h.size b) h mask maxima (record { x = 0; y = 0; d = 0 }) at image (h.columns * h.rows * h.depth)

-- its raw body, and its constant body of words that `convert` gave
abbrev pub their_raw : List ℕ → Header → List ℕ → List ℕ → ℕ → List ℕ → Option ResultModel
their_raw s h mask constants at image = linear s h mask constants true 0 at image (h.columns * h.rows * h.depth)

abbrev pub their_constant : List ℕ → Header → List ℕ → List ℕ → ℕ → List ℕ → Option ResultModel
their_constant s h mask constants at image = linear s h mask constants false 0 at image (h.columns * h.rows * h.depth)

-- a body of ours as upstream's result
abbrev pub bodied : Header → List ℕ → List ℕ → Body → ResultModel
bodied h mask image b = record { at = end_of b; image = painted image (is_valid_cell (shape_of h) mask) (cell_word h mask b) }

-- ---- lerc_byte_image.rs

-- how many cells come before a cell: with prediction depth by depth, without it pixel by pixel
unfoldable pub order_of : Header → Bool → ℕ → ℕ
order_of h delta c = cond delta (c % h.depth * pixels (shape_of h) + c / h.depth) c

-- which symbol is ours of a cell
unfoldable pub place_of : Header → Bool → List ℕ → ℕ → ℕ
place_of h delta mask c = cond delta (delta_place (shape_of h) mask (c % h.depth) (c / h.depth)) (plain_place (shape_of h) mask (c % h.depth) (c / h.depth))

-- an image of ours as upstream's result
abbrev pub imaged : Header → List ℕ → Bool → List ℕ → Coded → ResultModel
imaged h mask delta image c =
    record { at = c.end; image = painted image (is_valid_cell (shape_of h) mask) (byte_word (shape_of h) h.kind delta mask (λ i. get_or c.symbols i 0)) }

-- room in a mask and an image
abbrev pub image_room : Extent → List ℕ → List ℕ → Bool
image_room e mask image = leb e.mask (length mask) && leb e.cells (length image)

-- upstream's image behind a mode byte, in the blob cut at its size
abbrev pub their_bytes : List ℕ → Header → List ℕ → ℕ → Bool → List ℕ → Option ResultModel
their_bytes b h mask mode delta image = decoded (take h.size b) h mask (mode + 1) delta image
