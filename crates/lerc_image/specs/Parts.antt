-- What private functions promise; not part of the rules.
-- Assumes nothing.
use Rattle.std.specs.Prelude.{ℕ, zero, suc, ◌+◌, ◌-◌, ◌*◌, ◌/◌, ◌%◌, ◌^◌, ◌≤◌, ◌<◌, ◌≡◌, Bool, true, cond, ◌&&◌, List, length, get_or, set, ltb, leb, eqb}
use Rattle.std.specs.Int.Count.{ones}
use Rattle.lerc_words.specs.Res.{Res, ok, ◌>>=◌, after}
use Rattle.lerc_words.specs.Lists.{over, count}
use Rattle.lerc_header.specs.declared.Header.{Header}
use Rattle.lerc_header.specs.declared.Shape.{Shape}
use Rattle.lerc_header.specs.declared.Extent.{Extent}
use Rattle.lerc_header.specs.Header.{shape_of, extent_of}
use Rattle.lerc_header.specs.Shape.{Shaped, pixels, cells, block_count}
use Rattle.lerc_mask.specs.Mask.{valid_below}
use Rattle.lerc_block.specs.Block.{Block, tile_limit, next_block}
use Rattle.lerc_image.specs.declared.Tile.{Tile}
use Rattle.lerc_image.specs.declared.Cursor.{Cursor}
use Rattle.lerc_image.specs.Geometry.{tile_of, tile_size, pixel_of, valid_in_tile}
use Rattle.lerc_image.specs.Paint.{scattered}
use Rattle.lerc_image.specs.Blocks.{Chain}
use Rattle.lerc_image.specs.Walk.{Walk, walk_count}

-- ---- what they ask: a header that keeps the rules, and what follows from it

-- a tile that lies in the image, and has no more pixels than a block may have
pub record TileIn (h : Shape) (t : Tile) : Type 0 where
  pub shaped : Shaped h
  pub column : t.x + t.w ≤ h.columns
  pub row : t.y + t.h ≤ h.rows
  pub small : tile_size t ≤ tile_limit

-- all blocks
pub record BodyAsked (h : Header) (e : Extent) : Type 0 where
  pub shaped : Shaped e.shape
  pub sizes : e ≡ extent_of h

-- a tile whose valid pixels are asked for. `full` is said only where every pixel is valid; `before`, the number for the block before, is looked at above depth 0
pub record CountAsked (h : Shape) (t : Tile) (m : List ℕ) (full : Bool) (before : ℕ) : Type 0 where
  pub tile : TileIn h t
  pub all : full ≡ true → valid_below (pixels h) m ≡ pixels h
  pub same : 0 < t.d → before ≡ valid_in_tile h m t

-- block n of a header, whose tile is t
pub record BlockTile (h : Header) (shape : Shape) (n : ℕ) (t : Tile) : Type 0 where
  pub shaped : Shaped shape
  pub same : shape ≡ shape_of h
  pub below : n < block_count shape
  pub tile : t ≡ tile_of shape n

-- block n, whose tile is t, and room for its cells
pub record Asked (h : Shape) (t : Tile) (n : ℕ) (image : List ℕ) : Type 0 where
  pub shaped : Shaped h
  pub below : n < block_count h
  pub tile : t ≡ tile_of h n
  pub room : cells h ≤ length image

-- a row of the image: w cells, `depth` apart from `start` on, and w words for them from `from` on
pub record RowIn (from w depth start : ℕ) (image : List ℕ) : Type 0 where
  pub words : from + w ≤ tile_limit
  pub fits : start + w * depth < 2 ^ 32
  pub room : (c : ℕ) → c < w → start + c * depth < length image

-- block n at its listed start
pub record FillAsked (h : Header) (e : Extent) (n : ℕ) (b list image : List ℕ) : Type 0 where
  pub body : BodyAsked h e
  pub size : e.size ≤ length b
  pub below : n < e.blocks
  pub listed : e.blocks ≤ length list
  pub room : e.cells ≤ length image

-- ---- what they give

-- a mask, a list and an image of such lengths are long enough
abbrev pub has_room : Extent → ℕ → ℕ → ℕ → Bool
has_room e mask list image = leb e.mask mask && leb e.blocks list && leb e.cells image

-- the set bits of byte i of some, each `step` behind the one before
abbrev pub ones_apart : List ℕ → ℕ → ℕ → ℕ → ℕ
ones_apart m at step i = ones (get_or m (at + i * step) 0)

-- eight rows of eight pixels, each a byte of the mask
unfoldable pub is_square : Shape → Tile → Bool
is_square h t = eqb t.w 8 && eqb t.h 8 && eqb (t.x % 8) 0 && eqb (h.columns % 8) 0

-- every pixel is valid, by the header and by the mask
unfoldable pub all_valid : ℕ → ℕ → List ℕ → Bool
all_valid valid all m = eqb valid all && eqb (valid_below all m) all

-- the place k of a tile: its pixel, and its column there
unfoldable pub cursor_of : Shape → Tile → ℕ → Cursor
cursor_of h t k = record { pixel = pixel_of h t k; column = k % t.w }

-- the next place of a tile w wide, in an image of so many columns
abbrev pub cursor_next : ℕ → ℕ → Cursor → Cursor
cursor_next w columns p =
    cond (ltb (p.column + 1) w) (record { pixel = p.pixel + 1; column = p.column + 1 })
    (record { pixel = p.pixel + 1 + (columns - w); column = 0 })

-- the words from `from` on, one by one, to those of a row's first w cells that have the property
unfoldable pub rowed : (ℕ → Bool) → List ℕ → ℕ → ℕ → ℕ → ℕ → List ℕ → List ℕ
rowed valid words from depth start zero image = image
rowed valid words from depth start (suc c) image =
    let before = rowed valid words from depth start c image in
    cond (valid c) (set before (start + c * depth) (get_or words (from + count c valid) 0)) before

abbrev pub every_one : ℕ → Bool
every_one c = true

-- bit c of a byte, the highest first
abbrev pub bit_set : ℕ → ℕ → Bool
bit_set byte c = eqb (byte / 2 ^ (7 - c) % 2) 1

-- the words of block n, whose tile is t, where a mask has all of its pixels
abbrev pub FullScattered : Shape → Tile → ℕ → List ℕ → List ℕ → List ℕ → Type 0
FullScattered h t n words old new = (m : List ℕ) → valid_in_tile h m t ≡ tile_size t → new ≡ scattered h m n words old

-- the words of block n at its valid cells
pub record BlockScattered (h : Shape) (n : ℕ) (m words start : List ℕ) (r : ℕ) (now : List ℕ) : Type 0 where
  pub says : r ≡ valid_in_tile h m (tile_of h n)
  pub image : now ≡ scattered h m n words start

-- what a block does to the image: its words at the valid cells of its tile, or nothing where it is refused; told by where the next begins
pub record BlockPut (h : Shape) (m : List ℕ) (n : ℕ) (b : Res Block) (r : Res ℕ) (old new : List ℕ) : Type 0 where
  pub says : r ≡ next_block b
  pub image : new ≡ after b old (λ k. scattered h m n k.words old)

-- the same, told by how many words were put
pub record BlockFilled (h : Shape) (m : List ℕ) (n : ℕ) (b : Res Block) (r : Res ℕ) (old new : List ℕ) : Type 0 where
  pub says : r ≡ (b >>= λ k. ok (valid_in_tile h m (tile_of h n)))
  pub image : new ≡ after b old (λ k. scattered h m n k.words old)

-- what a chain, accepted or not, does to the list
pub record BodyListed (h : Header) (m : Res Chain) (r : Res Walk) (old new : List ℕ) : Type 0 where
  pub says : r ≡ (m >>= walk_count h)
  pub list : new ≡ after m old (λ c. over c.starts old)
