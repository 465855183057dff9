-- The tiles of an image: which cell lies in which block, and at which place of its tile.
-- Assumes nothing.
use Rattle.std.specs.Prelude.{ℕ, ◌+◌, ◌-◌, ◌*◌, ◌/◌, ◌%◌, ◌<◌, min, Bool, cond, ◌&&◌, List, ltb}
use Rattle.lerc_words.specs.Lists.{count}
use Rattle.lerc_header.specs.declared.Shape.{Shape}
use Rattle.lerc_header.specs.Shape.{tiles_across, cells}
use Rattle.lerc_mask.specs.Mask.{pixel_valid}
use Rattle.lerc_image.specs.declared.Tile.{Tile}
use Rattle.lerc_image.specs.declared.Position.{Position}

-- ---- blocks by number: "A position (x, y, depth) steps depth first, then x, then y. That order numbers the blocks from 0."

-- the tile with a corner: "Tiles have the block side, cut at the right and lower edge."
abbrev pub tile_from : Shape → ℕ → ℕ → ℕ → Tile
tile_from h x y d = record { x = x; y = y; w = min h.side (h.columns - x); h = min h.side (h.rows - y); d = d }

unfoldable pub tile_of : Shape → ℕ → Tile
tile_of h n = tile_from h (n / h.depth % tiles_across h * h.side) (n / h.depth / tiles_across h * h.side) (n % h.depth)

-- the place k of a tile, "pixels row by row": its pixel
unfoldable pub pixel_of : Shape → Tile → ℕ → ℕ
pixel_of h t k = (t.y + k / t.w) * h.columns + (t.x + k % t.w)

abbrev pub tile_size : Tile → ℕ
tile_size t = t.h * t.w

-- the cell at place k of block n: "at place pixel × depth count + depth"
abbrev pub cell_of : Shape → ℕ → ℕ → ℕ
cell_of h n k = pixel_of h (tile_of h n) k * h.depth + (tile_of h n).d

-- ---- and back: the block that a cell lies in, and its place there

-- the block of a cell, by its pixel's row and column
unfoldable pub block_of : Shape → ℕ → ℕ
block_of h c =
    let x = c / h.depth % h.columns in
    let y = c / h.depth / h.columns in
    (y / h.side * tiles_across h + x / h.side) * h.depth + c % h.depth

-- the place within the tile, row by row
unfoldable pub place_in : Shape → ℕ → ℕ
place_in h c =
    let x = c / h.depth % h.columns in
    let y = c / h.depth / h.columns in
    y % h.side * (tile_of h (block_of h c)).w + x % h.side

-- how many of the tile's first k pixels are valid
unfoldable pub rank : Shape → List ℕ → Tile → ℕ → ℕ
rank h m t k = count k (λ i. pixel_valid m (pixel_of h t i))

abbrev pub valid_in_tile : Shape → List ℕ → Tile → ℕ
valid_in_tile h m t = rank h m t (tile_size t)

-- a cell of the image whose pixel is valid
unfoldable pub is_valid_cell : Shape → List ℕ → ℕ → Bool
is_valid_cell h m c = ltb c (cells h) && pixel_valid m (c / h.depth)

-- ---- positions by steps

-- the position of block n; after the last block y is the height
unfoldable pub position_of : Shape → ℕ → Position
position_of h n = record {
  x = n / h.depth % tiles_across h * h.side;
  y = min h.rows (n / h.depth / tiles_across h * h.side);
  d = n % h.depth;
}

-- a position that has a tile
pub record HasTile (h : Shape) (p : Position) : Type 0 where
  pub x : p.x < h.columns
  pub y : p.y < h.rows
  pub d : p.d < h.depth

-- the tile at a position
abbrev pub tile_here : Shape → Position → Tile
tile_here h p = tile_from h p.x p.y p.d

-- "steps depth first, then x, then y"
abbrev pub next_of : Shape → Position → Position
next_of h p =
    cond (ltb (p.d + 1) h.depth) (record { x = p.x; y = p.y; d = p.d + 1 })
    (cond (ltb (p.x + (tile_here h p).w) h.columns) (record { x = p.x + (tile_here h p).w; y = p.y; d = 0 })
    (record { x = 0; y = p.y + (tile_here h p).h; d = 0 }))
