-- Blocks and places against cells: each cell lies in exactly one block, at exactly one place of its tile.
-- Assumes nothing.
use mathlib.Core.Path.{◌≡◌}
use Prim.Native.Nat.{ℕ, ◌+◌, ◌*◌, ◌/◌, ◌%◌, ◌<◌}
use native.Mathlib.Nat.{div-lt_iff_lt-mul, div-add-mod', mod-lt}
use native.Mathlib.Omega.{arith}
use lib.Arith.{digits_div, digits_mod, digits_lt}
use Rattle.lerc_header.specs.declared.Shape.{Shape}
use Rattle.lerc_header.specs.Shape.{tiles_across, tiles_down, pixels, cells, block_count, Shaped}
use Rattle.lerc_image.specs.Geometry.{tile_from, tile_of, pixel_of, tile_size, cell_of, block_of, place_in}
use Rattle.lerc_image.proofs.Strips.{point-strip, point-rest, strip-point, strip-div, strip-mod, strip-wide, low_digit, mid-digit, top_digit, digits-below, digits_of, top_lt}

module _ (h : Shape) (s : Shaped h) where
  pub across-pos : 0 < tiles_across h
  across-pos = let e : 0 / h.side < tiles_across h = point-strip h.side h.columns 0 s.side.0 s.columns.0 in omega arith

-- from a cell
module _ (h : Shape) (s : Shaped h) (c : ℕ) (l : c < cells h) where
  column-lt : c / h.depth % h.columns < h.columns
  column-lt = mod-lt (c / h.depth) s.columns.0

  row_lt : c / h.depth / h.columns < h.rows
  row_lt = top_lt h.columns h.rows h.depth c s.columns.0 s.depth.0 l

  depth-lt : c % h.depth < h.depth
  depth-lt = mod-lt c s.depth.0

  strip-x : c / h.depth % h.columns / h.side < tiles_across h
  strip-x = point-strip h.side h.columns _ s.side.0 column-lt

  pub block-lt : block_of h c < block_count h
  unfolding block_of
  block-lt =
      digits-below (tiles_across h) h.depth _ _ _ strip-x depth-lt (tiles_down h)
      (point-strip h.side h.rows _ s.side.0 row_lt)

  pub block-tile : tile_of h (block_of h c)
      ≡ tile_from h (c / h.depth % h.columns / h.side * h.side) (c / h.depth / h.columns / h.side * h.side) (c % h.depth)
  unfolding tile_of block_of
  block-tile =
      rw (
        mid-digit (tiles_across h) h.depth _ (c / h.depth / h.columns / h.side) _ strip-x depth-lt,
        top_digit (tiles_across h) h.depth _ (c / h.depth / h.columns / h.side) _ strip-x depth-lt,
        low_digit (tiles_across h) h.depth _ (c / h.depth / h.columns / h.side) _ strip-x depth-lt,
      )

  pub place-lt : place_in h c < tile_size (tile_of h (block_of h c))
  unfolding place_in
  place-lt =
      rw (block-tile)
      (digits_lt (point-rest h.side h.rows _ s.side.0 row_lt) (point-rest h.side h.columns _ s.side.0 column-lt))

  pub cell-back : cell_of h (block_of h c) (place_in h c) ≡ c
  unfolding place_in pixel_of
  cell-back =
      let i = point-rest h.side h.columns _ s.side.0 column-lt in
      rw (
        block-tile,
        digits_div (c / h.depth / h.columns % h.side) i,
        digits_mod (c / h.depth / h.columns % h.side) i,
        div-add-mod' (c / h.depth / h.columns) h.side,
        div-add-mod' (c / h.depth % h.columns) h.side,
      )
      (digits_of h.columns h.depth c)

-- of a block
module _ (h : Shape) (s : Shaped h) (n : ℕ) (l : n < block_count h) where
  a_lt : n / h.depth % tiles_across h < tiles_across h
  a_lt = mod-lt (n / h.depth) (across-pos h s)

  b_lt : n / h.depth / tiles_across h < tiles_down h
  b_lt = top_lt (tiles_across h) (tiles_down h) h.depth n (across-pos h s) s.depth.0 l

  pub tile-wide : 0 < (tile_of h n).w
  unfolding tile_of
  tile-wide = strip-wide h.side h.columns _ s.side.0 a_lt

  pub tile_high : 0 < (tile_of h n).h
  unfolding tile_of
  tile_high = strip-wide h.side h.rows _ s.side.0 b_lt

  pub tile-depth : (tile_of h n).d < h.depth
  unfolding tile_of
  tile-depth = mod-lt n s.depth.0

  -- a row and a column of the tile lie in the image
  pub tile-column : (i : ℕ) → i < (tile_of h n).w → (tile_of h n).x + i < h.columns
  unfolding tile_of
  tile-column i u = strip-point h.side h.columns _ i s.side.0 a_lt u

  pub tile-row : (j : ℕ) → j < (tile_of h n).h → (tile_of h n).y + j < h.rows
  unfolding tile_of
  tile-row j v = strip-point h.side h.rows _ j s.side.0 b_lt v

-- from a block and a place of its tile
module _ (h : Shape) (s : Shaped h) (n k : ℕ) (l : n < block_count h) (r : k < tile_size (tile_of h n)) where
  in-column : k % (tile_of h n).w < (tile_of h n).w
  in-column = mod-lt k (tile-wide h s n l)

  in_row : k / (tile_of h n).w < (tile_of h n).h
  in_row = (div-lt_iff_lt-mul (tile-wide h s n l)).1 r

  pub pixel-lt : pixel_of h (tile_of h n) k < pixels h
  unfolding pixel_of
  pixel-lt = digits_lt (tile-row h s n l _ in_row) (tile-column h s n l _ in-column)

  pub cell-lt : cell_of h n k < cells h
  unfolding pixel_of
  cell-lt =
      digits-below h.columns h.depth _ _ _ (tile-column h s n l _ in-column) (tile-depth h s n l) h.rows
      (tile-row h s n l _ in_row)

  column-is : cell_of h n k / h.depth % h.columns ≡ (tile_of h n).x + k % (tile_of h n).w
  unfolding pixel_of
  column-is = mid-digit h.columns h.depth _ ((tile_of h n).y + k / (tile_of h n).w) _ (tile-column h s n l _ in-column) (tile-depth h s n l)

  row_is : cell_of h n k / h.depth / h.columns ≡ (tile_of h n).y + k / (tile_of h n).w
  unfolding pixel_of
  row_is = top_digit h.columns h.depth _ ((tile_of h n).y + k / (tile_of h n).w) _ (tile-column h s n l _ in-column) (tile-depth h s n l)

  depth_is : cell_of h n k % h.depth ≡ (tile_of h n).d
  unfolding pixel_of
  depth_is = low_digit h.columns h.depth _ ((tile_of h n).y + k / (tile_of h n).w) _ (tile-column h s n l _ in-column) (tile-depth h s n l)

  pub cell-pixel : cell_of h n k / h.depth ≡ pixel_of h (tile_of h n) k
  cell-pixel = digits_div (pixel_of h (tile_of h n) k) (tile-depth h s n l)

  -- the column and the row by their strip, and what is left of them
  x-strip : ((tile_of h n).x + k % (tile_of h n).w) / h.side ≡ n / h.depth % tiles_across h
  unfolding tile_of
  x-strip = strip-div h.side h.columns _ _ s.side.0 (a_lt h s n l) in-column

  y-strip : ((tile_of h n).y + k / (tile_of h n).w) / h.side ≡ n / h.depth / tiles_across h
  unfolding tile_of
  y-strip = strip-div h.side h.rows _ _ s.side.0 (b_lt h s n l) in_row

  x-rest : ((tile_of h n).x + k % (tile_of h n).w) % h.side ≡ k % (tile_of h n).w
  unfolding tile_of
  x-rest = strip-mod h.side h.columns _ _ s.side.0 (a_lt h s n l) in-column

  y-rest : ((tile_of h n).y + k / (tile_of h n).w) % h.side ≡ k / (tile_of h n).w
  unfolding tile_of
  y-rest = strip-mod h.side h.rows _ _ s.side.0 (b_lt h s n l) in_row

  pub cell-block : block_of h (cell_of h n k) ≡ n
  unfolding block_of tile_of
  cell-block = rw (column-is, row_is, depth_is, x-strip, y-strip) (digits_of (tiles_across h) h.depth n)

  pub cell-place : place_in h (cell_of h n k) ≡ k
  unfolding place_in
  cell-place = rw (cell-block, column-is, row_is, x-rest, y-rest) (div-add-mod' k (tile_of h n).w)
