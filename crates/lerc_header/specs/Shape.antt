-- The sizes of an image: rows, columns, depth and the side of its tiles are all they depend on.
-- Assumes nothing.
use Rattle.std.specs.Prelude.{ℕ, ◌+◌, ◌-◌, ◌*◌, ◌/◌, ◌≤◌, ◌<◌}
use Rattle.lerc_header.specs.declared.Shape.{Shape}
use Rattle.lerc_header.specs.Limits.{sideways, depth_limit, side_limit, cell_limit}

abbrev pub pixels : Shape → ℕ
pixels h = h.rows * h.columns

-- "cells (pixels × depth)"
abbrev pub cells : Shape → ℕ
cells h = h.rows * h.columns * h.depth

-- "Length is (pixels+7)/8."
abbrev pub mask_length : Shape → ℕ
mask_length h = (pixels h + 7) / 8

-- how many strips of a side cover a length: "Tiles have the block side, cut at the right and lower edge."
unfoldable pub strips : ℕ → ℕ → ℕ
strips side n = (n + side - 1) / side

abbrev pub tiles_across : Shape → ℕ
tiles_across h = strips h.side h.columns

abbrev pub tiles_down : Shape → ℕ
tiles_down h = strips h.side h.rows

-- a block for each tile and depth
abbrev pub block_count : Shape → ℕ
block_count h = tiles_down h * tiles_across h * h.depth

-- what a header that keeps the rules gives
pub record Shaped (h : Shape) : Type 0 where
  pub rows : (0 < h.rows) × (h.rows ≤ sideways)
  pub columns : (0 < h.columns) × (h.columns ≤ sideways)
  pub depth : (0 < h.depth) × (h.depth ≤ depth_limit)
  pub side : (0 < h.side) × (h.side ≤ side_limit)
  pub few : cells h ≤ cell_limit
