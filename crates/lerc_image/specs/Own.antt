-- Every block judged by the mask that stands coded in the blob itself.
-- Assumes nothing.
use Rattle.std.specs.Prelude.{ℕ, ◌≤◌, ◌≡◌, Bool, cond, List, length, get_or, take, drop, replicate, eqb}
use Rattle.lerc_words.specs.Res.{Res, ◌>>=◌}
use Rattle.lerc_header.specs.declared.Header.{Header}
use Rattle.lerc_header.specs.declared.Shape.{Shape}
use Rattle.lerc_header.specs.Limits.{side_limit}
use Rattle.lerc_header.specs.Shape.{pixels, mask_length}
use Rattle.lerc_header.specs.Header.{header_bytes, shape_of, held}
use Rattle.lerc_mask.specs.Mask.{valid_from}
use Rattle.lerc_mask.specs.declared.seek.RunPlace.{RunPlace}
use Rattle.lerc_mask.specs.Seek.{given, front, OnWay}
use Rattle.lerc_image.specs.declared.Tile.{Tile}
use Rattle.lerc_image.specs.declared.own.RowFound.{RowFound}
use Rattle.lerc_image.specs.Blocks.{Chain, all_blocks}
use Rattle.lerc_image.specs.Parts.{CountAsked}

-- the mask of `want` bytes: all 255 where every pixel is valid, else what the runs of its section give
abbrev pub mask_by : Bool → ℕ → List ℕ → List ℕ
mask_by full want section = cond full (replicate want 255) (given want section)

-- the mask that a blob's own bytes give
unfoldable pub own_mask : List ℕ → Header → List ℕ
own_mask s h = mask_by (eqb h.valid (pixels (shape_of h))) (mask_length (shape_of h)) (take h.mask (drop header_bytes s))

-- 3, 4, 1, then every block judged by that mask, from a place on
unfoldable pub own_tiles : List ℕ → Header → List ℕ → ℕ → Res Chain
own_tiles b h maxima at = do
  e ← held h (length b)
  all_blocks (take h.size b) h maxima (own_mask (take h.size b) h) at

-- ---- what private functions ask and promise; not part of the rules

-- each row of a tile has a place of its own on the way through the runs
pub record RowsOnWay (want : ℕ) (section : List ℕ) (places : List RunPlace) : Type 0 where
  pub long : length places ≡ side_limit
  pub way : (row : ℕ) → OnWay want section (get_or places row front)

-- how many of the n pixels from `first` on are valid by the runs, and a place on the way to go on from
pub record RowCounted (want : ℕ) (section : List ℕ) (first n : ℕ) (r : RowFound) : Type 0 where
  pub found : r.found ≡ valid_from first n (given want section)
  pub way : OnWay want section r.place

-- a tile whose valid pixels are asked for, and the places of its rows
pub record OwnAsked (h : Shape) (t : Tile) (want : ℕ) (section : List ℕ) (full : Bool) (before : ℕ) (places : List RunPlace) : Type 0 where
  pub asked : CountAsked h t (mask_by full want section) full before
  pub side : t.h ≤ side_limit
  pub rows : RowsOnWay want section places
