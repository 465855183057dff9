-- Block n by its number: its position, its tile, and room.
-- Assumes nothing.
use mathlib.Core.Path.{◌≡◌}
use mathlib.Core.List.{List}
use Prim.Native.Nat.{ℕ, ◌≤◌, ◌<◌}
use lib.ListN.{length}
use Rattle.lerc_header.specs.declared.Header.{Header}
use Rattle.lerc_header.specs.declared.Extent.{Extent}
use Rattle.lerc_header.specs.Shape.{block_count, cells}
use Rattle.lerc_image.specs.declared.Position.{Position}
use Rattle.lerc_image.specs.declared.Tile.{Tile}
use Rattle.lerc_image.specs.Geometry.{HasTile, tile_here, position_of}
use Rattle.lerc_image.specs.Parts.{BlockTile, FillAsked}
use Rattle.lerc_image.proofs.Standing.{shape_is, tile-at}
use Rattle.lerc_image.proofs.Steps.{position-within}

module _ {h : Header} {e : Extent} {n : ℕ} {b list image : List ℕ} (a : FillAsked h e n b list image) where
  pub number-below : n < block_count e.shape
  number-below = rw a.body.sizes (rw a.body.sizes at a.below)

  pub number-within : {p : Position} → p ≡ position_of e.shape n → HasTile e.shape p
  number-within q = rw (q) (position-within e.shape a.body.shaped n number-below)

  pub number-tile : {p : Position} → p ≡ position_of e.shape n → {t : Tile} → t ≡ tile_here e.shape p → BlockTile h e.shape n t
  number-tile q r = record { shaped = a.body.shaped; same = shape_is a.body; below = number-below; tile = tile-at a.body.shaped number-below q r }

  pub number-room : cells e.shape ≤ length image
  number-room = rw a.body.sizes (rw a.body.sizes at a.room)
