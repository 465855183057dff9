-- The block one depth below: the same tile, the same places, the cell before. For blocks that are coded as differences.
-- Assumes nothing.
use mathlib.Core.Path.{◌≡◌, sym, ap, refl}
use mathlib.Core.List.{List}
use Prim.Native.Nat.{ℕ, ◌+◌, ◌-◌, ◌*◌, ◌/◌, ◌%◌, ◌<◌, min}
use native.Mathlib.Nat.{div-add-mod', mod-lt}
use native.Mathlib.Omega.{arith}
use lib.Arith.{digits_div, digits_mod}
use Rattle.lerc_header.specs.declared.Shape.{Shape}
use Rattle.lerc_header.specs.Shape.{Shaped}
use Rattle.lerc_image.specs.Geometry.{tile_of, tile_from, pixel_of, cell_of, block_of, place_in, rank}
use Rattle.lerc_image.specs.Paint.{index_of}

-- n with a low digit that is not 0, and the number before it
module _ (D n : ℕ) (q : 0 < D) (l : 0 < n % D) where
  low : n / D * D + (n % D - 1) ≡ n - 1
  low = omega (arith, div-add-mod' n D)

  less : n % D - 1 < D
  less = omega (arith, mod-lt n q)

  pub div-before : (n - 1) / D ≡ n / D
  div-before = rw (sym low) (digits_div (n / D) less)

  pub mod-before : (n - 1) % D ≡ n % D - 1
  mod-before = rw (sym low) (digits_mod (n / D) less)

module _ (h : Shape) (s : Shaped h) where
  -- a block above depth 0, and the one before it
  module _ (n : ℕ) (l : 0 < n % h.depth) where
    pub tile-before : tile_of h (n - 1) ≡ tile_from h (tile_of h n).x (tile_of h n).y ((tile_of h n).d - 1)
    unfolding tile_of
    tile-before = rw (div-before h.depth n s.depth.0 l, mod-before h.depth n s.depth.0 l)

    pub cell-before : (k : ℕ) → cell_of h (n - 1) k + 1 ≡ cell_of h n k
    unfolding tile_of pixel_of
    cell-before k = rw (div-before h.depth n s.depth.0 l, mod-before h.depth n s.depth.0 l) (omega arith)

  -- a cell above depth 0, and the one before it
  module _ (c : ℕ) (l : 0 < c % h.depth) where
    pub block-before : block_of h (c - 1) + 1 ≡ block_of h c
    unfolding block_of
    block-before = rw (div-before h.depth c s.depth.0 l, mod-before h.depth c s.depth.0 l) (omega arith)

    block-mod : block_of h c % h.depth ≡ c % h.depth
    unfolding block_of
    block-mod = digits_mod _ (mod-lt c s.depth.0)

    block-is : block_of h (c - 1) ≡ block_of h c - 1
    block-is = omega (arith, block-before)

    above : 0 < block_of h c % h.depth
    above = rw (block-mod) l

    cut : min h.side (h.columns - (tile_of h (block_of h c)).x) ≡ (tile_of h (block_of h c)).w
    unfolding tile_of
    cut = refl

    pub place-before : place_in h (c - 1) ≡ place_in h c
    unfolding place_in
    place-before = rw (div-before h.depth c s.depth.0 l, block-is, tile-before (block_of h c) above) (ap (λ (w : ℕ). c / h.depth / h.columns % h.side * w + c / h.depth % h.columns % h.side) cut)

    pub index-before : (m : List ℕ) → index_of h m (c - 1) ≡ index_of h m c
    unfolding index_of rank pixel_of
    index-before m = rw (place-before, block-is, tile-before (block_of h c) above, cut)
