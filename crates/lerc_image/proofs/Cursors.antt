-- The pixels of a tile by steps, and how many of the first of them are valid.
-- Assumes nothing.
use mathlib.Core.Path.{◌≡◌, ◌∙◌, sym, ap, refl}
use mathlib.Core.Bool.{Bool, false, cond}
use mathlib.Core.List.{List}
use Prim.Native.Nat.{ℕ, zero, suc, ◌+◌, ◌-◌, ◌*◌, ◌/◌, ◌%◌, ◌^◌, ◌≤◌, ◌<◌}
use native.Mathlib.Nat.{mul-le-mul, mul-zero, suc-mul, zero-div, zero-mod, mod-lt, div-add-mod', div-lt_iff_lt-mul}
use native.Mathlib.Decide.{dec_lt}
use native.Mathlib.Omega.{arith}
use lib.Arith.{digits_div, digits_mod, digits_lt}
use borrow.Author.Tests.{lt-ltb, le-ltb}
use Rattle.lerc_words.proofs.Counts.{count-zero, count-more, count-le, count-mono}
use Rattle.lerc_header.specs.declared.Shape.{Shape}
use Rattle.lerc_header.specs.Shape.{Shaped, pixels, block_count}
use Rattle.lerc_header.specs.Limits.{side_limit}
use Rattle.lerc_header.proofs.Sizes.{pixels-few}
use Rattle.lerc_mask.specs.Mask.{pixel_valid}
use Rattle.lerc_block.specs.Block.{tile_limit}
use Rattle.lerc_image.specs.declared.Tile.{Tile}
use Rattle.lerc_image.specs.declared.Cursor.{Cursor}
use Rattle.lerc_image.specs.Geometry.{tile_of, tile_size, pixel_of, rank, valid_in_tile}
use Rattle.lerc_image.specs.Parts.{TileIn, cursor_of, cursor_next}
use Rattle.lerc_image.proofs.Steps.{corner-x, corner-y}

-- ---- how many of the first are valid

module _ (h : Shape) (m : List ℕ) (t : Tile) where
  pub rank-zero : rank h m t 0 ≡ 0
  unfolding rank
  rank-zero = count-zero _

  pub rank-le : (k : ℕ) → rank h m t k ≤ k
  unfolding rank
  rank-le k = count-le k _

  pub rank_mono : (j k : ℕ) → j ≤ k → rank h m t j ≤ rank h m t k
  unfolding rank
  rank_mono j k l = count-mono j k _ l

  pub rank-more : (k : ℕ) (b : Bool) → pixel_valid m (pixel_of h t k) ≡ b → rank h m t (k + 1) ≡ rank h m t k + cond b 1 0
  unfolding rank
  rank-more k b e = count-more k _ ∙ rw (e)

-- ---- tiles within the image

-- "side 16": a tile has at most 256 pixels
pub tile-small : (h : Shape) → Shaped h → (n : ℕ) → tile_size (tile_of h n) ≤ tile_limit
unfolding tile_of
tile-small h s n =
    let a : (tile_of h n).h ≤ side_limit = omega (arith, s.side.1) in
    let b : (tile_of h n).w ≤ side_limit = omega (arith, s.side.1) in
    mul-le-mul a b

-- the tile of a block
pub tile-in : (h : Shape) → Shaped h → (n : ℕ) → n < block_count h → TileIn h (tile_of h n)
unfolding tile_of
tile-in h s n l = record { shaped = s; column = omega (arith, corner-x h s n l); row = omega (arith, corner-y h s n l); small = tile-small h s n }

module _ (h : Shape) (t : Tile) (i : TileIn h t) where
  pub size-le : tile_size t ≤ pixels h
  size-le =
      let a : t.h ≤ h.rows = omega (arith, i.row) in
      let b : t.w ≤ h.columns = omega (arith, i.column) in
      mul-le-mul a b

  -- so reading a block does not refuse their number
  pub valid-small : (m : List ℕ) → valid_in_tile h m t ≤ tile_limit
  valid-small m = omega (arith, rank-le h m t (tile_size t), i.small)

  pub corner-fits : t.y * h.columns + t.x ≤ 4198400
  corner-fits =
      let a : t.y ≤ h.rows = omega (arith, i.row) in
      let b : h.columns ≤ h.columns = omega arith in
      omega (arith, mul-le-mul a b, pixels-few h i.shaped, i.column, i.shaped.columns.1)

  pub cursor-first : cursor_of h t 0 ≡ record { pixel = t.y * h.columns + t.x; column = 0 }
  unfolding cursor_of pixel_of
  cursor-first = rw (zero-div, zero-mod) (let a : t.y + 0 ≡ t.y = omega arith in let b : t.x + 0 ≡ t.x = omega arith in rw (a, b))

  -- a row and a column of the tile
  cursor-at : (q r : ℕ) → r < t.w → cursor_of h t (q * t.w + r) ≡ record { pixel = (t.y + q) * h.columns + (t.x + r); column = r }
  unfolding cursor_of pixel_of
  cursor-at q r l = rw (digits_div q l, digits_mod q l)

  next-at : (q r : ℕ) → r < t.w → Dec (r + 1 < t.w) → cursor_next t.w h.columns (cursor_of h t (q * t.w + r)) ≡ cursor_of h t (q * t.w + r + 1)
  next-at q r l (yes p) =
      let e : q * t.w + r + 1 ≡ q * t.w + (r + 1) = omega arith in
      let f : (t.y + q) * h.columns + (t.x + r) + 1 ≡ (t.y + q) * h.columns + (t.x + (r + 1)) = omega arith in
      rw (cursor-at q r l, lt-ltb _ _ p, e, cursor-at q (r + 1) p, f)
  next-at q r l (no p) =
      let e : q * t.w + r + 1 ≡ suc q * t.w + 0 = omega (arith, suc-mul q t.w) in
      let b : t.w ≤ r + 1 = omega arith in
      let z : 0 < t.w = omega arith in
      let s : t.y + suc q ≡ suc (t.y + q) = omega arith in
      let f : (t.y + q) * h.columns + (t.x + r) + 1 + (h.columns - t.w) ≡ (t.y + suc q) * h.columns + (t.x + 0) = rw (s) (omega (arith, suc-mul (t.y + q) h.columns, i.column)) in
      rw (cursor-at q r l, le-ltb _ _ b, e, cursor-at (suc q) 0 z, f)

  -- at a place of the tile
  module _ (k : ℕ) (l : k < tile_size t) where
    wide : 0 < t.w
    wide = go t.w refl
      where
        go : (w : ℕ) → t.w ≡ w → 0 < w
        go zero e = absurd (omega (arith, mul-zero t.h, rw (e) at l))
        go (suc w) e = omega arith

    pub column-lt : (cursor_of h t k).column < t.w
    unfolding cursor_of
    column-lt = mod-lt k wide

    pub pixel-lt : (cursor_of h t k).pixel < pixels h
    unfolding cursor_of pixel_of
    pixel-lt =
        let r : k / t.w < t.h = (div-lt_iff_lt-mul wide).1 l in
        let a : t.y + k / t.w < h.rows = omega (arith, i.row) in
        let b : t.x + k % t.w < h.columns = omega (arith, i.column, mod-lt k wide) in
        digits_lt a b

    pub cursor-step : cursor_next t.w h.columns (cursor_of h t k) ≡ cursor_of h t (k + 1)
    cursor-step = rw (div-add-mod' k t.w) at (next-at (k / t.w) (k % t.w) (mod-lt k wide) (dec_lt (k % t.w + 1) t.w))

-- ---- counting the valid ones

-- before place k of a tile of a size, where `used` of its pixels so far were valid
pub record Stepped (h : Shape) (m : List ℕ) (t : Tile) (size : ℕ) (at : Cursor) (k used : ℕ) : Type 0 where
  pub tile : TileIn h t
  pub size_is : size ≡ tile_size t
  pub few : k ≤ size
  pub here : at ≡ cursor_of h t k
  pub used-is : used ≡ rank h m t k

pub stepped-none : {h : Shape} (m : List ℕ) {t : Tile} → TileIn h t → Stepped h m t (tile_size t) (cursor_of h t 0) 0 0
stepped-none {h} m {t} i = record { tile = i; size_is = refl; few = omega arith; here = refl; used-is = sym (rank-zero h m t) }

module _ {h : Shape} {m : List ℕ} {t : Tile} {size : ℕ} {at : Cursor} {k used : ℕ} (s : Stepped h m t size at k used) where
  pub stepped-used : used ≤ k
  stepped-used = rw s.used-is (rank-le h m t k)

  pub stepped-all : size ≤ k → used ≡ rank h m t (tile_size t)
  stepped-all r = let e : k ≡ tile_size t = omega (arith, s.few, s.size_is) in rw (e) at s.used-is

  module _ (r : k < size) where
    pub stepped-in : k < tile_size t
    stepped-in = omega (arith, s.size_is)

    pub stepped-few : k < 4194304
    stepped-few = omega (arith, stepped-in, size-le h t s.tile, pixels-few h s.tile.shaped)

    -- what a step asks
    pub stepped-fits : (at.column < t.w) × (t.w ≤ h.columns) × (at.pixel + h.columns < 2 ^ 64)
    stepped-fits =
        rw s.here (
          column-lt h t s.tile k stepped-in,
          omega (arith, s.tile.column),
          omega (arith, pixel-lt h t s.tile k stepped-in, pixels-few h s.tile.shaped, s.tile.shaped.columns.1),
        )

    pub stepped-pixel : pixel_of h t k ≡ at.pixel
    unfolding cursor_of
    stepped-pixel = rw s.here

    pub stepped-next : (b : Bool) → pixel_valid m at.pixel ≡ b → Stepped h m t size (cursor_next t.w h.columns at) (k + 1) (used + cond b 1 0)
    stepped-next b e =
        record {
          tile = s.tile;
          size_is = s.size_is;
          few = omega arith;
          here = rw s.here (cursor-step h t s.tile k stepped-in);
          used-is = rw s.used-is (sym (rank-more h m t k b (ap (pixel_valid m) stepped-pixel ∙ e)));
        }

    pub stepped-skip : pixel_valid m at.pixel ≡ false → Stepped h m t size (cursor_next t.w h.columns at) (k + 1) used
    stepped-skip e = let z : used + 0 ≡ used = omega arith in rw (z) at (stepped-next false e)
