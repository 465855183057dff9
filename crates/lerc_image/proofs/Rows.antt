-- The valid pixels of a tile: row by row, where every pixel is valid, and from one depth to the next.
-- Assumes nothing.
use mathlib.Core.Path.{◌≡◌, ◌∙◌, sym, ap}
use mathlib.Core.Bool.{true, and-eq-true_iff}
use mathlib.Core.List.{List}
use Prim.Native.Nat.{ℕ, suc, ◌+◌, ◌-◌, ◌*◌, ◌%◌, ◌≤◌, ◌<◌}
use native.Mathlib.Nat.{suc-mul, mul-le-mul, zero-mod}
use native.Mathlib.Numerals.{add-one}
use Rattle.lerc_words.specs.Lists.{count}
use native.Mathlib.Omega.{arith}
use lib.Arith.{digits_div, digits_mod}
use lib.Dec.{eqb}
use borrow.Author.Tests.{eqb-true}
use Rattle.lerc_words.proofs.Counts.{count-plus, count_same, count-all, count-full}
use Rattle.lerc_header.specs.declared.Shape.{Shape}
use Rattle.lerc_header.specs.Shape.{Shaped, pixels}
use Rattle.lerc_header.proofs.Sizes.{pixels-few}
use Rattle.lerc_mask.specs.Mask.{pixel_valid, valid_below, valid_from}
use Rattle.lerc_block.specs.Block.{tile_limit}
use Rattle.lerc_image.specs.declared.Tile.{Tile}
use Rattle.lerc_image.specs.Geometry.{tile_of, tile_size, pixel_of, rank, valid_in_tile}
use Rattle.lerc_image.specs.Parts.{TileIn, cursor_of, all_valid}
use Rattle.lerc_image.proofs.Cursors.{rank-zero, rank-le, pixel-lt}
use Rattle.lerc_image.proofs.Below.{tile-before}

-- ---- row by row

-- where a row begins
abbrev pub row_from : Shape → Tile → ℕ → ℕ
row_from h t row = (t.y + row) * h.columns + t.x

pub row_below : (h : Shape) (t : Tile) (row : ℕ) → row_from h t (row + 1) ≡ row_from h t row + h.columns
row_below h t row = let e : t.y + (row + 1) ≡ suc (t.y + row) = omega arith in rw (e) (omega (arith, suc-mul (t.y + row) h.columns))

-- the place i of a row
pub pixel-row : (h : Shape) (t : Tile) (row i : ℕ) → i < t.w → pixel_of h t (row * t.w + i) ≡ row_from h t row + i
unfolding pixel_of
pixel-row h t row i l = rw (digits_div row l, digits_mod row l) (omega arith)

module _ (h : Shape) (m : List ℕ) (t : Tile) (row : ℕ) where
  pub rank-row : rank h m t ((row + 1) * t.w) ≡ rank h m t (row * t.w) + valid_from (row_from h t row) t.w m
  unfolding rank
  rank-row =
      let e : (row + 1) * t.w ≡ t.w + row * t.w = rw (add-one) (omega (arith, suc-mul row t.w)) in
      let same : count t.w (λ i. pixel_valid m (pixel_of h t (i + row * t.w))) ≡ valid_from (row_from h t row) t.w m = count_same t.w _ _ (λ i l. ap (pixel_valid m) (place i l)) in
      rw (e, count-plus (row * t.w) t.w (λ i. pixel_valid m (pixel_of h t i)), same)
    where
      place : (i : ℕ) → i < t.w → pixel_of h t (i + row * t.w) ≡ row_from h t row + i
      place i l = let z : i + row * t.w ≡ row * t.w + i = omega arith in rw (z) (pixel-row h t row i l)

-- before a row of a tile: where it begins, and how many pixels of the rows above it are valid
pub record RowsCounted (h : Shape) (m : List ℕ) (t : Tile) (first row found : ℕ) : Type 0 where
  pub tile : TileIn h t
  pub few : row ≤ t.h
  pub here : first ≡ row_from h t row
  pub found-is : found ≡ rank h m t (row * t.w)

pub rows_none : {h : Shape} (m : List ℕ) {t : Tile} → TileIn h t → RowsCounted h m t (t.y * h.columns + t.x) 0 0
rows_none {h} m {t} i =
    let z : t.y + 0 ≡ t.y = omega arith in
    let e : 0 * t.w ≡ 0 = omega arith in
    record { tile = i; few = omega arith; here = rw (z); found-is = rw (e) (sym (rank-zero h m t)) }

module _ {h : Shape} {m : List ℕ} {t : Tile} {first row found : ℕ} (c : RowsCounted h m t first row found) where
  pub rows_all : t.h ≤ row → found ≡ valid_in_tile h m t
  rows_all l = let e : row ≡ t.h = omega (arith, c.few) in rw (e) at c.found-is

  module _ (l : row < t.h) where
    pub rows_next : RowsCounted h m t (first + h.columns) (row + 1) (found + valid_from first t.w m)
    rows_next =
        record {
          tile = c.tile;
          few = omega arith;
          here = rw c.here (sym (row_below h t row));
          found-is = rw (c.here, c.found-is) (sym (rank-row h m t row));
        }

    -- a tile has at most 256 pixels
    pub rows-small : found + valid_from first t.w m ≤ tile_limit
    rows-small =
        let next = rows_next in
        let a : row + 1 ≤ t.h = omega arith in
        let b : t.w ≤ t.w = omega arith in
        rw next.found-is (omega (arith, rank-le h m t ((row + 1) * t.w), mul-le-mul a b, c.tile.small))

    -- at most a row of 4,096 behind the last of 4,194,304 pixels
    pub rows_fit : first + h.columns ≤ 4198400
    rows_fit =
        let next = rows_next in
        let a : t.y + (row + 1) ≤ h.rows = omega (arith, c.tile.row) in
        let b : h.columns ≤ h.columns = omega arith in
        rw next.here (omega (arith, mul-le-mul a b, pixels-few h c.tile.shaped, c.tile.column, c.tile.shaped.columns.1))

-- ---- where every pixel is valid

pub full-means : (valid pixels : ℕ) (m : List ℕ) → all_valid valid pixels m ≡ true → valid_below pixels m ≡ pixels
unfolding all_valid
full-means valid pixels m e = eqb-true _ _ ((and-eq-true_iff (eqb valid pixels) (eqb (valid_below pixels m) pixels)).0 e).1

pub tile-full : (h : Shape) (t : Tile) → TileIn h t → (m : List ℕ) → valid_below (pixels h) m ≡ pixels h → valid_in_tile h m t ≡ tile_size t
unfolding rank cursor_of
tile-full h t i m e = count-all (tile_size t) _ (λ k l. count-full (pixels h) (pixel_valid m) e (pixel_of h t k) (pixel-lt h t i k l))

-- ---- from one depth to the next

-- what was counted for the block before n holds for block n, unless that begins a tile
pub record Carried (h : Shape) (m : List ℕ) (n valid : ℕ) : Type 0 where
  pub same : 0 < n % h.depth → valid ≡ valid_in_tile h m (tile_of h n)

pub carried_none : (h : Shape) (m : List ℕ) (valid : ℕ) → Carried h m 0 valid
carried_none h m valid = record { same = λ l. absurd (let z : 0 < 0 = rw (zero-mod) at l in omega arith) }

-- a tile has the same valid pixels at every depth
depth_same : (h : Shape) → Shaped h → (m : List ℕ) (n : ℕ) → 0 < n % h.depth → valid_in_tile h m (tile_of h (n - 1)) ≡ valid_in_tile h m (tile_of h n)
unfolding rank pixel_of tile_of
depth_same h s m n l = ap (valid_in_tile h m) (tile-before h s n l)

pub carried-next : (h : Shape) → Shaped h → (m : List ℕ) (n valid : ℕ) → valid ≡ valid_in_tile h m (tile_of h n) → Carried h m (n + 1) valid
carried-next h s m n valid e = record { same = λ l. e ∙ rw (before) at (depth_same h s m (n + 1) l) }
  where
    before : n + 1 - 1 ≡ n
    before = omega arith
