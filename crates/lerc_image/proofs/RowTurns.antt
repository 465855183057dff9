-- A row of a tile laid to the image: the words of its block are put one row further.
-- Assumes nothing.
use mathlib.Core.Path.{◌≡◌, ◌∙◌, sym, ap, refl}
use mathlib.Core.Bool.{Bool, true, cond}
use mathlib.Core.List.{List}
use Prim.Native.Nat.{ℕ, zero, suc, ◌+◌, ◌*◌, ◌^◌, ◌≤◌, ◌<◌}
use native.Mathlib.Nat.{add-mul, suc-mul, mul-le-mul, mul-le-mul_right}
use native.Mathlib.Omega.{arith}
use lib.ListN.{length}
use Rattle.lerc_words.specs.Lists.{count}
use Rattle.lerc_words.proofs.Counts.{count-full, count-all}
use Rattle.lerc_header.specs.declared.Shape.{Shape}
use Rattle.lerc_header.specs.Shape.{cells}
use Rattle.lerc_mask.specs.Mask.{pixel_valid}
use Rattle.lerc_block.specs.Block.{tile_limit}
use Rattle.lerc_image.specs.declared.Tile.{Tile}
use Rattle.lerc_image.specs.Geometry.{tile_size, pixel_of, rank, valid_in_tile}
use Rattle.lerc_image.specs.Paint.{scattered}
use Rattle.lerc_image.specs.Parts.{Asked, RowIn, rowed, every_one, cursor_of, FullScattered}
use Rattle.lerc_image.proofs.Partition.{tile-wide, tile-depth, cell-lt}
use Rattle.lerc_image.proofs.Cursors.{corner-fits, cursor-step}
use Rattle.lerc_image.proofs.Rows.{row_from, row_below, pixel-row}
use Rattle.lerc_image.proofs.Standing.{asked_in}
use Rattle.lerc_image.proofs.Laying.{length-rowed}
use Rattle.lerc_image.proofs.Scattering.{Scattering, scattering-none, scattering-all, scattering-turn}

-- ---- before a row

-- its first cell, with at most as many words used as there are pixels above
pub record RowAt (h : Shape) (t : Tile) (n : ℕ) (old image : List ℕ) (start row used : ℕ) : Type 0 where
  pub asked : Asked h t n old
  pub here : start ≡ row_from h t row * h.depth + t.d
  pub most : used ≤ row * t.w
  pub long : length image ≡ length old

-- the words of the rows above it
abbrev pub RowsPut : Shape → Tile → ℕ → List ℕ → List ℕ → List ℕ → List ℕ → ℕ → ℕ → Type 0
RowsPut h t n m words old image row used = Scattering h t n m words old (tile_size t) image (cursor_of h t (row * t.w)) (row * t.w) used

module _ {h : Shape} {t : Tile} {n : ℕ} {old : List ℕ} (a : Asked h t n old) where
  pub start-in : (t.y * h.columns + t.x) * h.depth + t.d < 2 ^ 32
  start-in =
      let deep : t.d < h.depth = rw a.tile (tile-depth h a.shaped n a.below) in
      omega (arith, mul-le-mul (corner-fits h t (asked_in a)) a.shaped.depth.1, a.shaped.depth.1)

  cell_in : (k : ℕ) → k < tile_size t → pixel_of h t k * h.depth + t.d < cells h
  cell_in k l = rw a.tile (cell-lt h a.shaped n k a.below (rw a.tile at l))

  pub row_first : RowAt h t n old old ((t.y * h.columns + t.x) * h.depth + t.d) 0 0
  row_first =
      let z : t.y + 0 ≡ t.y = omega arith in
      record { asked = a; here = rw (z); most = omega arith; long = refl }

  pub rows_none : (m words : List ℕ) → RowsPut h t n m words old old 0 0
  rows_none m words = let z : 0 * t.w ≡ 0 = omega arith in rw (z) (scattering-none m words a)

module _ {h : Shape} {t : Tile} {n : ℕ} {old image : List ℕ} {start row used : ℕ} (a : RowAt h t n old image start row used) (r : row < t.h) where
  row_ends : row * t.w + t.w ≤ tile_size t
  row_ends = omega (arith, suc-mul row t.w, mul-le-mul_right t.w r)

  -- a cell of the row is the cell of its place
  module _ (c : ℕ) (l : c < t.w) where
    place_in : row * t.w + c < tile_size t
    place_in = omega (arith, row_ends)

    cell_at : start + c * h.depth ≡ pixel_of h t (row * t.w + c) * h.depth + t.d
    cell_at = rw (a.here, pixel-row h t row c l) (omega (arith, add-mul (row_from h t row) c h.depth))

    cell_below : start + c * h.depth < cells h
    cell_below = rw (cell_at) (cell_in a.asked (row * t.w + c) place_in)

  pub row_in : RowIn used t.w h.depth start image
  row_in =
      let g = a.asked.shaped in
      let wide : 0 < t.w = rw a.asked.tile (tile-wide h g n a.asked.below) in
      let small : t.w ≤ tile_limit = omega (arith, row_ends, (asked_in a.asked).small) in
      record {
        words = omega (arith, a.most, row_ends, (asked_in a.asked).small);
        fits = omega (arith, cell_below 0 wide, g.few, mul-le-mul small g.depth.1);
        room = λ c l. omega (arith, cell_below c l, a.asked.room, a.long);
      }

  pub row_step : h.columns * h.depth < 2 ^ 32
  row_step = omega (arith, mul-le-mul a.asked.shaped.columns.1 a.asked.shaped.depth.1)

  pub row_next : {next : List ℕ} {now : ℕ} → length next ≡ length image → now ≤ used + t.w → RowAt h t n old next (start + h.columns * h.depth) (row + 1) now
  row_next e l =
      record {
        asked = a.asked;
        here = rw (row_below h t row, a.here) (omega (arith, add-mul (row_from h t row) h.columns h.depth));
        most = omega (arith, a.most, add-mul row 1 t.w);
        long = e ∙ a.long;
      }

  -- the one law: the valid cells of a row get the next words
  module _ {m words : List ℕ} (s : RowsPut h t n m words old image row used) (valid : ℕ → Bool) (f : (c : ℕ) → c < t.w → pixel_valid m (row_from h t row + c) ≡ valid c) where
    row-turn : (c : ℕ) → c ≤ t.w
        → Scattering h t n m words old (tile_size t) (rowed valid words used h.depth start c image) (cursor_of h t (row * t.w + c)) (row * t.w + c) (used + count c valid)
    unfolding rowed count cursor_of
    row-turn zero l =
        let z : row * t.w + 0 ≡ row * t.w = omega arith in
        let u : used + 0 ≡ used = omega arith in
        rw (z, u) s
    row-turn (suc c) l =
        let k = row * t.w + c in
        let v : pixel_valid m (pixel_of h t k) ≡ valid c = ap (pixel_valid m) (pixel-row h t row c l) ∙ f c l in
        let z : row * t.w + suc c ≡ k + 1 = omega arith in
        let u : used + (count c valid + cond (valid c) 1 0) ≡ used + count c valid + cond (valid c) 1 0 = omega arith in
        rw (z, u, cell_at c l, ← cursor-step h t (asked_in a.asked) k (place_in c l))
        (scattering-turn (row-turn c (omega arith)) (place_in c l) (valid c) v)

    pub row_put : RowsPut h t n m words old (rowed valid words used h.depth start t.w image) (row + 1) (used + count t.w valid)
    row_put = let w : (row + 1) * t.w ≡ row * t.w + t.w = omega (arith, add-mul row 1 t.w) in rw (w) (row-turn t.w (omega arith))

  -- where every pixel of the tile is valid
  pub full-row : (m : List ℕ) → valid_in_tile h m t ≡ tile_size t → (c : ℕ) → c < t.w → pixel_valid m (row_from h t row + c) ≡ true
  unfolding rank
  full-row m e c l = ap (pixel_valid m) (sym (pixel-row h t row c l)) ∙ count-full (tile_size t) _ e (row * t.w + c) (place_in c l)

-- behind the last row
pub rows-put-all : {h : Shape} {t : Tile} {n : ℕ} {m words old image : List ℕ} {row used : ℕ} → RowsPut h t n m words old image row used → t.h ≤ row → image ≡ scattered h m n words old
rows-put-all {t = t} s l = (scattering-all s (mul-le-mul_right t.w l)).image

-- a row of eight words beside each other
pub eight-in : {from start : ℕ} {image : List ℕ} → RowIn from 8 1 start image → (from + 8 ≤ tile_limit) × (start + 8 ≤ length image)
eight-in i = let l : 7 < 8 = omega arith in (i.words, omega (arith, i.room 7 l))

-- ---- a tile without invalid pixels

pub record FullRows (h : Shape) (t : Tile) (n : ℕ) (words old image : List ℕ) (start row used : ℕ) : Type 0 where
  pub at : RowAt h t n old image start row used
  pub put : (m : List ℕ) → valid_in_tile h m t ≡ tile_size t → RowsPut h t n m words old image row used

pub full-first : {h : Shape} {t : Tile} {n : ℕ} {old : List ℕ} (words : List ℕ) → Asked h t n old → FullRows h t n words old old ((t.y * h.columns + t.x) * h.depth + t.d) 0 0
full-first words a = record { at = row_first a; put = λ m e. rows_none a m words }

module _ {h : Shape} {t : Tile} {n : ℕ} {words old image : List ℕ} {start row used : ℕ} (f : FullRows h t n words old image start row used) where
  pub full-next : row < t.h → {next : List ℕ} → next ≡ rowed every_one words used h.depth start t.w image → FullRows h t n words old next (start + h.columns * h.depth) (row + 1) (used + t.w)
  full-next r e =
      let all : count t.w every_one ≡ t.w = count-all t.w every_one (λ k q. refl) in
      record {
        at = rw (e) (row_next f.at r (length-rowed _ _ _ _ _ _ _) (omega arith));
        put = λ m q. rw (e) (rw (all) at (row_put f.at r (f.put m q) every_one (full-row f.at r m q)));
      }

  pub full-all : t.h ≤ row → FullScattered h t n words old image
  full-all l = λ m e. rows-put-all (f.put m e) l

-- rows of eight words beside each other: an image of depth 1
module _ {h : Shape} {t : Tile} (w : t.w ≡ 8) (d : h.depth ≡ 1) {n : ℕ} {words old : List ℕ} where
  pub eights-first : Asked h t n old → FullRows h t n words old old (t.y * h.columns + t.x) 0 0
  eights-first a =
      let deep : t.d < h.depth = rw a.tile (tile-depth h a.shaped n a.below) in
      let z : (t.y * h.columns + t.x) * h.depth + t.d ≡ t.y * h.columns + t.x = rw (d) (omega arith) in
      rw (z) at (full-first words a)

  module _ {image : List ℕ} {start row used : ℕ} (f : FullRows h t n words old image start row used) (r : row < t.h) where
    pub eights-in : (used + 8 ≤ tile_limit) × (start + 8 ≤ length image)
    eights-in = eight-in (rw (w, d) at (row_in f.at r))

    pub eights-next : {next : List ℕ} → next ≡ rowed every_one words used 1 start 8 image → FullRows h t n words old next (start + h.columns) (row + 1) (used + 8)
    eights-next {next} e =
        let z : start + h.columns * h.depth ≡ start + h.columns = rw (d) (omega arith) in
        let u : used + t.w ≡ used + 8 = rw (w) in
        let q : next ≡ rowed every_one words used h.depth start t.w image = rw (d, w) e in
        rw (z, u) at (full-next f r q)
