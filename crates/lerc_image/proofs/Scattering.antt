-- The words of a block put into the image up to place k of its tile, and one place more.
-- Assumes nothing.
use mathlib.Core.Path.{◌≡◌, ◌∙◌, sym, ap}
use mathlib.Core.Bool.{Bool, true, false, cond}
use mathlib.Core.List.{List}
use Prim.Native.Nat.{ℕ, ◌+◌, ◌*◌, ◌≤◌, ◌<◌}
use native.Mathlib.Omega.{arith}
use lib.ListN.{length, get_or, set}
use Rattle.lerc_header.specs.declared.Shape.{Shape}
use Rattle.lerc_mask.specs.Mask.{pixel_valid}
use Rattle.lerc_image.specs.declared.Tile.{Tile}
use Rattle.lerc_image.specs.declared.Cursor.{Cursor}
use Rattle.lerc_image.specs.Geometry.{tile_of, tile_size, pixel_of, cell_of}
use Rattle.lerc_image.specs.Paint.{painted, index_of, word_of}
use Rattle.lerc_image.specs.Parts.{Asked, cursor_of, cursor_next, BlockScattered}
use Rattle.lerc_image.proofs.Partition.{cell-lt, cell-block, cell-place}
use Rattle.lerc_image.proofs.Painting.{painted-none, painted_same, painted-set, length-painted}
use Rattle.lerc_image.proofs.Upto.{upto, upto_zero, upto_all, upto-other, upto-adds, upto-skips}
use Rattle.lerc_image.proofs.Cursors.{tile-small, Stepped, stepped-none, stepped-used, stepped-all, stepped-in, stepped-pixel, stepped-next, stepped-skip}
use Rattle.lerc_image.proofs.Standing.{asked_in}

pub record Scattering (h : Shape) (t : Tile) (n : ℕ) (m words start : List ℕ) (size : ℕ) (image : List ℕ) (at : Cursor) (k used : ℕ) : Type 0 where
  pub asked : Asked h t n start
  pub stepped : Stepped h m t size at k used
  pub same : image ≡ painted start (upto h m n k) (word_of h m (λ i. words))

pub scattering-none : {h : Shape} {t : Tile} {n : ℕ} (m words : List ℕ) {start : List ℕ} → Asked h t n start → Scattering h t n m words start (tile_size t) start (cursor_of h t 0) 0 0
scattering-none {h} {n = n} m words {start} a =
    record { asked = a; stepped = stepped-none m (asked_in a); same = painted-none start _ (upto h m n 0) (λ c r. upto_zero h m n c) }

module _ {h : Shape} {t : Tile} {n : ℕ} {m words start : List ℕ} {size : ℕ} {image : List ℕ} {at : Cursor} {k used : ℕ}
    (s : Scattering h t n m words start size image at k used) where
  pub scattering-length : length image ≡ length start
  scattering-length = rw (s.same, length-painted)

  pub scattering-all : size ≤ k → BlockScattered h n m words start used image
  scattering-all r =
      let e : k ≡ tile_size (tile_of h n) = rw s.asked.tile at (let f : k ≡ tile_size t = omega (arith, s.stepped.few, s.stepped.size_is) in f) in
      record {
        says = rw s.asked.tile at (stepped-all s.stepped r);
        image = s.same ∙ rw (e) (painted_same start _ _ _ (λ c q. upto_all h s.asked.shaped m n s.asked.below c));
      }

  module _ (r : k < size) where
    inside : k < tile_size (tile_of h n)
    inside = rw s.asked.tile at (stepped-in s.stepped r)

    pixel-is : pixel_of h (tile_of h n) k ≡ at.pixel
    pixel-is = rw s.asked.tile at (stepped-pixel s.stepped r)

    cell-is : cell_of h n k ≡ at.pixel * h.depth + t.d
    cell-is = rw (pixel-is, s.asked.tile)

    -- the cell that a turn writes lies in the image
    pub scattering-few : at.pixel * h.depth + t.d < 4194304
    scattering-few = omega (arith, rw (cell-is) at (cell-lt h s.asked.shaped n k s.asked.below inside), s.asked.shaped.few)

    pub scattering-room : at.pixel * h.depth + t.d < length image
    scattering-room = omega (arith, rw (cell-is) at (cell-lt h s.asked.shaped n k s.asked.below inside), s.asked.room, scattering-length)

    pub scattering-used : used < 256
    scattering-used = omega (arith, stepped-used s.stepped, inside, tile-small h s.asked.shaped n)

    index_is : index_of h m (cell_of h n k) ≡ used
    unfolding index_of
    index_is =
        rw (cell-block h s.asked.shaped n k s.asked.below inside, cell-place h s.asked.shaped n k s.asked.below inside)
        (sym (rw s.asked.tile at s.stepped.used-is))

    pub scattering-valid : pixel_valid m at.pixel ≡ true
        → Scattering h t n m words start size (set image (at.pixel * h.depth + t.d) (get_or words used 0)) (cursor_next t.w h.columns at) (k + 1) (used + 1)
    scattering-valid v =
        let g = s.asked.shaped in
        let b = s.asked.below in
        let e : pixel_valid m (pixel_of h (tile_of h n) k) ≡ true = ap (pixel_valid m) pixel-is ∙ v in
        record {
          asked = s.asked;
          stepped = stepped-next s.stepped r true v;
          same =
              rw (s.same, sym index_is, sym cell-is)
              (painted-set start _ (upto h m n k) (upto h m n (k + 1)) (cell_of h n k) (omega (arith, cell-lt h g n k b inside, s.asked.room))
              (upto-adds h g m n b k inside e) (upto-other h g m n b k inside));
        }

    pub scattering-skip : pixel_valid m at.pixel ≡ false → Scattering h t n m words start size image (cursor_next t.w h.columns at) (k + 1) used
    scattering-skip v =
        let e : pixel_valid m (pixel_of h (tile_of h n) k) ≡ false = ap (pixel_valid m) pixel-is ∙ v in
        record {
          asked = s.asked;
          stepped = stepped-skip s.stepped r v;
          same = s.same ∙ painted_same start _ _ _ (λ c q. sym (upto-skips h s.asked.shaped m n s.asked.below k inside e c));
        }

    pub scattering-turn : (b : Bool) → pixel_valid m at.pixel ≡ b
        → Scattering h t n m words start size (cond b (set image (at.pixel * h.depth + t.d) (get_or words used 0)) image) (cursor_next t.w h.columns at) (k + 1) (used + cond b 1 0)
    scattering-turn true v = scattering-valid v
    scattering-turn false v = let z : used + 0 ≡ used = omega arith in rw (z) (scattering-skip v)
