-- Only as many words of a block matter as its tile has valid pixels.
-- Assumes nothing.
use mathlib.Core.Path.{◌≡◌, ◌∙◌, sym, ap, refl}
use mathlib.Core.Bool.{Bool, true, false}
use mathlib.Core.List.{List, ◌++◌}
use Prim.Native.Nat.{ℕ, ◌+◌, ◌/◌, ◌≤◌, ◌<◌}
use native.Mathlib.Omega.{arith}
use lib.ListN.{length, get_or-append}
use Rattle.lerc_header.specs.declared.Shape.{Shape}
use Rattle.lerc_header.specs.Shape.{Shaped, block_count}
use Rattle.lerc_mask.specs.Mask.{pixel_valid}
use Rattle.lerc_image.specs.Geometry.{tile_of, tile_size, pixel_of, cell_of, place_in, valid_in_tile}
use Rattle.lerc_image.specs.Paint.{in_block, index_of, word_of, scattered}
use Rattle.lerc_image.proofs.Partition.{place-lt, cell-back, cell-pixel}
use Rattle.lerc_image.proofs.Painting.{painted-none, painted-words}
use Rattle.lerc_image.proofs.Upto.{inside}
use Rattle.lerc_image.proofs.Cursors.{rank_mono, rank-more}

module _ (h : Shape) (s : Shaped h) (m : List ℕ) (n : ℕ) (l : n < block_count h) where
  -- a cell's index is below the count
  pub index-lt : (c : ℕ) → in_block h m n c ≡ true → index_of h m c < valid_in_tile h m (tile_of h n)
  unfolding index_of
  index-lt c e =
      let i = inside h m n c e in
      let k = place_in h c in
      let r : k < tile_size (tile_of h n) = rw i.block at (place-lt h s c i.below) in
      let back : cell_of h n k ≡ c = rw i.block at (cell-back h s c i.below) in
      let p : pixel_of h (tile_of h n) k ≡ c / h.depth = sym (cell-pixel h s n k l r) ∙ ap (λ (x : ℕ). x / h.depth) back in
      let v : pixel_valid m (pixel_of h (tile_of h n) k) ≡ true = ap (pixel_valid m) p ∙ i.valid in
      rw i.block (omega (arith, rank-more h m (tile_of h n) k true v, rank_mono h m (tile_of h n) (k + 1) (tile_size (tile_of h n)) (let q : k + 1 ≤ tile_size (tile_of h n) = omega arith in q)))

  pub scattered-front : (words rest image : List ℕ) → length words ≡ valid_in_tile h m (tile_of h n) → scattered h m n (words ++ rest) image ≡ scattered h m n words image
  scattered-front words rest image e =
      painted-words image (word_of h m (λ i. words ++ rest)) (word_of h m (λ i. words)) (in_block h m n)
      (λ c q. get_or-append words rest 0 (index_of h m c) (let k : index_of h m c < length words = rw (e) (index-lt c q) in k))

  -- a tile without valid pixels
  pub scattered-none : (words image : List ℕ) → valid_in_tile h m (tile_of h n) ≡ 0 → image ≡ scattered h m n words image
  scattered-none words image e = painted-none image _ (in_block h m n) (λ c q. none c (in_block h m n c) refl)
    where
      none : (c : ℕ) (b : Bool) → in_block h m n c ≡ b → b ≡ false
      none c true q = absurd (omega (arith, index-lt c q))
      none c false q = refl
