-- The valid pixels of all tiles add to valid times depth.
-- Assumes nothing.
use mathlib.Core.Path.{◌≡◌, ◌∙◌, sym, refl}
use mathlib.Core.Bool.{Bool, true, false, cond, ◌&&◌, and-true, and-false}
use mathlib.Core.List.{List}
use Prim.Native.Nat.{ℕ, zero, suc, ◌+◌, ◌-◌, ◌*◌, ◌/◌, ◌≤◌, ◌<◌}
use native.Mathlib.Nat.{mul-le-mul_right}
use native.Mathlib.Numerals.{add-one}
use native.Mathlib.Decide.{dec_lt}
use native.Mathlib.Omega.{arith}
use lib.Dec.{ltb, eqb}
use borrow.Author.Tests.{lt-ltb, le-ltb, eq-eqb, ne_eqb}
use Rattle.lerc_header.specs.declared.Shape.{Shape}
use Rattle.lerc_words.specs.Lists.{count, total}
use Rattle.lerc_header.specs.Shape.{pixels, cells, block_count, Shaped}
use Rattle.lerc_mask.specs.Mask.{pixel_valid}
use Rattle.lerc_image.specs.Geometry.{tile_of, tile_size, pixel_of, cell_of, block_of, is_valid_cell, rank, valid_in_tile}
use Rattle.lerc_image.specs.Paint.{in_block}
use Rattle.lerc_image.proofs.Partition.{block-lt, cell-lt}
use Rattle.lerc_image.proofs.Upto.{upto, upto_zero, upto_all, upto-other, upto-adds, upto_new, upto-skips}
use Rattle.lerc_words.proofs.Counts.{total-more, total-le, count-le, count_same, count_none, count-one, count-sum, count-rows}
use Rattle.lerc_image.proofs.Cursors.{rank-zero, rank-more}

module _ (h : Shape) (s : Shaped h) (m : List ℕ) where
  -- a tile's valid pixels, counted over all cells
  module _ (n : ℕ) (l : n < block_count h) where
    more : (k : ℕ) → k < tile_size (tile_of h n) → (b : Bool) → pixel_valid m (pixel_of h (tile_of h n) k) ≡ b
        → count (cells h) (upto h m n (k + 1)) ≡ count (cells h) (upto h m n k) + cond b 1 0
    more k r true e = count-one _ _ (cell_of h n k) (upto_new h s m n l k r) (upto-adds h s m n l k r e) (upto-other h s m n l k r) (cells h) (cell-lt h s n k l r)
    more k r false e = count_same (cells h) _ _ (λ c q. upto-skips h s m n l k r e c) ∙ (let z : count (cells h) (upto h m n k) ≡ count (cells h) (upto h m n k) + 0 = omega arith in z)

    rank-count : (k : ℕ) → k ≤ tile_size (tile_of h n) → rank h m (tile_of h n) k ≡ count (cells h) (upto h m n k)
    rank-count zero r = sym (count_none (cells h) _ (λ c q. upto_zero h m n c) ∙ sym (rank-zero h m (tile_of h n)))
    rank-count (suc k) r =
        rw (sym (add-one k))
        (rank-more h m (tile_of h n) k _ refl ∙ rw (rank-count k (omega arith)) (sym (more k (omega arith) _ refl)))

    pub tile-count : valid_in_tile h m (tile_of h n) ≡ count (cells h) (in_block h m n)
    tile-count = rank-count (tile_size (tile_of h n)) (omega arith) ∙ count_same (cells h) _ _ (λ c q. upto_all h s m n l c)

  -- the blocks below n
  below : ℕ → ℕ → Bool
  below n c = is_valid_cell h m c && ltb (block_of h c) n

  one_more : (a : Bool) (b n : ℕ) → cond (a && ltb b n) 1 0 + cond (a && eqb b n) 1 0 ≡ cond (a && ltb b (suc n)) 1 0
  one_more false b n = refl
  one_more true b n = go (dec_lt b n) (dec_lt n b)
    where
      go : Dec (b < n) → Dec (n < b) → cond (ltb b n) 1 0 + cond (eqb b n) 1 0 ≡ cond (ltb b (suc n)) 1 0
      go (yes p) q = rw (lt-ltb b n p, ne_eqb b n (λ e. let z : b ≡ n = e in absurd (omega arith)), lt-ltb b (suc n) (omega arith))
      go (no p) (yes q) = rw (le-ltb b n (omega arith), ne_eqb b n (λ e. let z : b ≡ n = e in absurd (omega arith)), le-ltb b (suc n) (omega arith))
      go (no p) (no q) = rw (le-ltb b n (omega arith), eq-eqb b n (omega arith), lt-ltb b (suc n) (omega arith))

  blocks-below : (n : ℕ) → n ≤ block_count h → total n (λ i. valid_in_tile h m (tile_of h i)) ≡ count (cells h) (below n)
  unfolding total below in_block
  blocks-below zero l = sym (count_none (cells h) _ (λ c q. rw (le-ltb (block_of h c) 0 (omega arith)) (and-false (is_valid_cell h m c))))
  blocks-below (suc n) l =
      rw (blocks-below n (omega arith), tile-count n (omega arith))
      (count-sum (cells h) _ _ _ (λ c. one_more (is_valid_cell h m c) (block_of h c) n))

  pub words-sum : total (block_count h) (λ n. valid_in_tile h m (tile_of h n)) ≡ count (pixels h) (pixel_valid m) * h.depth
  unfolding below is_valid_cell
  words-sum =
      blocks-below (block_count h) (omega arith)
      ∙ count_same (cells h) _ (λ c. pixel_valid m (c / h.depth))
      (λ c l. rw (lt-ltb _ _ l, lt-ltb _ _ (block-lt h s c l)) (and-true _))
      ∙ count-rows h.depth (pixels h) (pixel_valid m)

-- what the blocks up to one add fits the image
pub sum_fits : (h : Shape) → Shaped h → (m : List ℕ) (n : ℕ) → n < block_count h
    → total n (λ i. valid_in_tile h m (tile_of h i)) + valid_in_tile h m (tile_of h n) ≤ cells h
sum_fits h s m n l =
    let f : ℕ → ℕ = λ i. valid_in_tile h m (tile_of h i) in
    let e : block_count h - (n + 1) + (n + 1) ≡ block_count h = omega arith in
    let a : total (n + 1) f ≤ total (block_count h) f = rw (e) at (total-le f (n + 1) (block_count h - (n + 1))) in
    let b : count (pixels h) (pixel_valid m) * h.depth ≤ cells h = mul-le-mul_right h.depth (count-le (pixels h) (pixel_valid m)) in
    omega (arith, total-more n f, a, b, words-sum h s m)
