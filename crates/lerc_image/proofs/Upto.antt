-- The valid cells of a block below a place: what one turn of the loop adds.
-- Assumes nothing.
use mathlib.Core.Path.{◌≡◌, ◌∙◌, sym, ap, refl}
use mathlib.Core.Bool.{Bool, true, false, ◌&&◌, and-eq-true_iff, and-false, and-true}
use mathlib.Core.Logic.{◌≢◌}
use mathlib.Core.List.{List}
use Prim.Native.Nat.{ℕ, ◌+◌, ◌/◌, ◌<◌}
use native.Mathlib.Decide.{dec_lt}
use native.Mathlib.Omega.{arith}
use lib.Dec.{ltb, eqb}
use borrow.Author.Tests.{lt-ltb, le-ltb, eq-eqb, ltb-true, eqb-true, eqb-false}
use Rattle.lerc_header.specs.declared.Shape.{Shape}
use Rattle.lerc_header.specs.Shape.{cells, block_count, Shaped}
use Rattle.lerc_mask.specs.Mask.{pixel_valid}
use Rattle.lerc_image.specs.Geometry.{tile_of, tile_size, pixel_of, cell_of, block_of, place_in, is_valid_cell}
use Rattle.lerc_image.specs.Paint.{in_block}
use Rattle.lerc_image.proofs.Partition.{place-lt, cell-back, cell-lt, cell-pixel, cell-block, cell-place}

unfoldable pub upto : Shape → List ℕ → ℕ → ℕ → ℕ → Bool
upto h m n k c = in_block h m n c && ltb (place_in h c) k

pub record Inside (h : Shape) (m : List ℕ) (n c : ℕ) : Type 0 where
  pub below : c < cells h
  pub valid : pixel_valid m (c / h.depth) ≡ true
  pub block : block_of h c ≡ n

pub inside : (h : Shape) (m : List ℕ) (n c : ℕ) → in_block h m n c ≡ true → Inside h m n c
unfolding in_block is_valid_cell
inside h m n c e =
    let t = (and-eq-true_iff _ _).0 e in
    let u = (and-eq-true_iff _ _).0 t.0 in
    record { below = ltb-true _ _ u.0; valid = u.1; block = eqb-true _ _ t.1 }

pub valid-below : (h : Shape) (m : List ℕ) (c : ℕ) → is_valid_cell h m c ≡ true → c < cells h
unfolding is_valid_cell
valid-below h m c e = ltb-true _ _ ((and-eq-true_iff _ _).0 e).0

pub upto_zero : (h : Shape) (m : List ℕ) (n c : ℕ) → upto h m n 0 c ≡ false
unfolding upto
upto_zero h m n c = rw (le-ltb (place_in h c) 0 (omega arith)) (and-false (in_block h m n c))

near : (i k : ℕ) → i ≢ k → ltb i (k + 1) ≡ ltb i k
near i k d = go (dec_lt i k)
  where
    go : Dec (i < k) → ltb i (k + 1) ≡ ltb i k
    go (yes p) = rw (lt-ltb i k p, lt-ltb i (k + 1) (omega arith))
    go (no p) = rw (le-ltb i k (omega arith), le-ltb i (k + 1) (omega arith))

module _ (h : Shape) (s : Shaped h) (m : List ℕ) (n : ℕ) (l : n < block_count h) where
  -- the whole tile
  pub upto_all : (c : ℕ) → upto h m n (tile_size (tile_of h n)) c ≡ in_block h m n c
  unfolding upto
  upto_all c = go (in_block h m n c) refl
    where
      go : (b : Bool) → in_block h m n c ≡ b → (b && ltb (place_in h c) (tile_size (tile_of h n))) ≡ b
      go true e =
          let i = inside h m n c e in
          let p : place_in h c < tile_size (tile_of h n) = rw i.block at (place-lt h s c i.below) in
          lt-ltb _ _ p
      go false e = refl

  module _ (k : ℕ) (r : k < tile_size (tile_of h n)) where
    pub cell-in-block : in_block h m n (cell_of h n k) ≡ pixel_valid m (pixel_of h (tile_of h n) k)
    unfolding in_block is_valid_cell
    cell-in-block =
        rw (lt-ltb _ _ (cell-lt h s n k l r), cell-pixel h s n k l r, eq-eqb _ _ (cell-block h s n k l r)) (and-true (pixel_valid m (pixel_of h (tile_of h n) k)))

    -- a turn adds at most the one cell
    pub upto-other : (c : ℕ) → c ≢ cell_of h n k → upto h m n (k + 1) c ≡ upto h m n k c
    unfolding upto
    upto-other c d = go (in_block h m n c) refl
      where
        go : (b : Bool) → in_block h m n c ≡ b → (b && ltb (place_in h c) (k + 1)) ≡ (b && ltb (place_in h c) k)
        go true e =
            let i = inside h m n c e in
            let f : cell_of h n (place_in h c) ≡ c = rw i.block at (cell-back h s c i.below) in
            let g : place_in h c ≢ k = λ q. d (sym f ∙ ap (cell_of h n) q) in
            near (place_in h c) k g
        go false e = refl

    cell-upto : (b : Bool) (j : ℕ) → pixel_valid m (pixel_of h (tile_of h n) k) ≡ b → upto h m n j (cell_of h n k) ≡ (b && ltb k j)
    unfolding upto
    cell-upto b j e = rw (cell-in-block, e, cell-place h s n k l r)

    -- a valid pixel's turn adds its cell
    pub upto-adds : pixel_valid m (pixel_of h (tile_of h n) k) ≡ true → upto h m n (k + 1) (cell_of h n k) ≡ true
    upto-adds e = cell-upto true (k + 1) e ∙ lt-ltb k (k + 1) (omega arith)

    pub upto_new : upto h m n k (cell_of h n k) ≡ false
    upto_new = cell-upto _ k refl ∙ rw (le-ltb k k (omega arith)) (and-false (pixel_valid m (pixel_of h (tile_of h n) k)))

    -- another's adds nothing
    pub upto-skips : pixel_valid m (pixel_of h (tile_of h n) k) ≡ false → (c : ℕ) → upto h m n (k + 1) c ≡ upto h m n k c
    upto-skips e c = go (eqb c (cell_of h n k)) refl
      where
        go : (b : Bool) → eqb c (cell_of h n k) ≡ b → upto h m n (k + 1) c ≡ upto h m n k c
        go true q = rw (eqb-true c (cell_of h n k) q, cell-upto false (k + 1) e, cell-upto false k e)
        go false q = upto-other c (eqb-false c (cell_of h n k) q)
