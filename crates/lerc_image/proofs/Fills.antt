-- Demand 3 over the definitions: fills in any order, repeats and numbers past the count included.
-- Assumes nothing.
use mathlib.Core.Path.{◌≡◌, ◌∙◌, sym, ap, refl}
use mathlib.Core.Bool.{Bool, true, false, cond, ◌&&◌, ◌||◌, and-false}
use mathlib.Core.List.{List, [], ◌∷◌}
use Prim.Native.Nat.{ℕ, ◌<◌}
use native.Mathlib.Decide.{dec_lt}
use native.Mathlib.Omega.{arith}
use lib.ListN.{length, get_or}
use lib.Dec.{eqb}
use borrow.Author.Tests.{lt-ltb, le-ltb}
use Rattle.lerc_header.specs.declared.Shape.{Shape}
use Rattle.lerc_header.specs.Shape.{block_count, Shaped}
use Rattle.lerc_image.specs.Geometry.{block_of, is_valid_cell}
use Rattle.lerc_image.specs.Paint.{painted, in_block, word_of, filled_block, fills, among}
use Rattle.lerc_image.proofs.Partition.{block-lt}
use Rattle.lerc_image.proofs.Painting.{painted-none, painted_same, painted-cell, painted-twice, painted-words}
use Rattle.lerc_image.proofs.Upto.{inside, valid-below}

module _ (h : Shape) (s : Shaped h) (m : List ℕ) (words : ℕ → List ℕ) where
  -- one fill, with the word of a cell that does not speak of the block filled
  pub filled_is : (n : ℕ) (image : List ℕ) → filled_block h m words n image ≡ painted image (in_block h m n) (word_of h m words)
  filled_is n image = go (dec_lt n (block_count h))
    where
      go : Dec (n < block_count h) → filled_block h m words n image ≡ painted image (in_block h m n) (word_of h m words)
      go (yes p) =
          rw (lt-ltb _ _ p)
          (painted-words image _ (word_of h m words) (in_block h m n) (λ c e. rw (inside h m n c e).block))
      go (no p) = rw (le-ltb n (block_count h) (omega arith)) (painted-none image _ _ (λ c l. none c (in_block h m n c) refl))
        where
          none : (c : ℕ) (b : Bool) → in_block h m n c ≡ b → b ≡ false
          none c true e = let i = inside h m n c e in absurd (omega (arith, block-lt h s c i.below, i.block))
          none c false e = refl

  step : (v : Bool) (b n : ℕ) (t : Bool) → ((v && t) || (v && eqb b n)) ≡ (v && (eqb b n || t))
  step true b n t = swap t (eqb b n)
    where
      swap : (x y : Bool) → (x || y) ≡ (y || x)
      swap true true = refl
      swap true false = refl
      swap false true = refl
      swap false false = refl
  step false b n t = refl

  pub fills-is : (ns image : List ℕ) → fills h m words ns image ≡ painted image (λ c. is_valid_cell h m c && among ns (block_of h c)) (word_of h m words)
  unfolding in_block
  fills-is [] image = painted-none image _ _ (λ c l. and-false (is_valid_cell h m c))
  fills-is (n ∷ ns) image =
      fills-is ns (filled_block h m words n image)
      ∙ ap (λ (x : List ℕ). painted x (λ c. is_valid_cell h m c && among ns (block_of h c)) (word_of h m words)) (filled_is n image)
      ∙ painted-twice image (word_of h m words) (in_block h m n) (λ c. is_valid_cell h m c && among ns (block_of h c))
      ∙ painted_same image (word_of h m words) _ _ (λ c l. step (is_valid_cell h m c) (block_of h c) n (among ns (block_of h c)))

  -- each cell
  pub fills-cell : (ns image : List ℕ) (c : ℕ) → c < length image
      → get_or (fills h m words ns image) c 0 ≡ cond (is_valid_cell h m c && among ns (block_of h c)) (word_of h m words c) (get_or image c 0)
  fills-cell ns image c l = rw (fills-is ns image) (painted-cell image (word_of h m words) _ c l)

  -- every number named
  pub fills-all : (ns image : List ℕ) → ((n : ℕ) → n < block_count h → among ns n ≡ true) → fills h m words ns image ≡ painted image (is_valid_cell h m) (word_of h m words)
  fills-all ns image f = fills-is ns image ∙ painted_same image _ _ _ (λ c l. go c (is_valid_cell h m c) refl)
    where
      go : (c : ℕ) (b : Bool) → is_valid_cell h m c ≡ b → (b && among ns (block_of h c)) ≡ b
      go c true e = f (block_of h c) (block-lt h s c (valid-below h m c e))
      go c false e = refl

  -- order and repeats do not matter: only which numbers below the count are there
  pub fills-order : (ns ms image : List ℕ) → ((n : ℕ) → n < block_count h → among ns n ≡ among ms n) → fills h m words ns image ≡ fills h m words ms image
  fills-order ns ms image f = fills-is ns image ∙ painted_same image _ _ _ (λ c l. go c (is_valid_cell h m c) refl) ∙ sym (fills-is ms image)
    where
      go : (c : ℕ) (b : Bool) → is_valid_cell h m c ≡ b → (b && among ns (block_of h c)) ≡ (b && among ms (block_of h c))
      go c true e = f (block_of h c) (block-lt h s c (valid-below h m c e))
      go c false e = refl
