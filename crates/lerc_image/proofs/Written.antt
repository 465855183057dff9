-- Starts and words written block by block: those of an accepted chain.
-- Assumes nothing.
use mathlib.Core.Path.{◌≡◌, ◌∙◌, sym, ap, refl}
use mathlib.Core.Bool.{true, ◌||◌, or-true}
use mathlib.Core.List.{List, [], ◌∷◌}
use Prim.Native.Nat.{ℕ, zero, suc, ◌+◌, ◌≤◌, ◌<◌}
use native.Mathlib.Decide.{dec_lt}
use native.Mathlib.Nat.{add-zero, zero-add}
use native.Mathlib.Omega.{arith}
use lib.ListN.{get_or}
use lib.Dec.{eqb}
use borrow.Author.Tests.{lt-ltb, eq-eqb}
use Rattle.lerc_words.specs.declared.Refusal.{Refusal}
use Rattle.lerc_words.specs.Res.{ok, fail}
use Rattle.lerc_words.proofs.Binding.{ok-is}
use Rattle.lerc_header.specs.declared.Header.{Header}
use Rattle.lerc_header.specs.Header.{shape_of}
use Rattle.lerc_header.specs.Shape.{block_count, Shaped}
use Rattle.lerc_block.specs.Block.{Block}
use Rattle.lerc_image.specs.Paint.{scattered, filled_block, fills, among}
use Rattle.lerc_image.specs.Blocks.{block_at, Chain, chain, all_blocks}
use Rattle.lerc_image.specs.Tiles.{starts_from, image_from, tiles_image}
use Rattle.lerc_image.proofs.Chain.{chain-none, chain-parts}
use Rattle.lerc_image.proofs.Fills.{fills-all}

-- f numbers from n on
abbrev numbers : ℕ → ℕ → List ℕ
numbers n zero = []
numbers n (suc f) = n ∷ numbers (suc n) f

among-numbers : (n f i : ℕ) → n ≤ i → i < n + f → among (numbers n f) i ≡ true
among-numbers n zero i l r = absurd (omega arith)
among-numbers n (suc f) i l r = go (dec_lt n i) (λ p. among-numbers (suc n) f i p (omega arith))
  where
    go : Dec (n < i) → (n < i → among (numbers (suc n) f) i ≡ true) → (eqb i n || among (numbers (suc n) f) i) ≡ true
    go (yes p) others = rw (others p) (or-true (eqb i n))
    go (no p) others = let z : i ≡ n = omega arith in rw (eq-eqb i n z)

module _ (s : List ℕ) (h : Header) (maxima m : List ℕ) where
  -- ---- one block more

  pub starts_none : (n at : ℕ) → starts_from s h maxima m zero n at ≡ []
  unfolding starts_from
  starts_none n at = refl

  pub starts-last : (f n at : ℕ) {why : Refusal} → block_at s h maxima m n at ≡ fail why → starts_from s h maxima m (suc f) n at ≡ at ∷ []
  unfolding starts_from
  starts-last f n at e = rw (e)

  pub starts_more : (f n at : ℕ) {b : Block} → block_at s h maxima m n at ≡ ok b → starts_from s h maxima m (suc f) n at ≡ at ∷ starts_from s h maxima m f (suc n) b.next
  unfolding starts_from
  starts_more f n at e = rw (e)

  pub image-none : (n at : ℕ) (image : List ℕ) → image_from s h maxima m zero n at image ≡ image
  unfolding image_from
  image-none n at image = refl

  pub image-last : (f n at : ℕ) (image : List ℕ) {why : Refusal} → block_at s h maxima m n at ≡ fail why → image_from s h maxima m (suc f) n at image ≡ image
  unfolding image_from
  image-last f n at image e = rw (e)

  pub image-more : (f n at : ℕ) (image : List ℕ) {b : Block} → block_at s h maxima m n at ≡ ok b
      → image_from s h maxima m (suc f) n at image ≡ image_from s h maxima m f (suc n) b.next (scattered (shape_of h) m n b.words image)
  unfolding image_from
  image-more f n at image e = rw (e)

  -- ---- of an accepted chain

  starts-are : (f n at : ℕ) (c : Chain) → chain s h maxima m f n at ≡ ok c → starts_from s h maxima m f n at ≡ c.starts
  starts-are zero n at c e = starts_none n at ∙ ap (λ (x : Chain). x.starts) (ok-is (sym (chain-none s h maxima m n at) ∙ e))
  starts-are (suc f) n at c e =
      let p = chain-parts s h maxima m f n at c e in
      starts_more f n at p.first-is
      ∙ ap (λ (x : List ℕ). at ∷ x) (starts-are f (suc n) p.block.next p.others p.others-are)
      ∙ sym (ap (λ (x : Chain). x.starts) p.whole)

  -- the blocks one by one are fills by their numbers
  image-fills : (words : ℕ → List ℕ) (f n at : ℕ) (c : Chain) (image : List ℕ) → chain s h maxima m f n at ≡ ok c → n + f ≤ block_count (shape_of h)
      → ((i : ℕ) → words (n + i) ≡ get_or c.words i []) → image_from s h maxima m f n at image ≡ fills (shape_of h) m words (numbers n f) image
  image-fills words zero n at c image e l w = image-none n at image
  image-fills words (suc f) n at c image e l w =
      let p = chain-parts s h maxima m f n at c e in
      let here : words n ≡ p.block.words = rw (add-zero, p.whole) at (w 0) in
      let below : n < block_count (shape_of h) = omega arith in
      let fill : filled_block (shape_of h) m words n image ≡ scattered (shape_of h) m n p.block.words image = rw (lt-ltb _ _ below, here) in
      image-more f n at image p.first-is
      ∙ image-fills words f (suc n) p.block.next p.others (scattered (shape_of h) m n p.block.words image) p.others-are (omega arith)
      (λ i. let z : n + suc i ≡ suc n + i = omega arith in rw (z, p.whole) at (w (suc i)))
      ∙ sym (ap (fills (shape_of h) m words (numbers (suc n) f)) fill)

  module _ (at : ℕ) {c : Chain} (q : all_blocks s h maxima m at ≡ ok c) where
    pub written-starts : starts_from s h maxima m (block_count (shape_of h)) 0 at ≡ c.starts
    written-starts = starts-are (block_count (shape_of h)) 0 at c q

    pub written-words : Shaped (shape_of h) → (image : List ℕ) → image_from s h maxima m (block_count (shape_of h)) 0 at image ≡ tiles_image h m image c
    written-words p image =
        let words : ℕ → List ℕ = λ n. get_or c.words n [] in
        image-fills words (block_count (shape_of h)) 0 at c image q (omega arith) (λ i. rw (zero-add i))
        ∙ fills-all (shape_of h) p m words (numbers 0 (block_count (shape_of h))) image (λ n l. among-numbers 0 (block_count (shape_of h)) n (omega arith) (omega arith))
