-- What `fill_listed` has done before block n: the accepted blocks below it are in the image.
-- Assumes nothing.
use mathlib.Core.Path.{◌≡◌, ◌∙◌, refl}
use mathlib.Core.Bool.{Bool, true, false}
use mathlib.Core.List.{List}
use Prim.Native.Nat.{ℕ, ◌+◌, ◌≤◌, ◌<◌}
use native.Mathlib.Omega.{arith}
use lib.ListN.{length}
use Rattle.lerc_words.specs.Res.{Res, ok, fail, accepts, after}
use Rattle.lerc_header.specs.declared.Header.{Header}
use Rattle.lerc_header.specs.declared.Extent.{Extent}
use Rattle.lerc_header.specs.Header.{shape_of}
use Rattle.lerc_header.specs.Shape.{Shaped, block_count, cells}
use Rattle.lerc_block.specs.Block.{Block}
use Rattle.lerc_image.specs.Paint.{scattered}
use Rattle.lerc_image.specs.Tiles.{listed_block, listed_words, listed_image}
use Rattle.lerc_image.specs.Parts.{BodyAsked, BlockPut}
use Rattle.lerc_image.proofs.Painting.{length-painted}
use Rattle.lerc_image.proofs.decode.fill_listed.Invariants.Order.{filled_below, below_none, below_more, below-skip, below_all}
use Rattle.lerc_image.proofs.Standing.{shape_is, count-is, cells_are}

-- which blocks are accepted at their listed starts
abbrev accepted : List ℕ → Header → List ℕ → List ℕ → List ℕ → ℕ → Bool
accepted s h maxima m list n = accepts (listed_block s h maxima m list n)

pub record Filling (s : List ℕ) (h : Header) (maxima m list old image : List ℕ) (n : ℕ) : Type 0 where
  pub done : image ≡ filled_below (shape_of h) m (listed_words s h maxima m list) (accepted s h maxima m list) n old

body-shaped : {h : Header} {e : Extent} → BodyAsked h e → Shaped (shape_of h)
body-shaped a = rw (shape_is a) at a.shaped

pub filling-none : (s : List ℕ) {h : Header} {e : Extent} → BodyAsked h e → (maxima m list old : List ℕ) → Filling s h maxima m list old old 0
filling-none s {h} a maxima m list old =
    record { done = below_none (shape_of h) (body-shaped a) m (listed_words s h maxima m list) (accepted s h maxima m list) old }

module _ {s : List ℕ} {h : Header} {maxima m list old image : List ℕ} {n : ℕ} (f : Filling s h maxima m list old image n) where
  pub filling-length : length image ≡ length old
  filling-length = rw f.done (length-painted old _ _)

  module _ {e : Extent} (a : BodyAsked h e) where
    pub filling-room : e.cells ≤ length old → cells e.shape ≤ length image
    filling-room r = rw (shape_is a, filling-length) (rw (cells_are a) at r)

    pub filling-all : e.blocks ≤ n → n ≤ e.blocks → image ≡ listed_image s h maxima m list old
    unfolding listed_image
    filling-all u v =
        let z : n ≡ block_count (shape_of h) = omega (arith, count-is a) in
        rw (z) at f.done ∙ below_all (shape_of h) (body-shaped a) m (listed_words s h maxima m list) (accepted s h maxima m list) old

    pub filling-more : {r : Res ℕ} {next : List ℕ} → n < e.blocks → BlockPut e.shape m n (listed_block s h maxima m list n) r image next
        → Filling s h maxima m list old next (n + 1)
    filling-more l b = record { done = (rw (shape_is a) at b).image ∙ go (listed_block s h maxima m list n) refl }
      where
        go : (x : Res Block) → listed_block s h maxima m list n ≡ x
            → after x image (λ k. scattered (shape_of h) m n k.words image)
            ≡ filled_below (shape_of h) m (listed_words s h maxima m list) (accepted s h maxima m list) (n + 1) old
        go (ok k) q =
            let words : k.words ≡ listed_words s h maxima m list n = rw (q) in
            let right : accepted s h maxima m list n ≡ true = rw (q) in
            let below : n < block_count (shape_of h) = omega (arith, count-is a) in
            rw (f.done, words) (below_more (shape_of h) (body-shaped a) m (listed_words s h maxima m list) (accepted s h maxima m list) old n below right)
        go (fail r) q =
            let right : accepted s h maxima m list n ≡ false = rw (q) in
            f.done ∙ below-skip (shape_of h) (body-shaped a) m (listed_words s h maxima m list) (accepted s h maxima m list) old n right
