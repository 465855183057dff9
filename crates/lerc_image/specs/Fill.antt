-- Fill: one block by number.
-- Assumes nothing.
use Rattle.std.specs.Prelude.{ℕ, ◌≡◌, ◌&&◌, List, length, get_or, take, leb, ltb}
use Rattle.lerc_words.specs.Res.{Res, ok, ◌>>=◌, require, after}
use Rattle.lerc_header.specs.declared.Header.{Header}
use Rattle.lerc_header.specs.Header.{shape_of, held}
use Rattle.lerc_ranges.specs.declared.Ranges.{Ranges}
use Rattle.lerc_ranges.specs.Ranges.{pairs_right}
use Rattle.lerc_block.specs.Block.{Block}
use Rattle.lerc_image.specs.Geometry.{tile_of, valid_in_tile}
use Rattle.lerc_image.specs.Blocks.{block_at}
use Rattle.lerc_image.specs.Paint.{scattered}

-- "Fill checks 3, 4, 1, 11, 5, 7, then the block at the listed start."
unfoldable pub fill_says : List ℕ → Header → Ranges → List ℕ → List ℕ → ℕ → ℕ → Res Block
fill_says b h r m list n room = do
  e ← held h (length b)
  _ ← require (ltb n e.blocks) 11
  _ ← require (leb e.mask (length m) && leb e.blocks (length list) && leb e.cells room) 5
  _ ← require (pairs_right h.depth r) 7
  block_at (take h.size b) h r.max m n (get_or list n 0)

-- "Fill reports words written, which is its tile's valid pixels"
abbrev pub fill_count : Header → List ℕ → ℕ → Block → Res ℕ
fill_count h m n b = ok (valid_in_tile (shape_of h) m (tile_of (shape_of h) n))

-- the image afterwards
unfoldable pub fill_image : List ℕ → Header → Ranges → List ℕ → List ℕ → ℕ → List ℕ → List ℕ
fill_image b h r m list n image = after (fill_says b h r m list n (length image)) image (λ k. scattered (shape_of h) m n k.words image)

pub record Filled (b : List ℕ) (h : Header) (ranges : Ranges) (m list : List ℕ) (n : ℕ) (r : Res ℕ) (old new : List ℕ) : Type 0 where
  pub says : r ≡ (fill_says b h ranges m list n (length old) >>= fill_count h m n)
  pub image : new ≡ fill_image b h ranges m list n old
