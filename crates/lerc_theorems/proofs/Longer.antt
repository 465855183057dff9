-- A mask beyond its length is not looked at: walk and fill do the same with two masks that agree in the pixels of the image.
-- Assumes nothing.
use mathlib.Core.Path.{◌≡◌, ◌∙◌, sym, ap, refl}
use mathlib.Core.Bool.{◌&&◌}
use mathlib.Core.List.{List, [], ◌∷◌}
use Prim.Native.Nat.{ℕ, zero, suc, ◌+◌, ◌/◌, ◌≤◌, ◌<◌, min}
use native.Mathlib.Nat.{div-lt_iff_lt-mul}
use native.Mathlib.Decide.{dec_lt}
use native.Mathlib.Omega.{arith}
use lib.ListN.{length, get_or, take, length-take}
use lib.Seq.{get_or-take}
use lib.Dec.{ltb}
use borrow.Author.Tests.{le-leb, le-ltb}
use Rattle.lerc_words.specs.Res.{Res, ok, fail, ◌>>=◌, after}
use Rattle.lerc_words.proofs.Counts.{count_same}
use Rattle.lerc_header.specs.declared.Header.{Header}
use Rattle.lerc_header.specs.declared.Shape.{Shape}
use Rattle.lerc_header.specs.Shape.{pixels, cells, block_count, mask_length, Shaped}
use Rattle.lerc_header.specs.Header.{shape_of, extent_of, held}
use Rattle.lerc_header.proofs.Kept.{held-shaped}
use Rattle.lerc_mask.specs.Mask.{pixel_valid}
use Rattle.lerc_ranges.specs.declared.Ranges.{Ranges}
use Rattle.lerc_block.specs.Block.{Block}
use Rattle.lerc_image.specs.Geometry.{tile_of, pixel_of, tile_size, block_of, place_in, rank, valid_in_tile, is_valid_cell}
use Rattle.lerc_image.specs.Paint.{in_block, index_of, word_of, scattered}
use Rattle.lerc_sweep.specs.Sweep.{Way, raw_from, blocks_from, huffman_from, swept}
use Rattle.lerc_image.specs.Blocks.{block_at, chain}
use Rattle.lerc_image.specs.Fill.{fill_says, fill_image}
use Rattle.lerc_image.specs.Walk.{way_walked, body_walked, walk_says}
use Rattle.lerc_image.proofs.Partition.{block-lt, place-lt, pixel-lt}
use Rattle.lerc_image.proofs.Chain.{fronted, chain-none, chain-front}
use Rattle.lerc_image.proofs.Painting.{painted_same, painted-words}
use Rattle.lerc_image.proofs.Upto.{inside}
use Rattle.lerc_fills.specs.Each.{filled_of, fill_each}

-- both masks have the length, and agree in each pixel of the image
pub record MaskAlike (h : Shape) (m q : List ℕ) : Type 0 where
  pub long : mask_length h ≤ length m
  pub other : mask_length h ≤ length q
  pub same : (p : ℕ) → p < pixels h → pixel_valid m p ≡ pixel_valid q p

-- so do a mask and its first bytes
pub alike-take : (h : Shape) (m q : List ℕ) → take (mask_length h) m ≡ q → mask_length h ≤ length q → MaskAlike h m q
unfolding pixel_valid
alike-take h m q e l =
    let z : min (mask_length h) (length m) ≡ length q = sym (length-take (mask_length h) m) ∙ ap length e in
    record { long = omega (arith, z); other = l; same = same }
  where
    same : (p : ℕ) → p < pixels h → pixel_valid m p ≡ pixel_valid q p
    same p u = let z : p / 8 < mask_length h = omega arith in rw (← e, get_or-take (mask_length h) m (p / 8) 0 z)

module _ (h : Shape) (s : Shaped h) (m q : List ℕ) (a : MaskAlike h m q) where
  rank_same : (n : ℕ) → n < block_count h → (k : ℕ) → k ≤ tile_size (tile_of h n) → rank h m (tile_of h n) k ≡ rank h q (tile_of h n) k
  unfolding rank
  rank_same n l k u = count_same k _ _ (λ i v. a.same (pixel_of h (tile_of h n) i) (pixel-lt h s n i l (omega (arith, u))))

  pub tile-same : (n : ℕ) → n < block_count h → valid_in_tile h m (tile_of h n) ≡ valid_in_tile h q (tile_of h n)
  tile-same n l = rank_same n l (tile_size (tile_of h n)) (omega arith)

  pub valid_same : (c : ℕ) → is_valid_cell h m c ≡ is_valid_cell h q c
  unfolding is_valid_cell
  valid_same c = go (dec_lt c (cells h))
    where
      go : Dec (c < cells h) → (ltb c (cells h) && pixel_valid m (c / h.depth)) ≡ (ltb c (cells h) && pixel_valid q (c / h.depth))
      go (yes l) = rw (a.same (c / h.depth) ((div-lt_iff_lt-mul s.depth.0).1 l))
      go (no l) = rw (le-ltb c (cells h) (omega arith))

  block-cells : (n c : ℕ) → in_block h m n c ≡ in_block h q n c
  unfolding in_block
  block-cells n c = rw (valid_same c)

  pub index_same : (c : ℕ) → c < cells h → index_of h m c ≡ index_of h q c
  unfolding index_of
  index_same c l = rank_same (block_of h c) (block-lt h s c l) (place_in h c) (let z = place-lt h s c l in omega (arith, z))

  pub scattered-same : (n : ℕ) (words image : List ℕ) → scattered h m n words image ≡ scattered h q n words image
  scattered-same n words image =
      painted_same image (word_of h m (λ i. words)) (in_block h m n) (in_block h q n) (λ c l. block-cells n c)
      ∙ painted-words image (word_of h m (λ i. words)) (word_of h q (λ i. words)) (in_block h q n) (λ c e. rw (index_same c (inside h q n c e).below))

-- a header that keeps the rules
module _ (b : List ℕ) (h : Header) (w : held h (length b) ≡ ok (extent_of h)) (m q : List ℕ) (a : MaskAlike (shape_of h) m q) where
  shaped : Shaped (shape_of h)
  shaped = held-shaped h (length b) w

  pub block_same : (s maxima : List ℕ) (n at : ℕ) → n < block_count (shape_of h) → block_at s h maxima m n at ≡ block_at s h maxima q n at
  unfolding block_at
  block_same s maxima n at l = rw (tile-same (shape_of h) shaped m q a n l)

  pub chain_same : (s maxima : List ℕ) (f n at : ℕ) → n + f ≤ block_count (shape_of h) → chain s h maxima m f n at ≡ chain s h maxima q f n at
  chain_same s maxima zero n at l = chain-none s h maxima m n at ∙ sym (chain-none s h maxima q n at)
  chain_same s maxima (suc f) n at l =
      rw (chain-front s h maxima m f n at, chain-front s h maxima q f n at, block_same s maxima n at (omega arith)) (on (block_at s h maxima q n at) (λ i. chain_same s maxima f (suc n) i (omega arith)))
    where
      on : (k : Res Block) → ((i : ℕ) → chain s h maxima m f (suc n) i ≡ chain s h maxima q f (suc n) i)
          → (k >>= λ d. chain s h maxima m f (suc n) d.next >>= λ c. ok (fronted at d c)) ≡ (k >>= λ d. chain s h maxima q f (suc n) d.next >>= λ c. ok (fronted at d c))
      on (ok d) g = rw (g d.next)
      on (fail r) g = refl

  way_same : (s maxima : List ℕ) (sweep : ℕ) (y : Way) → way_walked s h maxima m sweep y ≡ way_walked s h maxima q sweep y
  unfolding way_walked
  way_same s maxima sweep (raw_from at) = refl
  way_same s maxima sweep (blocks_from at) = chain_same s maxima (block_count (shape_of h)) 0 at (omega arith)
  way_same s maxima sweep (huffman_from delta mode) = refl

  body_same : (s maxima : List ℕ) (at : ℕ) → body_walked s h maxima m at ≡ body_walked s h maxima q at
  unfolding body_walked
  body_same s maxima at = on (swept s h.kind h.error at)
    where
      on : (y : Res Way) → (y >>= way_walked s h maxima m at) ≡ (y >>= way_walked s h maxima q at)
      on (ok y) = way_same s maxima at y
      on (fail r) = refl

  pub walk_same : (r : Ranges) (entries : ℕ) → walk_says b h r m entries ≡ walk_says b h r q entries
  unfolding walk_says
  walk_same r entries = rw (w, le-leb _ _ a.long, le-leb _ _ a.other, body_same (take h.size b) r.max r.at)

  pub fill-same : (r : Ranges) (list : List ℕ) (n room : ℕ) → fill_says b h r m list n room ≡ fill_says b h r q list n room
  unfolding fill_says
  fill-same r list n room = go (dec_lt n (block_count (shape_of h)))
    where
      go : Dec (n < block_count (shape_of h)) → fill_says b h r m list n room ≡ fill_says b h r q list n room
      go (yes l) = rw (w, le-leb _ _ a.long, le-leb _ _ a.other, block_same (take h.size b) r.max n (get_or list n 0) l)
      go (no l) = rw (w, le-ltb n (block_count (shape_of h)) (omega arith))

  pub image-same : (r : Ranges) (list : List ℕ) (n : ℕ) (image : List ℕ) → fill_image b h r m list n image ≡ fill_image b h r q list n image
  unfolding fill_image
  image-same r list n image = rw (fill-same r list n (length image)) (on (fill_says b h r q list n (length image)))
    where
      on : (k : Res Block) → after k image (λ d. scattered (shape_of h) m n d.words image) ≡ after k image (λ d. scattered (shape_of h) q n d.words image)
      on (ok d) = scattered-same (shape_of h) shaped m q a n d.words image
      on (fail r) = refl

  pub each_same : (r : Ranges) (list ns image : List ℕ) → fill_each b h r m list ns image ≡ fill_each b h r q list ns image
  unfolding fill_each
  each_same r list [] image = refl
  each_same r list (n ∷ ns) image = rw (image-same r list n image) (each_same r list ns (fill_image b h r q list n image))

  pub filled-same : (r : Ranges) (list : List ℕ) (room : ℕ) (ns : List ℕ) → filled_of b h r m list room ns ≡ filled_of b h r q list room ns
  unfolding filled_of
  filled-same r list room [] = refl
  filled-same r list room (n ∷ ns) = rw (fill-same r list n room, filled-same r list room ns)
