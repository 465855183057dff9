-- A block and its tile, and where a pass over the blocks stands before block n.
-- Assumes nothing.
use mathlib.Core.Path.{◌≡◌, ◌∙◌, sym, ap}
use mathlib.Core.Bool.{Bool}
use mathlib.Core.List.{List}
use Prim.Native.Nat.{ℕ, ◌+◌, ◌≤◌, ◌<◌}
use native.Mathlib.Omega.{arith}
use lib.ListN.{length, get_or}
use Rattle.lerc_words.specs.Res.{Res, ok, marked}
use Rattle.lerc_words.proofs.Marking.{marked-is, marked-tells}
use Rattle.lerc_header.specs.declared.Header.{Header}
use Rattle.lerc_header.specs.declared.Extent.{Extent}
use Rattle.lerc_header.specs.declared.Shape.{Shape}
use Rattle.lerc_header.specs.Limits.{cell_limit, depth_limit}
use Rattle.lerc_header.specs.Shape.{Shaped, pixels, block_count, cells}
use Rattle.lerc_header.specs.Header.{shape_of}
use Rattle.lerc_header.proofs.Sizes.{blocks-le}
use Rattle.lerc_block.specs.Block.{Block, block_says, read_block_says, BlockRead}
use Rattle.lerc_block.specs.declared.plan.BlockPlan.{BlockPlan}
use Rattle.lerc_block.specs.Plan.{plan_at, plan_end}
use Rattle.lerc_block.proofs.Accepted.{block_words}
use Rattle.lerc_image.specs.declared.Tile.{Tile}
use Rattle.lerc_image.specs.declared.Position.{Position}
use Rattle.lerc_image.specs.Geometry.{HasTile, tile_of, tile_here, valid_in_tile, position_of, next_of}
use Rattle.lerc_image.specs.Blocks.{block_at}
use Rattle.lerc_image.specs.Tiles.{block_end}
use Rattle.lerc_image.specs.Parts.{TileIn, BodyAsked, BlockTile, Asked, CountAsked, all_valid}
use Rattle.lerc_image.proofs.Partition.{tile-depth}
use Rattle.lerc_image.proofs.Steps.{position_first, position-next, position-within, tile-here}
use Rattle.lerc_image.proofs.Cursors.{tile-in, valid-small}
use Rattle.lerc_image.proofs.Rows.{Carried, carried-next, full-means}
use Rattle.lerc_image.proofs.Reading.{read-block}

-- ---- a block and its tile

pub asked_in : {h : Shape} {t : Tile} {n : ℕ} {start : List ℕ} → Asked h t n start → TileIn h t
asked_in {h} {n = n} a = rw a.tile (tile-in h a.shaped n a.below)

end_marked : (at : ℕ) (m : Res BlockPlan) → plan_end (marked at m) ≡ marked at (plan_end m)
end_marked at m = sym (marked-tells at m (λ p. p.next))

module _ {h : Header} {shape : Shape} {n : ℕ} {t : Tile} (b : BlockTile h shape n t) where
  pub here_in : TileIn shape t
  here_in = rw b.tile (tile-in shape b.shaped n b.below)

  pub here-asked : {image : List ℕ} → cells shape ≤ length image → Asked shape t n image
  here-asked r = record { shaped = b.shaped; below = b.below; tile = b.tile; room = r }

  pub here-depth : t.d < depth_limit
  here-depth = rw b.tile (omega (arith, tile-depth shape b.shaped n b.below, b.shaped.depth.1))

  -- a refusal is at the block's start
  pub here_end : (s : List ℕ) (at : ℕ) (m : List ℕ) → plan_end (marked at (plan_at s at h.kind t.x (valid_in_tile shape m t))) ≡ marked at (block_end s h m n at)
  here_end s at m = end_marked at (plan_at s at h.kind t.x (valid_in_tile shape m t)) ∙ ap (marked at) same_end
    where
      same_end : plan_end (plan_at s at h.kind t.x (valid_in_tile shape m t)) ≡ block_end s h m n at
      same_end = rw (b.tile, b.same)

  pub here-block : (s : List ℕ) (at : ℕ) (maxima m : List ℕ) → marked at (block_says s at h.kind h.error (get_or maxima t.d 0) t.x (valid_in_tile shape m t)) ≡ block_at s h maxima m n at
  unfolding block_at
  here-block s at maxima m = rw (b.tile, b.same)

  -- read with its tile's valid pixels, which are at most 256
  pub here-read : (s : List ℕ) (at : ℕ) (maxima m : List ℕ) {valid : ℕ} → valid ≡ valid_in_tile shape m t
      → marked at (read_block_says s at h.kind h.error (get_or maxima t.d 0) t.x valid) ≡ block_at s h maxima m n at
  here-read s at maxima m q = rw (q) (ap (marked at) (read-block _ _ _ _ _ _ _ (valid-small shape t here_in m)) ∙ here-block s at maxima m)

  pub here-told : (s : List ℕ) (at : ℕ) (maxima m : List ℕ) {valid : ℕ} → valid ≡ valid_in_tile shape m t → {got : Res ℕ} {old new : List ℕ}
      → BlockRead (marked at (read_block_says s at h.kind h.error (get_or maxima t.d 0) t.x valid)) got old new → BlockRead (block_at s h maxima m n at) got old new
  here-told s at maxima m q e = rw (here-read s at maxima m q) at e

  -- a word for each valid pixel
  pub here-words : (s : List ℕ) (at : ℕ) (maxima m : List ℕ) (k : Block) → block_at s h maxima m n at ≡ ok k → length k.words ≡ valid_in_tile shape m (tile_of shape n)
  here-words s at maxima m k e = block_words _ _ _ _ _ _ _ (marked-is at _ (here-block s at maxima m ∙ e)) ∙ ap (valid_in_tile shape m) b.tile

  -- counted once, the next block may have the same tile
  pub here-carried : (m : List ℕ) {valid : ℕ} → valid ≡ valid_in_tile shape m t → Carried shape m (n + 1) valid
  here-carried m q = carried-next shape b.shaped m n _ (q ∙ ap (valid_in_tile shape m) b.tile)

-- the tile at the position of block n
pub tile-at : {shape : Shape} → Shaped shape → {n : ℕ} → n < block_count shape → {p : Position} → p ≡ position_of shape n → {t : Tile} → t ≡ tile_here shape p → t ≡ tile_of shape n
tile-at {shape} s {n} l q e = e ∙ ap (tile_here shape) q ∙ tile-here shape s n l

-- ---- before block n

pub record Standing (h : Header) (e : Extent) (p : Position) (n : ℕ) : Type 0 where
  pub asked : BodyAsked h e
  pub few : n ≤ e.blocks
  pub here : p ≡ position_of e.shape n

-- the extent is the header's own
module _ {h : Header} {e : Extent} (a : BodyAsked h e) where
  pub shape_is : e.shape ≡ shape_of h
  shape_is = ap (λ (x : Extent). x.shape) a.sizes

  pub count-is : e.blocks ≡ block_count (shape_of h)
  count-is = ap (λ (x : Extent). x.blocks) a.sizes

  pub pixels-are : e.pixels ≡ pixels e.shape
  pixels-are = rw a.sizes

  pub cells_are : e.cells ≡ cells (shape_of h)
  cells_are = ap (λ (x : Extent). x.cells) a.sizes

pub standing-none : {h : Header} {e : Extent} → BodyAsked h e → Standing h e (record { x = 0; y = 0; d = 0 }) 0
standing-none {e = e} a = record { asked = a; few = omega arith; here = sym (position_first e.shape a.shaped) }

module _ {h : Header} {e : Extent} {p : Position} {n : ℕ} (w : Standing h e p n) (l : n < e.blocks) where
  below : n < block_count e.shape
  below = rw w.asked.sizes (rw w.asked.sizes at l)

  pub standing-within : HasTile e.shape p
  standing-within = rw w.here (position-within e.shape w.asked.shaped n below)

  pub standing-tile : {t : Tile} → t ≡ tile_here e.shape p → BlockTile h e.shape n t
  standing-tile q = record { shaped = w.asked.shaped; same = shape_is w.asked; below = below; tile = tile-at w.asked.shaped below w.here q }

  -- its valid pixels can be asked for
  pub standing-count : {t : Tile} → t ≡ tile_here e.shape p → {m : List ℕ} {full : Bool} {before : ℕ}
      → full ≡ all_valid h.valid e.pixels m → Carried e.shape m n before → CountAsked e.shape t m full before
  unfolding tile_of
  standing-count q {m} f c =
      let b = standing-tile q in
      record {
        tile = here_in b;
        all = λ z. rw (pixels-are w.asked) at (full-means h.valid e.pixels m (sym f ∙ z));
        same = λ z. rw b.tile (c.same (rw b.tile at z));
      }

  pub standing-few : n < cell_limit
  standing-few = omega (arith, below, blocks-le e.shape w.asked.shaped, w.asked.shaped.few)

  pub standing-next : Standing h e (next_of e.shape p) (n + 1)
  standing-next = record { asked = w.asked; few = omega arith; here = rw w.here (position-next e.shape w.asked.shaped n below) }
