-- lerc_image.rs: its clauses from ours. "THE TILES" says that upstream's walk over all tiles is our chain of blocks over its own sum, painted.
-- Assumes nothing.
use mathlib.Core.Path.{◌≡◌, refl, sym, ap, ◌∙◌}
use mathlib.Core.Bool.{Bool, true, false, cond, ◌&&◌, and-true}
use mathlib.Core.List.{List, [], ◌∷◌}
use mathlib.Core.Option.{some}
use Prim.Native.Nat.{ℕ, zero, suc, ◌+◌, ◌-◌, ◌*◌, ◌≤◌, ◌<◌, min}
use native.Mathlib.Omega.{arith}
use native.Mathlib.Nat.{mul_comm}
use native.Mathlib.Numerals.{add-one}
use native.Mathlib.Decide.{dec_lt}
use borrow.Author.Tests.{lt-ltb, le-ltb, le-leb, lt-leb, eq-eqb, ne_eqb}
use lib.Dec.{ltb, leb, eqb}
use lib.ListN.{length, get_or}
use Rattle.lerc_words.specs.Res.{Res, ok, fail, ◌>>=◌}
use Rattle.lerc_words.proofs.Little.{Bytes}
use Rattle.lerc_header.specs.declared.Header.{Header}
use Rattle.lerc_header.specs.Header.{shape_of}
use Rattle.lerc_header.specs.Shape.{Shaped, cells, block_count}
use Rattle.lerc_header.proofs.Sizes.{blocks-le}
use Rattle.lerc_block.specs.Block.{Block}
use Rattle.lerc_image.specs.declared.Tile.{Tile}
use Rattle.lerc_image.specs.declared.Position.{Position}
use Rattle.lerc_image.specs.Geometry.{tile_of, position_of, HasTile, tile_here, next_of, block_of, is_valid_cell}
use Rattle.lerc_image.specs.Blocks.{Chain}
use Rattle.lerc_image.specs.Paint.{painted, in_block, index_of, word_of, scattered}
use Rattle.lerc_image.proofs.Partition.{block-lt}
use Rattle.lerc_image.proofs.Steps.{position_first, position-last, position-within, position-next, tile-here}
use Rattle.lerc_image.proofs.Painting.{length-painted, painted-cell, is-painted, painted-none, painted_same, painted-words}
use Rattle.lerc_image.proofs.Upto.{valid-below}
use Rattle.lerc_image.proofs.Chain.{fronted}
use Rattle.lerc_numeric.specs.Numeric.{counted_sum}
use Rattle.lerc_overflow.specs.By.{block_at_by, chain_by, all_blocks_by}
use Rattle.lerc_overflow.proofs.Chains.{counted_none, counted-front}
use Rattle.lerc_contracts.specs.Outside.{said, on_some, length_max}
use Rattle.lerc_contracts.specs.Block.{block}
use Rattle.lerc_contracts.specs.Image.{PositionValid, tile, next, tiles}
use Rattle.lerc_contracts.specs.Between.{from, painting, tiled_image, result}
use Rattle.lerc_contracts.specs.ImageClauses.{TilesStep, TilesFrom, TilesIs, PositionClauses, TilesCases}
use Rattle.lerc_contracts.proofs.Block.{block-is}
use Rattle.lerc_contracts.proofs.WithoutNumber.{said-marked}

-- ---- positions

lesser-is : (a b : ℕ) → cond (ltb a b) a b ≡ min b a
lesser-is a b = go (dec_lt a b)
  where
    go : Dec (a < b) → cond (ltb a b) a b ≡ min b a
    go (yes l) = rw (lt-ltb a b l) (omega arith)
    go (no l) = rw (le-ltb a b (omega arith)) (omega arith)

-- 5.6
pub tile-is : (p : Position) (h : Header) → tile p h ≡ tile_here (shape_of h) p
tile-is p h = rw (lesser-is (h.columns - p.x) h.side, lesser-is (h.rows - p.y) h.side)

-- 5.7, 5.8, 5.9
pub next-is : (p : Position) (h : Header) → next p h ≡ next_of (shape_of h) p
next-is p h = rw (lesser-is (h.columns - p.x) h.side, lesser-is (h.rows - p.y) h.side)

-- ---- `Position::current`, `Position::advance`: from the promises of the private methods of the same names

module _ (p : Position) (h : Header) (g : Shaped (shape_of h)) (w : HasTile (shape_of h) p) where
  -- 5.17, also 5.2 to 5.5
  pub advance-valid : (r : Position) → r ≡ next_of (shape_of h) p → PositionValid r h
  advance-valid r e = rw (e) (deeper (dec_lt (p.d + 1) h.depth))
    where
      right : Dec (p.x + min h.side (h.columns - p.x) < h.columns) → PositionValid (cond (ltb (p.x + min h.side (h.columns - p.x)) h.columns) (record { x = p.x + min h.side (h.columns - p.x); y = p.y; d = 0 }) (record { x = 0; y = p.y + min h.side (h.rows - p.y); d = 0 })) h
      right (yes l) = rw (lt-ltb _ _ l) (record { header = g; x = l; y = omega (arith, w.y); d = g.depth.0 })
      right (no l) = rw (le-ltb (p.x + min h.side (h.columns - p.x)) h.columns (omega arith)) (record { header = g; x = g.columns.0; y = omega (arith, w.y); d = g.depth.0 })

      deeper : Dec (p.d + 1 < h.depth) → PositionValid (next_of (shape_of h) p) h
      deeper (yes l) = rw (lt-ltb _ _ l) (record { header = g; x = w.x; y = omega (arith, w.y); d = l })
      deeper (no l) = rw (le-ltb (p.d + 1) h.depth (omega arith)) (right (dec_lt (p.x + min h.side (h.columns - p.x)) h.columns))

  pub position-clauses : PositionClauses p h
  position-clauses = record {
    current-tile = λ r e. e ∙ sym (tile-is p h);
    current-valid = λ r e. rw (e) (record {
      header = g;
      wide = (omega (arith, w.x, g.side.0), omega (arith, g.side.1));
      high = (omega (arith, w.y, g.side.0), omega (arith, g.side.1));
      column = omega (arith, w.x);
      row = omega (arith, w.y);
      depth = w.d;
    });
    advance-next = λ r e. e ∙ sym (next-is p h);
    advance-valid = advance-valid;
  }

-- ---- the tiles, one after the other

module _ (h : Header) (g : Shaped (shape_of h)) (mask : List ℕ) where
  from-none : (image : List ℕ) → image ≡ from h mask (block_count (shape_of h)) [] image
  from-none image = painted-none image _ _ (λ c l. go c (is_valid_cell (shape_of h) mask c) refl)
    where
      go : (c : ℕ) (t : Bool) → is_valid_cell (shape_of h) mask c ≡ t → (t && leb (block_count (shape_of h)) (block_of (shape_of h) c)) ≡ false
      go c true e = lt-leb _ _ (block-lt (shape_of h) g c (valid-below (shape_of h) mask c e))
      go c false e = refl

  pick : (first : List ℕ) (words : List (List ℕ)) (v : Bool) (b n i e : ℕ)
      → cond (v && leb (suc n) b) (get_or (get_or words (b - suc n) []) i 0) (cond (v && eqb b n) (get_or first i 0) e) ≡ cond (v && leb n b) (get_or (get_or (first ∷ words) (b - n) []) i 0) e
  pick first words false b n i e = refl
  pick first words true b n i e = go (dec_lt n b) (dec_lt b n)
    where
      go : Dec (n < b) → Dec (b < n)
          → cond (leb (suc n) b) (get_or (get_or words (b - suc n) []) i 0) (cond (eqb b n) (get_or first i 0) e) ≡ cond (leb n b) (get_or (get_or (first ∷ words) (b - n) []) i 0) e
      go (yes l) _ = let z : b - n ≡ suc (b - suc n) = omega arith in rw (le-leb (suc n) b l, le-leb n b (omega arith), z)
      go (no l) (yes k) = rw (lt-leb (suc n) b (omega arith), ne_eqb b n (λ z. omega arith), lt-leb n b k)
      go (no l) (no k) = let z : b - n ≡ 0 = omega arith in rw (lt-leb (suc n) b (omega arith), eq-eqb b n (omega arith), le-leb n b (omega arith), z)

  from_more : (n : ℕ) (first : List ℕ) (words : List (List ℕ)) (image : List ℕ)
      → from h mask (suc n) words (scattered (shape_of h) mask n first image) ≡ from h mask n (first ∷ words) image
  unfolding in_block
  from_more n first words image =
      let inner = scattered (shape_of h) mask n first image in
      let wide = length-painted image (word_of (shape_of h) mask (λ i. first)) (in_block (shape_of h) mask n) in
      is-painted image (word_of (shape_of h) mask (λ b. get_or (first ∷ words) (b - n) [])) (λ i. is_valid_cell (shape_of h) mask i && leb n (block_of (shape_of h) i)) (from h mask (suc n) words inner)
      (length-painted inner _ _ ∙ wide)
      (λ c l. painted-cell inner (word_of (shape_of h) mask (λ b. get_or words (b - suc n) [])) (λ i. is_valid_cell (shape_of h) mask i && leb (suc n) (block_of (shape_of h) i)) c (rw (wide) l)
      ∙ rw (painted-cell image (word_of (shape_of h) mask (λ i. first)) (in_block (shape_of h) mask n) c l)
      (pick first words (is_valid_cell (shape_of h) mask c) (block_of (shape_of h) c) n (index_of (shape_of h) mask c) (get_or image c 0)))

-- all of them
from_first : (h : Header) (mask : List ℕ) (words : List (List ℕ)) (image : List ℕ) → from h mask 0 words image ≡ painted image (is_valid_cell (shape_of h) mask) (word_of (shape_of h) mask (λ n. get_or words n []))
from_first h mask words image =
    painted-words image _ (word_of (shape_of h) mask (λ n. get_or words n [])) (λ i. is_valid_cell (shape_of h) mask i && leb 0 (block_of (shape_of h) i)) (λ c _. let z : block_of (shape_of h) c - 0 ≡ block_of (shape_of h) c = omega arith in rw (z))
    ∙ painted_same image _ _ _ (λ c _. rw (le-leb 0 (block_of (shape_of h) c) (omega arith)) (and-true (is_valid_cell (shape_of h) mask c)))

module _ (s : List ℕ) (y : Bytes s) (few : length s ≤ length_max) (h : Header) (g : Shaped (shape_of h)) (mask max : List ℕ) where
  -- 5.18
  pub tiles-end : (p : Position) (at : ℕ) (out : List ℕ) (fuel : ℕ) → p.y ≡ h.rows → tiles s h mask max p at out fuel ≡ some (record { at = at; image = out })
  unfolding tiles
  tiles-end p at out zero e = rw (eq-eqb p.y h.rows e)
  tiles-end p at out (suc fuel) e = rw (eq-eqb p.y h.rows e)

  -- 5.20, 5.21, 5.22
  pub tiles-step : TilesStep s h mask max
  unfolding tiles
  tiles-step p at out fuel d = rw (ne_eqb p.y h.rows d)

  block_here : (n at : ℕ) (out : List ℕ) → n < block_count (shape_of h) → cells (shape_of h) ≤ length out
      → block s h (tile (position_of (shape_of h) n) h) mask (get_or max (position_of (shape_of h) n).d 0) at out ≡ said (result h mask n out) (block_at_by counted_sum s h max mask n at)
  unfolding block_at_by
  block_here n at out l r =
      let t : tile (position_of (shape_of h) n) h ≡ tile_of (shape_of h) n = tile-is (position_of (shape_of h) n) h ∙ tile-here (shape_of h) g n l in
      let d : (position_of (shape_of h) n).d ≡ (tile_of (shape_of h) n).d = ap (λ (x : Tile). x.d) t in
      rw (t, d, said-marked) (block-is h mask n out g l r s y few (get_or max (tile_of (shape_of h) n).d 0) at)

  -- THE TILES, from block n on
  pub tiles-from : TilesFrom s h mask max
  tiles-from fuel zero n at out e l r =
      let z : n ≡ block_count (shape_of h) = omega arith in
      rw (counted_none s h max mask n at, z)
      (tiles-end (position_of (shape_of h) (block_count (shape_of h))) at out fuel (ap (λ (p : Position). p.y) (position-last (shape_of h) g))
      ∙ ap (λ (o : List ℕ). some (record { at = at; image = o })) (from-none h g mask out))
  tiles-from zero (suc f) n at out e l r = absurd (omega arith)
  tiles-from (suc fuel) (suc f) n at out e l r =
      let k : n < block_count (shape_of h) = omega arith in
      let p = position_of (shape_of h) n in
      let d : p.y ≡ h.rows → ⊥ = λ z. omega (arith, (position-within (shape_of h) g n k).y) in
      let q : next p h ≡ position_of (shape_of h) (n + 1) = next-is p h ∙ position-next (shape_of h) g n k in
      tiles-step p at out fuel d ∙ rw (block_here n at out k r, q, counted-front s h max mask f n at, add-one) (go k (block_at_by counted_sum s h max mask n at) (λ b o. tiles-from fuel f (suc n) b.next o (omega arith) (omega arith)))
    where
      go : n < block_count (shape_of h) → (m : Res Block)
          → ((b : Block) (o : List ℕ) → cells (shape_of h) ≤ length o → tiles s h mask max (position_of (shape_of h) (suc n)) b.next o fuel ≡ said (painting h mask (suc n) o) (chain_by counted_sum s h max mask f (suc n) b.next))
          → on_some (said (result h mask n out) m) (λ b. tiles s h mask max (position_of (shape_of h) (suc n)) b.at b.image fuel)
          ≡ said (painting h mask n out) (m >>= λ b. chain_by counted_sum s h max mask f (suc n) b.next >>= λ c. ok (fronted at b c))
      go k (fail w) rest = refl
      go k (ok b) rest =
          let o = scattered (shape_of h) mask n b.words out in
          rest b o (rw (length-painted out (word_of (shape_of h) mask (λ i. b.words)) (in_block (shape_of h) mask n)) r) ∙ more (chain_by counted_sum s h max mask f (suc n) b.next)
        where
          more : (m : Res Chain) → said (painting h mask (suc n) (scattered (shape_of h) mask n b.words out)) m ≡ said (painting h mask n out) (m >>= λ c. ok (fronted at b c))
          more (ok c) = rw (from_more h g mask n b.words c.words out)
          more (fail w) = refl

  -- and from the first: 5.28 to 5.30
  pub tiles-is : TilesIs s h mask max
  tiles-is at out r =
      let n : block_count (shape_of h) ≤ h.columns * h.rows * h.depth = rw (mul_comm h.columns h.rows) (blocks-le (shape_of h) g) in
      rw (← position_first (shape_of h) g)
      (tiles-from (h.columns * h.rows * h.depth) (block_count (shape_of h)) 0 at out (omega arith) n r ∙ go (all_blocks_by counted_sum s h max mask at))
    where
      go : (m : Res Chain) → said (painting h mask 0 out) m ≡ said (tiled_image h mask out) m
      go (ok c) = ap (λ (o : List ℕ). some (record { at = c.end; image = o })) (from_first h mask c.words out)
      go (fail w) = refl

  pub tiles-cases : TilesCases s h mask max
  tiles-cases = record { tiles-end = tiles-end; tiles-step = tiles-step; tiles-from = tiles-from; tiles-is = tiles-is }
