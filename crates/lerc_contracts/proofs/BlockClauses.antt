-- lerc_block.rs, clause by clause, from the promises of `lerc_block::read_block` and `lerc_image::fill`.
-- Assumes nothing.
use Prim.{Unit, tt}
use mathlib.Core.Path.{◌≡◌, refl, sym, ap, ◌∙◌}
use mathlib.Core.Bool.{Bool, true, false, not, cond, ◌&&◌}
use mathlib.Core.List.{List}
use mathlib.Core.Option.{Option, none, some}
use Prim.Native.Nat.{ℕ, zero, suc, ◌+◌, ◌*◌, ◌≤◌, ◌<◌}
use native.Mathlib.Omega.{arith}
use native.Mathlib.Nat.{suc-mul, mul-le-mul_right, mul_comm}
use borrow.Author.Tests.{lt-ltb, le-ltb, lt-leb, eqb-true, eqb-false, leb-true, leb-false}
use lib.Arith.{digits_div, digits_mod}
use lib.Dec.{leb, eqb}
use lib.ListN.{length, get_or, set, take}
use Rattle.lerc_words.specs.Res.{Res, ok, fail, ◌>>=◌, refuse, placed, marked, accepts}
use Rattle.lerc_words.proofs.Binding.{ok-is, and_is, cond-elim}
use Rattle.lerc_words.proofs.Marking.{marked-is, marked-accepts, marked-tells}
use Rattle.lerc_words.proofs.Little.{Bytes, word_at-no}
use Rattle.lerc_numeric.specs.Numeric.{counted_sum, scaled, less}
use Rattle.lerc_numeric.specs.Kinds.{type_size}
use Rattle.lerc_header.specs.declared.Header.{Header}
use Rattle.lerc_header.specs.declared.Extent.{Extent}
use Rattle.lerc_header.specs.Header.{shape_of, held, extent_of}
use Rattle.lerc_header.specs.Shape.{Shaped, cells, block_count}
use Rattle.lerc_header.proofs.Kept.{held-is, held-shaped}
use Rattle.lerc_mask.specs.Mask.{pixel_valid}
use Rattle.lerc_mask.proofs.Steps.{bytes-part}
use Rattle.lerc_ranges.specs.declared.Ranges.{Ranges}
use Rattle.lerc_ranges.specs.Ranges.{pairs_right}
use Rattle.lerc_block.specs.Block.{Block, flag_at, block_says, read_block_says, next_block, BlockRead, tile_limit}
use Rattle.lerc_block.proofs.Accepted.{block-ends}
use Rattle.lerc_image.specs.declared.Tile.{Tile}
use Rattle.lerc_image.specs.Geometry.{tile_of, valid_in_tile}
use Rattle.lerc_image.specs.Paint.{in_block, word_of, scattered}
use Rattle.lerc_image.specs.Blocks.{block_at}
use Rattle.lerc_image.specs.Fill.{fill_says, fill_count, fill_image, Filled}
use Rattle.lerc_image.proofs.Partition.{tile-wide, tile_high, tile-depth}
use Rattle.lerc_image.proofs.Cursors.{tile-in, valid-small}
use Rattle.lerc_image.proofs.Reading.{read-block}
use Rattle.lerc_image.proofs.Painting.{length-painted, painted-cell}
use Rattle.lerc_image.proofs.Upto.{inside}
use Rattle.lerc_overflow.specs.By.{block_by, block_at_by}
use Rattle.lerc_overflow.proofs.Blocks.{block-next}
use Rattle.lerc_overflow.proofs.Chains.{at_next, at-calm}
use Rattle.lerc_contracts.specs.Outside.{said, is_some, on_some, length_max, storage, width, height}
use Rattle.lerc_contracts.specs.Block.{TileValid, pixel, target, Mode, mode, Step, value, ResultModel, finished, finish, block}
use Rattle.lerc_contracts.specs.Between.{their_fill, room_for, result}
use Rattle.lerc_contracts.specs.BlockClauses.{TargetClauses, ReadBlockClauses, ReconstructClauses}
use Rattle.lerc_contracts.proofs.WithoutNumber.{told-some, said-marked, said-is}
use Rattle.lerc_contracts.proofs.Refusals.{blob-short}
use Rattle.lerc_contracts.proofs.Block.{block-is}
use Rattle.lerc_contracts.proofs.Walking.{finish-done, finish-cases}

-- ---- `Tile::valid`: 4.2 to 4.7, of the tiles that there are

pub tile-valid : (h : Header) → Shaped (shape_of h) → (n : ℕ) → n < block_count (shape_of h) → TileValid (tile_of (shape_of h) n) h
unfolding tile_of
tile-valid h g n l =
    let t = tile-in (shape_of h) g n l in
    record {
      header = g;
      wide = (tile-wide (shape_of h) g n l, omega (arith, g.side.1));
      high = (tile_high (shape_of h) g n l, omega (arith, g.side.1));
      column = t.column;
      row = t.row;
      depth = tile-depth (shape_of h) g n l;
    }

-- ---- `target_xy`

module _ (h : Header) (t : Tile) (v : TileValid t h) (row col : ℕ) (r : row < t.h) (c : col < t.w) where
  -- 4.55
  pub pixel-at : (t.y + row) * width h + (t.x + col) ≡ pixel t h (row * t.w + col)
  pixel-at = rw (digits_div row c, digits_mod row c) (omega arith)

  -- 4.57
  pub pixel-below : pixel t h (row * t.w + col) < width h * height h
  pixel-below =
      let a : suc (t.y + row) * width h ≤ height h * width h = mul-le-mul_right (width h) (omega (arith, v.row)) in
      omega (arith, a, suc-mul (t.y + row) (width h), mul_comm (width h) (height h), pixel-at, v.column)

  pub target-clauses : TargetClauses h t row col
  target-clauses = record {
    pixel-at = pixel-at;
    target_at = ap (λ (p : ℕ). p * h.depth + t.d) pixel-at;
    pixel-below = pixel-below;
    target_below = let p = pixel t h (row * t.w + col) in
        let a : suc p * h.depth ≤ width h * height h * h.depth = mul-le-mul_right h.depth pixel-below in
        omega (arith, a, suc-mul p h.depth, v.depth);
  }

-- ---- `read_value`: 4.44

module _ (s : List ℕ) (h : Header) (m : Mode) (q : List ℕ) (at index maximum : ℕ) where
  abbrev Moves : Option Step → Type 0
  Moves none = Unit
  Moves (some step) = (at ≤ step.at) × (step.at ≤ length s) × (index ≤ step.q) × (step.q ≤ length q)

  value-moves : at ≤ length s → index ≤ length q → Moves (value s h m q at index maximum)
  unfolding value
  value-moves l i =
      cond-elim Moves (eqb m.flag 0)
      (λ _. cond-elim Moves (not (leb (at + type_size h.kind) (length s))) (λ _. tt) (λ e. let k : at + type_size h.kind ≤ length s = leb-true _ _ (not-false _ e) in (omega arith, k, omega arith, i)))
      (λ _. cond-elim Moves (eqb m.flag 2) (λ _. (omega arith, l, omega arith, i))
      (λ _. cond-elim Moves (eqb m.flag 1 && leb (length q) index) (λ _. tt) (λ e. go (storage (cond (eqb m.flag 3) m.offset (cond (less total maximum) total maximum)) h.kind) (eqb m.flag 1) e)))
    where
      total : ℕ
      total = counted_sum m.offset (scaled h.error (get_or q index 0))

      not-false : (b : Bool) → not b ≡ false → b ≡ true
      not-false true e = refl
      not-false false e = absurd (let z : ◌≡◌ {A = ℕ} 0 1 = cc in omega arith)

      go : (o : Option ℕ) (f : Bool) → (f && leb (length q) index) ≡ false → Moves (on_some o (λ bits. some (record { value = bits; at = at; q = cond f (index + 1) index })))
      go none f e = tt
      go (some w) true e = let k : index < length q = leb-false _ _ e in (omega arith, l, omega arith, omega arith)
      go (some w) false e = (omega arith, l, omega arith, i)

  pub value-inside : at ≤ length s → index ≤ length q → (step : Step) → value s h m q at index maximum ≡ some step → (at ≤ step.at) × (step.at ≤ length s) × (index ≤ step.q) × (step.q ≤ length q)
  value-inside l i step e = rw (e) at (value-moves l i)

-- ---- `reconstruct`: 4.70 and 4.85, of any mode and counts

module _ (s : List ℕ) (h : Header) (t : Tile) (m : Mode) (q mask : List ℕ) (maximum : ℕ) where
  abbrev Ends : ℕ → Option ResultModel → Type 0
  Ends at none = Unit
  Ends at (some r) = (at ≤ r.at) × (r.at ≤ length s)

  ends-before : (at to : ℕ) (r : Option ResultModel) → at ≤ to → Ends to r → Ends at r
  ends-before at to none l e = tt
  ends-before at to (some r) l e = (omega (arith, e.0), e.1)

  finish-ends : (fuel k at index : ℕ) (out : List ℕ) → at ≤ length s → index ≤ length q → Ends at (finish s h t m q mask maximum k at index out fuel)
  finish-ends fuel k at index out l i = go fuel k at index out l i
    where
      done : (at index : ℕ) (out : List ℕ) → at ≤ length s → Ends at (finished m q at index out)
      done at index out l = cond-elim (Ends at) (eqb m.flag 1 && not (eqb index (length q))) (λ _. tt) (λ _. (omega arith, l))

      go : (fuel k at index : ℕ) (out : List ℕ) → at ≤ length s → index ≤ length q → Ends at (finish s h t m q mask maximum k at index out fuel)
      go zero k at index out l i = last (eqb k (t.w * t.h)) refl
        where
          last : (b : Bool) → eqb k (t.w * t.h) ≡ b → Ends at (finish s h t m q mask maximum k at index out zero)
          last true e = rw (finish-done s h t m q mask maximum k at index out zero (eqb-true _ _ e)) (done at index out l)
          last false e = rw ((finish-cases s h t m q mask maximum).finish-out k at index out (eqb-false _ _ e)) tt
      go (suc fuel) k at index out l i = more (eqb k (t.w * t.h)) refl (go fuel (k + 1))
        where
          more : (b : Bool) → eqb k (t.w * t.h) ≡ b → ((at index : ℕ) (out : List ℕ) → at ≤ length s → index ≤ length q → Ends at (finish s h t m q mask maximum (k + 1) at index out fuel))
              → Ends at (finish s h t m q mask maximum k at index out (suc fuel))
          more true e rest = rw (finish-done s h t m q mask maximum k at index out (suc fuel) (eqb-true _ _ e)) (done at index out l)
          more false e rest = look (pixel_valid mask (pixel t h k)) refl
            where
              step : pixel_valid mask (pixel t h k) ≡ true → (o : Option Step) → value s h m q at index maximum ≡ o → Ends at (finish s h t m q mask maximum k at index out (suc fuel))
              step v none d = rw ((finish-cases s h t m q mask maximum).finish-stop k at index out (eqb-false _ _ e) fuel v d) tt
              step v (some w) d =
                  let z = value-inside s h m q at index maximum l i w d in
                  rw ((finish-cases s h t m q mask maximum).finish-step k at index out (eqb-false _ _ e) fuel w v d)
                  (ends-before at w.at (finish s h t m q mask maximum (k + 1) w.at w.q (set out (target t h k) w.value) fuel) z.0 (rest w.at w.q (set out (target t h k) w.value) z.1 z.3))

              look : (b : Bool) → pixel_valid mask (pixel t h k) ≡ b → Ends at (finish s h t m q mask maximum k at index out (suc fuel))
              look true v = step v (value s h m q at index maximum) refl
              look false v = rw ((finish-cases s h t m q mask maximum).finish-skip k at index out (eqb-false _ _ e) fuel v) (rest at index out l i)

  pub reconstruct-inside : (out : List ℕ) → m.at ≤ length s → (r : ResultModel) → finish s h t m q mask maximum 0 m.at 0 out 256 ≡ some r → (m.at ≤ r.at) × (r.at ≤ length s)
  reconstruct-inside out l r e = rw (e) at (finish-ends 256 0 m.at 0 out l (omega arith))

-- ---- `read_mode` and `reconstruct`, together: from the promise of `lerc_block::read_block`

-- 4.20, 4.37, 4.60, 4.73, 5.24: a start past the end
pub start-past : (s : List ℕ) (at kind error top x n : ℕ) → length s ≤ at → marked at (block_says s at kind error top x n) ≡ fail (placed at (refuse 1))
unfolding block_says flag_at
start-past s at kind error top x n l = rw (word_at-no 1 s at (omega arith))

-- 4.22: more valid pixels than a tile has
pub tile-over : (s : List ℕ) (at kind error top x n : ℕ) → tile_limit < n → marked at (read_block_says s at kind error top x n) ≡ fail (placed at (refuse 8))
unfolding read_block_says
tile-over s at kind error top x n l = rw (lt-leb n tile_limit l)

-- block n of a header, its tile, a mask, and an image with room
module _ (h : Header) (mask : List ℕ) (n : ℕ) (image : List ℕ) (g : Shaped (shape_of h)) (below : n < block_count (shape_of h)) (room : cells (shape_of h) ≤ length image)
    (s : List ℕ) (y : Bytes s) (few : length s ≤ length_max) (maximum at : ℕ) where
  abbrev theirs : Option ResultModel
  theirs = block s h (tile_of (shape_of h) n) mask maximum at image

  abbrev ours : Res Block
  ours = block_says s at h.kind h.error maximum (tile_of (shape_of h) n).x (valid_in_tile (shape_of h) mask (tile_of (shape_of h) n))

  -- ours over upstream's sum, which has the same end
  abbrev counted : Res Block
  counted = block_by counted_sum s at h.kind h.error maximum (tile_of (shape_of h) n).x (valid_in_tile (shape_of h) mask (tile_of (shape_of h) n))

  same_next : next_block counted ≡ next_block ours
  same_next = block-next s at h.kind h.error maximum (tile_of (shape_of h) n).x (valid_in_tile (shape_of h) mask (tile_of (shape_of h) n))

  same_block : theirs ≡ said (result h mask n image) counted
  same_block = block-is h mask n image g below room s y few maximum at

  -- a result of upstream's is such a block
  found : (r : ResultModel) → theirs ≡ some r → (b : Block) × (counted ≡ ok b) × (result h mask n image b ≡ r)
  found r e = said-is (result h mask n image) counted (sym same_block ∙ e)

  module _ (r : Res ℕ) (old new : List ℕ)
      (promise : BlockRead (marked at (read_block_says s at h.kind h.error maximum (tile_of (shape_of h) n).x (valid_in_tile (shape_of h) mask (tile_of (shape_of h) n)))) r old new) where
    -- a tile has no more than 256 valid pixels
    says : r ≡ marked at (next_block ours)
    says = promise.says ∙ ap (λ (m : Res Block). marked at m >>= λ b. ok b.next)
        (read-block s at h.kind h.error maximum (tile_of (shape_of h) n).x (valid_in_tile (shape_of h) mask (tile_of (shape_of h) n)) (valid-small (shape_of h) (tile_of (shape_of h) n) (tile-in (shape_of h) g n below) mask))
        ∙ sym (marked-tells at ours (λ b. b.next))

    -- 4.67 and 4.82, with 4.23: a block is accepted where upstream has a mode and finishes its cells
    pub read-block-ok : accepts r ≡ is_some theirs
    read-block-ok = rw (says, marked-accepts at (next_block ours), ← same_next, same_block) (told-some (λ b. b.next) (result h mask n image) counted)

    next-told : {next : ℕ} → r ≡ ok next → next_block ours ≡ ok next
    next-told e = marked-is at (next_block ours) (sym says ∙ e)

    -- 4.23: where upstream has no mode, ours is refused
    pub read-mode-none : mode s at h (tile_of (shape_of h) n) ≡ none → accepts r ≡ false
    unfolding block
    read-mode-none e = read-block-ok ∙ rw (e)

    -- 4.25, for the end
    pub read-block-inside : (next : ℕ) → r ≡ ok next → (at < next) × (next ≤ length s)
    read-block-inside next e = go ours refl
      where
        go : (m : Res Block) → ours ≡ m → (at < next) × (next ≤ length s)
        go (ok b) o =
            let w : ok next ≡ ok b.next = sym (next-told e) ∙ ap next_block o in
            rw (ok-is w) (block-ends s at h.kind h.error maximum (tile_of (shape_of h) n).x (valid_in_tile (shape_of h) mask (tile_of (shape_of h) n)) o)
        go (fail q) o = absurd (let w : ◌≡◌ {A = Res ℕ} (ok next) (fail q) = sym (next-told e) ∙ ap next_block o in let z : ◌≡◌ {A = ℕ} 0 1 = cc in omega arith)

    pub read-block-clauses : ReadBlockClauses h mask n image s maximum at r
    read-block-clauses = record {
      read-block-ok = read-block-ok;
      read-mode-none = read-mode-none;
      read-block-end = λ next t e d.
          let (b, o, f) = found t d in
          let w : ok next ≡ ok b.next = sym (next-told e) ∙ sym same_next ∙ ap next_block o in
          ok-is w ∙ ap (λ (x : ResultModel). x.at) f;
      read-block-inside = read-block-inside;
    }

-- ---- `reconstruct`: from the promise of `lerc_image::fill`

module _ (b : List ℕ) (h : Header) (ranges : Ranges) (mask list : List ℕ) (n : ℕ) (r : Res ℕ) (old new : List ℕ) (promise : Filled b h ranges mask list n r old new) where
  -- what was written
  left : (m : Res Block) → fill_says b h ranges mask list n (length old) ≡ m → (length new ≡ length old) × ((j : ℕ) → cells (shape_of h) ≤ j → j < length old → get_or new j 0 ≡ get_or old j 0)
  unfolding fill_image
  left (fail q) e = let p : new ≡ old = promise.image ∙ rw (e) in rw (p) (refl, λ j _ _. refl)
  left (ok k) e =
      let p : new ≡ scattered (shape_of h) mask n k.words old = promise.image ∙ rw (e) in
      rw (p) (length-painted old _ _, λ j l o. painted-cell old (word_of (shape_of h) mask (λ i. k.words)) (in_block (shape_of h) mask n) j o ∙ out j l (in_block (shape_of h) mask n j) refl)
    where
      out : (j : ℕ) → cells (shape_of h) ≤ j → (t : Bool) → in_block (shape_of h) mask n j ≡ t → cond t (word_of (shape_of h) mask (λ i. k.words) j) (get_or old j 0) ≡ get_or old j 0
      out j l true e = absurd (omega (arith, (inside (shape_of h) mask n j e).below))
      out j l false e = refl

  module _ (e : Extent) (k : held h (length b) ≡ ok e) (below : n < e.blocks) (wide : room_for e mask list old ≡ true)
      (right : pairs_right h.depth ranges ≡ true) (y : Bytes b) where
    judged : fill_says b h ranges mask list n (length old) ≡ block_at (take h.size b) h ranges.max mask n (get_or list n 0)
    unfolding fill_says
    judged = rw (k, lt-ltb n e.blocks below, wide, right)

    -- ours over upstream's sum
    abbrev counted-fill : Res Block
    counted-fill = block_at_by counted_sum (take h.size b) h ranges.max mask n (get_or list n 0)

    same-fill : their_fill b h ranges mask list n old ≡ said (result h mask n old) counted-fill
    unfolding block_at_by
    same-fill =
        let i : e ≡ extent_of h = held-is h (length b) k in
        let room : cells (shape_of h) ≤ length old = rw (i) at (leb-true e.cells (length old) (and_is (leb e.mask (length mask) && leb e.blocks (length list)) (leb e.cells (length old)) wide).1) in
        rw (said-marked) (block-is h mask n old (held-shaped h (length b) k) (rw (i) at below) room (take h.size b) (bytes-part b 0 h.size y) (blob-short b h k) (get_or ranges.max (tile_of (shape_of h) n).d 0) (get_or list n 0))

  -- one end, one acceptance
  accepted : (ours counted : Res Block) → next_block counted ≡ next_block ours → accepts (ours >>= fill_count h mask n) ≡ is_some (said (result h mask n old) counted)
  accepted (ok a) (ok b) e = refl
  accepted (fail q) (fail r) e = refl
  accepted (ok a) (fail r) e = absurd (let z : ◌≡◌ {A = ℕ} 0 1 = cc in omega arith)
  accepted (fail q) (ok b) e = absurd (let z : ◌≡◌ {A = ℕ} 0 1 = cc in omega arith)

  pub reconstruct-clauses : ReconstructClauses b h ranges mask list n r old new
  unfolding fill_says fill_image
  reconstruct-clauses = record {
    fill-held = λ q e. promise.says ∙ rw (e);
    fill-number = λ e k l. promise.says ∙ rw (k, le-ltb n e.blocks l);
    fill-room = λ e k l t. promise.says ∙ rw (k, lt-ltb n e.blocks l, t);
    fill-length = (left (fill_says b h ranges mask list n (length old)) refl).0;
    fill-rest = λ j l o. (left (fill_says b h ranges mask list n (length old)) refl).1 j (rw (← mul_comm h.columns h.rows) l) o;
    fill-ok = λ e k l w p y. rw (promise.says, judged e k l w p y, same-fill e k l w p y) (accepted (block_at (take h.size b) h ranges.max mask n (get_or list n 0)) (counted-fill e k l w p y) (at_next (take h.size b) h ranges.max mask n (get_or list n 0)));
    fill-image = λ e k l w p y calm t d.
        let (c, o, f) = said-is (result h mask n old) (counted-fill e k l w p y) (sym (same-fill e k l w p y) ∙ d) in
        let ours = judged e k l w p y ∙ sym (at-calm (take h.size b) h ranges.max mask n (get_or list n 0) calm) ∙ o in
        promise.image ∙ rw (ours) (ap (λ (x : ResultModel). x.image) f);
  }
