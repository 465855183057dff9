-- lerc_image.rs, clause by clause, from the promises of `lerc_image::decode_tiles` and of what `lerc` does behind an accepted mask
-- where the body is constant or raw.
-- Assumes nothing.
use mathlib.Core.Path.{◌≡◌, refl, sym, ap, ◌∙◌}
use mathlib.Core.Bool.{Bool, true, false, cond, ◌&&◌}
use mathlib.Core.List.{List, []}
use mathlib.Core.Option.{Option, some}
use Prim.Native.Nat.{ℕ, zero, suc, ◌+◌, ◌-◌, ◌*◌, ◌≤◌, ◌<◌, min}
use native.Mathlib.Omega.{arith}
use native.Mathlib.Nat.{mul_comm, zero-mul, zero-div, add-zero}
use borrow.Author.Tests.{leb-true, lt-leb}
use lib.Dec.{leb}
use lib.ListN.{length, get_or, take, drop, replicate}
use Rattle.lerc_words.specs.Res.{Res, ok, fail, ◌>>=◌, refuse, placed, marked, require, accepts}
use Rattle.lerc_words.specs.Lists.{over}
use Rattle.lerc_words.proofs.Binding.{ok-is, and_is, bind_is, require-is}
use Rattle.lerc_words.proofs.Marking.{marked-is}
use Rattle.lerc_words.proofs.Little.{Bytes}
use Rattle.lerc_numeric.specs.Kinds.{type_size}
use Rattle.lerc_header.specs.declared.Header.{Header}
use Rattle.lerc_header.specs.declared.Extent.{Extent}
use Rattle.lerc_header.specs.Header.{shape_of, held, extent_of}
use Rattle.lerc_header.specs.Limits.{depth_limit}
use Rattle.lerc_header.specs.Shape.{cells, block_count}
use Rattle.lerc_header.proofs.Kept.{held-is, held-shaped}
use Rattle.lerc_mask.proofs.Steps.{bytes-part}
use Rattle.lerc_ranges.specs.declared.Ranges.{Ranges}
use Rattle.lerc_ranges.specs.Ranges.{constant_words}
use Rattle.lerc_ranges.proofs.Judged.{length-constants}
use Rattle.lerc_block.specs.Block.{Block, raw_words, block_says}
use Rattle.lerc_block.proofs.Accepted.{block-ends}
use Rattle.lerc_image.specs.Geometry.{tile_of, valid_in_tile, is_valid_cell}
use Rattle.lerc_image.specs.Paint.{painted, word_of}
use Rattle.lerc_image.specs.Blocks.{block_at, Chain, chain, all_blocks}
use Rattle.lerc_image.specs.Walk.{Walk}
use Rattle.lerc_image.specs.Tiles.{tiles_says, tiles_image, Tiled}
use Rattle.lerc_image.proofs.Painting.{length-painted, painted-cell}
use Rattle.lerc_image.proofs.Upto.{valid-below}
use Rattle.lerc_image.proofs.Chain.{chain-none, chain-parts}
use Rattle.lerc_validity.specs.Validity.{MaskTold}
use Rattle.lerc.specs.declared.Staged.{Staged}
use Rattle.lerc.specs.Meaning.{Body, missing_word_at, raw_body, constant_body, end_of, cell_word}
use Rattle.lerc.specs.Read.{ReadTold, Lent, masked, read_says, WholeRead}
use Rattle.lerc.specs.Stage.{staged_body}
use Rattle.lerc.specs.Parts.{Ready, body_image, BodyRead}
use Rattle.lerc_numeric.specs.Numeric.{counted_sum}
use Rattle.lerc_overflow.specs.By.{all_blocks_by}
use Rattle.lerc_overflow.proofs.Chains.{Ends, ends, chain-ends, chain-still}
use Rattle.lerc_contracts.specs.Outside.{said, is_some}
use Rattle.lerc_contracts.specs.Block.{ResultModel}
use Rattle.lerc_contracts.specs.Between.{tiled_image, room_for, their_tiles, their_raw, their_constant, bodied}
use Rattle.lerc_contracts.specs.ImageClauses.{DecodeTilesClauses, DecodeLinearClauses, RawBodyClauses, ConstantBodyClauses, WholeReadClauses}
use Rattle.lerc_contracts.proofs.WithoutNumber.{told-some, said-is, result-is}
use Rattle.lerc_contracts.proofs.Refusals.{blob-short}
use Rattle.lerc_contracts.proofs.Image.{tiles-is}
use Rattle.lerc_contracts.proofs.Linear.{constant-is, raw-is}

-- a painted cell past the image
past : (h : Header) (mask image : List ℕ) (word : ℕ → ℕ) (j : ℕ) → h.columns * h.rows * h.depth ≤ j → j < length image → get_or (painted image (is_valid_cell (shape_of h) mask) word) j 0 ≡ get_or image j 0
past h mask image word j l o = painted-cell image word (is_valid_cell (shape_of h) mask) j o ∙ go (is_valid_cell (shape_of h) mask j) refl
  where
    go : (t : Bool) → is_valid_cell (shape_of h) mask j ≡ t → cond t (word j) (get_or image j 0) ≡ get_or image j 0
    go true e =
        let k : cells (shape_of h) ≤ j = rw (← mul_comm h.columns h.rows) l in
        absurd (omega (arith, valid-below (shape_of h) mask j e))
    go false e = refl

-- ---- `decode_tiles`

at-inside : (s : List ℕ) (h : Header) (maxima m : List ℕ) (n at : ℕ) {b : Block} → block_at s h maxima m n at ≡ ok b → (at < b.next) × (b.next ≤ length s)
unfolding block_at
at-inside s h maxima m n at d =
    let t = tile_of (shape_of h) n in
    let top = get_or maxima t.d 0 in
    let v = valid_in_tile (shape_of h) m t in
    block-ends s at h.kind h.error top t.x v (marked-is at (block_says s at h.kind h.error top t.x v) d)

-- 5.31
pub chain-inside : (s : List ℕ) (h : Header) (maxima m : List ℕ) (f n at : ℕ) (c : Chain) → at ≤ length s → chain s h maxima m f n at ≡ ok c → (at ≤ c.end) × (c.end ≤ length s)
chain-inside s h maxima m zero n at c l e =
    let w : ◌≡◌ {A = Res Chain} (ok (record { starts = []; words = []; end = at })) (ok c) = sym (chain-none s h maxima m n at) ∙ e in
    let z : at ≡ c.end = ap (λ (x : Chain). x.end) (ok-is w) in
    (omega arith, omega arith)
chain-inside s h maxima m (suc f) n at c l e =
    let p = chain-parts s h maxima m f n at c e in
    let b = at-inside s h maxima m n at p.first-is in
    let r = chain-inside s h maxima m f (suc n) p.block.next p.others b.1 p.others-are in
    let z : c.end ≡ p.others.end = ap (λ (x : Chain). x.end) p.whole in
    (omega (arith, b.0, r.0), omega (arith, r.1))

module _ (b : List ℕ) (h : Header) (mask maxima : List ℕ) (at : ℕ) (r : Res Walk) (list list' old new : List ℕ) (promise : Tiled (tiles_says b h mask maxima at (length list) (length old)) h mask r list list' old new) where
  abbrev walked_to : Chain → Walk
  walked_to c = record { blocks = block_count (shape_of h); end = c.end }

  left : (m : Res Chain) → tiles_says b h mask maxima at (length list) (length old) ≡ m → (length new ≡ length old) × ((j : ℕ) → h.columns * h.rows * h.depth ≤ j → j < length old → get_or new j 0 ≡ get_or old j 0)
  left (fail q) e = let p : new ≡ old = promise.image ∙ rw (e) in rw (p) (refl, λ j _ _. refl)
  left (ok c) e =
      let p : new ≡ tiles_image h mask old c = promise.image ∙ rw (e) in
      rw (p) (length-painted old _ _, λ j l o. past h mask old (word_of (shape_of h) mask (λ n. get_or c.words n [])) j l o)

  module _ (e : Extent) (k : held h (length b) ≡ ok e) (wide : room_for e mask list old ≡ true) (y : Bytes b) where
    judged : tiles_says b h mask maxima at (length list) (length old) ≡ all_blocks (take h.size b) h maxima mask at
    unfolding tiles_says
    judged = rw (k, wide)

    -- ours over upstream's sum
    abbrev counted : Res Chain
    counted = all_blocks_by counted_sum (take h.size b) h maxima mask at

    same-tiles : their_tiles b h mask maxima at old ≡ said (tiled_image h mask old) counted
    same-tiles =
        let i : e ≡ extent_of h = held-is h (length b) k in
        let room : cells (shape_of h) ≤ length old = rw (i) at (leb-true e.cells (length old) (and_is (leb e.mask (length mask) && leb e.blocks (length list)) (leb e.cells (length old)) wide).1) in
        (tiles-is (take h.size b) (bytes-part b 0 h.size y) (blob-short b h k) h (held-shaped h (length b) k) mask maxima at old room)

    -- which has the same ends
    same_ends : (counted >>= ends) ≡ (tiles_says b h mask maxima at (length list) (length old) >>= ends)
    same_ends = chain-ends (take h.size b) h maxima mask (block_count (shape_of h)) 0 at ∙ ap (λ (x : Res Chain). x >>= ends) (sym judged)

    module _ (w : Walk) (a : r ≡ ok w) where
      -- what was walked
      walked : (m : Res Chain) → tiles_says b h mask maxima at (length list) (length old) ≡ m → (c : Chain) × (tiles_says b h mask maxima at (length list) (length old) ≡ ok c) × (w.end ≡ c.end) × (new ≡ tiles_image h mask old c)
      walked (ok c) d =
          let z : ok w ≡ ok (record { blocks = block_count (shape_of h); end = c.end }) = sym a ∙ promise.says ∙ rw (d) in
          (c, d, ap (λ (x : Walk). x.end) (ok-is z), promise.image ∙ rw (d))
      walked (fail q) d = absurd (let z : ◌≡◌ {A = Res Walk} (ok w) (fail q) = sym a ∙ promise.says ∙ rw (d) in let o : ◌≡◌ {A = ℕ} 0 1 = cc in omega arith)

  -- the same ends, one acceptance
  accepted : (ours theirs : Res Chain) → (theirs >>= ends) ≡ (ours >>= ends) → accepts (ours >>= λ c. ok (walked_to c)) ≡ is_some (said (tiled_image h mask old) theirs)
  accepted (ok c) (ok d) e = refl
  accepted (fail q) (fail r) e = refl
  accepted (ok c) (fail r) e = absurd (let z : ◌≡◌ {A = ℕ} 0 1 = cc in omega arith)
  accepted (fail q) (ok d) e = absurd (let z : ◌≡◌ {A = ℕ} 0 1 = cc in omega arith)

  pub decode-tiles-clauses : DecodeTilesClauses b h mask maxima at r list old new
  unfolding tiles_says
  decode-tiles-clauses = record {
    tiles-held = λ q e. promise.says ∙ rw (e);
    tiles-room = λ e k t. promise.says ∙ rw (k, t);
    tiles-length = (left (tiles_says b h mask maxima at (length list) (length old)) refl).0;
    tiles-rest = (left (tiles_says b h mask maxima at (length list) (length old)) refl).1;
    tiles-ok = λ e k l y. rw (promise.says, same-tiles e k l y) (accepted (tiles_says b h mask maxima at (length list) (length old)) (counted e k l y) (same_ends e k l y));
    tiles-next = λ e k l y w a t x.
        let (c, d, p, q) = walked e k l y w a (tiles_says b h mask maxima at (length list) (length old)) refl in
        let (u, v, f) = said-is (tiled_image h mask old) (counted e k l y) (sym (same-tiles e k l y) ∙ x) in
        let z : ends u ≡ ends c = ap (λ (x : Res Chain). x >>= ends) (sym v) ∙ same_ends e k l y ∙ ap (λ (x : Res Chain). x >>= ends) d in
        p ∙ ap (λ (x : Ends). x.end) (sym (ok-is z)) ∙ ap (λ (x : ResultModel). x.at) f;
    tiles-result = λ e k l y calm w a.
        let (c, d, p, q) = walked e k l y w a (tiles_says b h mask maxima at (length list) (length old)) refl in
        let z : counted e k l y ≡ ok c = chain-still (take h.size b) h maxima mask (block_count (shape_of h)) 0 at calm ∙ sym (judged e k l y) ∙ d in
        same-tiles e k l y ∙ ap (said (tiled_image h mask old)) z ∙ sym (result-is p q);
    tiles-inside = λ e k l y w a i.
        let (c, d, p, q) = walked e k l y w a (tiles_says b h mask maxima at (length list) (length old)) refl in
        rw (p) (chain-inside (take h.size b) h maxima mask (block_count (shape_of h)) 0 at c i (sym (judged e k l y) ∙ d));
  }

-- ---- `decode_linear`

-- either body
module _ (m : Res Body) (h : Header) (force : Res MaskTold) (mask : List ℕ) (a : Res Staged) (old new : List ℕ) (promise : BodyRead m h force mask a old new) where
  kept : (x : Res Body) → m ≡ x → (length new ≡ length old) × ((j : ℕ) → h.columns * h.rows * h.depth ≤ j → j < length old → get_or new j 0 ≡ get_or old j 0)
  kept (fail q) e = let p : new ≡ old = promise.image ∙ rw (e) in rw (p) (refl, λ j _ _. refl)
  kept (ok c) e =
      let p : new ≡ body_image h mask old c = promise.image ∙ rw (e) in
      rw (p) (length-painted old _ _, λ j l o. past h mask old (cell_word h mask c) j l o)

  -- the body that was read
  pub read-body : (w : Staged) → a ≡ ok w → (x : Res Body) → m ≡ x → (c : Body) × (m ≡ ok c) × (w.end ≡ end_of c) × (new ≡ body_image h mask old c)
  read-body w e (ok c) d =
      let z : ok w ≡ ok (staged_body h force c) = sym e ∙ promise.says ∙ rw (d) in
      (c, d, ap (λ (x : Staged). x.end) (ok-is z), promise.image ∙ rw (d))
  read-body w e (fail q) d = absurd (let z : ◌≡◌ {A = Res Staged} (ok w) (fail q) = sym e ∙ promise.says ∙ rw (d) in let o : ◌≡◌ {A = ℕ} 0 1 = cc in omega arith)

  module _ (t : Option ResultModel) (same : t ≡ said (bodied h mask old) m) where
    pub linear-ok : accepts a ≡ is_some t
    linear-ok = rw (promise.says, same) (told-some {B = Staged} (λ c. staged_body h force c) (bodied h mask old) m)

    pub linear-result : (w : Staged) → a ≡ ok w → t ≡ some (record { at = w.end; image = new })
    linear-result w e =
        let (c, d, p, q) = read-body w e m refl in
        same ∙ ap (said (bodied h mask old)) d ∙ sym (result-is p q)

  pub decode-linear-clauses : DecodeLinearClauses h old new
  decode-linear-clauses = record {
    linear-length = (kept m refl).0;
    linear-rest = (kept m refl).1;
  }

raw-inside : (s : List ℕ) (h : Header) (at : ℕ) (c : Body) → raw_body s h at ≡ ok c → (at ≤ end_of c) × (end_of c ≤ length s)
unfolding raw_body raw_words
raw-inside s h at c e =
    let place = missing_word_at (length s) at h.kind in
    let words = raw_words s at h.kind (h.valid * h.depth) in
    let (w, p, e) = bind_is (marked place words) _ e in
    let (_, t, p) = bind_is (require (leb (at + h.valid * h.depth * type_size h.kind) (length s)) 1) _ (marked-is place words p) in
    let l : at + h.valid * h.depth * type_size h.kind ≤ length s = leb-true _ _ (require-is _ 1 t) in
    let z : at + h.valid * h.depth * type_size h.kind ≡ end_of c = ap (λ (x : Block). x.next) (ok-is p) ∙ ap end_of (ok-is e) in
    (omega arith, omega arith)

-- a raw body: upstream's `raw` is true, and its constants are not looked at
module _ (s : List ℕ) (h : Header) (at : ℕ) (force : Res MaskTold) (mask constants : List ℕ) (a : Res Staged) (old new : List ℕ) (ready : Ready s h mask) (image : cells (shape_of h) ≤ length old)
    (promise : BodyRead (raw_body s h at) h force mask a old new) (inside : at ≤ length s) where
  abbrev their-raw : Option ResultModel
  their-raw = their_raw s h mask constants at old

  same-raw : their-raw ≡ said (bodied h mask old) (raw_body s h at)
  same-raw = raw-is s h (held-shaped h (length s) ready.header) mask old image constants at inside ready.counts

  pub raw-body-clauses : RawBodyClauses s h at mask constants a old new
  raw-body-clauses = record {
    raw-ok = linear-ok (raw_body s h at) h force mask a old new promise their-raw same-raw;
    raw-result = λ w e. linear-result (raw_body s h at) h force mask a old new promise their-raw same-raw w e;
    raw-end = λ w e. let (c, d, p, q) = read-body (raw_body s h at) h force mask a old new promise w e (raw_body s h at) refl in
        rw (p) (raw-inside s h at c d);
  }

-- a constant body: upstream has its words from `convert` (3.34, 3.35), and always accepts
module _ (s : List ℕ) (h : Header) (ranges : Ranges) (force : Res MaskTold) (mask words : List ℕ) (a : Res Staged) (old new : List ℕ) (ready : Ready s h mask) (image : cells (shape_of h) ≤ length old)
    (long : length ranges.min ≡ depth_limit) (promise : BodyRead (constant_body h ranges) h force mask a old new) (converted : constant_words h.depth h.kind ranges.min ≡ ok words) where
  abbrev their-constant : Option ResultModel
  their-constant = their_constant s h mask (over words (replicate depth_limit 0)) ranges.at old

  same-constant : their-constant ≡ said (bodied h mask old) (constant_body h ranges)
  unfolding constant_body
  same-constant =
      let g = held-shaped h (length s) ready.header in
      let n : length words ≡ h.depth = length-constants h.depth h.kind ranges.min converted ∙ (let z : min h.depth (length ranges.min) ≡ h.depth = omega (arith, g.depth.1) in z) in
      rw (converted) (constant-is s h g mask old image words (drop (length words) (replicate depth_limit 0)) ranges.at n)

  pub constant-body-clauses : ConstantBodyClauses s h ranges mask words a old new
  unfolding constant_body
  constant-body-clauses = record {
    constant-ok = linear-ok (constant_body h ranges) h force mask a old new promise their-constant same-constant;
    constant-result = linear-result (constant_body h ranges) h force mask a old new promise their-constant same-constant;
    constant-end = λ w e.
        let (c, d, p, q) = read-body (constant_body h ranges) h force mask a old new promise w e (constant_body h ranges) refl in
        let (_, _, d) = bind_is (constant_words h.depth h.kind ranges.min) _ d in
        p ∙ sym (ap end_of (ok-is d));
  }

-- ---- what `decode_linear` asks: a raw body that starts past the end, and the whole read

-- 5.42
pub raw-start : (s : List ℕ) (h : Header) (at : ℕ) → length s < at → raw_body s h at ≡ fail (placed at (refuse 1))
unfolding raw_body raw_words
raw-start s h at l =
    let k : length s < at + h.valid * h.depth * type_size h.kind = omega arith in
    let none : length s - at ≡ 0 = omega arith in
    let here : missing_word_at (length s) at h.kind ≡ at = rw (none, zero-div) (rw (zero-mul) (add-zero at)) in
    rw (lt-leb (at + h.valid * h.depth * type_size h.kind) (length s) k, here)

-- from what a whole read promises
module _ (b : List ℕ) (reuse : Bool) (r : Res ReadTold) (old new : Lent) (promise : WholeRead b reuse r old new) where
  pub whole-read-clauses : WholeReadClauses b r old
  unfolding read_says masked
  whole-read-clauses = record {
    whole-header = λ q e. promise.says ∙ rw (e);
    whole_room = λ h e t. promise.says ∙ rw (e, t);
  }
