-- When sweep bytes, blocks, a walk, a fill and a whole read are refused: the table holds exactly.
-- Assumes nothing.
use mathlib.Core.Path.{◌≡◌, ap, refl}
use mathlib.Core.Logic.{◌↔◌, ◌≢◌, inl, inr, ⊎_elim}
use mathlib.Core.Bool.{Bool, true, false, cond, not, ◌&&◌}
use mathlib.Core.List.{List, [], ◌∷◌}
use Prim.Native.Nat.{ℕ, zero, suc, ◌+◌, ◌-◌, ◌*◌, ◌/◌, ◌≤◌, ◌<◌}
use native.Mathlib.Omega.{arith}
use native.Mathlib.Numerals.{add-one}
use native.Mathlib.Nat.{add-zero, add-suc, suc-add, suc-mul, mul-le-mul_right, div-mul-le_self, lt-div-mul-add, div-lt_iff_lt-mul, div-eq_of_lt-le}
use lib.ListN.{length, get_or, take}
use lib.Dec.{leb, ltb, eqb}
use borrow.Author.Tests.{ltb-true, ltb-false, lt-ltb, le-ltb, leb-true, leb-false, le-leb, lt-leb, eqb-false, ne_eqb, not-true, not-false}
use Rattle.lerc_words.specs.declared.Refusal.{Refusal}
use Rattle.lerc_words.specs.Res.{ok, fail, refuse, placed, require, word_at, Res}
use Rattle.lerc_words.proofs.Binding.{bind_is, require-is, and_is, ok-is}
use Rattle.lerc_words.proofs.Marking.{marked-fails}
use Rattle.lerc_words.proofs.Little.{word_at-fails, word_at-no}
use Rattle.lerc_numeric.specs.Kinds.{type_size}
use Rattle.lerc_numeric.proofs.Integers.{size-ge}
use Rattle.lerc_header.specs.declared.Header.{Header}
use Rattle.lerc_header.specs.Header.{shape_of, header_says}
use Rattle.lerc_header.specs.Shape.{cells, mask_length, block_count}
use Rattle.lerc_ranges.specs.declared.Ranges.{Ranges}
use Rattle.lerc_mask.specs.Mask.{mask_field}
use Rattle.lerc_validity.specs.Validity.{bytes_of, mask_says}
use Rattle.lerc_ranges.specs.Ranges.{pairs_right, ranges_says, constant_words}
use Rattle.lerc_block.specs.Block.{Block, raw_words, block_says}
use Rattle.lerc_image.specs.Geometry.{tile_of, valid_in_tile}
use Rattle.lerc_sweep.specs.Sweep.{Way, raw_from, blocks_from, huffman_from, has_mode_byte, mode_byte, mode_at, moded, sweep_byte, swept}
use Rattle.lerc_image.specs.Blocks.{Chain, block_at, chain, all_blocks}
use Rattle.lerc_image.specs.Walk.{way_walked, body_walked, walk_says}
use Rattle.lerc_image.specs.Fill.{fill_says}
use Rattle.lerc_image.specs.Tiles.{checked_tiles, tiles_says}
use Rattle.lerc_image.specs.Own.{own_mask, own_tiles}
use Rattle.lerc_byte_image.specs.Image.{image_at}
use Rattle.lerc.specs.Meaning.{missing_word_at, raw_body, block_body, huffman_body, body_from, swept_body, constant_body, body_says, meaning_from}
use Rattle.lerc.specs.Read.{Lent, room, Masked, masked, read_says}
use Rattle.lerc.specs.Stage.{was_staged, publish_says}
use Rattle.lerc_theorems.specs.Table.{ModeRefused, mode-cut, mode-wrong, SweepRefused, sweep-cut, sweep-wrong, mode-refused, BlockAtRefused, ChainRefused, block_refused, WalkBodyRefused, walk-sweep, walk-raw, walk-huffman, walk-blocks, WalkRoom, WalkRefused, walk-held, walk-room, walk-pairs, walk-other, walk-body, FillRoom, NoFillRoom, FillRefused, fill-held, fill-number, fill-room, fill-pairs, fill-block, CheckRefused, check-held, check-room, check-blocks, OwnRefused, own_held, own-blocks, TilesRefused, tiles-held, tiles-room, tiles-blocks, BodyRefused, body-ranges, body-constant, body-sweep, body-raw, body-blocks, body-huffman, WholeRefused, whole-header, whole_room, whole-mask, whole-body, PublishRefused, publish-blob, publish-given}
use Rattle.lerc_theorems.proofs.Wrong.{pairs-not, not-pairs}
use Rattle.lerc_theorems.proofs.Wrong as wrong
use Rattle.lerc_theorems.proofs.Demands.{fail-is, demand, reading, reading-at, reading-one, choosing, not-refused, marked-exactly, and-not, and_first, and_second}
use Rattle.lerc_theorems.proofs.Bodies.{swept-in}
use Rattle.lerc_theorems.proofs.Blocks.{word-one, constants-exactly, block-exactly}
use Rattle.lerc_theorems.proofs.Huffman.{image-exactly}
use Rattle.lerc_theorems.proofs.Headers.{right-held, held-exactly, holding, header-exactly, mask-exactly, ranges-exactly}
use Rattle.lerc.specs.declared.Staged.{Staged}

-- ---- sweep and mode byte

module _ (s : List ℕ) where
  mode-at : {n : Refusal} (at : ℕ) → mode_at s at ≡ fail n → ModeRefused s at n
  unfolding mode_byte
  mode-at at e =
      let P : Refusal → Type 0 = λ q. ModeRefused s at (placed at q) in
      let (_, e, z) = marked-fails at (mode_byte s at) e in
      rw (z) (reading-one P 1 (word_at 1 s at) _ (word-one 1 s at) e (λ d. mode-cut (word_at-fails 1 s at d)) (λ v d e.
      demand P (ltb v 3) 8 _ e (λ t. mode-wrong v d (ltb-false _ _ t)) (λ t e. not-refused e)))

  at-mode : {n : Refusal} {at : ℕ} → ModeRefused s at n → mode_at s at ≡ fail n
  unfolding mode_byte
  at-mode (mode-cut l) = rw (word_at-no 1 s _ l)
  at-mode (mode-wrong v d l) = rw (d, le-ltb v 3 l)

  -- a sweep byte that was accepted
  sweep-is : {v : ℕ} (at : ℕ) → sweep_byte s at ≡ ok v → (word_at 1 s at ≡ ok v) × (v < 2)
  unfolding sweep_byte
  sweep-is at e =
      let (w, d, e) = bind_is (word_at 1 s at) _ e in
      let (_, t, e) = bind_is (require (ltb w 2) 8) _ e in
      rw (← ok-is e) (d, ltb-true _ _ (require-is _ 8 t))

  module _ (kind error at : ℕ) where
    sweep-at : {n : Refusal} → sweep_byte s at ≡ fail n → SweepRefused s kind error at (placed at n)
    unfolding sweep_byte
    sweep-at e =
        let P : Refusal → Type 0 = λ q. SweepRefused s kind error at (placed at q) in
        reading-one P 1 (word_at 1 s at) _ (word-one 1 s at) e (λ d. sweep-cut (word_at-fails 1 s at d)) (λ v d e.
        demand P (ltb v 2) 8 _ e (λ t. sweep-wrong v d (ltb-false _ _ t)) (λ t e. not-refused e))

    sweep-refused : {n : Refusal} → swept s kind error at ≡ fail n → SweepRefused s kind error at n
    unfolding swept moded
    sweep-refused e =
        let P = SweepRefused s kind error at in
        reading-at P at (sweep_byte s at) _ e (λ q d. sweep-at d) (λ v d e.
        let (d, l) = sweep-is at d in
        choosing P (eqb v 1) _ _ e (λ u e. not-refused e) (λ u e.
        let o : v ≢ 1 = eqb-false v 1 u in
        let z : v ≡ 0 = omega (arith, o) in
        choosing P (has_mode_byte kind error) _ _ e (λ m e. mode-refused (rw (z) at d) m (mode-at (at + 1) e)) (λ m e. not-refused e)))

    refused-sweep : {n : Refusal} → SweepRefused s kind error at n → swept s kind error at ≡ fail n
    unfolding swept sweep_byte moded
    refused-sweep (sweep-cut l) = rw (word_at-no 1 s at l)
    refused-sweep (sweep-wrong v d l) = rw (d, le-ltb v 2 l)
    refused-sweep (mode-refused d m r) = rw (d, m, at-mode r)

    pub sweep-exactly : (n : Refusal) → (swept s kind error at ≡ fail n) ↔ SweepRefused s kind error at n
    sweep-exactly n = (sweep-refused, refused-sweep)

-- ---- blocks

module _ (s : List ℕ) (h : Header) (maxima m : List ℕ) where
  pub block-at-exactly : (n at : ℕ) (j : Refusal) → (block_at s h maxima m n at ≡ fail j) ↔ BlockAtRefused s h maxima m n at j
  unfolding block_at
  block-at-exactly n at j =
      let t = tile_of (shape_of h) n in
      let top = get_or maxima t.d 0 in
      let k = valid_in_tile (shape_of h) m t in
      marked-exactly at (block_says s at h.kind h.error top t.x k) (block-exactly s h.kind h.error top at t.x k) j

  chain-refused : {j : Refusal} (f n at : ℕ) → chain s h maxima m f n at ≡ fail j → ChainRefused s h maxima m f n at j
  unfolding chain
  chain-refused zero n at e = not-refused e
  chain-refused {j} (suc f) n at e =
      let P = ChainRefused s h maxima m (suc f) n at in
      reading P (block_at s h maxima m n at) _ e (λ d. block_refused {j = j} 0 (record { starts = []; words = []; end = at }) (omega arith) refl (rw (add-zero) ((block-at-exactly n at j).0 d))) (λ b d e.
      reading P (chain s h maxima m f (suc n) b.next) _ e (λ q. later b d (chain-refused f (suc n) b.next q)) (λ c q e. not-refused e))
    where
      later : (b : Block) → block_at s h maxima m n at ≡ ok b → ChainRefused s h maxima m f (suc n) b.next j → ChainRefused s h maxima m (suc f) n at j
      later b d (block_refused k c l p q) =
          block_refused {j = j} (suc k) (record { starts = at ∷ c.starts; words = b.words ∷ c.words; end = c.end }) (omega arith) (rw (d, p)) (rw (add-suc) (rw (suc-add) at q))

  refused-at : {j : Refusal} (f n at k : ℕ) (c : Chain) → k < f → chain s h maxima m k n at ≡ ok c → block_at s h maxima m (n + k) c.end ≡ fail j → chain s h maxima m f n at ≡ fail j
  unfolding chain
  refused-at zero n at k c l p q = absurd (omega arith)
  refused-at (suc f) n at zero c l p q =
      let z : at ≡ c.end = ap (λ (x : Chain). x.end) (ok-is p) in
      rw (rw (add-zero, ← z) at q)
  refused-at {j} (suc f) n at (suc k) c l p q =
      let (b, d, p) = bind_is (block_at s h maxima m n at) _ p in
      let (x, g, p) = bind_is (chain s h maxima m k (suc n) b.next) _ p in
      let z : x.end ≡ c.end = ap (λ (y : Chain). y.end) (ok-is p) in
      rw (d, refused-at {j = j} f (suc n) b.next k x (omega arith) g (rw (suc-add) (rw (add-suc, ← z) at q)))

  pub chain-exactly : (f n at : ℕ) (j : Refusal) → (chain s h maxima m f n at ≡ fail j) ↔ ChainRefused s h maxima m f n at j
  chain-exactly f n at j = (chain-refused f n at, back)
    where
      back : ChainRefused s h maxima m f n at j → chain s h maxima m f n at ≡ fail j
      back (block_refused k c l p q) = refused-at f n at k c l p ((block-at-exactly (n + k) c.end j).1 q)

-- ---- walk

module _ (s : List ℕ) (h : Header) (r : Ranges) (m : List ℕ) where
  walk-body-refused : {n : Refusal} → body_walked s h r.max m r.at ≡ fail n → WalkBodyRefused s h r m n
  unfolding body_walked way_walked
  walk-body-refused {n} e = reading (WalkBodyRefused s h r m) (swept s h.kind h.error r.at) _ e (λ d. walk-sweep ((sweep-exactly s h.kind h.error r.at n).0 d)) (λ w d e. on w d e)
    where
      on : (w : Way) → swept s h.kind h.error r.at ≡ ok w → way_walked s h r.max m r.at w ≡ fail n → WalkBodyRefused s h r m n
      on (raw_from at) d e = rw (← fail-is e) (walk-raw at d)
      on (blocks_from at) d e = walk-blocks at d ((chain-exactly s h r.max m (block_count (shape_of h)) 0 at n).0 e)
      on (huffman_from delta mode) d e = rw (← fail-is e) (walk-huffman delta mode d)

  refused-walk-body : {n : Refusal} → WalkBodyRefused s h r m n → body_walked s h r.max m r.at ≡ fail n
  unfolding body_walked way_walked
  refused-walk-body {n} (walk-sweep d) = rw ((sweep-exactly s h.kind h.error r.at n).1 d)
  refused-walk-body (walk-raw at d) = rw (d)
  refused-walk-body (walk-huffman delta mode d) = rw (d)
  refused-walk-body {n} (walk-blocks at d c) = rw (d, (chain-exactly s h r.max m (block_count (shape_of h)) 0 at n).1 c)

module _ (b : List ℕ) (h : Header) (r : Ranges) (m : List ℕ) (entries : ℕ) where
  walk_refused : {n : Refusal} → walk_says b h r m entries ≡ fail n → WalkRefused b h r m entries n
  unfolding walk_says
  walk_refused {n} e =
      let P = WalkRefused b h r m entries in
      holding h (length b) P _ e (λ d. walk-held d) (λ g e.
      demand P (leb (mask_length (shape_of h)) (length m) && leb (block_count (shape_of h)) entries) 5 _ e
      (λ t. walk-room g (⊎_elim (λ u. inl (leb-false _ _ u)) (λ u. inr (leb-false _ _ u)) (and-not _ _ t)))
      (λ t e. let (u, v) = and_is _ _ t in let k : WalkRoom h m entries = record { mask = leb-true _ _ u; list = leb-true _ _ v } in
      demand P (pairs_right h.depth r) 7 _ e (λ p. walk-pairs g k (pairs-not h.depth r p)) (λ p e.
      demand P (ltb 0 h.valid && not r.constant) 10 _ e
      (λ t. walk-other g k p (⊎_elim (λ u. inl (let w = ltb-false 0 h.valid u in omega arith)) (λ u. inr (not-false _ u)) (and-not _ _ t)))
      (λ t e. let (u, v) = and_is _ _ t in
      walk-body g k p (λ z. absurd (let w = ltb-true 0 h.valid u in omega arith)) (not-true _ v) (walk-body-refused (take h.size b) h r m e)))))

  refused-walk : {n : Refusal} → WalkRefused b h r m entries n → walk_says b h r m entries ≡ fail n
  unfolding walk_says
  refused-walk {n} (walk-held d) = rw ((held-exactly h (length b) n).1 d)
  refused-walk (walk-room g s) =
      rw (right-held h (length b) g, ⊎_elim (λ u. and_first _ (leb (block_count (shape_of h)) entries) (lt-leb _ _ u)) (λ u. and_second (leb (mask_length (shape_of h)) (length m)) _ (lt-leb _ _ u)) s)
  refused-walk (walk-pairs g k p) = rw (right-held h (length b) g, le-leb _ _ k.mask, le-leb _ _ k.list, not-pairs h.depth r p)
  refused-walk (walk-other g k p o) =
      rw (
        right-held h (length b) g,
        le-leb _ _ k.mask,
        le-leb _ _ k.list,
        p,
        ⊎_elim (λ z. and_first (ltb 0 h.valid) (not r.constant) (le-ltb 0 h.valid (let w : h.valid ≡ 0 = z in omega arith))) (λ z. and_second (ltb 0 h.valid) (not r.constant) (rw (z))) o,
      )
  refused-walk {n} (walk-body g k p v c w) =
      let z : 0 < h.valid = omega (arith, v) in
      rw (right-held h (length b) g, le-leb _ _ k.mask, le-leb _ _ k.list, p, lt-ltb 0 h.valid z, c, refused-walk-body (take h.size b) h r m w)

  pub walk-exactly : (n : Refusal) → (walk_says b h r m entries ≡ fail n) ↔ WalkRefused b h r m entries n
  walk-exactly n = (walk_refused, refused-walk)

-- ---- fill, and all blocks at once

module _ (h : Header) (m : List ℕ) (entries words : ℕ) where
  abbrev fill_room : Bool
  fill_room = leb (mask_length (shape_of h)) (length m) && leb (block_count (shape_of h)) entries && leb (cells (shape_of h)) words

  room-is : fill_room ≡ true → FillRoom h m entries words
  room-is t =
      let (a, c) = and_is (leb (mask_length (shape_of h)) (length m) && leb (block_count (shape_of h)) entries) _ t in
      let (a, b) = and_is (leb (mask_length (shape_of h)) (length m)) _ a in
      record { mask = leb-true _ _ a; list = leb-true _ _ b; image = leb-true _ _ c }

  is-room : FillRoom h m entries words → fill_room ≡ true
  is-room k = rw (le-leb _ _ k.mask, le-leb _ _ k.list, le-leb _ _ k.image)

  room-not : fill_room ≡ false → NoFillRoom h m entries words
  room-not t =
      ⊎_elim (λ u. ⊎_elim (λ v. inl (leb-false _ _ v)) (λ v. inr (inl (leb-false _ _ v))) (and-not (leb (mask_length (shape_of h)) (length m)) _ u)) (λ u. inr (inr (leb-false _ _ u)))
      (and-not (leb (mask_length (shape_of h)) (length m) && leb (block_count (shape_of h)) entries) _ t)

  not-room : NoFillRoom h m entries words → fill_room ≡ false
  not-room (inl u) = and_first _ (leb (cells (shape_of h)) words) (and_first _ (leb (block_count (shape_of h)) entries) (lt-leb _ _ u))
  not-room (inr (inl u)) = and_first _ (leb (cells (shape_of h)) words) (and_second (leb (mask_length (shape_of h)) (length m)) _ (lt-leb _ _ u))
  not-room (inr (inr u)) = and_second (leb (mask_length (shape_of h)) (length m) && leb (block_count (shape_of h)) entries) _ (lt-leb _ _ u)

module _ (b : List ℕ) (h : Header) (r : Ranges) (m list : List ℕ) (n words : ℕ) where
  fill-refused : {j : Refusal} → fill_says b h r m list n words ≡ fail j → FillRefused b h r m list n words j
  unfolding fill_says
  fill-refused {j} e =
      let P = FillRefused b h r m list n words in
      holding h (length b) P _ e (λ d. fill-held d) (λ g e.
      demand P (ltb n (block_count (shape_of h))) 11 _ e (λ t. fill-number g (ltb-false _ _ t)) (λ t e.
      let l = ltb-true n (block_count (shape_of h)) t in
      demand P (fill_room h m (length list) words) 5 _ e (λ u. fill-room g l (room-not h m (length list) words u)) (λ u e.
      let k = room-is h m (length list) words u in
      demand P (pairs_right h.depth r) 7 _ e (λ p. fill-pairs g l k (pairs-not h.depth r p)) (λ p e. fill-block g l k p ((block-at-exactly (take h.size b) h r.max m n (get_or list n 0) j).0 e)))))

  refused-fill : {j : Refusal} → FillRefused b h r m list n words j → fill_says b h r m list n words ≡ fail j
  unfolding fill_says
  refused-fill {j} (fill-held d) = rw ((held-exactly h (length b) j).1 d)
  refused-fill (fill-number g l) = rw (right-held h (length b) g, le-ltb _ _ l)
  refused-fill (fill-room g l u) = rw (right-held h (length b) g, lt-ltb _ _ l, not-room h m (length list) words u)
  refused-fill (fill-pairs g l k p) = rw (right-held h (length b) g, lt-ltb _ _ l, is-room h m (length list) words k, not-pairs h.depth r p)
  refused-fill {j} (fill-block g l k p e) =
      rw (right-held h (length b) g, lt-ltb _ _ l, is-room h m (length list) words k, p) ((block-at-exactly (take h.size b) h r.max m n (get_or list n 0) j).1 e)

  pub fill-exactly : (j : Refusal) → (fill_says b h r m list n words ≡ fail j) ↔ FillRefused b h r m list n words j
  fill-exactly j = (fill-refused, refused-fill)

module _ (b : List ℕ) (h : Header) (m maxima : List ℕ) (at : ℕ) where
  check-refused : {j : Refusal} → checked_tiles b h m maxima at ≡ fail j → CheckRefused b h m maxima at j
  unfolding checked_tiles
  check-refused {j} e =
      let P = CheckRefused b h m maxima at in
      holding h (length b) P _ e (λ d. check-held d) (λ g e.
      demand P (leb (mask_length (shape_of h)) (length m)) 5 _ e (λ u. check-room g (leb-false _ _ u)) (λ u e.
      check-blocks g (leb-true _ _ u) ((chain-exactly (take h.size b) h maxima m (block_count (shape_of h)) 0 at j).0 e)))

  refused-check : {j : Refusal} → CheckRefused b h m maxima at j → checked_tiles b h m maxima at ≡ fail j
  unfolding checked_tiles
  refused-check {j} (check-held d) = rw ((held-exactly h (length b) j).1 d)
  refused-check (check-room g u) = rw (right-held h (length b) g, lt-leb _ _ u)
  refused-check {j} (check-blocks g k c) = rw (right-held h (length b) g, le-leb _ _ k) ((chain-exactly (take h.size b) h maxima m (block_count (shape_of h)) 0 at j).1 c)

  pub check-exactly : (j : Refusal) → (checked_tiles b h m maxima at ≡ fail j) ↔ CheckRefused b h m maxima at j
  check-exactly j = (check-refused, refused-check)

module _ (b : List ℕ) (h : Header) (maxima : List ℕ) (at : ℕ) where
  own-refused : {j : Refusal} → own_tiles b h maxima at ≡ fail j → OwnRefused b h maxima at j
  unfolding own_tiles
  own-refused {j} e =
      holding h (length b) (OwnRefused b h maxima at) _ e (λ d. own_held d)
      (λ g e. own-blocks g ((chain-exactly (take h.size b) h maxima (own_mask (take h.size b) h) (block_count (shape_of h)) 0 at j).0 e))

  refused-own : {j : Refusal} → OwnRefused b h maxima at j → own_tiles b h maxima at ≡ fail j
  unfolding own_tiles
  refused-own {j} (own_held d) = rw ((held-exactly h (length b) j).1 d)
  refused-own {j} (own-blocks g c) = rw (right-held h (length b) g) ((chain-exactly (take h.size b) h maxima (own_mask (take h.size b) h) (block_count (shape_of h)) 0 at j).1 c)

  pub own-exactly : (j : Refusal) → (own_tiles b h maxima at ≡ fail j) ↔ OwnRefused b h maxima at j
  own-exactly j = (own-refused, refused-own)

module _ (b : List ℕ) (h : Header) (m maxima : List ℕ) (at entries words : ℕ) where
  tiles-refused : {j : Refusal} → tiles_says b h m maxima at entries words ≡ fail j → TilesRefused b h m maxima at entries words j
  unfolding tiles_says
  tiles-refused {j} e =
      let P = TilesRefused b h m maxima at entries words in
      holding h (length b) P _ e (λ d. tiles-held d) (λ g e.
      demand P (fill_room h m entries words) 5 _ e (λ u. tiles-room g (room-not h m entries words u)) (λ u e.
      tiles-blocks g (room-is h m entries words u) ((chain-exactly (take h.size b) h maxima m (block_count (shape_of h)) 0 at j).0 e)))

  refused-tiles : {j : Refusal} → TilesRefused b h m maxima at entries words j → tiles_says b h m maxima at entries words ≡ fail j
  unfolding tiles_says
  refused-tiles {j} (tiles-held d) = rw ((held-exactly h (length b) j).1 d)
  refused-tiles (tiles-room g u) = rw (right-held h (length b) g, not-room h m entries words u)
  refused-tiles {j} (tiles-blocks g k c) = rw (right-held h (length b) g, is-room h m entries words k) ((chain-exactly (take h.size b) h maxima m (block_count (shape_of h)) 0 at j).1 c)

  pub tiles-exactly : (j : Refusal) → (tiles_says b h m maxima at entries words ≡ fail j) ↔ TilesRefused b h m maxima at entries words j
  tiles-exactly j = (tiles-refused, refused-tiles)

-- ---- raw words

module _ (len at size n : ℕ) (pos : 0 < size) where
  -- n words pass the end: behind those that are whole the next is one of them
  word-missing : at ≤ len → len < at + n * size → ((len - at) / size < n) × (at + (len - at) / size * size ≤ len) × (len < at + (len - at) / size * size + size)
  word-missing l m =
      let a : len - at < n * size = omega arith in
      let b = div-mul-le_self (len - at) size in
      let c = lt-div-mul-add {a = len - at} {b = size} pos in
      ((div-lt_iff_lt-mul pos).1 a, omega arith, omega arith)

  -- one of n words is the first that is not whole: so they pass the end, and it is behind those that are whole
  missing-word : (k : ℕ) → k < n → at + k * size ≤ len → len < at + k * size + size → (len < at + n * size) × ((len - at) / size ≡ k)
  missing-word k l m o =
      let a : k * size ≤ len - at = omega arith in
      let b : len - at < (k + 1) * size = rw (add-one, suc-mul) (omega arith) in
      let c : suc k ≤ n = omega arith in
      (omega (arith, mul-le-mul_right size c, suc-mul k size), div-eq_of_lt-le size a b)

-- ---- whole read

module _ (s : List ℕ) (h : Header) (m : List ℕ) where
  -- behind the ranges
  rest-refused : {n : Refusal} (r : Ranges) → h.valid ≢ 0 → ranges_says s h ≡ ok r → cond r.constant (constant_body h r) (swept_body s h r m) ≡ fail n → BodyRefused s h m n
  unfolding constant_body swept_body raw_body raw_words block_body huffman_body
  rest-refused {n} r v d e =
      let P = BodyRefused s h m in
      choosing P r.constant _ _ e
      (λ c e. reading P (constant_words h.depth h.kind r.min) _ e (λ w. body-constant r v d c ((constants-exactly h.depth h.kind r.min n).0 w)) (λ ws w e. not-refused e))
      (λ c e. reading P (swept s h.kind h.error r.at) _ e (λ w. body-sweep r v d c ((sweep-exactly s h.kind h.error r.at n).0 w)) (λ w q e. on c w q e))
    where
      on : r.constant ≡ false → (w : Way) → swept s h.kind h.error r.at ≡ ok w → body_from s h r m w ≡ fail n → BodyRefused s h m n
      on c (raw_from at) q e =
          let place = missing_word_at (length s) at h.kind in
          let t = leb (at + h.valid * h.depth * type_size h.kind) (length s) in
          let l = (swept-in s h.kind h.error r.at (raw_from at) q).1 in
          reading-at (BodyRefused s h m) place (raw_words s at h.kind (h.valid * h.depth)) _ e
          (λ _ w. demand (λ why. BodyRefused s h m (placed place why)) t 1 _ w
          (λ u. let (a, b, o) = word-missing (length s) at (type_size h.kind) (h.valid * h.depth) (size-ge h.kind) l (leb-false _ _ u) in body-raw r at _ v d c q a b o) (λ u e. not-refused e))
          (λ k w e. not-refused e)
      on c (blocks_from at) q e =
          reading (BodyRefused s h m) (all_blocks s h r.max m at) _ e (λ w. body-blocks r at v d c q ((chain-exactly s h r.max m (block_count (shape_of h)) 0 at n).0 w)) (λ k w e. not-refused e)
      on c (huffman_from delta mode) q e = reading (BodyRefused s h m) (image_at s h mode) _ e (λ w. body-huffman r delta mode v d c q ((image-exactly s h mode n).0 w)) (λ k w e. not-refused e)

  body_refused : {n : Refusal} → body_says s h m ≡ fail n → BodyRefused s h m n
  unfolding body_says
  body_refused {n} e =
      let P = BodyRefused s h m in
      choosing P (eqb h.valid 0) _ _ e (λ t e. not-refused e) (λ t e.
      let v = eqb-false h.valid 0 t in
      reading P (ranges_says s h) _ e (λ d. body-ranges v ((ranges-exactly s h n).0 d)) (λ r d e. rest-refused r v d e))

  refused-body : {n : Refusal} → BodyRefused s h m n → body_says s h m ≡ fail n
  unfolding body_says constant_body swept_body raw_body raw_words block_body huffman_body
  refused-body {n} (body-ranges v d) = rw (ne_eqb _ _ v, (ranges-exactly s h n).1 d)
  refused-body {n} (body-constant r v d c w) = rw (ne_eqb _ _ v, d, c, (constants-exactly h.depth h.kind r.min n).1 w)
  refused-body {n} (body-sweep r v d c w) = rw (ne_eqb _ _ v, d, c, (sweep-exactly s h.kind h.error r.at n).1 w)
  refused-body (body-raw r at k v d c w l u o) =
      let (p, z) = missing-word (length s) at (type_size h.kind) (h.valid * h.depth) (size-ge h.kind) k l u o in
      rw (ne_eqb _ _ v, d, c, w, lt-leb _ _ p, z)
  refused-body {n} (body-blocks r at v d c w k) = rw (ne_eqb _ _ v, d, c, w, (chain-exactly s h r.max m (block_count (shape_of h)) 0 at n).1 k)
  refused-body {n} (body-huffman r delta mode v d c w k) = rw (ne_eqb _ _ v, d, c, w, (image-exactly s h mode n).1 k)

  pub body-exactly : (n : Refusal) → (body_says s h m ≡ fail n) ↔ BodyRefused s h m n
  body-exactly n = (body_refused, refused-body)

module _ (b : List ℕ) (reuse : Bool) (l : Lent) where
  masked-refused : {n : Refusal} → masked b reuse l ≡ fail n → WholeRefused b reuse l n
  unfolding masked
  masked-refused {n} e =
      let P = WholeRefused b reuse l in
      reading P (header_says b) _ e (λ d. whole-header ((header-exactly b n).0 d)) (λ h d e.
      demand P (room h l) 5 _ e (λ t. whole_room h d (wrong.room-not h l t)) (λ t e.
      reading P (mask_says (take h.size b) h reuse l.kept) _ e
      (λ q. let (z, w) = (mask-exactly (take h.size b) h reuse l.kept n).0 q in rw (z) (whole-mask h d t w)) (λ m q e. not-refused e)))

  whole-refused : {n : Refusal} → read_says b reuse l ≡ fail n → WholeRefused b reuse l n
  unfolding read_says meaning_from
  whole-refused {n} e =
      let P = WholeRefused b reuse l in
      reading P (masked b reuse l) _ e masked-refused (λ k d e.
      reading P (body_says (take k.header.size b) k.header (bytes_of k.mask)) _ e (λ q. whole-body k d ((body-exactly (take k.header.size b) k.header (bytes_of k.mask) n).0 q)) (λ y q e. not-refused e))

  refused-behind : {n : Refusal} (k : Masked) → masked b reuse l ≡ ok k → BodyRefused (take k.header.size b) k.header (bytes_of k.mask) n → read_says b reuse l ≡ fail n
  unfolding read_says meaning_from
  refused-behind {n} k d w = rw (d, (body-exactly (take k.header.size b) k.header (bytes_of k.mask) n).1 w)

  refused-whole : {n : Refusal} → WholeRefused b reuse l n → read_says b reuse l ≡ fail n
  unfolding read_says masked meaning_from
  refused-whole {n} (whole-header d) = rw ((header-exactly b n).1 d)
  refused-whole (whole_room h d t) = rw (d, wrong.not-room h l t)
  refused-whole (whole-mask h d t w) = rw (d, t, (mask-exactly (take h.size b) h reuse l.kept (placed mask_field (refuse 6))).1 (refl, w))
  refused-whole (whole-body k d w) = refused-behind k d w

  pub whole-exactly : (n : Refusal) → (read_says b reuse l ≡ fail n) ↔ WholeRefused b reuse l n
  whole-exactly n = (whole-refused, refused-whole)

  -- publishing
  module _ (given : Res Staged) where
    publish-refused : {n : Refusal} → publish_says b reuse given l ≡ fail n → PublishRefused b reuse given l n
    unfolding publish_says
    publish-refused {n} e =
        let P = PublishRefused b reuse given l in
        reading P (read_says b reuse l) _ e (λ d. publish-blob ((whole-exactly n).0 d)) (λ m d e.
        demand P (was_staged m given l) 3 _ e (λ t. publish-given m d t) (λ t e. not-refused e))

    refused-publish : {n : Refusal} → PublishRefused b reuse given l n → publish_says b reuse given l ≡ fail n
    unfolding publish_says
    refused-publish {n} (publish-blob w) = rw ((whole-exactly n).1 w)
    refused-publish (publish-given m d t) = rw (d, t)

    pub publish-exactly : (n : Refusal) → (publish_says b reuse given l ≡ fail n) ↔ PublishRefused b reuse given l n
    publish-exactly n = (publish-refused, refused-publish)
