-- What an outcome writes, and nothing else.
-- Assumes nothing.
use mathlib.Core.Path.{◌≡◌, ◌∙◌, sym, ap, refl}
use mathlib.Core.Bool.{Bool, true, false, ◌&&◌, ◌||◌}
use mathlib.Core.List.{List, [], ◌∷◌, ◌++◌}
use Prim.Native.Nat.{ℕ, zero, suc, ◌+◌, ◌-◌, ◌≤◌, ◌<◌}
use native.Mathlib.Omega.{arith}
use native.Mathlib.Decide.{dec_lt}
use native.Mathlib.Nat.{le_refl, le_trans}
use lib.ListN.{length, get_or, take, drop, length-append, length-drop, get_or-eq_default}
use lib.Dec.{leb, eqb}
use lib.Seq.{get_or-append-add, get_or-drop}
use borrow.Author.Tests.{leb-true}
use Rattle.lerc_words.specs.Res.{Res, ok, fail, marked, require, after}
use Rattle.lerc_words.specs.Lists.{over}
use Rattle.lerc_words.proofs.Binding.{bind_is, require-is, and_is, ok-is, cond-elim}
use Rattle.lerc_words.proofs.Marking.{marked-is}
use Rattle.lerc_bits.specs.Bits.{Counts, Span, CountsDecoded}
use Rattle.lerc_header.specs.declared.Header.{Header}
use Rattle.lerc_header.specs.Header.{shape_of, ranges_at, extent_of, held}
use Rattle.lerc_header.specs.Shape.{cells, mask_length, block_count}
use Rattle.lerc_header.proofs.Kept.{held-is}
use Rattle.lerc_mask.specs.Mask.{mask_bytes, coded, decoded}
use Rattle.lerc_mask.proofs.Runs.{coded-length}
use Rattle.lerc_ranges.specs.declared.Ranges.{Ranges}
use Rattle.lerc_validity.specs.Validity.{MaskInForce, reused, new, bytes_of, find_says, prepare_says, spare_with, Prepared, MaskTold}
use Rattle.lerc_validity.proofs.Prepared.{prepare-found, mask-length, mask-right}
use Rattle.lerc_block.specs.Block.{Block, tile_limit, read_block_says, BlockRead}
use Rattle.lerc_block.proofs.Accepted.{block_words}
use Rattle.lerc_image.specs.Paint.{painted, in_block, word_of, scattered}
use Rattle.lerc_image.proofs.Painting.{length-painted, painted-cell}
use Rattle.lerc_ranges.specs.Ranges.{ranges_says}
use Rattle.lerc_image.specs.Geometry.{is_valid_cell}
use Rattle.lerc_sweep.specs.Sweep.{Way, raw_from, blocks_from, huffman_from, swept}
use Rattle.lerc_image.specs.Blocks.{block_at, Chain, chain}
use Rattle.lerc_image.specs.Walk.{walk_says, walk_list, BlocksWalked, Walk}
use Rattle.lerc_image.specs.Fill.{fill_says, fill_image}
use Rattle.lerc_image.specs.Tiles.{block_end, head_starts, room_to_list, listed_tiles, is_listed, listed_image, room_to_fill, filled_tiles, starts_from, image_from, written_list, written_image, tiles_says, Tiled}
use Rattle.lerc_image.proofs.Chain.{chain-lengths}
use Rattle.lerc_byte_image.specs.Prediction.{byte_word}
use Rattle.lerc_byte_image.specs.Image.{symbol_no, write_table, by_table, written_image as written_bytes}
use Rattle.lerc_fills.specs.Each.{fill_each}
use Rattle.lerc.specs.Meaning.{Meaning, Body, starts_of, body_from, block_body, swept_body, body_says, meaning_from}
use Rattle.lerc.specs.Read.{Lent, room, Masked, masked, read_says, published, read_after, ReadTold, read_count, WholeRead}
use Rattle.lerc.proofs.Endings.{constant-starts, raw-starts, huffman-starts}
use Rattle.lerc_theorems.specs.Writes.{AlikeFrom, AlikeBut, in_some, WritesOnly, WholeWrites}
use Rattle.lerc_theorems.proofs.Refusals.{masked-is}
use Rattle.lerc_theorems.proofs.Meanings.{rooms}
use Rattle.lerc_theorems.proofs.Fills.{walk_is}

-- ---- lists

or-false : (a b : Bool) → (a || b) ≡ false → (a ≡ false) × (b ≡ false)
or-false true b e = absurd (let z : ◌≡◌ {A = ℕ} 0 1 = cc in omega arith)
or-false false b e = (refl, e)

alike_same : (n : ℕ) {old x : List ℕ} → x ≡ old → AlikeFrom n old x
alike_same n e = rw (e) (record { long = refl; rest = λ i l. refl })

-- behind new entries in front
over-rest : (front old : List ℕ) (i : ℕ) → length front ≤ i → get_or (over front old) i 0 ≡ get_or old i 0
over-rest front old i l =
    let e : length front + (i - length front) ≡ i = omega arith in
    let p : get_or (front ++ drop (length front) old) (length front + (i - length front)) 0 ≡ get_or (drop (length front) old) (i - length front) 0 = get_or-append-add front (drop (length front) old) (i - length front) 0 in
    let q : get_or (drop (length front) old) (i - length front) 0 ≡ get_or old (length front + (i - length front)) 0 = get_or-drop (length front) old (i - length front) 0 in
    rw (e) at (p ∙ q)

alike-over : (front old : List ℕ) → length front ≤ length old → AlikeFrom (length front) old (over front old)
alike-over front old h = record { long = rw (length-append, length-drop) (omega arith); rest = over-rest front old }

but_same : (cells : ℕ → Bool) {old x : List ℕ} → x ≡ old → AlikeBut cells old x
but_same cells e = rw (e) (record { long = refl; rest = λ c l. refl })

but-painted : (image : List ℕ) (which : ℕ → Bool) (word : ℕ → ℕ) → AlikeBut which image (painted image which word)
but-painted image which word = record { long = length-painted image word which; rest = λ c e. go c e (dec_lt c (length image)) }
  where
    go : (c : ℕ) → which c ≡ false → Dec (c < length image) → get_or (painted image which word) c 0 ≡ get_or image c 0
    go c e (yes l) = painted-cell image word which c l ∙ rw (e)
    go c e (no g) =
        let l : length image ≤ c = omega arith in
        let k : length (painted image which word) ≤ c = rw (length-painted image word which) l in
        get_or-eq_default (painted image which word) 0 k ∙ sym (get_or-eq_default image 0 l)

-- fewer entries, and fewer cells
alike-more : {k n : ℕ} {old x : List ℕ} → k ≤ n → AlikeFrom k old x → AlikeFrom n old x
alike-more h p = record { long = p.long; rest = λ i l. p.rest i (le_trans h l) }

but-fewer : {which others : ℕ → Bool} {old x : List ℕ} → ((c : ℕ) → others c ≡ false → which c ≡ false) → AlikeBut which old x → AlikeBut others old x
but-fewer f p = record { long = p.long; rest = λ c e. p.rest c (f c e) }

-- one after the other
but-then : {which others : ℕ → Bool} {old mid x : List ℕ} → AlikeBut which old mid → AlikeBut others mid x → AlikeBut (λ c. which c || others c) old x
but-then {which} {others} p q =
    record {
      long = q.long ∙ p.long;
      rest = λ c e.
          let (f, g) = or-false (which c) (others c) e in
          q.rest c g ∙ p.rest c f;
    }

-- new entries of a known number, or as before where the answer is a refusal
alike-after : {A : Type 0} (n : ℕ) (m : Res A) (front : A → List ℕ) {old x : List ℕ} → ((a : A) → m ≡ ok a → (length (front a) ≡ n) × (n ≤ length old)) → x ≡ after m old (λ a. over (front a) old) → AlikeFrom n old x
alike-after n (fail r) front f d = alike_same n d
alike-after n (ok a) front {old} f d =
    let (l, k) = f a refl in
    rw (d, ← l) (alike-over (front a) old (rw (l) k))

but-after : {A : Type 0} (m : Res A) (which : ℕ → Bool) (word : A → ℕ → ℕ) {old x : List ℕ} → x ≡ after m old (λ a. painted old which (word a)) → AlikeBut which old x
but-after (fail r) which word d = but_same which d
but-after (ok a) which word {old} d = rw (d) (but-painted old which (word a))

-- ---- packed counts

decode-rest : (m : Res Counts) {n next : ℕ} {old x : List ℕ} → CountsDecoded m (ok (record { n = n; next = next })) old x → (i : ℕ) → n ≤ i → get_or x i 0 ≡ get_or old i 0
decode-rest (fail r) d i l = absurd (let e = d.says in let z : ◌≡◌ {A = ℕ} 0 1 = cc in omega arith)
decode-rest (ok c) {n} d i l =
    let e = d.says in
    let z : n ≡ length c.values = ap (λ (s : Span). s.n) (ok-is e) in
    rw d.left (over-rest c.values _ i (rw (← z) l))

-- ---- one block

read-rest : (s : List ℕ) (at kind error top x n : ℕ) {next : ℕ} {old y : List ℕ} → BlockRead (marked at (read_block_says s at kind error top x n)) (ok next) old y
    → (i : ℕ) → n ≤ i → get_or y i 0 ≡ get_or old i 0
unfolding read_block_says
read-rest s at kind error top x n d i l =
    let (b, e, _) = bind_is (marked at (read_block_says s at kind error top x n)) _ (sym d.says) in
    let (_, _, f) = bind_is (require (leb n tile_limit) 8) _ (marked-is at (read_block_says s at kind error top x n) e) in
    let z = block_words s at kind error top x n f in
    rw (d.words, e) (over-rest b.words _ i (rw (z) l))

-- ---- the mask

decoded-is : (s : List ℕ) (count valid room : ℕ) (m : List ℕ) → decoded s count valid room ≡ ok m → (length m ≡ mask_bytes count) × (mask_bytes count ≤ room)
unfolding decoded
decoded-is s count valid room m e =
    let (_, p, e) = bind_is (require (leb (mask_bytes count) room) 5) _ e in
    (coded-length s count valid m (marked-is _ (coded s count valid) e), leb-true _ _ (require-is _ 5 p))

-- a mask of the right length, new or reused
spare-alike : (n : ℕ) (f : MaskInForce) (spare : List ℕ) → length (bytes_of f) ≡ n → n ≤ length spare → AlikeFrom n spare (spare_with f spare)
spare-alike n (reused m) spare l k = alike_same n refl
spare-alike n (new m) spare l k = rw (← l) (alike-over m spare (rw (l) k))

prepare-writes : (b : List ℕ) (h : Header) (reuse : Bool) (kept : List ℕ) {r : Res MaskTold} {old x : List ℕ} → Prepared (prepare_says b h reuse kept (length old)) r old x → AlikeFrom (mask_length (shape_of h)) old x
prepare-writes b h reuse kept {r} {old} {x} p = go (prepare_says b h reuse kept (length old)) refl p.spare
  where
    go : (m : Res MaskInForce) → prepare_says b h reuse kept (length old) ≡ m → x ≡ after m old (λ f. spare_with f old) → AlikeFrom (mask_length (shape_of h)) old x
    go (fail q) e d = alike_same (mask_length (shape_of h)) d
    go (ok f) e d = rw (d) (spare-alike (mask_length (shape_of h)) f old (mask-length b h reuse kept (length old) f e) (prepare-found b h reuse kept (length old) f e).there)

find-writes : (s : List ℕ) (h : Header) (reuse : Bool) (kept : List ℕ) {r : Res MaskTold} {old x : List ℕ} → Prepared (find_says s h reuse kept (length old)) r old x → AlikeFrom (mask_length (shape_of h)) old x
unfolding find_says
find-writes s h reuse kept {r} {old} {x} p = go (find_says s h reuse kept (length old)) refl p.spare
  where
    go : (m : Res MaskInForce) → find_says s h reuse kept (length old) ≡ m → x ≡ after m old (λ f. spare_with f old) → AlikeFrom (mask_length (shape_of h)) old x
    go (fail q) e d = alike_same (mask_length (shape_of h)) d
    go (ok f) e d =
        let n = mask_length (shape_of h) in
        let (_, q, e) = bind_is (require (leb n (length kept) && leb n (length old)) 5) _ e in
        let (k, l) = and_is (leb n (length kept)) (leb n (length old)) (require-is _ 5 q) in
        let (_, _, e) = bind_is (require (leb (ranges_at h) (length s)) 1) _ e in
        rw (d) (spare-alike n f old (mask-right s h kept reuse f (leb-true n (length kept) k) e).size (leb-true n (length old) l))

-- ---- the list and the image

module _ (b : List ℕ) (h : Header) where
  walk-starts : (g : Ranges) (m : List ℕ) (room : ℕ) (c : Chain) → walk_says b h g m room ≡ ok c → (length c.starts ≡ block_count (shape_of h)) × (block_count (shape_of h) ≤ room)
  walk-starts g m room c e =
      let w = walk_is b h g m room c e in
      ((chain-lengths (take h.size b) h g.max m (block_count (shape_of h)) 0 w.from c w.blocks).0, w.list)

  walk-writes : (g : Ranges) (m : List ℕ) {r : Res Walk} {old x : List ℕ} → BlocksWalked b h g m r old x → AlikeFrom (block_count (shape_of h)) old x
  unfolding walk_list
  walk-writes g m {old = old} p = alike-after (block_count (shape_of h)) (walk_says b h g m (length old)) (λ c. c.starts) (walk-starts g m (length old)) p.list

  one_writes : (g : Ranges) (m list : List ℕ) (n : ℕ) (old : List ℕ) → AlikeBut (in_block (shape_of h) m n) old (fill_image b h g m list n old)
  unfolding fill_image
  one_writes g m list n old = but-after (fill_says b h g m list n (length old)) (in_block (shape_of h) m n) (λ k. word_of (shape_of h) m (λ i. k.words)) refl

  each-writes : (g : Ranges) (m list ns old : List ℕ) → AlikeBut (in_some (shape_of h) m ns) old (fill_each b h g m list ns old)
  unfolding in_some fill_each
  each-writes g m list [] old = but_same _ refl
  each-writes g m list (n ∷ ns) old = but-then (one_writes g m list n old) (each-writes g m list ns (fill_image b h g m list n old))

  -- as many starts as there are blocks, or fewer
  starts-most : (s m : List ℕ) (f n at : ℕ) → length (head_starts s h m f n at) ≤ f
  unfolding head_starts
  starts-most s m zero n at = le_refl 0
  starts-most s m (suc f) n at = go (block_end s h m n at) (λ end. starts-most s m f (suc n) end)
    where
      go : (x : Res ℕ) → ((end : ℕ) → length (head_starts s h m f (suc n) end) ≤ f) → suc (length (after x [] (λ end. head_starts s h m f (suc n) end))) ≤ suc f
      go (fail r) k = omega arith
      go (ok end) k = let l = k end in omega arith

  list-writes : (m : List ℕ) (at : ℕ) (list : List ℕ) → AlikeFrom (block_count (shape_of h)) list (listed_tiles b h m at list)
  unfolding listed_tiles room_to_list
  list-writes m at list = go (room_to_list b h m (length list)) refl
    where
      go : (x : Res Bool) → room_to_list b h m (length list) ≡ x → AlikeFrom (block_count (shape_of h)) list (after x list (λ _. over (head_starts (take h.size b) h m (block_count (shape_of h)) 0 at) list))
      go (fail r) e = alike_same _ refl
      go (ok t) e =
          let (x, d, e) = bind_is (held h (length b)) _ e in
          let i : x ≡ extent_of h = held-is h (length b) d in
          let (_, l) = and_is (leb x.mask (length m)) (leb x.blocks (length list)) (require-is _ 5 e) in
          let k : block_count (shape_of h) ≤ length list = rw (i) at (leb-true x.blocks (length list) l) in
          let few = starts-most (take h.size b) m (block_count (shape_of h)) 0 at in
          alike-more few (alike-over (head_starts (take h.size b) h m (block_count (shape_of h)) 0 at) list (omega arith))

  fill-writes : (m maxima list image : List ℕ) → AlikeBut (is_valid_cell (shape_of h) m) image (filled_tiles b h m maxima list image)
  unfolding filled_tiles listed_image
  fill-writes m maxima list image = go (room_to_fill b h m (length list) (length image))
    where
      s : List ℕ
      s = take h.size b

      go : (x : Res Bool) → AlikeBut (is_valid_cell (shape_of h) m) image (after x image (λ _. listed_image s h maxima m list image))
      go (fail r) = but_same _ refl
      go (ok t) = but-fewer (λ c e. rw (e)) (but-painted image (is_listed s h maxima m list) _)

  -- the same of a pass that writes starts and words
  written-most : (s maxima m : List ℕ) (f n at : ℕ) → length (starts_from s h maxima m f n at) ≤ f
  unfolding starts_from
  written-most s maxima m zero n at = le_refl 0
  written-most s maxima m (suc f) n at = go (block_at s h maxima m n at) (λ end. written-most s maxima m f (suc n) end)
    where
      go : (x : Res Block) → ((end : ℕ) → length (starts_from s h maxima m f (suc n) end) ≤ f) → suc (length (after x [] (λ b. starts_from s h maxima m f (suc n) b.next))) ≤ suc f
      go (fail r) k = omega arith
      go (ok b) k = let l = k b.next in omega arith

  written-list : (m maxima : List ℕ) (at : ℕ) (list : List ℕ) (room : ℕ) → AlikeFrom (block_count (shape_of h)) list (written_list b h m maxima at list room)
  unfolding written_list room_to_fill
  written-list m maxima at list room = go (room_to_fill b h m (length list) room) refl
    where
      go : (x : Res Bool) → room_to_fill b h m (length list) room ≡ x → AlikeFrom (block_count (shape_of h)) list (after x list (λ _. over (starts_from (take h.size b) h maxima m (block_count (shape_of h)) 0 at) list))
      go (fail r) e = alike_same _ refl
      go (ok t) e =
          let (x, d, e) = bind_is (held h (length b)) _ e in
          let i : x ≡ extent_of h = held-is h (length b) d in
          let (p, _) = and_is (leb x.mask (length m) && leb x.blocks (length list)) _ (require-is _ 5 e) in
          let (_, l) = and_is (leb x.mask (length m)) (leb x.blocks (length list)) p in
          let k : block_count (shape_of h) ≤ length list = rw (i) at (leb-true x.blocks (length list) l) in
          let few = written-most (take h.size b) maxima m (block_count (shape_of h)) 0 at in
          alike-more few (alike-over (starts_from (take h.size b) h maxima m (block_count (shape_of h)) 0 at) list (omega arith))

  -- block by block, valid cells alone
  from-writes : (s maxima m : List ℕ) (f n at : ℕ) (image : List ℕ) → AlikeBut (is_valid_cell (shape_of h) m) image (image_from s h maxima m f n at image)
  unfolding image_from in_block
  from-writes s maxima m zero n at image = but_same _ refl
  from-writes s maxima m (suc f) n at image = go (block_at s h maxima m n at) (λ end mid. from-writes s maxima m f (suc n) end mid)
    where
      go : (x : Res Block) → ((end : ℕ) (mid : List ℕ) → AlikeBut (is_valid_cell (shape_of h) m) mid (image_from s h maxima m f (suc n) end mid))
          → AlikeBut (is_valid_cell (shape_of h) m) image (after x image (λ b. image_from s h maxima m f (suc n) b.next (scattered (shape_of h) m n b.words image)))
      go (fail r) k = but_same _ refl
      go (ok b) k = but-fewer (λ c e. rw (e)) (but-then (but-painted image (in_block (shape_of h) m n) _) (k b.next (scattered (shape_of h) m n b.words image)))

  written-image : (m maxima : List ℕ) (at entries : ℕ) (image : List ℕ) → AlikeBut (is_valid_cell (shape_of h) m) image (written_image b h m maxima at entries image)
  unfolding written_image
  written-image m maxima at entries image = go (room_to_fill b h m entries (length image))
    where
      go : (x : Res Bool) → AlikeBut (is_valid_cell (shape_of h) m) image (after x image (λ _. image_from (take h.size b) h maxima m (block_count (shape_of h)) 0 at image))
      go (fail r) = but_same _ refl
      go (ok t) = from-writes (take h.size b) maxima m (block_count (shape_of h)) 0 at image

  -- every valid cell of a Huffman image, or none
  written-bytes : (mode : ℕ) (delta : Bool) (m image : List ℕ) → AlikeBut (is_valid_cell (shape_of h) m) image (written_bytes b h mode delta m image)
  unfolding written_bytes by_table
  written-bytes mode delta m image =
      but-after (write_table b h mode (length m) (length image)) (is_valid_cell (shape_of h) m) (λ t. byte_word (shape_of h) h.kind delta m (symbol_no (take h.size b) t 0)) refl

  tiles-starts : (m maxima : List ℕ) (at entries words : ℕ) (c : Chain) → tiles_says b h m maxima at entries words ≡ ok c → (length c.starts ≡ block_count (shape_of h)) × (block_count (shape_of h) ≤ entries)
  unfolding tiles_says
  tiles-starts m maxima at entries words c e =
      let (x, d, e) = bind_is (held h (length b)) _ e in
      let i : x ≡ extent_of h = held-is h (length b) d in
      let (_, p, e) = bind_is (require (leb x.mask (length m) && leb x.blocks entries && leb x.cells words) 5) _ e in
      let (p, _) = and_is (leb x.mask (length m) && leb x.blocks entries) _ (require-is _ 5 p) in
      let (_, l) = and_is (leb x.mask (length m)) (leb x.blocks entries) p in
      ((chain-lengths (take h.size b) h maxima m (block_count (shape_of h)) 0 at c e).0, rw (i) at (leb-true x.blocks entries l))

  tiles-write : (m maxima : List ℕ) (at : ℕ) {r : Res Walk} {list l image x : List ℕ} → Tiled (tiles_says b h m maxima at (length list) (length image)) h m r list l image x
      → AlikeFrom (block_count (shape_of h)) list l × AlikeBut (is_valid_cell (shape_of h) m) image x
  tiles-write m maxima at {list = list} {image = image} p =
      let t = tiles_says b h m maxima at (length list) (length image) in (
        alike-after (block_count (shape_of h)) t (λ c. c.starts) (tiles-starts m maxima at (length list) (length image)) p.list,
        but-after t (is_valid_cell (shape_of h) m) (λ c. word_of (shape_of h) m (λ n. get_or c.words n [])) p.image,
      )

pub writes-only : WritesOnly
writes-only = record {
  decode-plan = λ k a n next x p. decode-rest _ p;
  decode-counts = λ k a n next x p. decode-rest _ p;
  read-block = λ k a next x p. read-rest a.0.now a.1.0 a.1.1.0 a.1.1.1.0 a.1.1.1.1.0 a.1.1.1.1.1.0 a.1.1.1.1.1.1.0 p;
  decode-mask = λ k a r x p. alike-after (mask_bytes a.1.0) _ (λ m. m) (decoded-is a.0.now a.1.0 a.1.1.0 (length a.1.1.1.0.now)) p.left;
  prepare-mask = λ k a r x p. prepare-writes _ _ _ _ p;
  find-mask = λ k a r x p. find-writes _ _ _ _ p;
  walk = λ k a r x p. walk-writes _ _ _ _ p;
  fill = λ k a r x p. rw p.image (one_writes _ _ _ _ _ _ _);
  fill-each = λ k a r x p. rw p.image (each-writes _ _ _ _ _ _ _);
  list-tiles = λ k a r x p. rw (p) (list-writes _ _ _ _ _);
  fill-tiles = λ k a r x p. rw (p) (fill-writes _ _ _ _ _ _);
  write-list = λ k a r x p. rw p.0 (written-list _ _ _ _ _ _ _);
  write-image = λ k a r x p. rw p.1 (written-image _ _ _ _ _ _ _);
  tiles-list = λ k a r x p. (tiles-write _ _ _ _ _ p).0;
  tiles-image = λ k a r x p. (tiles-write _ _ _ _ _ p).1;
  write-huffman = λ k a r x p. rw (p) (written-bytes _ _ _ _ _ _);
}

-- ---- whole read

module _ (s : List ℕ) (h : Header) (m : List ℕ) where
  -- no starts, or one for each block
  abbrev Few : Res Body → Type 0
  Few x = (y : Body) → x ≡ ok y → length (starts_of y) ≤ block_count (shape_of h)

  none : (y : Body) → starts_of y ≡ [] → length (starts_of y) ≤ block_count (shape_of h)
  none y e = rw (e) (omega arith)

  swept-starts : (r : Ranges) → Few (swept_body s h r m)
  unfolding swept_body block_body
  swept-starts r y e =
      let (w, _, e) = bind_is (swept s h.kind h.error r.at) _ e in
      on w e
    where
      on : (w : Way) → body_from s h r m w ≡ ok y → length (starts_of y) ≤ block_count (shape_of h)
      on (raw_from at) e = none y (raw-starts s h at y e)
      on (blocks_from at) e =
          let (c, d, e) = bind_is (chain s h r.max m (block_count (shape_of h)) 0 at) _ e in
          let l = (chain-lengths s h r.max m (block_count (shape_of h)) 0 at c d).0 in
          rw (← ok-is e) (omega arith)
      on (huffman_from delta mode) e = none y (huffman-starts s h delta mode y e)

  body-starts : Few (body_says s h m)
  unfolding body_says
  body-starts =
      cond-elim Few (eqb h.valid 0) (λ _ y e. none y (sym (ap starts_of (ok-is e)))) (λ _ y e.
      let (r, _, e) = bind_is (ranges_says s h) _ e in
      cond-elim Few r.constant (λ _ y e. none y (constant-starts h r y e)) (λ _. swept-starts r) y e)

module _ (b : List ℕ) (reuse : Bool) (l : Lent) (x : Lent) where
  written : (n : ℕ) (k : Masked) (y : Body) → masked b reuse l ≡ ok k → body_says (take k.header.size b) k.header (bytes_of k.mask) ≡ ok y
      → read_says b reuse l ≡ ok (record { header = k.header; mask = k.mask; body = y }) → n ≡ length (starts_of y)
      → x ≡ published (record { header = k.header; mask = k.mask; body = y }) l → WholeWrites b reuse n l x
  unfolding published
  written n k y d p e c q =
      let h = k.header in
      let g = masked-is b reuse l k d in
      let r = rooms h l g.room in
      let z : length (bytes_of k.mask) ≡ mask_length (shape_of h) = (mask-right (take h.size b) h l.kept reuse k.mask r.kept g.mask).size in
      let f : length (starts_of y) ≤ block_count (shape_of h) = body-starts (take h.size b) h (bytes_of k.mask) y p in
      rw (q, c) (record {
        meaning = record { header = k.header; mask = k.mask; body = y };
        is = e;
        kept = rw (← z) (alike-over (bytes_of k.mask) l.kept (rw (z) r.kept));
        spare = spare-alike (mask_length (shape_of h)) k.mask l.spare z r.spare;
        list = alike-over (starts_of y) l.list (omega (arith, f, r.list));
        image = but-painted l.image (is_valid_cell (shape_of h) (bytes_of k.mask)) _;
      })

  pub whole-writes : (h : Header) (n end : ℕ) → WholeRead b reuse (ok (record { header = h; blocks = n; end = end })) l x → WholeWrites b reuse n l x
  unfolding read_says meaning_from
  whole-writes h n end w =
      let (m, e, c) = bind_is (read_says b reuse l) read_count (sym w.says) in
      let (k, d, f) = bind_is (masked b reuse l) _ e in
      let (y, p, f) = bind_is (body_says (take k.header.size b) k.header (bytes_of k.mask)) _ f in
      let z : record { header = k.header; mask = k.mask; body = y } ≡ m = ok-is f in
      let q : x ≡ published m l = w.lent ∙ ap (λ (v : Res Meaning). read_after v (masked b reuse l) l) e in
      written n k y d p (e ∙ ap ok (sym z)) (sym (ap (λ (v : ReadTold). v.blocks) (ok-is c)) ∙ ap (λ (v : Meaning). length (starts_of v.body)) (sym z)) (q ∙ ap (λ (v : Meaning). published v l) (sym z))
