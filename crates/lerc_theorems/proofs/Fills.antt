-- Fills of a blob that was walked.
-- Assumes nothing.
use Rattle.lerc_theorems.proofs.Calls.{ranges-held}
use mathlib.Core.Path.{◌≡◌, ◌∙◌, sym, ap, refl}
use mathlib.Core.Bool.{Bool, true, false, not, cond, ◌&&◌}
use mathlib.Core.List.{List, [], ◌∷◌}
use Prim.Native.Nat.{ℕ, zero, suc, ◌+◌, ◌*◌, ◌≤◌, ◌<◌}
use native.Mathlib.Decide.{dec_lt}
use native.Mathlib.Nat.{zero-add, add-zero, zero-mul, one-mul}
use native.Mathlib.Omega.{arith}
use lib.ListN.{length, get_or, take, drop, get_or-append, length-append}
use lib.Dec.{leb, ltb, eqb}
use borrow.Author.Tests.{le-leb, lt-ltb, le-ltb, leb-true, ltb-true, eq-eqb, ne_eqb}
use Rattle.lerc_words.specs.Res.{ok, fail, refuse, require}
use Rattle.lerc_words.specs.Lists.{over, total}
use Rattle.lerc_words.proofs.Binding.{bind_is, require-is, and_is, ok-is}
use Rattle.lerc_header.specs.declared.Header.{Header}
use Rattle.lerc_header.specs.Shape.{cells, block_count, mask_length, Shaped}
use Rattle.lerc_header.specs.Header.{shape_of, extent_of, held}
use Rattle.lerc_header.proofs.Kept.{held-is, held-shaped}
use Rattle.lerc_ranges.specs.declared.Ranges.{Ranges}
use Rattle.lerc_validity.specs.Validity.{MaskInForce, bytes_of}
use Rattle.lerc_ranges.specs.Ranges.{pairs_right, read_ranges_says}
use Rattle.lerc_image.specs.Paint.{filled_block, fills}
use Rattle.lerc_sweep.specs.Sweep.{Way, raw_from, blocks_from, huffman_from, swept}
use Rattle.lerc_image.specs.Blocks.{Chain, block_at, all_blocks}
use Rattle.lerc_image.specs.Fill.{fill_says, fill_image}
use Rattle.lerc_image.specs.Walk.{way_walked, body_walked, walk_says, walk_list}
use Rattle.lerc_image.proofs.Chain.{chain-block, chain-lengths}
use Rattle.lerc_image.proofs.Stages.{get_d_any}
use Rattle.lerc_fills.specs.Each.{one, filled_of, fill_each}
use Rattle.lerc_fills.proofs.Turns.{length-fill}
use Rattle.lerc.specs.Meaning.{blocks, body_says, meaning}
use Rattle.lerc_theorems.specs.DemandThree.{below}
use Rattle.lerc_theorems.proofs.Bodies.{coded-is, coded-says}
use Rattle.lerc_theorems.proofs.Meanings.{meaning-is, keeps, pairs-kept, mask-kept}

-- ---- what an accepted walk tells

pub record Walking (b : List ℕ) (h : Header) (r : Ranges) (m : List ℕ) (entries : ℕ) (c : Chain) : Type 0 where
  pub kept : held h (length b) ≡ ok (extent_of h)
  pub mask : mask_length (shape_of h) ≤ length m
  pub list : block_count (shape_of h) ≤ entries
  pub pairs : pairs_right h.depth r ≡ true
  pub some : 0 < h.valid
  pub coded : not r.constant ≡ true
  pub from : ℕ
  pub sweep : swept (take h.size b) h.kind h.error r.at ≡ ok (blocks_from from)
  pub blocks : all_blocks (take h.size b) h r.max m from ≡ ok c

module _ (s : List ℕ) (h : Header) (maxima m : List ℕ) (c : Chain) where
  -- the sweep byte announced blocks
  way-is : (sweep : ℕ) (w : Way) → way_walked s h maxima m sweep w ≡ ok c → (from : ℕ) × (w ≡ blocks_from from) × (all_blocks s h maxima m from ≡ ok c)
  unfolding way_walked
  way-is sweep (raw_from at) e = absurd (let z : ◌≡◌ {A = ℕ} 0 1 = cc in omega arith)
  way-is sweep (blocks_from at) e = (at, refl, e)
  way-is sweep (huffman_from delta mode) e = absurd (let z : ◌≡◌ {A = ℕ} 0 1 = cc in omega arith)

pub walk_is : (b : List ℕ) (h : Header) (r : Ranges) (m : List ℕ) (entries : ℕ) (c : Chain) → walk_says b h r m entries ≡ ok c → Walking b h r m entries c
unfolding walk_says body_walked
walk_is b h r m entries c e =
    let (x, p, e) = bind_is (held h (length b)) _ e in
    let i : x ≡ extent_of h = held-is h (length b) p in
    let (_, q, e) = bind_is (require (leb x.mask (length m) && leb x.blocks entries) 5) _ e in
    let (k, l) = and_is (leb x.mask (length m)) (leb x.blocks entries) (require-is _ 5 q) in
    let (_, t7, e) = bind_is (require (pairs_right h.depth r) 7) _ e in
    let (_, t10, e) = bind_is (require (ltb 0 h.valid && not r.constant) 10) _ e in
    let (v, n) = and_is (ltb 0 h.valid) (not r.constant) (require-is _ 10 t10) in
    let (w, sw, e) = bind_is (swept (take h.size b) h.kind h.error r.at) _ e in
    let (at, u, a) = way-is (take h.size b) h r.max m c r.at w e in
    record {
      kept = rw (i) at p;
      mask = rw (i) at (leb-true x.mask (length m) k);
      list = rw (i) at (leb-true x.blocks entries l);
      pairs = require-is _ 7 t7;
      some = ltb-true _ _ v;
      coded = n;
      from = at;
      sweep = rw (u) at sw;
      blocks = a;
    }

-- so its body is one in blocks
pub walked-body : (b : List ℕ) (h : Header) (r : Ranges) (m : List ℕ) (entries : ℕ) (c : Chain) → Walking b h r m entries c → read_ranges_says b h ≡ ok r
    → body_says (take h.size b) h m ≡ ok (blocks c)
walked-body b h r m entries c w e =
    coded-says (take h.size b) h m c
    (record {
      some = λ z. let y : h.valid ≡ 0 = z in absurd (omega (arith, w.some));
      ranges = r;
      read = sym (ranges-held b h w.kept) ∙ e;
      coded = is_false r.constant w.coded;
      from = w.from;
      sweep = w.sweep;
      is = w.blocks;
    })
  where
    is_false : (t : Bool) → not t ≡ true → t ≡ false
    is_false true q = absurd (let z : ◌≡◌ {A = ℕ} 0 1 = cc in omega arith)
    is_false false q = refl

-- a body in blocks is way_walked, with the ranges that it has
pub means-walking : (b : List ℕ) (reuse : Bool) (kept : List ℕ) (h : Header) (f : MaskInForce) (c : Chain) → meaning b reuse kept ≡ ok (record { header = h; mask = f; body = blocks c })
    → mask_length (shape_of h) ≤ length kept → (r : Ranges) → read_ranges_says b h ≡ ok r → (entries : ℕ) → block_count (shape_of h) ≤ entries → Walking b h r (bytes_of f) entries c
means-walking b reuse kept h f c e l r q entries room =
    let p = meaning-is b reuse kept (record { header = h; mask = f; body = blocks c }) e in
    let w = keeps b reuse kept _ p in
    let k = coded-is (take h.size b) h (bytes_of f) c p.body in
    let i : k.ranges ≡ r = ok-is (sym k.read ∙ sym (ranges-held b h w) ∙ q) in
    let z = (mask-kept b reuse kept _ p l).size in
    rw (← i) (record {
      kept = w;
      mask = omega (arith, z);
      list = room;
      pairs = (pairs-kept b reuse kept _ p k.ranges k.read).pairs;
      some = pos h.valid k.some;
      coded = ap not k.coded;
      from = k.from;
      sweep = k.sweep;
      blocks = k.is;
    })
  where
    pos : (n : ℕ) → (n ≡ 0 → ⊥) → 0 < n
    pos zero q = absurd (q refl)
    pos (suc n) q = omega arith

pub walking-says : (b : List ℕ) (h : Header) (r : Ranges) (m : List ℕ) (entries : ℕ) (c : Chain) → Walking b h r m entries c → walk_says b h r m entries ≡ ok c
unfolding walk_says body_walked way_walked
walking-says b h r m entries c w = rw (w.kept, le-leb _ _ w.mask, le-leb _ _ w.list, w.pairs, lt-ltb _ _ w.some, w.coded, w.sweep) w.blocks

-- ---- fills with its header, ranges, mask and list

module _ (b : List ℕ) (h : Header) (r : Ranges) (m : List ℕ) (entries : ℕ) (c : Chain) (w : Walking b h r m entries c) where
  shaped : Shaped (shape_of h)
  shaped = held-shaped h (length b) w.kept

  -- the words of a block
  abbrev pub words_of : ℕ → List ℕ
  words_of n = get_or c.words n []

  module _ (list : List ℕ) (long : block_count (shape_of h) ≤ length list) (starts : (n : ℕ) → n < block_count (shape_of h) → get_or list n 0 ≡ get_or c.starts n 0) where
    module _ (n room : ℕ) (l : n < block_count (shape_of h)) (q : cells (shape_of h) ≤ room) where
      pub here : block_at (take h.size b) h r.max m n (get_or list n 0) ≡ ok (record { words = words_of n; next = get_or c.starts (suc n) c.end })
      here =
          let s = take h.size b in
          let k = block_count (shape_of h) in
          let j : n < length c.starts = rw (chain-lengths s h r.max m k 0 w.from c w.blocks).0 l in
          rw (starts n l ∙ get_d_any c.starts n 0 c.end j) (rw (zero-add n) at (chain-block s h r.max m k 0 w.from c n w.blocks l))

      pub fill-ok : fill_says b h r m list n room ≡ ok (record { words = words_of n; next = get_or c.starts (suc n) c.end })
      unfolding fill_says
      fill-ok = rw (w.kept, lt-ltb n (block_count (shape_of h)) l, le-leb _ _ w.mask, le-leb _ _ long, le-leb _ _ q, w.pairs) here

    pub fill-no : (n room : ℕ) → block_count (shape_of h) ≤ n → fill_says b h r m list n room ≡ fail (refuse 11)
    unfolding fill_says
    fill-no n room l = rw (w.kept, le-ltb n (block_count (shape_of h)) l)

    -- one fill
    pub image-is : (n : ℕ) (image : List ℕ) → cells (shape_of h) ≤ length image → fill_image b h r m list n image ≡ filled_block (shape_of h) m words_of n image
    unfolding fill_image
    image-is n image q = go (dec_lt n (block_count (shape_of h)))
      where
        go : Dec (n < block_count (shape_of h)) → fill_image b h r m list n image ≡ filled_block (shape_of h) m words_of n image
        go (yes l) = rw (fill-ok n (length image) l q, lt-ltb n (block_count (shape_of h)) l)
        go (no l) = rw (fill-no n (length image) (omega arith), le-ltb n (block_count (shape_of h)) (omega arith))

    -- any list of numbers
    pub each-is : (ns image : List ℕ) → cells (shape_of h) ≤ length image → fill_each b h r m list ns image ≡ fills (shape_of h) m words_of ns image
    unfolding fill_each
    each-is [] image q = refl
    each-is (n ∷ ns) image q =
        each-is ns (fill_image b h r m list n image) (rw (length-fill b h r m list n image) q)
        ∙ ap (fills (shape_of h) m words_of ns) (image-is n image q)

    -- how many of them are filled
    pub count-is : (room : ℕ) → cells (shape_of h) ≤ room → (ns : List ℕ) → filled_of b h r m list room ns ≡ below (block_count (shape_of h)) ns
    unfolding filled_of
    count-is room q [] = refl
    count-is room q (n ∷ ns) = rw (count-is room q ns) (go (dec_lt n (block_count (shape_of h))))
      where
        go : Dec (n < block_count (shape_of h)) → one b h r m list room n + below (block_count (shape_of h)) ns ≡ cond (ltb n (block_count (shape_of h))) 1 0 + below (block_count (shape_of h)) ns
        go (yes l) = rw (fill-ok n room l q, lt-ltb n (block_count (shape_of h)) l)
        go (no l) = rw (fill-no n room (omega arith), le-ltb n (block_count (shape_of h)) (omega arith))

-- ---- the list that a walk leaves

module _ (b : List ℕ) (h : Header) (r : Ranges) (m list : List ℕ) (c : Chain) (e : walk_says b h r m (length list) ≡ ok c) where
  w : Walking b h r m (length list) c
  w = walk_is b h r m (length list) c e

  many : length c.starts ≡ block_count (shape_of h)
  many = (chain-lengths (take h.size b) h r.max m (block_count (shape_of h)) 0 w.from c w.blocks).0

  pub left_is : walk_list b h r m list ≡ over c.starts list
  unfolding walk_list
  left_is = rw (e)

  pub left-long : block_count (shape_of h) ≤ length (walk_list b h r m list)
  left-long = rw (left_is, length-append) (omega (arith, many))

  pub left-starts : (n : ℕ) → n < block_count (shape_of h) → get_or (walk_list b h r m list) n 0 ≡ get_or c.starts n 0
  left-starts n l = rw (left_is) (get_or-append c.starts (drop (length c.starts) list) 0 n (let z : n < length c.starts = omega (arith, many) in z))

-- ---- sums

pub total-same : (n : ℕ) (f g : ℕ → ℕ) → ((i : ℕ) → i < n → f i ≡ g i) → total n f ≡ total n g
unfolding total
total-same zero f g p = refl
total-same (suc n) f g p = rw (total-same n f g (λ i l. p i (omega arith)), p n (omega arith))

pub total-plus : (n : ℕ) (f g : ℕ → ℕ) → total n f + total n g ≡ total n (λ i. f i + g i)
unfolding total
total-plus zero f g = refl
total-plus (suc n) f g = rw (← total-plus n f g) (omega arith)

pub total-none : (n : ℕ) (f : ℕ → ℕ) → ((i : ℕ) → i < n → f i ≡ 0) → total n f ≡ 0
unfolding total
total-none zero f p = refl
total-none (suc n) f p = rw (total-none n f (λ i l. p i (omega arith)), p n (omega arith))

-- a sum that picks one number out
picked_none : (n i : ℕ) (f : ℕ → ℕ) → n ≤ i → total n (λ k. cond (eqb k i) 1 0 * f k) ≡ 0
picked_none n i f l = total-none n _ (λ k q. rw (ne_eqb k i (λ e. let y : k ≡ i = e in absurd (omega arith))) (zero-mul (f k)))

picked : (n i : ℕ) (f : ℕ → ℕ) → i < n → total n (λ k. cond (eqb k i) 1 0 * f k) ≡ f i
unfolding total
picked zero i f l = absurd (omega arith)
picked (suc n) i f l = go (dec_lt i n) (picked n i f)
  where
    go : Dec (i < n) → (i < n → total n (λ k. cond (eqb k i) 1 0 * f k) ≡ f i) → total n (λ k. cond (eqb k i) 1 0 * f k) + cond (eqb n i) 1 0 * f n ≡ f i
    go (yes q) r = rw (r q, ne_eqb n i (λ e. let y : n ≡ i = e in absurd (omega arith)), zero-mul) (add-zero (f i))
    go (no q) r = let y : n ≡ i = omega arith in rw (picked_none n i f (omega arith), eq-eqb n i y, one-mul, zero-add, y)

pub once : (n i : ℕ) (f : ℕ → ℕ) → (n ≤ i → f i ≡ 0) → total n (λ k. cond (eqb k i) 1 0 * f k) ≡ f i
once n i f z = go (dec_lt i n)
  where
    go : Dec (i < n) → total n (λ k. cond (eqb k i) 1 0 * f k) ≡ f i
    go (yes l) = picked n i f l
    go (no l) = picked_none n i f (omega arith) ∙ sym (z (omega arith))
