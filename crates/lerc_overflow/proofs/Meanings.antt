-- A blob over both sums.
-- Assumes nothing.
use mathlib.Core.Path.{◌≡◌, refl, sym, ap, ◌∙◌}
use mathlib.Core.Logic.{◌≢◌}
use mathlib.Core.Bool.{Bool, true, false, not, cond, ◌&&◌}
use mathlib.Core.List.{List, []}
use Prim.Native.Nat.{ℕ, ◌+◌, ◌/◌, ◌^◌, ◌≤◌, ◌<◌}
use native.Mathlib.Nat.{zero-add, lt_of_lt_of_le, le_of_eq}
use native.Mathlib.Decide.{dec_lt}
use native.Mathlib.Omega.{arith}
use lib.Dec.{eqb, lit<}
use lib.ListN.{length, get_or, take, length-take}
use Rattle.lerc_words.specs.declared.Refusal.{Refusal}
use Rattle.lerc_words.specs.Res.{Res, ok, fail, ◌>>=◌, word_at}
use Rattle.lerc_words.proofs.Binding.{bind_is, ok-is, and_is}
use Rattle.lerc_words.proofs.Marking.{marked-is}
use Rattle.lerc_words.proofs.Tables.{all-each}
use Rattle.lerc_numeric.specs.Numeric.{negative, finite, mag, sum, counted_sum, less, lesser}
use Rattle.lerc_numeric.specs.Steps.{step_of}
use Rattle.lerc_samples.specs.Samples.{offset_kind}
use Rattle.lerc_header.specs.declared.Header.{Header}
use Rattle.lerc_header.specs.Header.{shape_of, header_says, error_right, pair_right, ranges_at}
use Rattle.lerc_header.specs.Shape.{block_count}
use Rattle.lerc_header.proofs.Kept.{held_kept, held-shaped, held-size, held-kind, held-pair, header-held}
use Rattle.lerc_validity.specs.Validity.{MaskInForce, bytes_of, mask_says}
use Rattle.lerc_ranges.specs.declared.Ranges.{Ranges}
use Rattle.lerc_ranges.specs.Ranges.{ranges_says, pairs_right}
use Rattle.lerc_ranges.proofs.Judged.{ranges-kept}
use Rattle.lerc_sweep.specs.Sweep.{Way, raw_from, blocks_from, huffman_from, swept}
use Rattle.lerc_block.specs.Block.{Block, block_says}
use Rattle.lerc_image.specs.declared.Tile.{Tile}
use Rattle.lerc_image.specs.Geometry.{tile_of, valid_in_tile, block_of}
use Rattle.lerc_image.specs.Paint.{index_of}
use Rattle.lerc_image.specs.Blocks.{block_at, Chain, all_blocks}
use Rattle.lerc_image.proofs.Partition.{tile-depth}
use Rattle.lerc_image.proofs.Chain.{chain-lengths}
use Rattle.lerc.specs.Meaning.{Body, empty, blocks, Meaning, raw_body, block_body, huffman_body, body_from, constant_body, swept_body, body_says, starts_of, cell_word, meaning_from, meaning}
use Rattle.lerc.proofs.Endings.{raw-starts, huffman-starts, constant-starts}
use Rattle.lerc_overflow.specs.By.{Adding, step_by, block_by, block_at_by, all_blocks_by, block_body_by, body_from_by, swept_body_by, body_by, meaning_from_by, meaning_by}
use Rattle.lerc_overflow.specs.Changes.{Stepping, far_offset, Operands, AllCalm, Overflows, body_outline, outline, maximum_of, CellChanged, ChangesThere, MeaningChanges}
use Rattle.lerc_overflow.proofs.OverSum.{step_sum, block-sum, block-at-sum, chain-sum}
use Rattle.lerc_overflow.proofs.Steps.{step-most, step-offset, step-below}
use Rattle.lerc_overflow.proofs.Offsets.{offset_read}
use Rattle.lerc_overflow.proofs.Blocks.{operands-stand, FromCount, operands-from, block-word, block-changed, word-is}
use Rattle.lerc_overflow.proofs.Chains.{Ends, ends, chain-ends, chain-kind, chain-still, at-kind, Differs, chain-word, by-block}

-- ---- only a body in blocks has a sum: what relates two of these relates the bodies

abbrev NoBlocks : Res Body → Type 0
NoBlocks x = (y : Body) → x ≡ ok y → starts_of y ≡ []

fail-none : (q : Refusal) → NoBlocks (fail q)
fail-none q y e = absurd (let z : ◌≡◌ {A = ℕ} 0 1 = cc in omega arith)

empty-none : NoBlocks (ok empty)
empty-none y e = ap starts_of (sym (ok-is e))

module _ (add : Adding) (P : Res Body → Res Body → Type 0) (same : (x : Res Body) → NoBlocks x → P x x) (s : List ℕ) (h : Header) (m : List ℕ) where
  abbrev BlocksRelated : Type 0
  BlocksRelated = (r : Ranges) → ranges_says s h ≡ ok r → (at : ℕ) → P (block_body_by add s h r.max m at) (block_body s h r.max m at)

  body-related : BlocksRelated → P (body_by add s h m) (body_says s h m)
  unfolding body_by body_says swept_body_by swept_body
  body-related related = none (eqb h.valid 0)
    where
      way : (r : Ranges) → ranges_says s h ≡ ok r → (x : Res Way) → P (x >>= body_from_by add s h r m) (x >>= body_from s h r m)
      way r e (fail q) = same (fail q) (fail-none q)
      way r e (ok (raw_from at)) = same (raw_body s h at) (raw-starts s h at)
      way r e (ok (blocks_from at)) = related r e at
      way r e (ok (huffman_from delta mode)) = same (huffman_body s h delta mode) (huffman-starts s h delta mode)

      constant : (r : Ranges) → ranges_says s h ≡ ok r → (t : Bool) → P (cond t (constant_body h r) (swept_body_by add s h r m)) (cond t (constant_body h r) (swept_body s h r m))
      constant r e true = same (constant_body h r) (constant-starts h r)
      constant r e false = way r e (swept s h.kind h.error r.at)

      ranged : (x : Res Ranges) → ranges_says s h ≡ x
          → P (x >>= λ r. cond r.constant (constant_body h r) (swept_body_by add s h r m)) (x >>= λ r. cond r.constant (constant_body h r) (swept_body s h r m))
      ranged (fail q) e = same (fail q) (fail-none q)
      ranged (ok r) e = constant r e r.constant

      none : (t : Bool)
          → P (cond t (ok empty) (ranges_says s h >>= λ r. cond r.constant (constant_body h r) (swept_body_by add s h r m)))
          (cond t (ok empty) (ranges_says s h >>= λ r. cond r.constant (constant_body h r) (swept_body s h r m)))
      none true = same (ok empty) empty-none
      none false = ranged (ranges_says s h) refl

module _ (add : Adding) (P : Res Meaning → Res Meaning → Type 0) (same : (x : Res Meaning) → P x x) (b : List ℕ) (reuse : Bool) (old : List ℕ) where
  meaning-related : ((h : Header) → header_says b ≡ ok h → (k : MaskInForce) → P (meaning_from_by add b h k) (meaning_from b h k)) → P (meaning_by add b reuse old) (meaning b reuse old)
  unfolding meaning_by meaning
  meaning-related related = headed (header_says b) refl
    where
      masked : (h : Header) → header_says b ≡ ok h → (x : Res MaskInForce) → P (x >>= meaning_from_by add b h) (x >>= meaning_from b h)
      masked h e (fail q) = same (fail q)
      masked h e (ok k) = related h e k

      headed : (x : Res Header) → header_says b ≡ x
          → P (x >>= λ h. mask_says (take h.size b) h reuse old >>= meaning_from_by add b h) (x >>= λ h. mask_says (take h.size b) h reuse old >>= meaning_from b h)
      headed (fail q) e = same (fail q)
      headed (ok h) e = masked h e (mask_says (take h.size b) h reuse old)

-- ---- over `sum`

pub meaning-sum : (b : List ℕ) (reuse : Bool) (old : List ℕ) → meaning_by sum b reuse old ≡ meaning b reuse old
unfolding meaning_from_by meaning_from block_body_by block_body
meaning-sum b reuse old =
    meaning-related sum (λ x y. x ≡ y) (λ x. refl) b reuse old
    (λ h e k. let s = take h.size b in
    rw (body-related sum (λ x y. x ≡ y) (λ x _. refl) s h (bytes_of k) (λ r d at. rw (chain-sum s h r.max (bytes_of k) (block_count (shape_of h)) 0 at))))

-- ---- the outline

pub body-outline : (s : List ℕ) (h : Header) (m : List ℕ) → (body_by counted_sum s h m >>= λ y. ok (body_outline y)) ≡ (body_says s h m >>= λ y. ok (body_outline y))
unfolding block_body_by block_body
body-outline s h m =
    body-related counted_sum (λ x y. (x >>= λ b. ok (body_outline b)) ≡ (y >>= λ b. ok (body_outline b))) (λ x _. refl) s h m
    (λ r e at. told (all_blocks_by counted_sum s h r.max m at) ∙ ap (λ (x : Res Ends). x >>= without) (chain-ends s h r.max m (block_count (shape_of h)) 0 at) ∙ sym (told (all_blocks s h r.max m at)))
  where
    without : Ends → Res Body
    without k = ok (blocks (record { starts = k.starts; words = []; end = k.end }))

    told : (x : Res Chain) → ((x >>= λ c. ok (blocks c)) >>= λ b. ok (body_outline b)) ≡ ((x >>= ends) >>= without)
    told (ok c) = refl
    told (fail q) = refl

meaning-outline : (b : List ℕ) (reuse : Bool) (old : List ℕ) → (meaning_by counted_sum b reuse old >>= outline) ≡ (meaning b reuse old >>= outline)
unfolding meaning_from_by meaning_from
meaning-outline b reuse old =
    meaning-related counted_sum (λ x y. (x >>= outline) ≡ (y >>= outline)) (λ x. refl) b reuse old
    (λ h e k. let s = take h.size b in
    told h k (body_by counted_sum s h (bytes_of k)) ∙ ap (λ (x : Res Body). x >>= made h k) (body-outline s h (bytes_of k)) ∙ sym (told h k (body_says s h (bytes_of k))))
  where
    made : Header → MaskInForce → Body → Res Meaning
    made h k y = ok (record { header = h; mask = k; body = y })

    told : (h : Header) (k : MaskInForce) (x : Res Body) → ((x >>= made h k) >>= outline) ≡ ((x >>= λ y. ok (body_outline y)) >>= made h k)
    told h k (ok y) = refl
    told h k (fail q) = refl

-- ---- kinds 0 to 6

meaning-kind : (b : List ℕ) (reuse : Bool) (old : List ℕ) (h : Header) → header_says b ≡ ok h → h.kind < 7 → meaning_by counted_sum b reuse old ≡ meaning b reuse old
unfolding meaning_from_by meaning_from block_body_by block_body
meaning-kind b reuse old h e l =
    meaning-related counted_sum (λ x y. x ≡ y) (λ x. refl) b reuse old
    (λ g d k.
    let z : h ≡ g = ok-is (sym e ∙ d) in
    let l2 : g.kind < 7 = rw (z) at l in
    let s = take g.size b in
    rw (body-related counted_sum (λ x y. x ≡ y) (λ x _. refl) s g (bytes_of k) (λ r d at. rw (chain-kind s g r.max (bytes_of k) l2 (block_count (shape_of g)) 0 at))))

-- ---- no infinite product

pub body-calm : (s : List ℕ) (h : Header) (m : List ℕ) → ((y : Body) → body_says s h m ≡ ok y → AllCalm s h (starts_of y)) → body_by counted_sum s h m ≡ body_says s h m
unfolding block_body_by block_body
body-calm s h m =
    body-related counted_sum (λ x y. ((b : Body) → y ≡ ok b → AllCalm s h (starts_of b)) → x ≡ y) (λ x _ _. refl) s h m
    (λ r e at calm. rw (chain-still s h r.max m (block_count (shape_of h)) 0 at (λ c k. calm (blocks c) (rw (k)))))

meaning-calm : (b : List ℕ) (reuse : Bool) (old : List ℕ) (y : Meaning) → meaning b reuse old ≡ ok y → AllCalm (take y.header.size b) y.header (starts_of y.body) → meaning_by counted_sum b reuse old ≡ ok y
unfolding meaning_from_by meaning_from
meaning-calm b reuse old y e calm =
    meaning-related counted_sum (λ x z. z ≡ ok y → x ≡ z) (λ x _. refl) b reuse old
    (λ h d k q.
    let (w, ew, q) = bind_is (body_says (take h.size b) h (bytes_of k)) _ q in
    let z : record { header = h; mask = k; body = w } ≡ y = ok-is q in
    let c : AllCalm (take h.size b) h (starts_of w) = rw (← z) at calm in
    rw (body-calm (take h.size b) h (bytes_of k) (λ v ev. let u : w ≡ v = ok-is (sym ew ∙ ev) in rw (u) at c)))
    e
    ∙ e

-- ---- a cell

-- a cell of two bodies that differ: both are in blocks, and so do its block's words
record BlocksDiffer (s : List ℕ) (h : Header) (m : List ℕ) (y : Body) (c : ℕ) : Type 0 where
  ranges : Ranges
  ranges-are : ranges_says s h ≡ ok ranges
  found : Chain
  is-blocks : y ≡ blocks found
  differs : Differs s h ranges.max m (block_count (shape_of h)) 0 found (block_of (shape_of h) c) (index_of (shape_of h) m c)

body-cell : (s : List ℕ) (h : Header) (m : List ℕ) (x y : Body) → body_by counted_sum s h m ≡ ok x → body_says s h m ≡ ok y → (c : ℕ) → cell_word h m x c ≢ cell_word h m y c → BlocksDiffer s h m y c
unfolding block_body_by block_body cell_word
body-cell s h m =
    body-related counted_sum (λ x y. (a b : Body) → x ≡ ok a → y ≡ ok b → (c : ℕ) → cell_word h m a c ≢ cell_word h m b c → BlocksDiffer s h m b c)
    (λ x _ a b e k c d. absurd (d (ap (λ (w : Body). cell_word h m w c) (ok-is (sym e ∙ k)))))
    s h m
    (λ r e at a b ea eb c d.
    let (u, eu, ea) = bind_is (all_blocks_by counted_sum s h r.max m at) _ ea in
    let (v, ev, eb) = bind_is (all_blocks s h r.max m at) _ eb in
    let za : blocks u ≡ a = ok-is ea in
    let zb : blocks v ≡ b = ok-is eb in
    let d2 : cell_word h m (blocks u) c ≢ cell_word h m (blocks v) c = λ z. d (rw (← za, ← zb) z) in
    record {
      ranges = r;
      ranges-are = e;
      found = v;
      is-blocks = sym zb;
      differs = chain-word s h r.max m (block_count (shape_of h)) 0 at u v eu ev (block_of (shape_of h) c) (index_of (shape_of h) m c) d2;
    })

-- an accepted header's error, and a maximum of its ranges
header-error : (b : List ℕ) (h : Header) → header_says b ≡ ok h → negative h.error ≡ false
unfolding error_right
header-error b h e = minus (negative h.error) (and_is (not (negative h.error)) _ (held_kept h (length b) (header-held b h e).1).right.error).0
  where
    minus : (t : Bool) → not t ≡ true → t ≡ false
    minus true x = absurd (let z : ◌≡◌ {A = ℕ} 0 1 = cc in omega arith)
    minus false x = refl

maximum-finite : (b : List ℕ) (h : Header) → header_says b ≡ ok h → (r : Ranges) → ranges_says (take h.size b) h ≡ ok r → (n : ℕ) → n < block_count (shape_of h) → finite (get_or r.max (tile_of (shape_of h) n).d 0) ≡ true
unfolding pairs_right pair_right
maximum-finite b h e r k n l =
    let held = (header-held b h e).1 in
    let shaped = held-shaped h (length b) held in
    let size = held-size h (length b) held in
    let long : ranges_at h ≤ length (take h.size b) = omega (arith, size.0, size.1, length-take h.size b) in
    let kept = ranges-kept (take h.size b) h shaped.depth.1 (held-pair h (length b) held) long r k in
    let d = (tile_of (shape_of h) n).d in
    let pair = all-each h.depth d (λ i. pair_right (get_or r.min i 0) (get_or r.max i 0)) kept.pairs (tile-depth (shape_of h) shaped n l) in
    let low = finite (get_or r.min d 0) in
    (and_is low (finite (get_or r.max d 0)) (and_is (low && finite (get_or r.max d 0)) _ pair).0).1

-- a blob's header, its ranges, and the block of a cell
module _ (b : List ℕ) (h : Header) (e : header_says b ≡ ok h) (m : List ℕ) (y : Body) (c : ℕ) (d : BlocksDiffer (take h.size b) h m y c) where
  abbrev s : List ℕ
  s = take h.size b

  abbrev n : ℕ
  n = block_of (shape_of h) c

  abbrev i : ℕ
  i = index_of (shape_of h) m c

  abbrev at : ℕ
  at = get_or d.found.starts n 0

  abbrev t : Tile
  t = tile_of (shape_of h) n

  abbrev top : ℕ
  top = get_or d.ranges.max t.d 0

  error-right : negative h.error ≡ false
  error-right = header-error b h e

  top-finite : finite top ≡ true
  top-finite = maximum-finite b h e d.ranges d.ranges-are n d.differs.below

  -- its block over both sums
  old-is : block_by counted_sum s at h.kind h.error top t.x (valid_in_tile (shape_of h) m t) ≡ ok d.differs.old
  unfolding block_at_by
  old-is = marked-is at (block_by counted_sum s at h.kind h.error top t.x (valid_in_tile (shape_of h) m t)) (rw (zero-add n) at d.differs.old-is)

  new_is : block_says s at h.kind h.error top t.x (valid_in_tile (shape_of h) m t) ≡ ok d.differs.new
  unfolding block_at
  new_is = marked-is at (block_says s at h.kind h.error top t.x (valid_in_tile (shape_of h) m t)) (rw (zero-add n) at d.differs.new_is)

  overflows : Overflows s at h.kind h.error i
  overflows = block-word s at h.kind h.error top t.x (valid_in_tile (shape_of h) m t) d.differs.old d.differs.new old-is new_is i d.differs.differ

  is-seven : h.kind ≡ 7
  is-seven = go (dec_lt h.kind 7)
    where
      go : Dec (h.kind < 7) → h.kind ≡ 7
      go (yes l) =
          let z : d.differs.old ≡ d.differs.new = ok-is (sym d.differs.old-is ∙ at-kind s h d.ranges.max m l (0 + n) at ∙ d.differs.new_is) in
          absurd (d.differs.differ (ap (λ (w : Block). get_or w.words i 0) z))
      go (no l) = omega (arith, held-kind h (length b) (header-held b h e).1)

  -- the step of the cell
  abbrev o : ℕ
  o = overflows.operands.offset

  from : FromCount h.error overflows.operands
  from = operands-from s at h.kind h.error i overflows.operands overflows.are

  stepping : Stepping h.error top o
  stepping = record { offset-finite = from.offset-finite; error-right = error-right; top-finite = top-finite }

  word-by : (add : Adding) (w : Block) → block_by add s at h.kind h.error top t.x (valid_in_tile (shape_of h) m t) ≡ ok w → get_or w.words i 0 ≡ step_by add h.error top o from.count
  unfolding step_by
  word-by add w k =
      word-is s at h.kind h.error top t.x (valid_in_tile (shape_of h) m t) add w (omega (arith, is-seven)) k i overflows.operands overflows.are
      ∙ ap (λ (p : ℕ). lesser (add o p) top) from.product_is

  new_word : get_or d.differs.new.words i 0 ≡ step_of o h.error top from.count
  new_word =
      word-by sum d.differs.new (block-sum s at h.kind h.error top t.x (valid_in_tile (shape_of h) m t) ∙ new_is)
      ∙ step_sum h.error top o from.count

  steps-differ : step_of o h.error top from.count ≢ step_by counted_sum h.error top o from.count
  steps-differ z = d.differs.differ (word-by counted_sum d.differs.old old-is ∙ sym z ∙ sym new_word)

  far-offset : (negative o ≡ true) × (far_offset ≤ mag o)
  far-offset = step-offset h.error top o from.count stepping steps-differ

  counted-below : less (counted_sum o overflows.operands.product) top ≡ true
  counted-below = rw from.product_is (step-below h.error top o from.count stepping (rw from.product_is at overflows.infinite-product) steps-differ)

  as-binary64 : (flag : ℕ) → word_at 1 s at ≡ ok flag → offset_kind 7 (flag / 64) ≡ ok 7
  as-binary64 flag k =
      let st = operands-stand s at h.kind h.error i overflows.operands overflows.are in
      let z : st.flag ≡ flag = ok-is (sym st.is-flag ∙ k) in
      let far : 2 ^ 2044 < mag st.offset.value = lt_of_lt_of_le (lt_of_lt_of_le (lit< tt) far-offset.1) (le_of_eq (ap (λ (x : Operands). mag x.offset) st.are)) in
      ap (λ (x : ℕ). offset_kind x (flag / 64)) (sym is-seven)
      ∙ ap (λ (x : ℕ). offset_kind h.kind (x / 64)) (sym z)
      ∙ (offset_read s (at + 1) h.kind st.flag st.offset st.offset-is).wide is-seven far

  is-maximum : cell_word h m y c ≡ top
  unfolding cell_word
  is-maximum =
      let most = step-most h.error top o from.count stepping (rw from.product_is at overflows.infinite-product) in
      rw d.is-blocks (d.differs.here ∙ new_word ∙ most)

meaning-cell : (b : List ℕ) (reuse : Bool) (old : List ℕ) (x y : Meaning) → meaning_by counted_sum b reuse old ≡ ok x → meaning b reuse old ≡ ok y
    → (c : ℕ) → let h = y.header in let m = bytes_of y.mask in cell_word h m x.body c ≢ cell_word h m y.body c → CellChanged b y c
unfolding meaning_from_by meaning_from
meaning-cell b reuse old =
    meaning-related counted_sum
    (λ x y. (v w : Meaning) → x ≡ ok v → y ≡ ok w → (c : ℕ) → let h = w.header in let m = bytes_of w.mask in cell_word h m v.body c ≢ cell_word h m w.body c → CellChanged b w c)
    (λ x v w e k c d. absurd (d (ap (λ (z : Meaning). cell_word w.header (bytes_of w.mask) z.body c) (ok-is (sym e ∙ k)))))
    b reuse old
    (λ h e k v w ev ew c.
    let (p, ep, ev) = bind_is (body_by counted_sum (take h.size b) h (bytes_of k)) _ ev in
    let (q, eq, ew) = bind_is (body_says (take h.size b) h (bytes_of k)) _ ew in
    changed h e k p q ep eq v w (ok-is ev) (ok-is ew) c)
  where
    changed : (h : Header) → header_says b ≡ ok h → (k : MaskInForce) (p q : Body) → body_by counted_sum (take h.size b) h (bytes_of k) ≡ ok p → body_says (take h.size b) h (bytes_of k) ≡ ok q
        → (v w : Meaning) → record { header = h; mask = k; body = p } ≡ v → record { header = h; mask = k; body = q } ≡ w
        → (c : ℕ) → cell_word w.header (bytes_of w.mask) v.body c ≢ cell_word w.header (bytes_of w.mask) w.body c → CellChanged b w c
    changed h e k p q ep eq v w zv zw c = rw (← zv, ← zw) go
      where
        go : cell_word h (bytes_of k) p c ≢ cell_word h (bytes_of k) q c → CellChanged b (record { header = h; mask = k; body = q }) c
        go d =
            let x = body-cell (take h.size b) h (bytes_of k) p q ep eq c d in
            let z : starts_of q ≡ x.found.starts = ap starts_of x.is-blocks in
            record {
              kind = is-seven b h e (bytes_of k) q c x;
              overflows = rw (z) (overflows b h e (bytes_of k) q c x);
              offset = far-offset b h e (bytes_of k) q c x;
              as-binary64 = rw (z) (as-binary64 b h e (bytes_of k) q c x);
              below = counted-below b h e (bytes_of k) q c x;
              ranges = x.ranges;
              ranges-are = x.ranges-are;
              is-maximum = is-maximum b h e (bytes_of k) q c x;
            }

-- ---- and back: both bodies are in blocks

record InBlocks (s : List ℕ) (h : Header) (m : List ℕ) (x y : Body) : Type 0 where
  ranges : Ranges
  ranges-are : ranges_says s h ≡ ok ranges
  at : ℕ
  old : Chain
  new : Chain
  old-is : all_blocks_by counted_sum s h ranges.max m at ≡ ok old
  new_is : all_blocks s h ranges.max m at ≡ ok new
  old-body : x ≡ blocks old
  new-body : y ≡ blocks new

body-blocks : (s : List ℕ) (h : Header) (m : List ℕ) (x y : Body) → body_by counted_sum s h m ≡ ok x → body_says s h m ≡ ok y → (n : ℕ) → n < length (starts_of y) → InBlocks s h m x y
unfolding block_body_by block_body
body-blocks s h m =
    body-related counted_sum (λ x y. (a b : Body) → x ≡ ok a → y ≡ ok b → (n : ℕ) → n < length (starts_of b) → InBlocks s h m a b)
    (λ x none a b e k n l. absurd (let z : length (starts_of b) ≡ 0 = ap length (none b k) in omega arith))
    s h m
    (λ r e at a b ea eb n l.
    let (u, eu, ea) = bind_is (all_blocks_by counted_sum s h r.max m at) _ ea in
    let (v, ev, eb) = bind_is (all_blocks s h r.max m at) _ eb in
    record { ranges = r; ranges-are = e; at = at; old = u; new = v; old-is = eu; new_is = ev; old-body = sym (ok-is ea); new-body = sym (ok-is eb) })

cell-changed : (b : List ℕ) (h : Header) → header_says b ≡ ok h → (m : List ℕ) (x y : Body) → body_by counted_sum (take h.size b) h m ≡ ok x → body_says (take h.size b) h m ≡ ok y
    → (c : ℕ) → block_of (shape_of h) c < length (starts_of y) → h.kind ≡ 7
    → (o : Overflows (take h.size b) (get_or (starts_of y) (block_of (shape_of h) c) 0) h.kind h.error (index_of (shape_of h) m c))
    → (r : Ranges) → ranges_says (take h.size b) h ≡ ok r → less (counted_sum o.operands.offset o.operands.product) (maximum_of h r c) ≡ true
    → cell_word h m x c ≢ cell_word h m y c
unfolding cell_word block_at_by block_at
cell-changed b h e m x y ex ey c l seven o r k f =
    let s = take h.size b in
    let n = block_of (shape_of h) c in
    let i = index_of (shape_of h) m c in
    let w = body-blocks s h m x y ex ey n l in
    let count = block_count (shape_of h) in
    let starts : starts_of y ≡ w.new.starts = ap starts_of w.new-body in
    let below : n < count = omega (arith, l, ap length starts, (chain-lengths s h w.ranges.max m count 0 w.at w.new w.new_is).0) in
    let same : ends w.old ≡ ends w.new = ap (λ (z : Res Chain). z >>= ends) (sym w.old-is) ∙ chain-ends s h w.ranges.max m count 0 w.at ∙ ap (λ (z : Res Chain). z >>= ends) w.new_is in
    let p = by-block s h w.ranges.max m counted_sum count 0 w.at w.old w.old-is n below in
    let q = by-block s h w.ranges.max m sum count 0 w.at w.new (chain-sum s h w.ranges.max m count 0 w.at ∙ w.new_is) n below in
    let at_same : get_or w.old.starts n 0 ≡ get_or (starts_of y) n 0 = ap (λ (z : Ends). get_or z.starts n 0) (ok-is same) ∙ ap (λ (z : List ℕ). get_or z n 0) (sym starts) in
    let at = get_or (starts_of y) n 0 in
    let high = w.ranges.max in
    let max-same : r.max ≡ high = ap (λ (z : Ranges). z.max) (sym (ok-is (sym w.ranges-are ∙ k))) in
    let was : block_at_by counted_sum s h r.max m n at ≡ ok p.block =
    ap (λ (z : List ℕ). block_at_by counted_sum s h z m n at) max-same
    ∙ ap (λ (z : ℕ). block_at_by counted_sum s h high m n z) (sym at_same)
    ∙ ap (λ (z : ℕ). block_at_by counted_sum s h high m z (get_or w.old.starts n 0)) (sym (zero-add n))
    ∙ p.is
    in
    let is : block_at s h r.max m n at ≡ ok q.block =
    sym (block-at-sum s h r.max m n at)
    ∙ ap (λ (z : List ℕ). block_at_by sum s h z m n at) max-same
    ∙ ap (λ (z : List ℕ). block_at_by sum s h high m n (get_or z n 0)) starts
    ∙ ap (λ (z : ℕ). block_at_by sum s h high m z (get_or w.new.starts n 0)) (sym (zero-add n))
    ∙ q.is
    in
    let t = tile_of (shape_of h) n in
    let v = valid_in_tile (shape_of h) m t in
    let top = maximum_of h r c in
    let old-is = marked-is at (block_by counted_sum s at h.kind h.error top t.x v) was in
    let new_is = marked-is at (block_says s at h.kind h.error top t.x v) is in
    let differ = block-changed s at h.kind h.error top t.x v p.block q.block old-is new_is (omega arith) (header-error b h e) (maximum-finite b h e r k n below) i o.operands o.are o.infinite-product f in
    let old-word : cell_word h m x c ≡ get_or p.block.words i 0 = ap (λ (z : Body). cell_word h m z c) w.old-body ∙ ap (λ (z : List ℕ). get_or z i 0) p.words in
    let new_word : cell_word h m y c ≡ get_or q.block.words i 0 = ap (λ (z : Body). cell_word h m z c) w.new-body ∙ ap (λ (z : List ℕ). get_or z i 0) q.words in
    λ z. differ (sym old-word ∙ z ∙ new_word)

meaning-changed : (b : List ℕ) (reuse : Bool) (old : List ℕ) (x y : Meaning) → meaning_by counted_sum b reuse old ≡ ok x → meaning b reuse old ≡ ok y → ChangesThere b x y
unfolding meaning_by meaning meaning_from_by meaning_from
meaning-changed b reuse old x y ex ey =
    let (h, eh, ex) = bind_is (header_says b) _ ex in
    let (k, ek, ex) = bind_is (mask_says (take h.size b) h reuse old) _ ex in
    let (p, ep, ex) = bind_is (body_by counted_sum (take h.size b) h (bytes_of k)) _ ex in
    let masked : (mask_says (take h.size b) h reuse old >>= meaning_from b h) ≡ ok y = rw (eh) at ey in
    let read : meaning_from b h k ≡ ok y = rw (ek) at masked in
    let (q, eq, ey) = bind_is (body_says (take h.size b) h (bytes_of k)) _ read in
    given h eh k p q ep eq (ok-is ex) (ok-is ey)
  where
    given : (h : Header) → header_says b ≡ ok h → (k : MaskInForce) (p q : Body) → body_by counted_sum (take h.size b) h (bytes_of k) ≡ ok p → body_says (take h.size b) h (bytes_of k) ≡ ok q
        → record { header = h; mask = k; body = p } ≡ x → record { header = h; mask = k; body = q } ≡ y → ChangesThere b x y
    given h eh k p q ep eq zx zy = rw (← zx, ← zy) (cell-changed b h eh (bytes_of k) p q ep eq)

pub meaning-changes : MeaningChanges
meaning-changes = record { meaning-outline = meaning-outline; meaning-kind = meaning-kind; meaning-calm = meaning-calm; meaning-changed = meaning-changed; meaning-cell = meaning-cell }
