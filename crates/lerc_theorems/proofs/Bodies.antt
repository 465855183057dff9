-- Bodies that were accepted: where they end, and what a body in blocks was read from.
-- Assumes nothing.
use mathlib.Core.Path.{◌≡◌, ◌∙◌, sym, ap, refl}
use mathlib.Core.Bool.{Bool, true, false, cond}
use mathlib.Core.List.{List, []}
use Prim.Native.Nat.{ℕ, zero, suc, ◌+◌, ◌-◌, ◌*◌, ◌≤◌, ◌<◌}
use native.Mathlib.Omega.{arith}
use lib.ListN.{length, get_or, get_or-eq_default}
use lib.Dec.{leb, ltb, eqb}
use borrow.Author.Tests.{leb-true, eqb-false, ne_eqb}
use Rattle.lerc_words.specs.Res.{Res, ok, ◌>>=◌, marked, require, word_at}
use Rattle.lerc_words.proofs.Binding.{bind_is, require-is, ok-is, cond-elim}
use Rattle.lerc_words.proofs.Marking.{marked-is}
use Rattle.lerc_words.proofs.Little.{word_at-is}
use Rattle.lerc_numeric.specs.Kinds.{type_size}
use Rattle.lerc_header.specs.declared.Header.{Header}
use Rattle.lerc_header.specs.Shape.{block_count}
use Rattle.lerc_header.specs.Header.{shape_of, header_bytes, ranges_at}
use Rattle.lerc_ranges.specs.declared.Ranges.{Ranges}
use Rattle.lerc_ranges.specs.Ranges.{ranges_end, coded_ranges, pairs_right, wrong_number_at, ranges_says, constant_words}
use Rattle.lerc_ranges.proofs.Judged.{RangesKept}
use Rattle.lerc_block.specs.Block.{Block, raw_words}
use Rattle.lerc_block.proofs.Accepted.{block-ends}
use Rattle.lerc_sweep.specs.Sweep.{Way, raw_from, blocks_from, huffman_from, has_mode_byte, mode_byte, mode_at, moded, sweep_byte, swept}
use Rattle.lerc_image.specs.Blocks.{Chain, block_at, chain, all_blocks}
use Rattle.lerc_image.proofs.Chain.{chain-parts, chain-none, chain-lengths, chain-block}
use Rattle.lerc_image.proofs.Stages.{get_d_any}
use Rattle.lerc_byte_image.specs.Image.{image_at}
use Rattle.lerc_byte_image.proofs.Front.{image-bounds}
use Rattle.lerc.specs.Meaning.{Body, empty, blocks, missing_word_at, raw_body, block_body, huffman_body, body_from, swept_body, constant_body, body_says, end_of}

-- ---- behind the sweep byte

abbrev pub place_of : Way → ℕ
place_of (raw_from at) = at
place_of (blocks_from at) = at
place_of (huffman_from delta mode) = mode + 1

-- it lies behind the mode byte
pub mode-place : (t delta : Bool) (at : ℕ) → place_of (cond t (blocks_from (at + 1)) (huffman_from delta at)) ≡ at + 1
mode-place true delta at = refl
mode-place false delta at = refl

module _ (s : List ℕ) where
  mode-in : (at : ℕ) (w : Way) → mode_at s at ≡ ok w → (at ≤ place_of w) × (place_of w ≤ length s)
  unfolding mode_byte
  mode-in at w e =
      let (mode, p, e) = bind_is (word_at 1 s at) _ (marked-is at (mode_byte s at) e) in
      let (_, t8, e) = bind_is (require (ltb mode 3) 8) _ e in
      let i = (word_at-is 1 s at mode p).inside in
      let z : at + 1 ≡ place_of w = sym (mode-place (eqb mode 0) (eqb mode 1) at) ∙ ap place_of (ok-is e) in
      rw (← z) (omega arith, omega arith)

  moded-in : (kind error at : ℕ) (w : Way) → at ≤ length s → moded s kind error at ≡ ok w → (at ≤ place_of w) × (place_of w ≤ length s)
  unfolding moded
  moded-in kind error at w l =
      cond-elim (λ (x : Res Way). x ≡ ok w → (at ≤ place_of w) × (place_of w ≤ length s)) (has_mode_byte kind error)
      (λ _. mode-in at w)
      (λ _ e. rw (← ok-is {a = blocks_from at} {b = w} e) (omega arith, l))

  -- the sweep byte that was read, and that it is 0 or 1
  pub sweep-is : (at sweep : ℕ) → marked at (sweep_byte s at) ≡ ok sweep → (word_at 1 s at ≡ ok sweep) × (ltb sweep 2 ≡ true)
  unfolding sweep_byte
  sweep-is at sweep e =
      let (v, p, e) = bind_is (word_at 1 s at) _ (marked-is at (sweep_byte s at) e) in
      let (_, t8, e) = bind_is (require (ltb v 2) 8) _ e in
      rw (← ok-is e) (p, require-is (ltb v 2) 8 t8)

  pub swept-in : (kind error at : ℕ) (w : Way) → swept s kind error at ≡ ok w → (at < place_of w) × (place_of w ≤ length s)
  unfolding swept
  swept-in kind error at w e =
      let (sweep, p, e) = bind_is (marked at (sweep_byte s at)) _ e in
      let i = (word_at-is 1 s at sweep (sweep-is at sweep p).0).inside in
      let q = cond-elim (λ (x : Res Way). x ≡ ok w → (at + 1 ≤ place_of w) × (place_of w ≤ length s)) (eqb sweep 1)
      (λ _ e. rw (← ok-is {a = raw_from (at + 1)} {b = w} e) (omega arith, omega arith))
      (λ _. moded-in kind error (at + 1) w (omega arith)) e in
      (omega (arith, q.0), q.1)

-- ---- ranges that are read

-- where the header's minimum and maximum differ
abbrev pub judged : List ℕ → Header → Res Ranges
judged s h = do
  _ ← marked (ranges_at h) (require (leb (ranges_end h) (length s)) 1)
  _ ← marked (wrong_number_at h (coded_ranges s h)) (require (pairs_right h.depth (coded_ranges s h)) 7)
  ok (coded_ranges s h)

pub record CodedRight (s : List ℕ) (h : Header) (r : Ranges) : Type 0 where
  pub fits : ranges_end h ≤ length s
  pub right : pairs_right h.depth (coded_ranges s h) ≡ true
  pub is : coded_ranges s h ≡ r

pub judged-is : (s : List ℕ) (h : Header) (r : Ranges) → judged s h ≡ ok r → CodedRight s h r
judged-is s h r e =
    let fit = require (leb (ranges_end h) (length s)) 1 in
    let right = require (pairs_right h.depth (coded_ranges s h)) 7 in
    let (_, p, e) = bind_is (marked (ranges_at h) fit) _ e in
    let (_, q, e) = bind_is (marked (wrong_number_at h (coded_ranges s h)) right) _ e in
    record { fits = leb-true _ _ (require-is _ 1 (marked-is _ fit p)); right = require-is _ 7 (marked-is _ right q); is = ok-is e }

-- ---- chains

module _ (s : List ℕ) (h : Header) (maxima m : List ℕ) where
  pub block_in : (n at : ℕ) (b : Block) → block_at s h maxima m n at ≡ ok b → (at < b.next) × (b.next ≤ length s)
  unfolding block_at
  block_in n at b e = block-ends s at _ _ _ _ _ (marked-is at _ e)

  pub chain-in : (f n at : ℕ) (c : Chain) → at ≤ length s → chain s h maxima m f n at ≡ ok c → (at ≤ c.end) × (c.end ≤ length s)
  chain-in zero n at c l e =
      let z : record { starts = []; words = []; end = at } ≡ c = ok-is (sym (chain-none s h maxima m n at) ∙ e) in
      rw (← z) (omega arith, l)
  chain-in (suc f) n at c l e =
      let p = chain-parts s h maxima m f n at c e in
      let i = block_in n at p.block p.first-is in
      let q = chain-in f (suc n) p.block.next p.others i.1 p.others-are in
      rw p.whole (omega (arith, i.0, q.0), q.1)

  module _ (k at : ℕ) (c : Chain) (e : chain s h maxima m k 0 at ≡ ok c) where
    many : length c.starts ≡ k
    many = (chain-lengths s h maxima m k 0 at c e).0

    start-next : (i : ℕ) → i < k → get_or c.starts i c.end < get_or c.starts (suc i) c.end
    start-next i l = (block_in (0 + i) _ _ (chain-block s h maxima m k 0 at c i e l)).0

    start-later : (i j : ℕ) → i + suc j ≤ k → get_or c.starts i c.end < get_or c.starts (i + suc j) c.end
    start-later i zero l = let z : i + 1 ≡ suc i = omega arith in rw (z) (start-next i (omega arith))
    start-later i (suc j) l =
        let z : i + suc (suc j) ≡ suc (i + suc j) = omega arith in
        let a = start-later i j (omega arith) in
        let b = start-next (i + suc j) (omega arith) in
        rw (z) (omega (arith, a, b))

    pub starts-up : (i j : ℕ) → i < j → j < length c.starts → get_or c.starts i 0 < get_or c.starts j 0
    starts-up i j l t =
        let d : ℕ = j - suc i in
        let z : i + suc d ≡ j = omega arith in
        let a = start-later i d (omega (arith, many)) in
        let x = get_d_any c.starts i 0 c.end (omega arith) in
        let y = get_d_any c.starts j 0 c.end t in
        rw (x, y) (rw (z) at a)

    pub starts-end : (i : ℕ) → i < length c.starts → get_or c.starts i 0 < c.end
    starts-end i l =
        let d : ℕ = k - suc i in
        let z : i + suc d ≡ k = omega (arith, many) in
        let a = start-later i d (omega arith) in
        let x = get_d_any c.starts i 0 c.end l in
        let g : length c.starts ≤ k = omega (arith, many) in
        rw (x) (rw (z, get_or-eq_default c.starts c.end g) at a)

-- ---- the end of a body

-- not before a place, and within s
abbrev Ends : ℕ → List ℕ → Body → Type 0
Ends from s y = (from ≤ end_of y) × (end_of y ≤ length s)

module _ (s : List ℕ) (h : Header) (m : List ℕ) (y : Body) where
  empty-ends : header_bytes ≤ length s → ok empty ≡ ok y → Ends header_bytes s y
  empty-ends l e = rw (← ok-is {a = empty} {b = y} e) (omega arith, l)

  module _ (r : Ranges) (k : RangesKept s h r) where
    constant-ends : constant_body h r ≡ ok y → Ends (ranges_at h) s y
    unfolding constant_body
    constant-ends e =
        let (ws, p, e) = bind_is (constant_words h.depth h.kind r.min) _ e in
        rw (← ok-is e) (k.behind, k.inside)

    raw-ends : (at : ℕ) → r.at < at → raw_body s h at ≡ ok y → Ends (ranges_at h) s y
    unfolding raw_body raw_words
    raw-ends at l e =
        let words = raw_words s at h.kind (h.valid * h.depth) in
        let (b, p, e) = bind_is (marked (missing_word_at (length s) at h.kind) words) _ e in
        let (_, t, p) = bind_is (require (leb (at + h.valid * h.depth * type_size h.kind) (length s)) 1) _ (marked-is _ words p) in
        let z : at + h.valid * h.depth * type_size h.kind ≤ length s = leb-true _ _ (require-is _ 1 t) in
        let n = ap (λ (x : Block). x.next) (ok-is p) in
        rw (← ok-is e, ← n) (omega (arith, k.behind), z)

    block-ends-in : (at : ℕ) → r.at < at → at ≤ length s → block_body s h r.max m at ≡ ok y → Ends (ranges_at h) s y
    unfolding block_body
    block-ends-in at l q e =
        let (c, p, e) = bind_is (all_blocks s h r.max m at) _ e in
        let i = chain-in s h r.max m (block_count (shape_of h)) 0 at c q p in
        rw (← ok-is e) (omega (arith, k.behind, i.0), i.1)

    huffman-ends : (delta : Bool) (mode : ℕ) → r.at < mode + 1 → huffman_body s h delta mode ≡ ok y → Ends (ranges_at h) s y
    unfolding huffman_body
    huffman-ends delta mode l e =
        let (c, p, e) = bind_is (image_at s h mode) _ e in
        let i = image-bounds s h mode p in
        rw (← ok-is e) (omega (arith, k.behind, i.0), i.1)

    from-ends : (w : Way) → r.at < place_of w → place_of w ≤ length s → body_from s h r m w ≡ ok y → Ends (ranges_at h) s y
    from-ends (raw_from at) l q e = raw-ends at l e
    from-ends (blocks_from at) l q e = block-ends-in at l q e
    from-ends (huffman_from delta mode) l q e = huffman-ends delta mode l e

    swept-ends : swept_body s h r m ≡ ok y → Ends (ranges_at h) s y
    unfolding swept_body
    swept-ends e =
        let (w, p, e) = bind_is (swept s h.kind h.error r.at) _ e in
        let i = swept-in s h.kind h.error r.at w p in
        from-ends w i.0 i.1 e

  module _ (f : (r : Ranges) → ranges_says s h ≡ ok r → RangesKept s h r) where
    ranged-ends : (ranges_says s h >>= λ r. cond r.constant (constant_body h r) (swept_body s h r m)) ≡ ok y → Ends (ranges_at h) s y
    ranged-ends e =
        let (r, p, e) = bind_is (ranges_says s h) _ e in
        cond-elim (λ (x : Res Body). x ≡ ok y → Ends (ranges_at h) s y) r.constant (λ _. constant-ends r (f r p)) (λ _. swept-ends r (f r p)) e

    pub body-ends : header_bytes ≤ length s → body_says s h m ≡ ok y → Ends header_bytes s y
    unfolding body_says
    body-ends l =
        cond-elim (λ (x : Res Body). x ≡ ok y → Ends header_bytes s y) (eqb h.valid 0)
        (λ _. empty-ends l)
        (λ _ e. let i = ranged-ends e in (omega (arith, i.0), i.1))

    -- where there are valid pixels, it ends behind the mask
    pub body-behind : (h.valid ≡ 0 → ⊥) → body_says s h m ≡ ok y → ranges_at h ≤ end_of y
    unfolding body_says
    body-behind v e = (ranged-ends (rw (ne_eqb h.valid 0 v) at e)).0

-- ---- a body in blocks

pub record BlocksCoded (s : List ℕ) (h : Header) (m : List ℕ) (c : Chain) : Type 0 where
  pub some : h.valid ≡ 0 → ⊥
  pub ranges : Ranges
  pub read : ranges_says s h ≡ ok ranges
  pub coded : ranges.constant ≡ false
  pub from : ℕ
  pub sweep : swept s h.kind h.error ranges.at ≡ ok (blocks_from from)
  pub is : all_blocks s h ranges.max m from ≡ ok c

module _ (s : List ℕ) (h : Header) (m : List ℕ) (c : Chain) where
  -- other bodies are no blocks
  not-constant : (r : Ranges) → constant_body h r ≡ ok (blocks c) → ⊥
  unfolding constant_body
  not-constant r e =
      let (ws, p, e) = bind_is (constant_words h.depth h.kind r.min) _ e in
      absurd (let z : ◌≡◌ {A = ℕ} 0 1 = cc in omega arith)

  way-is : (r : Ranges) (w : Way) → body_from s h r m w ≡ ok (blocks c) → (from : ℕ) × (w ≡ blocks_from from) × (all_blocks s h r.max m from ≡ ok c)
  unfolding raw_body block_body huffman_body
  way-is r (raw_from at) e =
      let (ws, p, e) = bind_is (marked (missing_word_at (length s) at h.kind) (raw_words s at h.kind (h.valid * h.depth))) _ e in
      absurd (let z : ◌≡◌ {A = ℕ} 0 1 = cc in omega arith)
  way-is r (blocks_from at) e =
      let (d, p, e) = bind_is (all_blocks s h r.max m at) _ e in
      let z : d ≡ c = cc in
      (at, refl, p ∙ ap ok z)
  way-is r (huffman_from delta mode) e =
      let (d, p, e) = bind_is (image_at s h mode) _ e in
      absurd (let z : ◌≡◌ {A = ℕ} 0 1 = cc in omega arith)

  pub coded-is : body_says s h m ≡ ok (blocks c) → BlocksCoded s h m c
  unfolding body_says swept_body
  coded-is = valid (eqb h.valid 0) refl
    where
      from : (r : Ranges) → ranges_says s h ≡ ok r → (t : Bool) → r.constant ≡ t → (h.valid ≡ 0 → ⊥) → cond t (constant_body h r) (swept_body s h r m) ≡ ok (blocks c) → BlocksCoded s h m c
      from r p true q v e = absurd (not-constant r e)
      from r p false q v e =
          let (w, sw, e) = bind_is (swept s h.kind h.error r.at) _ e in
          let (at, u, a) = way-is r w e in
          record { some = v; ranges = r; read = p; coded = q; from = at; sweep = rw (u) at sw; is = a }

      valid : (t : Bool) → eqb h.valid 0 ≡ t → cond t (ok empty) (ranges_says s h >>= λ r. cond r.constant (constant_body h r) (swept_body s h r m)) ≡ ok (blocks c) → BlocksCoded s h m c
      valid true q e = absurd (let z : ◌≡◌ {A = ℕ} 0 1 = cc in omega arith)
      valid false q e =
          let (r, p, e) = bind_is (ranges_says s h) _ e in
          from r p r.constant refl (eqb-false h.valid 0 q) e

  pub coded-says : BlocksCoded s h m c → body_says s h m ≡ ok (blocks c)
  unfolding body_says swept_body block_body
  coded-says k = rw (ne_eqb h.valid 0 k.some, k.read, k.coded, k.sweep, k.is)
