-- What is read lies between where reading begins and the end: two slices that agree there have the same blocks, and the same body.
-- Assumes nothing.
use mathlib.Core.Path.{◌≡◌, ◌∙◌, sym, ap, refl}
use mathlib.Core.Bool.{Bool, true, false, cond}
use mathlib.Core.List.{List, [], ◌∷◌}
use Prim.Native.Nat.{ℕ, zero, suc, ◌+◌, ◌-◌, ◌*◌, ◌%◌, ◌≤◌, ◌<◌}
use native.Mathlib.Nat.{mul-le-mul_right, suc-mul, zero-add, suc-add}
use native.Mathlib.Omega.{arith}
use lib.ListN.{length, get_or, take, drop, replicate, length-drop}
use lib.Seq.{get_or-drop, take-nil}
use lib.Dec.{leb, ltb, eqb}
use borrow.Author.Tests.{le-leb, ltb-true, eqb-false}
use Rattle.lerc_words.specs.Res.{ok, ◌>>=◌, marked, require, each, little, word_at}
use Rattle.lerc_words.specs.Lists.{tabulate}
use Rattle.lerc_words.proofs.Binding.{bind_is, require-is, ok-is}
use Rattle.lerc_words.proofs.Marking.{marked-ok, marked-is}
use Rattle.lerc_words.proofs.Little.{Stays, little-same, word_at-is, word_at-ok}
use Rattle.lerc_words.proofs.Tables.{tabulate-same, take-tabulate}
use Rattle.lerc_numeric.specs.Numeric.{same}
use Rattle.lerc_numeric.specs.Kinds.{type_size, value_of}
use Rattle.lerc_numeric.specs.Steps.{step_of}
use Rattle.lerc_samples.specs.Samples.{sample_at, stored}
use Rattle.lerc_bits.specs.Bits.{Counts, counts}
use Rattle.lerc_bits.proofs.Values.{counts-ends}
use Rattle.lerc_bits.proofs.Local.{counts-stays}
use Rattle.lerc_block.specs.Block.{Block, Offset, raw_words, level_block, stepped_block, offset_at, finite_offset, offset_block, formed, flag_at, block_says}
use Rattle.lerc_block.proofs.Returns.{offset-is, finite-is, flag_is}
use Rattle.lerc_block.proofs.Accepted.{block-ends}
use Rattle.lerc_header.specs.declared.Header.{Header}
use Rattle.lerc_header.specs.Limits.{depth_limit}
use Rattle.lerc_header.specs.Shape.{pixels, block_count}
use Rattle.lerc_header.specs.Header.{shape_of, header_bytes, ranges_at}
use Rattle.lerc_ranges.specs.declared.Ranges.{Ranges}
use Rattle.lerc_mask.specs.Mask.{mask_field}
use Rattle.lerc_validity.specs.Validity.{uniform, kept, unrolled, mask_in, mask_says}
use Rattle.lerc_ranges.specs.Ranges.{uniform_ranges, number_at, by_depth, maxima_at, ranges_end, coded_ranges, ranges_says, constant_words}
use Rattle.lerc_sweep.specs.Sweep.{Way, raw_from, blocks_from, huffman_from, has_mode_byte, mode_byte, mode_at, moded, sweep_byte, swept}
use Rattle.lerc_image.specs.Blocks.{Chain, block_at, chain, all_blocks}
use Rattle.lerc_image.proofs.Chain.{chain-none, chain-front, chain-parts}
use Rattle.lerc_byte_image.specs.Image.{image_at}
use Rattle.lerc_byte_image.proofs.Front.{image-front, image-bounds}
use Rattle.lerc.specs.Meaning.{Body, empty, missing_word_at, raw_body, block_body, huffman_body, body_from, swept_body, constant_body, body_says, end_of}
use Rattle.lerc_theorems.proofs.Bodies.{place_of, mode-place, sweep-is, swept-in, judged, judged-is, block_in, chain-in}

-- they agree in the bytes from j up to k, and the second has them
pub record Agree (s t : List ℕ) (j k : ℕ) : Type 0 where
  pub bytes : (i : ℕ) → j ≤ i → i < k → get_or s i 0 ≡ get_or t i 0
  pub room : k ≤ length t

module _ {s t : List ℕ} {j k : ℕ} (a : Agree s t j k) where
  pub little-agrees : (n at : ℕ) → j ≤ at → at + n ≤ k → little n s at ≡ little n t at
  little-agrees n at o l = little-same n s t at at (λ i r. a.bytes (at + i) (omega arith) (omega arith))

  pub word-agrees : (n at v : ℕ) → word_at n s at ≡ ok v → j ≤ at → at + n ≤ k → word_at n t at ≡ ok v
  word-agrees n at v e o l =
      let r : at + n ≤ length t = omega (arith, a.room) in
      word_at-ok n t at r ∙ ap ok (sym (little-agrees n at o l) ∙ sym (word_at-is n s at v e).value)

  sample-agrees : (kind at v : ℕ) → sample_at kind s at ≡ ok v → j ≤ at → at + type_size kind ≤ k → sample_at kind t at ≡ ok v
  unfolding sample_at
  sample-agrees kind at v e o l =
      let (w, p, e) = bind_is (word_at (type_size kind) s at) _ e in
      rw (word-agrees (type_size kind) at w p o l) e

  -- ---- the four forms of a block

  pub raw-agrees : (at kind n : ℕ) (b : Block) → raw_words s at kind n ≡ ok b → j ≤ at → b.next ≤ k → raw_words t at kind n ≡ ok b
  unfolding raw_words
  raw-agrees at kind n b e o l =
      let (_, q, e) = bind_is (require (leb (at + n * type_size kind) (length s)) 1) _ e in
      let z : at + n * type_size kind ≡ b.next = ap (λ (x : Block). x.next) (ok-is e) in
      let r : at + n * type_size kind ≤ length t = omega (arith, a.room, z) in
      let words : tabulate n (λ i. little (type_size kind) t (at + i * type_size kind)) ≡ tabulate n (λ i. little (type_size kind) s (at + i * type_size kind)) =
      tabulate-same n _ _ (λ i q.
      let m : suc i * type_size kind ≤ n * type_size kind = mul-le-mul_right (type_size kind) q in
      let y : at + i * type_size kind + type_size kind ≤ k = omega (arith, m, suc-mul i (type_size kind), z) in
      sym (little-agrees (type_size kind) (at + i * type_size kind) (omega arith) y)) in
      rw (le-leb _ _ r) (ap (λ (x : List ℕ). ok (record { words = x; next = at + n * type_size kind })) words ∙ e)

  raw-next : (at kind n : ℕ) (b : Block) → raw_words s at kind n ≡ ok b → at ≤ b.next
  unfolding raw_words
  raw-next at kind n b e =
      let (_, q, e) = bind_is (require (leb (at + n * type_size kind) (length s)) 1) _ e in
      let z : at + n * type_size kind ≡ b.next = ap (λ (x : Block). x.next) (ok-is e) in
      omega (arith, z)

  counts-agrees : (at : ℕ) (c : Counts) → counts s at ≡ ok c → j ≤ at → c.next ≤ k → counts t at ≡ ok c
  counts-agrees at c e o l =
      let d = counts-ends s at e in
      let n : ℕ = c.next - at in
      let z : at + n ≡ c.next = omega (arith, d.0) in
      let m : Stays s at t at n = record { same = λ i r. a.bytes (at + i) (omega arith) (omega arith); room = omega (arith, a.room, z) } in
      rw (z) at (counts-stays m e (sym z))

  finite-agrees : (at kind flag : ℕ) (o : Offset) → finite_offset s at kind flag ≡ ok o → j ≤ at → o.next ≤ k → finite_offset t at kind flag ≡ ok o
  unfolding finite_offset offset_at
  finite-agrees at kind flag o e i l =
      let (p, q) = finite-is s at kind flag e in
      let f = offset-is s at kind flag p in
      let z = f.ends in
      rw (f.named, sample-agrees f.k at o.value f.sampled i (omega (arith, z)), q, ← z)

  module _ (kind error top n : ℕ) (b : Block) (l : b.next ≤ k) where
    stepped-agrees : (at offset : ℕ) → j ≤ at → stepped_block s at kind error top offset n ≡ ok b → (at ≤ b.next) × (stepped_block t at kind error top offset n ≡ ok b)
    unfolding stepped_block
    stepped-agrees at offset o e =
        let (c, p, e) = bind_is (counts s at) _ e in
        let (_, q, e) = bind_is (require (eqb (length c.values) n) 8) _ e in
        let (ws, r, e) = bind_is (each (λ q. stored kind (step_of offset error top q)) c.values) _ e in
        let z : c.next ≡ b.next = ap (λ (x : Block). x.next) (ok-is e) in
        let d = counts-ends s at p in
        (omega (arith, d.0, z), rw (counts-agrees at c p o (omega (arith, z)), require-is (eqb (length c.values) n) 8 q, r) e)

    level-next : (at offset : ℕ) → level_block at kind offset n ≡ ok b → at ≤ b.next
    unfolding level_block
    level-next at offset e =
        let (ws, p, e) = bind_is (each (stored kind) (replicate n offset)) _ e in
        let z : at ≡ b.next = ap (λ (x : Block). x.next) (ok-is e) in
        omega (arith, z)

    offset-agrees : (at flag : ℕ) → j ≤ at → offset_block s at kind error top flag n ≡ ok b → offset_block t at kind error top flag n ≡ ok b
    unfolding offset_block
    offset-agrees at flag i e =
        let (o, p, e) = bind_is (finite_offset s at kind flag) _ e in
        let f = (offset-is s at kind flag (finite-is s at kind flag p).0).ends in
        let (z, e) = go o.next o.value (eqb (flag % 4) 3) (omega (arith, f)) e in
        rw (finite-agrees at kind flag o p i (omega (arith, z))) e
      where
        go : (to offset : ℕ) (x : Bool) → j ≤ to → cond x (level_block to kind offset n) (stepped_block s to kind error top offset n) ≡ ok b
            → (to ≤ b.next) × (cond x (level_block to kind offset n) (stepped_block t to kind error top offset n) ≡ ok b)
        go to offset true o e = (level-next to offset e, e)
        go to offset false o e = stepped-agrees to offset o e

    formed-agrees : (at flag : ℕ) → j ≤ at → formed s at kind error top flag n ≡ ok b → formed t at kind error top flag n ≡ ok b
    unfolding formed
    formed-agrees at flag o = go (eqb (flag % 4) 0) (eqb (flag % 4) 2)
      where
        go : (x y : Bool)
            → cond x (raw_words s at kind n) (cond y (ok (record { words = replicate n 0; next = at })) (offset_block s at kind error top flag n)) ≡ ok b
            → cond x (raw_words t at kind n) (cond y (ok (record { words = replicate n 0; next = at })) (offset_block t at kind error top flag n)) ≡ ok b
        go true y e = raw-agrees at kind n b e o l
        go false true e = e
        go false false e = offset-agrees at flag o e

    pub block-agrees : (at x : ℕ) → j ≤ at → block_says s at kind error top x n ≡ ok b → block_says t at kind error top x n ≡ ok b
    unfolding block_says flag_at
    block-agrees at x o e =
        let d = block-ends s at kind error top x n e in
        let (flag, p, e) = bind_is (flag_at s at x) _ e in
        let (w, q) = flag_is s at x p in
        rw (word-agrees 1 at flag w o (omega (arith, d.0)), q) (formed-agrees (at + 1) flag (omega arith) e)

  -- ---- the blocks of a body

  module _ (h : Header) (maxima m : List ℕ) where
    pub at-agrees : (n at : ℕ) (b : Block) → j ≤ at → b.next ≤ k → block_at s h maxima m n at ≡ ok b → block_at t h maxima m n at ≡ ok b
    unfolding block_at
    at-agrees n at b o l e = marked-ok at (block-agrees h.kind h.error _ _ b l at _ o (marked-is at _ e))

    pub chain-agrees : (f n at : ℕ) (c : Chain) → j ≤ at → c.end ≤ k → chain s h maxima m f n at ≡ ok c → chain t h maxima m f n at ≡ ok c
    chain-agrees zero n at c o l e = chain-none t h maxima m n at ∙ sym (chain-none s h maxima m n at) ∙ e
    chain-agrees (suc f) n at c o l e =
        let p = chain-parts s h maxima m f n at c e in
        let i = block_in s h maxima m n at p.block p.first-is in
        let y = chain-in s h maxima m f (suc n) p.block.next p.others i.1 p.others-are in
        let z : c.end ≡ p.others.end = ap (λ (x : Chain). x.end) p.whole in
        rw (
          chain-front t h maxima m f n at,
          at-agrees n at p.block o (omega (arith, y.0, z)) p.first-is,
          chain-agrees f (suc n) p.block.next p.others (omega (arith, i.0)) (omega (arith, z)) p.others-are,
        ) (ap ok (sym p.whole))

  -- ---- the bytes in front of a body

  mode-agrees : (at : ℕ) (w : Way) → j ≤ at → place_of w ≤ k → mode_at s at ≡ ok w → mode_at t at ≡ ok w
  unfolding mode_byte
  mode-agrees at w o l e =
      let (mode, p, e) = bind_is (word_at 1 s at) _ (marked-is at (mode_byte s at) e) in
      let (_, q, e) = bind_is (require (ltb mode 3) 8) _ e in
      let z : at + 1 ≡ place_of w = sym (mode-place (eqb mode 0) (eqb mode 1) at) ∙ ap place_of (ok-is e) in
      rw (word-agrees 1 at mode p o (omega (arith, z)), require-is (ltb mode 3) 8 q) e

  pub sweep-agrees : (kind error at : ℕ) (w : Way) → j ≤ at → place_of w ≤ k → swept s kind error at ≡ ok w → swept t kind error at ≡ ok w
  unfolding swept sweep_byte moded
  sweep-agrees kind error at w o l e =
      let d = swept-in s kind error at w e in
      let (sweep, p, e) = bind_is (marked at (sweep_byte s at)) _ e in
      let (w, q) = sweep-is s at sweep p in
      rw (word-agrees 1 at sweep w o (omega (arith, d.0)), q) (go (eqb sweep 1) (has_mode_byte kind error) e)
    where
      go : (x y : Bool) → cond x (ok (raw_from (at + 1))) (cond y (mode_at s (at + 1)) (ok (blocks_from (at + 1)))) ≡ ok w
          → cond x (ok (raw_from (at + 1))) (cond y (mode_at t (at + 1)) (ok (blocks_from (at + 1)))) ≡ ok w
      go true y e = e
      go false true e = mode-agrees (at + 1) w (omega arith) l e
      go false false e = e

-- ---- ranges, and the body

module _ {s t : List ℕ} {j k : ℕ} (a : Agree s t j k) where
  module _ (h : Header) where
    depth-agrees : (at d : ℕ) → j ≤ at → at + h.depth * type_size h.kind ≤ k → by_depth h.depth (number_at h.kind s at) d ≡ by_depth h.depth (number_at h.kind t at) d
    unfolding by_depth number_at
    depth-agrees at d o l = tabulate-same depth_limit _ _ (λ i _. go i (ltb i h.depth) refl)
      where
        go : (i : ℕ) (x : Bool) → ltb i h.depth ≡ x
            → cond x (value_of h.kind (little (type_size h.kind) s (at + i * type_size h.kind))) d ≡ cond x (value_of h.kind (little (type_size h.kind) t (at + i * type_size h.kind))) d
        go i false e = refl
        go i true e =
            let z = type_size h.kind in
            let m : suc i * z ≤ h.depth * z = mul-le-mul_right z (ltb-true i h.depth e) in
            let y : at + i * z + z ≤ k = omega (arith, m, suc-mul i z) in
            ap (value_of h.kind) (little-agrees a z (at + i * z) (omega arith) y)

    pub coded-agrees : j ≤ ranges_at h → ranges_end h ≤ k → coded_ranges s h ≡ coded_ranges t h
    unfolding coded_ranges
    coded-agrees o l = rw (depth-agrees (ranges_at h) h.min o (omega arith), depth-agrees (maxima_at h) h.max (omega arith) (omega arith))

-- ranges stand behind the header, and so does what follows them
ranges-behind : (s : List ℕ) (h : Header) (r : Ranges) → ranges_says s h ≡ ok r → header_bytes ≤ r.at
unfolding ranges_says uniform_ranges coded_ranges
ranges-behind s h r = go (same h.min h.max)
  where
    go : (x : Bool) → cond x (ok (uniform_ranges h)) (judged s h) ≡ ok r → header_bytes ≤ r.at
    go true e =
        let z : ranges_at h ≡ r.at = ap (λ (x : Ranges). x.at) (ok-is e) in
        omega (arith, z)
    go false e =
        let z : ranges_end h ≡ r.at = ap (λ (x : Ranges). x.at) (judged-is s h r e).is in
        omega (arith, z)

module _ {s t : List ℕ} {k : ℕ} (a : Agree s t header_bytes k) where
  module _ (h : Header) where
    pub ranges-agrees : (r : Ranges) → r.at ≤ k → ranges_says s h ≡ ok r → ranges_says t h ≡ ok r
    unfolding ranges_says coded_ranges
    ranges-agrees r l = go (same h.min h.max)
      where
        go : (x : Bool)
            → cond x (ok (uniform_ranges h)) (judged s h) ≡ ok r
            → cond x (ok (uniform_ranges h)) (judged t h) ≡ ok r
        go true e = e
        go false e =
            let k = judged-is s h r e in
            let z : ranges_end h ≡ r.at = ap (λ (x : Ranges). x.at) k.is in
            let y : ranges_end h ≤ length t = omega (arith, a.room, z) in
            rw (le-leb _ _ y, ← coded-agrees a h (omega arith) (omega (arith, z)), k.right) (ap ok k.is)

    -- ---- the body

    module _ (m : List ℕ) (y : Body) (l : end_of y ≤ k) where
      constant-agrees : (r : Ranges) → constant_body h r ≡ ok y → r.at ≤ k
      unfolding constant_body
      constant-agrees r e =
          let (ws, p, e) = bind_is (constant_words h.depth h.kind r.min) _ e in
          let z : r.at ≡ end_of y = ap end_of (ok-is e) in
          omega (arith, z)

      from-agrees : (r : Ranges) (w : Way) → header_bytes < place_of w → place_of w ≤ length s → body_from s h r m w ≡ ok y → (place_of w ≤ k) × (body_from t h r m w ≡ ok y)
      unfolding raw_body block_body huffman_body
      from-agrees r (raw_from at) f o e =
          let words = raw_words s at h.kind (h.valid * h.depth) in
          let (b, p, e) = bind_is (marked (missing_word_at (length s) at h.kind) words) _ e in
          let p = marked-is _ words p in
          let z : b.next ≡ end_of y = ap end_of (ok-is e) in
          (omega (arith, raw-next a at h.kind (h.valid * h.depth) b p, z), rw (raw-agrees a at h.kind (h.valid * h.depth) b p (omega arith) (omega (arith, z))) e)
      from-agrees r (blocks_from at) f o e =
          let (c, p, e) = bind_is (all_blocks s h r.max m at) _ e in
          let z : c.end ≡ end_of y = ap end_of (ok-is e) in
          let i = chain-in s h r.max m (block_count (shape_of h)) 0 at c o p in
          (omega (arith, i.0, z), rw (chain-agrees a h r.max m (block_count (shape_of h)) 0 at c (omega arith) (omega (arith, z)) p) e)
      from-agrees r (huffman_from delta mode) f o e =
          let (c, p, e) = bind_is (image_at s h mode) _ e in
          let z : c.end ≡ end_of y = ap end_of (ok-is e) in
          let i = image-bounds s h mode p in
          (omega (arith, i.0, z), rw (image-front s t h mode p (λ j u v. a.bytes j (omega arith) (omega (arith, z))) (omega (arith, a.room, z))) e)

      swept-agrees : (r : Ranges) → header_bytes ≤ r.at → swept_body s h r m ≡ ok y → (r.at ≤ k) × (swept_body t h r m ≡ ok y)
      unfolding swept_body
      swept-agrees r f e =
          let (w, p, e) = bind_is (swept s h.kind h.error r.at) _ e in
          let d = swept-in s h.kind h.error r.at w p in
          let (z, e) = from-agrees r w (omega (arith, d.0)) d.1 e in
          (omega (arith, z, d.0), rw (sweep-agrees a h.kind h.error r.at w (omega arith) z p) e)

      behind : (r : Ranges) → header_bytes ≤ r.at → (x : Bool) → cond x (constant_body h r) (swept_body s h r m) ≡ ok y → (r.at ≤ k) × (cond x (constant_body h r) (swept_body t h r m) ≡ ok y)
      behind r f true e = (constant-agrees r e, e)
      behind r f false e = swept-agrees r f e

      pub body-agrees : body_says s h m ≡ ok y → body_says t h m ≡ ok y
      unfolding body_says
      body-agrees = go (eqb h.valid 0)
        where
          go : (x : Bool) → cond x (ok empty) (ranges_says s h >>= λ r. cond r.constant (constant_body h r) (swept_body s h r m)) ≡ ok y
              → cond x (ok empty) (ranges_says t h >>= λ r. cond r.constant (constant_body h r) (swept_body t h r m)) ≡ ok y
          go true e = e
          go false e =
              let (r, p, e) = bind_is (ranges_says s h) _ e in
              let (z, e) = behind r (ranges-behind s h r p) r.constant e in
              rw (ranges-agrees r z p) e

-- ---- the mask section

pub take-drop : (n m : ℕ) (l : List ℕ) → take m (drop n l) ≡ drop n (take (n + m) l)
take-drop zero m l = rw (zero-add)
take-drop (suc n) m [] = rw (take-nil m, take-nil (suc n + m))
take-drop (suc n) m (x ∷ xs) = rw (suc-add n m) (take-drop n m xs)

-- a section in which two slices agree
pub section-same : (s t : List ℕ) (n m : ℕ) → n + m ≤ length s → n + m ≤ length t → ((i : ℕ) → n ≤ i → i < n + m → get_or s i 0 ≡ get_or t i 0) → take m (drop n s) ≡ take m (drop n t)
section-same s t n m p q same =
    take-tabulate m (drop n s) (rw (length-drop n s) (omega arith))
    ∙ tabulate-same m _ _ (λ i l. get_or-drop n s i 0 ∙ same (n + i) (omega arith) (omega arith) ∙ sym (get_or-drop n t i 0))
    ∙ sym (take-tabulate m (drop n t) (rw (length-drop n t) (omega arith)))

module _ {s t : List ℕ} {k : ℕ} (a : Agree s t header_bytes k) (long : k ≤ length s) where
  -- where there is no valid pixel it is not looked at
  pub mask-agrees : (h : Header) (reuse : Bool) (old : List ℕ) → ((h.valid ≡ 0 → ⊥) → ranges_at h ≤ k) → mask_says s h reuse old ≡ mask_says t h reuse old
  unfolding mask_in unrolled
  mask-agrees h reuse old f = ap (marked mask_field) (go (eqb h.valid 0) refl)
    where
      go : (x : Bool) → eqb h.valid 0 ≡ x
          → cond x (uniform h 0) (cond (eqb h.valid (pixels (shape_of h))) (uniform h 255) (cond (eqb h.mask 0) (kept h reuse old) (unrolled s h)))
          ≡ cond x (uniform h 0) (cond (eqb h.valid (pixels (shape_of h))) (uniform h 255) (cond (eqb h.mask 0) (kept h reuse old) (unrolled t h)))
      go true e = refl
      go false e =
          let l : header_bytes + h.mask ≤ k = f (eqb-false h.valid 0 e) in
          rw (section-same s t header_bytes h.mask (omega arith) (omega (arith, a.room)) (λ i o r. a.bytes i o (omega arith)))
