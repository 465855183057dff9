-- What checking a body finds: one law for each way it ends.
-- Assumes nothing.
use mathlib.Core.Path.{◌≡◌, ◌∙◌, sym, ap, refl}
use mathlib.Core.Bool.{Bool, true, false, cond}
use mathlib.Core.List.{List}
use Prim.Native.Nat.{ℕ, ◌+◌, ◌*◌, ◌≤◌, ◌<◌}
use native.Mathlib.Omega.{arith}
use lib.ListN.{length, take, drop, replicate}
use lib.Seq.{take_all, take-append_seam}
use borrow.Author.Tests.{le-leb, lt-leb, eq-eqb, ne_eqb}
use Rattle.lerc_words.specs.declared.Refusal.{Refusal}
use Rattle.lerc_words.specs.Res.{Res, ok, fail, ◌>>=◌, refuse, placed}
use Rattle.lerc_words.specs.Lists.{over}
use Rattle.lerc_words.proofs.Binding.{bind-fail, ok-is}
use Rattle.lerc_numeric.specs.Kinds.{type_size}
use Rattle.lerc_header.specs.declared.Header.{Header}
use Rattle.lerc_header.specs.Header.{shape_of}
use Rattle.lerc_header.specs.Limits.{depth_limit}
use Rattle.lerc_header.specs.Shape.{block_count}
use Rattle.lerc_ranges.specs.declared.Ranges.{Ranges}
use Rattle.lerc_ranges.specs.Ranges.{ranges_says, constant_words, constants_said}
use Rattle.lerc_block.specs.Block.{raw_words}
use Rattle.lerc_sweep.specs.Sweep.{Way, swept}
use Rattle.lerc_image.specs.Blocks.{Chain, all_blocks}
use Rattle.lerc_image.specs.Walk.{Walk, walk_of}
use Rattle.lerc_image.specs.Tiles.{checked_tiles}
use Rattle.lerc_image.proofs.Chain.{chain-lengths}
use Rattle.lerc_byte_image.specs.Symbols.{Coded}
use Rattle.lerc_byte_image.specs.Image.{image_at, ended}
use Rattle.lerc_validity.specs.declared.Mask.{Mask}
use Rattle.lerc.specs.declared.BodyKind.TheVariants as kind
use Rattle.lerc.specs.declared.Staged.{Staged}
use Rattle.lerc.specs.declared.body.BodyChecked.{BodyChecked}
use Rattle.lerc.specs.declared.body.BodyFound.TheVariants as found
use Rattle.lerc.specs.Meaning.{Body, blocks, huffman, constant, missing_word_at, raw_body, block_body, huffman_body, constant_body, body_from, swept_body, body_says}
use Rattle.lerc_image.specs.Own.{own_mask, own_tiles}
use Rattle.lerc.specs.Stage.{staged_body}
use Rattle.lerc.specs.Parts.{Ready, staged_by, answer_of, Checked}

-- a refusal
pub found-no : {y : Res Body} {s : List ℕ} {h : Header} {m : List ℕ} {why : Refusal} → y ≡ fail why → Checked y s h m (fail why)
found-no e = rw (e) (record { says = λ said. refl; means = refl })

-- ---- constant

-- what converting the minima says
pub converted : (m : Res (List ℕ)) {ws : List ℕ} → ok ws ≡ constants_said m → (words : List ℕ) × (m ≡ ok words) × (ws ≡ over words (replicate depth_limit 0))
converted (ok words) e = (words, refl, ok-is e)
converted (fail r) e = absurd (let z : ◌≡◌ {A = ℕ} 0 1 = cc in omega arith)

pub unconverted : (m : Res (List ℕ)) {why : Refusal} → fail why ≡ constants_said m → m ≡ fail why
unconverted (ok words) e = absurd (let z : ◌≡◌ {A = ℕ} 0 1 = cc in omega arith)
unconverted (fail r) e = sym e

module _ (h : Header) (r : Ranges) (s m : List ℕ) where
  pub constant-no : {why : Refusal} → constant_words h.depth h.kind r.min ≡ fail why → Checked (constant_body h r) s h m (fail why)
  unfolding constant_body
  constant-no e = found-no (rw (e))

  pub constant-found : (rest : List ℕ) {ws words : List ℕ} → constant_words h.depth h.kind r.min ≡ ok ws → length ws ≡ h.depth → words ≡ over ws rest
      → Checked (constant_body h r) s h m (ok (record { found = found.Constant r.at; words = words }))
  unfolding constant_body
  constant-found rest {ws} e l q =
      let t : ws ≡ take h.depth (over ws rest) = rw (← l) (sym (take-append_seam ws (drop (length ws) rest))) in
      rw (e, q) (record { says = λ said. refl; means = ap (λ (x : List ℕ). ok (constant x r.at)) t })

-- ---- raw

module _ (s : List ℕ) (h : Header) (at : ℕ) (m words : List ℕ) where
  pub raw-no : length s < at + h.valid * h.depth * type_size h.kind → Checked (raw_body s h at) s h m (fail (placed (missing_word_at (length s) at h.kind) (refuse 1)))
  unfolding raw_body raw_words
  raw-no l = found-no (rw (lt-leb _ _ l))

  pub raw-found : at + h.valid * h.depth * type_size h.kind ≤ length s → Checked (raw_body s h at) s h m (ok (record { found = found.Raw at (at + h.valid * h.depth * type_size h.kind); words = words }))
  unfolding raw_body raw_words
  raw-found l = record { says = λ said. rw (le-leb _ _ l); means = refl }

-- ---- blocks

module _ (s : List ℕ) (h : Header) (maxima m : List ℕ) (at : ℕ) (p : Ready s h m) where
  -- the header is held and the mask long enough, so the tiles are the blocks of the body
  pub tiles-are : checked_tiles s h m maxima at ≡ all_blocks s h maxima m at
  unfolding checked_tiles
  tiles-are = rw (p.header, le-leb _ _ p.mask, take_all h.size s (omega (arith, p.whole)))

-- by the blob's own mask
pub own-are : (s : List ℕ) (h : Header) (maxima : List ℕ) (at : ℕ) → Ready s h (own_mask s h) → own_tiles s h maxima at ≡ all_blocks s h maxima (own_mask s h) at
unfolding own_tiles
own-are s h maxima at p = rw (p.header, take_all h.size s (omega (arith, p.whole)))

module _ (s : List ℕ) (h : Header) (maxima m : List ℕ) (at : ℕ) where
  pub blocks-no : {why : Refusal} → fail why ≡ walk_of h (all_blocks s h maxima m at) → Checked (block_body s h maxima m at) s h m (fail why)
  unfolding block_body
  blocks-no e = found-no (rw (bind-fail (all_blocks s h maxima m at) _ (sym e)))

  count-said : {w : Walk} (x : Res Chain) → all_blocks s h maxima m at ≡ x → ok w ≡ walk_of h x
      → (said : Res Mask) → ok (answer_of h said (found.Blocks at w.blocks w.end)) ≡ ((x >>= λ c. ok (blocks c)) >>= λ b. ok (staged_body h said b))
  count-said (ok c) q e said =
      let l : block_count (shape_of h) ≡ length c.starts = sym (chain-lengths s h maxima m (block_count (shape_of h)) 0 at c q).0 in
      ap {B = Res Staged} (λ (w : Walk). ok (staged_by h said kind.Blocks w.blocks w.end)) (ok-is e) ∙ rw (l)
  count-said (fail r) q e said = absurd (let z : ◌≡◌ {A = ℕ} 0 1 = cc in omega arith)

  pub blocks-found : {w : Walk} → ok w ≡ walk_of h (all_blocks s h maxima m at) → Checked (block_body s h maxima m at) s h m (ok (record { found = found.Blocks at w.blocks w.end; words = maxima }))
  unfolding block_body
  blocks-found e = record { says = count-said (all_blocks s h maxima m at) refl e; means = refl }

-- ---- a Huffman image

module _ (s : List ℕ) (h : Header) (delta : Bool) (mode : ℕ) (m words : List ℕ) where
  pub huffman-no : {why : Refusal} → fail why ≡ ended (image_at s h mode) → Checked (huffman_body s h delta mode) s h m (fail why)
  unfolding huffman_body
  huffman-no e = found-no (rw (bind-fail (image_at s h mode) _ (sym e)))

  end-said : {end : ℕ} (x : Res Coded) → ok end ≡ ended x
      → (said : Res Mask) → ok (answer_of h said (found.Huffman delta mode end)) ≡ ((x >>= λ c. ok (huffman delta c.symbols c.end)) >>= λ b. ok (staged_body h said b))
  end-said (ok c) e said = ap {B = Res Staged} (λ (n : ℕ). ok (staged_by h said kind.Huffman 0 n)) (ok-is e)
  end-said (fail r) e said = absurd (let z : ◌≡◌ {A = ℕ} 0 1 = cc in omega arith)

  pub huffman-found : {end : ℕ} → ok end ≡ ended (image_at s h mode) → Checked (huffman_body s h delta mode) s h m (ok (record { found = found.Huffman delta mode end; words = words }))
  unfolding huffman_body
  huffman-found e = record { says = end-said (image_at s h mode) e; means = refl }

-- ---- which of them

pick_yes : (b : Bool) (x y : Res Body) → b ≡ true → cond b x y ≡ x
pick_yes true x y e = refl
pick_yes false x y e = absurd (let z : ◌≡◌ {A = ℕ} 0 1 = cc in omega arith)

pick_no : (b : Bool) (x y : Res Body) → b ≡ false → cond b x y ≡ y
pick_no true x y e = absurd (let z : ◌≡◌ {A = ℕ} 0 1 = cc in omega arith)
pick_no false x y e = refl

module _ (s : List ℕ) (h : Header) (m : List ℕ) where
  pub sweep-no : (k : Ranges) {why : Refusal} → swept s h.kind h.error k.at ≡ fail why → Checked (swept_body s h k m) s h m (fail why)
  unfolding swept_body
  sweep-no k e = found-no (rw (e))

  pub ranges-no : {why : Refusal} → (h.valid ≡ 0 → ⊥) → ranges_says s h ≡ fail why → Checked (body_says s h m) s h m (fail why)
  unfolding body_says
  ranges-no v e = found-no (rw (ne_eqb h.valid 0 v, e))

  -- no valid pixel: nothing is read
  pub body-empty : {words : List ℕ} → h.valid ≡ 0 → Checked (body_says s h m) s h m (ok (record { found = found.Empty; words = words }))
  unfolding body_says
  body-empty v = record { says = λ said. rw (eq-eqb h.valid 0 v); means = rw (eq-eqb h.valid 0 v) }

  module _ {r : Res BodyChecked} (k : Ranges) where
    pub swept-to : (w : Way) → swept s h.kind h.error k.at ≡ ok w → Checked (body_from s h k m w) s h m r → Checked (swept_body s h k m) s h m r
    unfolding swept_body
    swept-to w d t = rw (d) t

    -- the body is what follows the ranges
    pub after-constant : (h.valid ≡ 0 → ⊥) → ranges_says s h ≡ ok k → k.constant ≡ true → Checked (constant_body h k) s h m r → Checked (body_says s h m) s h m r
    unfolding body_says
    after-constant v e d t = rw (ne_eqb h.valid 0 v, e, pick_yes k.constant (constant_body h k) (swept_body s h k m) d) t

    pub after-other : (h.valid ≡ 0 → ⊥) → ranges_says s h ≡ ok k → k.constant ≡ false → Checked (swept_body s h k m) s h m r → Checked (body_says s h m) s h m r
    unfolding body_says
    after-other v e d t = rw (ne_eqb h.valid 0 v, e, pick_no k.constant (constant_body h k) (swept_body s h k m) d) t
