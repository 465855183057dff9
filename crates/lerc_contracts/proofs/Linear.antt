-- lerc_image.rs, second half: `linear`. "A CONSTANT BODY" and "A RAW BODY" say that upstream's cell by cell is our body, painted.
-- Assumes nothing.
use mathlib.Core.Path.{◌≡◌, refl, sym, ap, ◌∙◌}
use mathlib.Core.Bool.{Bool, true, false, and-false}
use mathlib.Core.List.{List, ◌++◌}
use mathlib.Core.Option.{Option, none, some}
use Prim.Native.Nat.{ℕ, zero, suc, ◌+◌, ◌*◌, ◌/◌, ◌≤◌, ◌<◌}
use native.Mathlib.Omega.{arith}
use native.Mathlib.Nat.{suc-mul, zero-mul, add-zero, mul-le-mul_right}
use native.Mathlib.Numerals.{add-one}
use native.Mathlib.Decide.{dec_lt, dec_le}
use borrow.Author.Tests.{lt-ltb, le-leb, lt-leb, eq-eqb, ne_eqb, eqb-true, eqb-false}
use lib.Dec.{ltb, eqb}
use lib.ListN.{length, set}
use Rattle.lerc_words.specs.Res.{little}
use Rattle.lerc_words.specs.Lists.{count, tabulate}
use Rattle.lerc_words.proofs.Counts.{count-zero, count-more, count-mono}
use Rattle.lerc_numeric.specs.Kinds.{type_size}
use Rattle.lerc_header.specs.declared.Header.{Header}
use Rattle.lerc_header.specs.Header.{shape_of}
use Rattle.lerc_header.specs.Shape.{Shaped, cells}
use Rattle.lerc_mask.specs.Mask.{pixel_valid}
use Rattle.lerc_block.specs.Block.{raw_words}
use Rattle.lerc_image.specs.Geometry.{is_valid_cell}
use Rattle.lerc_image.specs.Paint.{painted}
use Rattle.lerc_image.proofs.Painting.{painted_same, painted-set, painted-words}
use Rattle.lerc.specs.Meaning.{raw_body}
use Rattle.lerc.specs.Meaning as body
use Rattle.lerc_image.specs.Cells.{valid_upto}
use Rattle.lerc_image.proofs.Pixels.{upto-none, upto_all, valid-at}
use Rattle.lerc.specs.Linear.{depth_word, raw_word}
use Rattle.lerc.proofs.Bodies.{image-constant, image-raw}
use Rattle.lerc_contracts.specs.Outside.{said}
use Rattle.lerc_contracts.specs.Block.{ResultModel}
use Rattle.lerc_contracts.specs.Image.{linear_value, linear}
use Rattle.lerc_contracts.specs.Between.{used_to, bodied}
use Rattle.lerc_contracts.specs.ImageClauses.{ConstantIs, RawIs, LinearValueCases, LinearCases}
use Rattle.lerc_contracts.proofs.CellOrder.{cells_are, near, before-is, all_are}

-- ---- `linear_value`, and one step of `linear`

module _ (s : List ℕ) (h : Header) (at k : ℕ) (constants : List ℕ) where
  pub linear-value-cases : LinearValueCases s h at k constants
  unfolding linear_value
  linear-value-cases = record {
    value-constant = refl;
    value-past = λ l. rw (lt-leb (at + type_size h.kind) (length s) l);
    value-raw = λ l. rw (le-leb (at + type_size h.kind) (length s) l);
  }

module _ (s : List ℕ) (h : Header) (mask constants : List ℕ) (raw : Bool) where
  -- 5.36
  pub linear-done : (k at : ℕ) (out : List ℕ) (fuel : ℕ) → k ≡ cells (shape_of h) → linear s h mask constants raw k at out fuel ≡ some (record { at = at; image = out })
  unfolding linear
  linear-done k at out zero e = rw (eq-eqb k (h.columns * h.rows * h.depth) (e ∙ sym (cells_are h)))
  linear-done k at out (suc fuel) e = rw (eq-eqb k (h.columns * h.rows * h.depth) (e ∙ sym (cells_are h)))

  module _ (k at : ℕ) (out : List ℕ) (d : k ≡ cells (shape_of h) → ⊥) where
    apart : k ≡ h.columns * h.rows * h.depth → ⊥
    apart e = d (e ∙ cells_are h)

    -- 5.37
    pub linear-out : linear s h mask constants raw k at out zero ≡ none
    unfolding linear
    linear-out = rw (ne_eqb k (h.columns * h.rows * h.depth) apart)

  pub linear-cases : LinearCases s h mask constants raw
  unfolding linear
  linear-cases = record {
    linear-done = linear-done;
    linear-skip = λ k at out d fuel v. rw (ne_eqb k (h.columns * h.rows * h.depth) (apart k at out d), v);
    linear-stop = λ k at out d fuel v e. rw (ne_eqb k (h.columns * h.rows * h.depth) (apart k at out d), v, e);
    linear-step = λ k at out d fuel w v e. rw (ne_eqb k (h.columns * h.rows * h.depth) (apart k at out d), v, e);
  }

-- ---- all cells

module _ (h : Header) (mask image : List ℕ) (word : ℕ → ℕ) (room : cells (shape_of h) ≤ length image) where
  -- the image once the first k cells are done
  abbrev up_to : ℕ → List ℕ
  up_to k = painted image (valid_upto (shape_of h) mask k) word

  module _ (k : ℕ) (l : k < cells (shape_of h)) where
    paint-valid : pixel_valid mask (k / h.depth) ≡ true → set (up_to k) k (word k) ≡ up_to (k + 1)
    unfolding valid_upto is_valid_cell
    paint-valid v = painted-set image word (valid_upto (shape_of h) mask k) (valid_upto (shape_of h) mask (k + 1)) k (omega arith)
        (rw (lt-ltb k (cells (shape_of h)) l, v, lt-ltb k (k + 1) (omega arith)))
        (λ c d. rw (near c k d))

    paint-skip : pixel_valid mask (k / h.depth) ≡ false → up_to k ≡ up_to (k + 1)
    unfolding valid_upto is_valid_cell
    paint-skip v = painted_same image word (valid_upto (shape_of h) mask k) (valid_upto (shape_of h) mask (k + 1)) (λ c _. go c (eqb c k) refl)
      where
        go : (c : ℕ) (t : Bool) → eqb c k ≡ t → valid_upto (shape_of h) mask k c ≡ valid_upto (shape_of h) mask (k + 1) c
        go c true e = rw (eqb-true c k e, v, and-false (ltb k (cells (shape_of h))))
        go c false e = rw (near c k (eqb-false c k e))

  -- how many valid cells are before k
  abbrev before : ℕ → ℕ
  before k = count k (λ c. pixel_valid mask (c / h.depth))

  module _ (s constants : List ℕ) (raw : Bool) (pos : ℕ → ℕ) where
    abbrev run : ℕ → List ℕ → ℕ → Option ResultModel
    run k out fuel = linear s h mask constants raw k (pos (before k)) out fuel

    -- all words are there
    module _ (go : (k : ℕ) → k < cells (shape_of h) → pixel_valid mask (k / h.depth) ≡ true → linear_value s h (pos (before k)) k raw constants ≡ some (record { at = pos (before k + 1); value = word k })) where
      ends : (fuel k : ℕ) → k ≡ cells (shape_of h) → run k (up_to k) fuel ≡ some (record { at = pos (before (cells (shape_of h))); image = up_to (cells (shape_of h)) })
      ends fuel k e = linear-done s h mask constants raw k _ _ fuel e ∙ rw (e)

      pub linear-all : (fuel k : ℕ) → k ≤ cells (shape_of h) → cells (shape_of h) ≤ k + fuel → run k (up_to k) fuel ≡ some (record { at = pos (before (cells (shape_of h))); image = up_to (cells (shape_of h)) })
      linear-all zero k l f = ends zero k (omega arith)
      linear-all (suc fuel) k l f = more (dec_lt k (cells (shape_of h))) (linear-all fuel (k + 1))
        where
          more : Dec (k < cells (shape_of h)) → (k + 1 ≤ cells (shape_of h) → cells (shape_of h) ≤ k + 1 + fuel → run (k + 1) (up_to (k + 1)) fuel ≡ some (record { at = pos (before (cells (shape_of h))); image = up_to (cells (shape_of h)) }))
              → run k (up_to k) (suc fuel) ≡ some (record { at = pos (before (cells (shape_of h))); image = up_to (cells (shape_of h)) })
          more (no o) rest = ends (suc fuel) k (omega arith)
          more (yes o) rest = look (pixel_valid mask (k / h.depth)) refl
            where
              d : k ≡ cells (shape_of h) → ⊥
              d e = omega arith

              look : (b : Bool) → pixel_valid mask (k / h.depth) ≡ b → run k (up_to k) (suc fuel) ≡ some (record { at = pos (before (cells (shape_of h))); image = up_to (cells (shape_of h)) })
              look true v =
                  let e : before (k + 1) ≡ before k + 1 = count-more k _ ∙ rw (v) in
                  (linear-cases s h mask constants raw).linear-step k _ _ d fuel _ v (go k o v) ∙ rw (paint-valid k o v, ← e) (rest (omega arith) (omega arith))
              look false v =
                  let e : before (k + 1) ≡ before k = count-more k _ ∙ rw (v) (add-zero (before k)) in
                  (linear-cases s h mask constants raw).linear-skip k _ _ d fuel v ∙ rw (paint-skip k o v, ← e) (rest (omega arith) (omega arith))

-- a word that is missing
module _ (h : Header) (mask s constants : List ℕ) (at : ℕ) (short : length s < at + count (cells (shape_of h)) (λ c. pixel_valid mask (c / h.depth)) * type_size h.kind) where
  abbrev used : ℕ → ℕ
  used = used_to h mask at

  none-ends : {A : Type 0} (k : ℕ) → k ≡ cells (shape_of h) → used k ≤ length s → A
  none-ends k e l = absurd (let z : used k ≡ used (cells (shape_of h)) = ap used e in omega arith)

  pub linear-none : (fuel k : ℕ) (out : List ℕ) → k ≤ cells (shape_of h) → used k ≤ length s → linear s h mask constants true k (used k) out fuel ≡ none
  linear-none zero k out l u = last (dec_lt k (cells (shape_of h)))
    where
      last : Dec (k < cells (shape_of h)) → linear s h mask constants true k (used k) out zero ≡ none
      last (yes o) = linear-out s h mask constants true k _ out (λ e. omega arith)
      last (no o) = none-ends k (omega arith) u
  linear-none (suc fuel) k out l u = more (dec_lt k (cells (shape_of h))) (linear-none fuel (k + 1))
    where
      more : Dec (k < cells (shape_of h)) → ((out : List ℕ) → k + 1 ≤ cells (shape_of h) → used (k + 1) ≤ length s → linear s h mask constants true (k + 1) (used (k + 1)) out fuel ≡ none) → linear s h mask constants true k (used k) out (suc fuel) ≡ none
      more (no o) rest = none-ends k (omega arith) u
      more (yes o) rest = look (pixel_valid mask (k / h.depth)) refl
        where
          z : ℕ
          z = type_size h.kind

          n : ℕ → ℕ
          n k = count k (λ c. pixel_valid mask (c / h.depth))

          d : k ≡ cells (shape_of h) → ⊥
          d e = omega arith

          fits : pixel_valid mask (k / h.depth) ≡ true → used (k + 1) ≡ used k + type_size h.kind → Dec (used k + type_size h.kind ≤ length s) → linear s h mask constants true k (used k) out (suc fuel) ≡ none
          fits v e (no b) = (linear-cases s h mask constants true).linear-stop k _ out d fuel v ((linear-value-cases s h (used k) k constants).value-past (omega arith))
          fits v e (yes b) = (linear-cases s h mask constants true).linear-step k _ out d fuel _ v ((linear-value-cases s h (used k) k constants).value-raw b) ∙ rw (← e) (rest _ (omega arith) (rw (e) b))

          look : (b : Bool) → pixel_valid mask (k / h.depth) ≡ b → linear s h mask constants true k (used k) out (suc fuel) ≡ none
          look true v =
              let a : n (k + 1) ≡ suc (n k) = count-more k _ ∙ rw (v) (add-one (n k)) in
              let e : used (k + 1) ≡ used k + type_size h.kind = rw (a) (omega (arith, suc-mul (n k) z)) in
              fits v e (dec_le (used k + type_size h.kind) (length s))
          look false v =
              let a : n (k + 1) ≡ n k = count-more k _ ∙ rw (v) (add-zero (n k)) in
              let e : used (k + 1) ≡ used k = rw (a) in
              (linear-cases s h mask constants true).linear-skip k _ out d fuel v ∙ rw (← e) (rest out (omega arith) (rw (e) u))

-- ---- a constant body, and a raw one

module _ (s : List ℕ) (h : Header) (g : Shaped (shape_of h)) (mask image : List ℕ) (room : cells (shape_of h) ≤ length image) where
  starts : (constants : List ℕ) (raw : Bool) (pos : ℕ → ℕ) (word : ℕ → ℕ) (at : ℕ) (r : Option ResultModel) → pos 0 ≡ at
      → linear s h mask constants raw 0 (pos (count 0 (λ c. pixel_valid mask (c / h.depth)))) (painted image (valid_upto (shape_of h) mask 0) word) (cells (shape_of h)) ≡ r
      → linear s h mask constants raw 0 at image (h.columns * h.rows * h.depth) ≡ r
  unfolding count
  starts constants raw pos word at r e d = rw (cells_are h, upto-none (shape_of h) mask image word, ← e) d

  -- A CONSTANT BODY
  pub constant-is : ConstantIs s h mask image
  constant-is words rest at e =
      starts (words ++ rest) false (λ i. at) (depth_word (shape_of h) (words ++ rest)) at (some (bodied h mask image (body.constant words at))) refl
      (linear-all h mask image (depth_word (shape_of h) (words ++ rest)) room s (words ++ rest) false (λ i. at) (λ k l v. (linear-value-cases s h at k (words ++ rest)).value-constant) (cells (shape_of h)) 0 (omega arith) (omega arith)
      ∙ ap (λ (o : List ℕ). some (record { at = at; image = o })) (upto_all (shape_of h) mask image (depth_word (shape_of h) (words ++ rest)) ∙ image-constant h mask image words rest at g.depth.0 e))

  -- A RAW BODY
  pub raw-is : RawIs s h mask image
  unfolding raw_body raw_words
  raw-is constants at inside counts = go (dec_le (at + h.valid * h.depth * type_size h.kind) (length s))
    where
      z : ℕ
      z = type_size h.kind

      n : ℕ → ℕ
      n k = count k (λ c. pixel_valid mask (c / h.depth))

      total : n (cells (shape_of h)) ≡ h.valid * h.depth
      total = all_are h g.depth.0 mask ∙ ap (λ (x : ℕ). x * h.depth) counts

      word : ℕ → ℕ
      word c = little (type_size h.kind) s (at + count c (λ c. pixel_valid mask (c / h.depth)) * type_size h.kind)

      first : at + 0 * type_size h.kind ≡ at
      first = rw (zero-mul) (add-zero at)

      words_are : painted image (is_valid_cell (shape_of h) mask) word ≡ painted image (is_valid_cell (shape_of h) mask) (raw_word s at (type_size h.kind) (shape_of h) mask)
      words_are = painted-words image word (raw_word s at (type_size h.kind) (shape_of h) mask) (is_valid_cell (shape_of h) mask) (λ c q. let v = valid-at (shape_of h) mask c q in rw (before-is h g.depth.0 mask c v.valid))

      stepped : (k : ℕ) → k < cells (shape_of h) → pixel_valid mask (k / h.depth) ≡ true → at + h.valid * h.depth * type_size h.kind ≤ length s
          → linear_value s h (at + n k * z) k true constants ≡ some (record { at = at + (n k + 1) * z; value = word k })
      stepped k o v l =
          let a : n (k + 1) ≡ suc (n k) = count-more k (λ c. pixel_valid mask (c / h.depth)) ∙ rw (v) (add-one (n k)) in
          let b : n (k + 1) ≤ n (cells (shape_of h)) = count-mono (k + 1) (cells (shape_of h)) (λ c. pixel_valid mask (c / h.depth)) (omega arith) in
          let c : suc (n k) * z ≤ h.valid * h.depth * z = mul-le-mul_right z (let x : suc (n k) ≤ h.valid * h.depth = rw (← total, ← a) b in x) in
          let d : suc (n k) * z ≡ n k * z + z = suc-mul (n k) z in
          let e : at + n k * z + z ≡ at + (n k + 1) * z = rw (add-one) (omega arith) in
          (linear-value-cases s h (at + n k * z) k constants).value-raw (omega arith) ∙ rw (e)

      go : Dec (at + h.valid * h.depth * type_size h.kind ≤ length s) → linear s h mask constants true 0 at image (h.columns * h.rows * h.depth) ≡ said (bodied h mask image) (raw_body s h at)
      go (yes l) =
          rw (le-leb (at + h.valid * h.depth * z) (length s) l)
          (starts constants true (λ i. at + i * z) word at (some (bodied h mask image (body.raw (tabulate (h.valid * h.depth) (λ k. little z s (at + k * z))) (at + h.valid * h.depth * z)))) first
          (linear-all h mask image word room s constants true (λ i. at + i * z) (λ k o v. stepped k o v l) (cells (shape_of h)) 0 (omega arith) (omega arith)
          ∙ rw (total) (ap (λ (o : List ℕ). some (record { at = at + h.valid * h.depth * z; image = o }))
          (upto_all (shape_of h) mask image word ∙ words_are ∙ image-raw h s mask image at z (at + h.valid * h.depth * z) g.depth.0 counts))))
      go (no l) =
          let k : length s < at + h.valid * h.depth * z = omega arith in
          let short : length s < at + n (cells (shape_of h)) * z = rw (total) k in
          let none-used : at + n 0 * z ≤ length s = rw (count-zero (λ c. pixel_valid mask (c / h.depth)), zero-mul) (omega arith) in
          rw (lt-leb (at + h.valid * h.depth * z) (length s) k)
          (starts constants true (λ i. at + i * z) word at none first (linear-none h mask s constants at short (cells (shape_of h)) 0 (painted image (valid_upto (shape_of h) mask 0) word) (omega arith) none-used))
