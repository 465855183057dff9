-- Words laid to a row of the image, cell by cell.
-- Assumes nothing.
use mathlib.Core.Path.{◌≡◌, sym, refl}
use mathlib.Core.Bool.{Bool, true, false, cond}
use mathlib.Core.List.{List}
use Prim.Native.Nat.{ℕ, zero, suc, ◌+◌, ◌*◌, ◌/◌, ◌%◌, ◌^◌, ◌<◌}
use native.Mathlib.Nat.{add-mul, suc-mul, mul-le-mul_right}
use native.Mathlib.Numerals.{add-one}
use native.Mathlib.Omega.{arith}
use lib.Dec.{eqb}
use lib.ListN.{length, get_or, set, length-set}
use lib.Seq.{set-get_or}
use Rattle.lerc_words.specs.Lists.{count}
use Rattle.lerc_words.proofs.Counts.{count-zero, count-more, count-le}
use Rattle.lerc_mask.proofs.Pixels.{bit_is}
use Rattle.lerc_mask.proofs.Cut.{moved_up}
use Rattle.lerc_block.specs.Block.{tile_limit}
use Rattle.lerc_image.specs.Parts.{RowIn, rowed, bit_set}

-- ---- the laws of `rowed`

module _ (valid : ℕ → Bool) (words : List ℕ) (from depth start : ℕ) (old : List ℕ) where
  rowed-none : rowed valid words from depth start 0 old ≡ old
  unfolding rowed
  rowed-none = refl

  rowed-more : (c : ℕ) (b : Bool) → valid c ≡ b
      → rowed valid words from depth start (c + 1) old
      ≡ (let before = rowed valid words from depth start c old in cond b (set before (start + c * depth) (get_or words (from + count c valid) 0)) before)
  unfolding rowed
  rowed-more c b e = rw (add-one, ← e)

  pub length-rowed : (c : ℕ) → length (rowed valid words from depth start c old) ≡ length old
  unfolding rowed
  length-rowed zero = refl
  length-rowed (suc c) = go (valid c) (length-rowed c)
    where
      go : (b : Bool) → length (rowed valid words from depth start c old) ≡ length old
          → length (let before = rowed valid words from depth start c old in cond b (set before (start + c * depth) (get_or words (from + count c valid) 0)) before) ≡ length old
      go true e = rw (length-set) e
      go false e = e

-- ---- before cell c of a row, `at`, where `used` is the next word

pub record Laid (valid : ℕ → Bool) (words : List ℕ) (from depth start : ℕ) (old image : List ℕ) (c at used : ℕ) : Type 0 where
  pub here : at ≡ start + c * depth
  pub used-is : used ≡ from + count c valid
  pub same : image ≡ rowed valid words from depth start c old

pub laid_none : (valid : ℕ → Bool) (words : List ℕ) (from depth start : ℕ) (old : List ℕ) → Laid valid words from depth start old old 0 start from
laid_none valid words from depth start old =
    record { here = omega arith; used-is = rw (count-zero) (omega arith); same = sym (rowed-none valid words from depth start old) }

module _ {valid : ℕ → Bool} {words : List ℕ} {from depth start : ℕ} {old image : List ℕ} {c at used : ℕ}
    (l : Laid valid words from depth start old image c at used) where
  pub laid-length : length image ≡ length old
  laid-length = rw l.same (length-rowed valid words from depth start old c)

  pub laid_next : (b : Bool) → valid c ≡ b → Laid valid words from depth start old (cond b (set image at (get_or words used 0)) image) (c + 1) (at + depth) (used + cond b 1 0)
  laid_next b e =
      record {
        here = omega (arith, l.here, add-mul c 1 depth);
        used-is = rw (count-more c valid, e) (omega (arith, l.used-is));
        same = rw (rowed-more valid words from depth start old c b e, l.same, l.here, l.used-is);
      }

  -- in a row of w cells
  module _ {w : ℕ} (i : RowIn from w depth start old) (r : c < w) where
    pub laid-used : used < tile_limit
    laid-used = omega (arith, l.used-is, count-le c valid, i.words)

    pub laid-room : at < length image
    laid-room = rw (l.here, laid-length) (i.room c r)

    pub laid-fits : at + depth < 2 ^ 32
    laid-fits = omega (arith, l.here, suc-mul c depth, mul-le-mul_right depth r, i.fits)

-- ---- a row whose valid cells are the bits of a byte

-- a cell written with its own word is not written
either-word : (image : List ℕ) (at word : ℕ) (b : Bool) → set image at (cond b word (get_or image at 0)) ≡ cond b (set image at word) image
either-word image at word true = refl
either-word image at word false = set-get_or image at 0

pub laid-bit : {byte : ℕ} {words : List ℕ} {from depth start : ℕ} {old image : List ℕ} {c at used bit word : ℕ}
    → Laid (bit_set byte) words from depth start old image c at used → byte < 256 → c < 8
    → bit ≡ byte * 2 ^ c % 2 ^ 64 / 128 % 2 → word ≡ cond (eqb bit 1) (get_or words used 0) (get_or image at 0)
    → Laid (bit_set byte) words from depth start old (set image at word) (c + 1) (at + depth) (used + bit)
laid-bit {byte} {words} {image = image} {c} {at} {used} {bit} l b r e q =
    let low : bit < 2 = omega arith in
    let here : bit_set byte c ≡ eqb bit 1 = rw (e, moved_up byte c b r) in
    rw (q, either-word image at (get_or words used 0) (eqb bit 1)) (rw (bit_is bit low) at (laid_next l (eqb bit 1) here))
