-- A square of eight by eight pixels whose rows are bytes of the mask: its valid pixels are the set bits of eight bytes.
-- Assumes nothing.
use mathlib.Core.Path.{◌≡◌, ◌∙◌, sym, ap}
use mathlib.Core.Bool.{true, ◌&&◌, and-eq-true_iff}
use mathlib.Core.List.{List}
use Prim.Native.Nat.{ℕ, zero, suc, ◌+◌, ◌*◌, ◌/◌, ◌%◌, ◌^◌, ◌≤◌, ◌<◌}
use native.Mathlib.Nat.{mul_assoc, add-mul, suc-mul, mul-le-mul, mul-le-mul_right}
use native.Mathlib.Numerals.{add-one}
use native.Mathlib.Omega.{arith}
use lib.Count.{ones, ones_cat}
use lib.Dec.{eqb}
use lib.ListN.{get_or}
use lib.Pow.{pow-add, pow_mono}
use borrow.Author.Tests.{eqb-true}
use Rattle.lerc_words.specs.Lists.{total}
use Rattle.lerc_words.proofs.Little.{Bytes}
use Rattle.lerc_words.proofs.Counts.{total-zero, total-more}
use Rattle.lerc_header.specs.declared.Shape.{Shape}
use Rattle.lerc_header.specs.Limits.{sideways}
use Rattle.lerc_mask.specs.Mask.{pixel_valid, valid_from}
use Rattle.lerc_mask.proofs.Cut.{bits-whole, valid-first, zero-ones}
use Rattle.lerc_image.specs.declared.Tile.{Tile}
use Rattle.lerc_image.specs.Geometry.{rank, valid_in_tile}
use Rattle.lerc_image.specs.Parts.{TileIn, ones_apart, is_square, bit_set}
use Rattle.lerc_image.proofs.Cursors.{rank-zero}
use Rattle.lerc_image.proofs.Rows.{row_from, rank-row}

-- ---- bytes side by side

-- before a row: its byte, and the bits of the bytes above it
pub record BytesJoined (m : List ℕ) (at step bits k row : ℕ) : Type 0 where
  pub few : row ≤ 8
  pub here : k ≡ at + row * step
  pub small : bits < 2 ^ (8 * row)
  pub joined : ones bits ≡ total row (ones_apart m at step)

pub joined-none : (m : List ℕ) (at step : ℕ) → BytesJoined m at step 0 at 0
joined-none m at step =
    let z : at ≡ at + 0 * step = omega arith in
    record { few = omega arith; here = z; small = omega arith; joined = zero-ones ∙ total-zero _ }

pub joined-all : {m : List ℕ} {at step bits k row : ℕ} → BytesJoined m at step bits k row → 8 ≤ row → ones bits ≡ total 8 (ones_apart m at step)
joined-all {row = row} j l = let e : row ≡ 8 = omega (arith, j.few) in rw (e) at j.joined

module _ {m : List ℕ} {at step bits k row : ℕ} (j : BytesJoined m at step bits k row) (l : row < 8) where
  -- no later than the eighth byte
  low : row * step ≤ 7 * step
  low = let a : row ≤ 7 = omega arith in mul-le-mul_right step a

  pub joined_in : (n : ℕ) → at + 7 * step < n → k < n
  joined_in n h = omega (arith, j.here, low)

  pub joined-on : (n : ℕ) → at + 8 * step < n → k + step < n
  joined-on n h = omega (arith, j.here, low)

module _ {m : List ℕ} {at step bits k row : ℕ} (j : BytesJoined m at step bits k row) (l : row < 8) (b : Bytes m) where
  -- a byte more fits a word
  pub joined-fits : bits * 256 + get_or m k 0 < 2 ^ 64
  joined-fits =
      let p : 8 * row ≤ 56 = omega arith in
      omega (arith, j.small, pow_mono p, b k)

  pub joined-next : BytesJoined m at step (bits * 256 + get_or m k 0) (k + step) (row + 1)
  joined-next =
      let next : (row + 1) * step ≡ row * step + step = rw (add-one) (suc-mul row step) in
      let wider : 8 * (row + 1) ≡ 8 * row + 8 = omega arith in
      let power : 2 ^ (8 * row + 8) ≡ 2 ^ (8 * row) * 2 ^ 8 = pow-add 2 (8 * row) 8 in
      let apart : ones (bits * 2 ^ 8 + get_or m k 0) ≡ ones bits + ones (get_or m k 0) = ones_cat 8 bits (get_or m k 0) (b k) in
      let byte : ones (get_or m k 0) ≡ ones_apart m at step row = rw j.here in
      record {
        few = omega arith;
        here = rw (next) (omega (arith, j.here));
        small = rw (wider, power) (omega (arith, j.small, b k));
        joined = apart ∙ rw (j.joined, byte) (total-more row (ones_apart m at step));
      }

-- ---- a square of the image

-- its rows are bytes
module _ (h : Shape) (t : Tile) (m : List ℕ) (b : Bytes m) (wide : t.w ≡ 8) (left : t.x % 8 ≡ 0) (even : h.columns % 8 ≡ 0) where
  abbrev at : ℕ
  at = t.y * (h.columns / 8) + t.x / 8

  row-byte : (row : ℕ) → row_from h t row ≡ 8 * (at + row * (h.columns / 8))
  row-byte row =
      let c : h.columns ≡ h.columns / 8 * 8 = omega arith in
      let p : (t.y + row) * (h.columns / 8 * 8) ≡ (t.y + row) * (h.columns / 8) * 8 = sym (mul_assoc (t.y + row) (h.columns / 8) 8) in
      let q : (t.y + row) * h.columns ≡ (t.y + row) * (h.columns / 8) * 8 = ap (λ (x : ℕ). (t.y + row) * x) c ∙ p in
      omega (arith, q, add-mul t.y row (h.columns / 8))

  -- a pixel of a row is a bit of its byte
  pub bit-row : (row c : ℕ) → c < t.w → pixel_valid m (row_from h t row + c) ≡ bit_set (get_or m (at + row * (h.columns / 8)) 0) c
  unfolding pixel_valid
  bit-row row c l =
      let k = at + row * (h.columns / 8) in
      let d : (8 * k + c) / 8 ≡ k = omega (arith, wide) in
      let r : (8 * k + c) % 8 ≡ c = omega (arith, wide) in
      rw (row-byte row, d, r)

  byte-row : (row : ℕ) → valid_from (row_from h t row) t.w m ≡ ones_apart m at (h.columns / 8) row
  byte-row row =
      let k = at + row * (h.columns / 8) in
      rw (row-byte row, wide, valid-first m k 8 (omega arith), bits-whole (get_or m k 0) (b k))

  bytes-rank : (n : ℕ) → total n (ones_apart m at (h.columns / 8)) ≡ rank h m t (n * t.w)
  bytes-rank zero = let z : 0 * t.w ≡ 0 = omega arith in rw (z) (sym (total-zero _) ∙ sym (rank-zero h m t))
  bytes-rank (suc n) =
      let e : total (suc n) (ones_apart m at (h.columns / 8)) ≡ total n (ones_apart m at (h.columns / 8)) + ones_apart m at (h.columns / 8) n = rw (← add-one n) (sym (total-more n _)) in
      let r : rank h m t (suc n * t.w) ≡ rank h m t (n * t.w) + valid_from (row_from h t n) t.w m = rw (add-one) at (rank-row h m t n) in
      e ∙ rw (bytes-rank n, ← byte-row n) (sym r)

  pub square-valid : t.h ≡ 8 → total 8 (ones_apart m at (h.columns / 8)) ≡ valid_in_tile h m t
  square-valid high = bytes-rank 8 ∙ ap (λ (n : ℕ). rank h m t (n * t.w)) (sym high)

-- what the test for one means
pub record Square (h : Shape) (t : Tile) : Type 0 where
  pub wide : t.w ≡ 8
  pub high : t.h ≡ 8
  pub left : t.x % 8 ≡ 0
  pub even : h.columns % 8 ≡ 0

pub square-is : (h : Shape) (t : Tile) → is_square h t ≡ true → Square h t
unfolding is_square
square-is h t e =
    let (r, c) = (and-eq-true_iff (eqb t.w 8 && eqb t.h 8 && eqb (t.x % 8) 0) (eqb (h.columns % 8) 0)).0 e in
    let (q, x) = (and-eq-true_iff (eqb t.w 8 && eqb t.h 8) (eqb (t.x % 8) 0)).0 r in
    let (w, g) = (and-eq-true_iff (eqb t.w 8) (eqb t.h 8)).0 q in
    record { wide = eqb-true _ _ w; high = eqb-true _ _ g; left = eqb-true _ _ x; even = eqb-true _ _ c }

-- where its bytes stand: before the end of its last row of pixels
module _ (h : Shape) (t : Tile) (i : TileIn h t) where
  step_fits : h.columns / 8 ≤ sideways
  step_fits = omega (arith, i.shaped.columns.1)

  pub end_fits : (t.y + 8) * (h.columns / 8) < 2 ^ 32
  end_fits =
      let high : t.y + 8 ≤ 4104 = omega (arith, i.row, i.shaped.rows.1) in
      omega (arith, mul-le-mul high step_fits)

  pub start_fits : t.y * (h.columns / 8) + t.x / 8 < 2 ^ 32
  start_fits =
      let left : t.x ≤ sideways = omega (arith, i.column, i.shaped.columns.1) in
      omega (arith, end_fits, add-mul t.y 8 (h.columns / 8))

  pub square-in : Square h t → (n : ℕ) → (t.y + 8) * (h.columns / 8) ≤ n
      → (t.y * (h.columns / 8) + t.x / 8 + 7 * (h.columns / 8) < n) × (t.y * (h.columns / 8) + t.x / 8 + 8 * (h.columns / 8) < 2 ^ 64)
  square-in q n l =
      let left : t.x / 8 < h.columns / 8 = omega (arith, i.column, q.wide, q.left, q.even) in
      let split = add-mul t.y 8 (h.columns / 8) in
      (omega (arith, split), omega (arith, split, end_fits))
