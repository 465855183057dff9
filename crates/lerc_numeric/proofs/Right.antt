-- That binary64 and binary32 are rounded right: the laws of Nearest at 53 and at 24 digits, for words.
-- Assumes nothing.
use mathlib.Core.Path.{◌≡◌, sym, ap, ◌∙◌}
use mathlib.Core.Bool.{Bool, true, false}
use mathlib.Core.Logic.{◌≢◌}
use Prim.Native.Nat.{ℕ, ◌+◌, ◌-◌, ◌*◌, ◌%◌, ◌^◌, ◌≤◌, ◌<◌}
use native.Mathlib.Nat.{mul-one, mod-eq_of_lt}
use native.Mathlib.Omega.{arith}
use borrow.Author.Tests.{le-leb, lt-leb}
use lib.Dec.{lit≤, lit<}
use lib.Pow.{mod-mod-pow}
use Rattle.lerc_numeric.specs.Numeric.{bits64, bits32, code, field, mag, negative, signed}
use Rattle.lerc_numeric.specs.Kinds.{field32, mag32}
use Rattle.lerc_numeric.proofs.Format.{value, value-le, code_mono}
use Rattle.lerc_numeric.proofs.Nearest as format
use Rattle.lerc_numeric.proofs.Nearest.{gap}
use Rattle.lerc_numeric.proofs.Magnitude.{mag-value, mag-eq, bits-le, weight_is}

-- ---- a sign set on bits
module _ (s : Bool) (n : ℕ) (h : n < 2 ^ 63) where
  pub negative-signed : negative (signed s n) ≡ s
  negative-signed = go s
    where
      go : (s : Bool) → negative (signed s n) ≡ s
      go true = le-leb (2 ^ 63) (2 ^ 63 + n) (omega arith)
      go false = lt-leb (2 ^ 63) (0 + n) (omega arith)

  pub rest-signed : signed s n % 2 ^ 63 ≡ n
  rest-signed = go s
    where
      go : (s : Bool) → signed s n % 2 ^ 63 ≡ n
      go true = omega arith
      go false = omega arith

  pub mag-signed : mag (signed s n) ≡ mag n
  mag-signed = mag-eq (signed s n) n (rest-signed ∙ sym (mod-eq_of_lt h))

  pub signed_lt : signed s n < 2 ^ 64
  signed_lt = go s
    where
      go : (s : Bool) → signed s n < 2 ^ 64
      go true = omega arith
      go false = omega arith

pub bits-lt : (n : ℕ) → bits64 n < 2 ^ 63
bits-lt n = omega (arith, bits-le n)

-- ---- the value of bits: a binary64's in units of 2 ^ -1074, a binary32's in units of its own
pub mag-bits : (n : ℕ) → mag (bits64 n) ≡ value 52 (bits64 n)
mag-bits n = rw (mag-value (bits64 n), mod-eq_of_lt (bits-lt n))

pub mag32-value : (v : ℕ) → mag32 v ≡ value 23 (v % 2 ^ 31)
mag32-value v = rw (mod-mod-pow v 8 23)

bits32-le : (n : ℕ) → bits32 n ≤ 255 * 2 ^ 23
unfolding code
bits32-le n = omega arith

pub mag32-bits : (n : ℕ) → mag32 (bits32 n) ≡ value 23 (bits32 n)
mag32-bits n = let h : bits32 n < 2 ^ 31 = omega (arith, bits32-le n) in rw (mag32-value (bits32 n), mod-eq_of_lt h)

-- ---- nearest among all words, and even at a tie
pub nearest64 : (n w : ℕ) → bits64 n < 2047 * 2 ^ 52 → gap n (mag (bits64 n)) ≤ gap n (mag w)
nearest64 n w fin =
    rw (mag-bits n, mag-value w)
    (rw (mul-one (value 52 (bits64 n)), mul-one (value 52 (w % 2 ^ 63))) at (format.nearest 52 (2047 * 2 ^ 52) n 1 (lit< tt) fin (w % 2 ^ 63)))

pub even64 : (n w : ℕ) → bits64 n < 2047 * 2 ^ 52 → mag w ≢ mag (bits64 n) → gap n (mag (bits64 n)) ≡ gap n (mag w) → bits64 n % 2 ≡ 0
even64 n w fin d g =
    let x : mag w ≡ value 52 (w % 2 ^ 63) * 1 = mag-value w ∙ sym (mul-one (value 52 (w % 2 ^ 63))) in
    let y : mag (bits64 n) ≡ value 52 (bits64 n) * 1 = mag-bits n ∙ sym (mul-one (value 52 (bits64 n))) in
    format.even-at-tie 52 (2047 * 2 ^ 52) n 1 (lit< tt) fin (w % 2 ^ 63) (lit< tt) (λ e. d (x ∙ e ∙ sym y)) (ap (gap n) (sym y) ∙ g ∙ ap (gap n) x)

pub nearest32 : (n v : ℕ) → bits32 n < 255 * 2 ^ 23 → gap n (mag32 (bits32 n) * 2 ^ 925) ≤ gap n (mag32 v * 2 ^ 925)
nearest32 n v fin = rw (mag32-bits n, mag32-value v) (format.nearest 23 (255 * 2 ^ 23) n (2 ^ 925) (lit< tt) fin (v % 2 ^ 31))

pub even32 : (n v : ℕ) → bits32 n < 255 * 2 ^ 23 → mag32 v * 2 ^ 925 ≢ mag32 (bits32 n) * 2 ^ 925 → gap n (mag32 (bits32 n) * 2 ^ 925) ≡ gap n (mag32 v * 2 ^ 925) → bits32 n % 2 ≡ 0
even32 n v fin d g =
    let x : mag32 v * 2 ^ 925 ≡ value 23 (v % 2 ^ 31) * 2 ^ 925 = ap (λ (y : ℕ). y * 2 ^ 925) (mag32-value v) in
    let y : mag32 (bits32 n) * 2 ^ 925 ≡ value 23 (bits32 n) * 2 ^ 925 = ap (λ (z : ℕ). z * 2 ^ 925) (mag32-bits n) in
    format.even-at-tie 23 (255 * 2 ^ 23) n (2 ^ 925) (lit< tt) fin (v % 2 ^ 31) (lit< tt) (λ e. d (x ∙ e ∙ sym y)) (ap (gap n) (sym y) ∙ g ∙ ap (gap n) x)

-- ---- infinity exactly from 2 ^ 1024 - 2 ^ 970 on, and for a binary32 from 2 ^ 128 - 2 ^ 103 on
sub-le : (a b n : ℕ) → a - b ≤ n → a ≤ n + b
sub-le a b n h = omega arith

sub-lt : (a b n : ℕ) → b ≤ a → n < a - b → n + b < a
sub-lt a b n l h = omega arith

pub infinite64 : (n : ℕ) → 2 ^ 2098 - 2 ^ 2044 ≤ n → bits64 n ≡ 2047 * 2 ^ 52
infinite64 n h = format.infinite 52 2044 n 1 (lit< tt) (sub-le (2 ^ 2098) (2 ^ 2044) n h)

pub finite64 : (n : ℕ) → n < 2 ^ 2098 - 2 ^ 2044 → bits64 n < 2047 * 2 ^ 52
finite64 n h = format.finite 52 2044 n 1 (lit< tt) (sub-lt (2 ^ 2098) (2 ^ 2044) n (lit≤ tt) h)

pub infinite32 : (n : ℕ) → 2 ^ 1202 - 2 ^ 1177 ≤ n → bits32 n ≡ 255 * 2 ^ 23
infinite32 n h = format.infinite 23 252 n (2 ^ 925) (lit< tt) (sub-le (2 ^ 1202) (2 ^ 1177) n h)

pub finite32 : (n : ℕ) → n < 2 ^ 1202 - 2 ^ 1177 → bits32 n < 255 * 2 ^ 23
finite32 n h = format.finite 23 252 n (2 ^ 925) (lit< tt) (sub-lt (2 ^ 1202) (2 ^ 1177) n (lit≤ tt) h)

-- ---- more units, no lesser bits, no lesser value
pub bits64-mono : (n m : ℕ) → n ≤ m → bits64 n ≤ bits64 m
bits64-mono n m h = code_mono 52 (2047 * 2 ^ 52) n m 1 (lit< tt) h

pub bits32-mono : (n m : ℕ) → n ≤ m → bits32 n ≤ bits32 m
bits32-mono n m h = code_mono 23 (255 * 2 ^ 23) n m (2 ^ 925) (lit< tt) h

pub rounded-mono : (n m : ℕ) → n ≤ m → mag (bits64 n) ≤ mag (bits64 m)
rounded-mono n m h = rw (mag-bits n, mag-bits m) (value-le 52 (bits64 n) (bits64 m) (bits64-mono n m h))

-- ---- a finite word is its own rounding
pub bits-own : (w : ℕ) → field w < 2047 → bits64 (mag w) ≡ w % 2 ^ 63
bits-own w h =
    let l : w % 2 ^ 63 ≤ 2047 * 2 ^ 52 = omega arith in
    rw (mag-value w) (rw (mul-one (value 52 (w % 2 ^ 63))) at (format.own 52 1 (lit< tt) (2047 * 2 ^ 52) (w % 2 ^ 63) l))

pub own64 : (w : ℕ) → field w < 2047 → w < 2 ^ 64 → signed (negative w) (bits64 (mag w)) ≡ w
own64 w h l = rw (bits-own w h) (omega (arith, weight_is w l))

pub own32 : (v : ℕ) → field32 v < 255 → bits32 (mag32 v * 2 ^ 925) ≡ v % 2 ^ 31
own32 v h =
    let l : v % 2 ^ 31 ≤ 255 * 2 ^ 23 = omega arith in
    rw (mag32-value v) (format.own 23 (2 ^ 925) (lit< tt) (255 * 2 ^ 23) (v % 2 ^ 31) l)

-- rounding twice is rounding once
pub rounded-own : (w : ℕ) → field w < 2047 → mag (bits64 (mag w)) ≡ mag w
rounded-own w h =
    let l : w % 2 ^ 63 < 2 ^ 63 = omega arith in
    mag-eq (bits64 (mag w)) w (rw (bits-own w h) (mod-eq_of_lt l))

-- ---- numbers of at most 53 digits are not rounded
pub exact64 : (q j : ℕ) → q < 2 ^ 53 → bits64 (q * 2 ^ j) < 2047 * 2 ^ 52 → mag (bits64 (q * 2 ^ j)) ≡ q * 2 ^ j
exact64 q j h f =
    rw (mag-bits (q * 2 ^ j))
    (rw (mul-one (q * 2 ^ j)) at
    (sym (mul-one (value 52 (bits64 (q * 2 ^ j)))) ∙ ap (λ (y : ℕ). value 52 (bits64 y) * 1) (sym (mul-one (q * 2 ^ j)))
    ∙ format.exact 52 1 (lit< tt) (2047 * 2 ^ 52) q j h (rw (mul-one (q * 2 ^ j)) f)))
