-- The bits of a magnitude m * 2 ^ e as a binary64, by how many digits m has: the laws behind `pack`.
-- Assumes nothing.
use mathlib.Core.Path.{◌≡◌, ap, ◌∙◌}
use Prim.Native.Nat.{ℕ, suc, ◌+◌, ◌-◌, ◌*◌, ◌/◌, ◌%◌, ◌^◌, ◌≤◌, ◌<◌, min}
use native.Mathlib.Nat.{le_trans, le_of_eq, lt_of_lt_of_le, mul_assoc, mul-le-mul_right, one-mul, zero-mul, zero-add, sub-zero, div-one, mod-eq_of_lt}
use native.Mathlib.Omega.{arith}
use lib.Dec.{lit≤, lit<}
use lib.Pow.{pow-add, pow_mono, shl_lt}
use lib.Ieee.{size}
use lib.Ieee.Digits.{size-lt, size-le, size_reaches}
use lib.Ieee.Nearest.{closest}
use Rattle.lerc_numeric.specs.Numeric.{bits64, code}
use Rattle.lerc_numeric.proofs.Closest.{closest-moved, closest-multiple}
use Rattle.lerc_numeric.proofs.Format as format
use Rattle.lerc_numeric.proofs.Format.{kept_of, code_at}
use Rattle.lerc_numeric.proofs.Digits.{size-shift, size-ge}

-- ---- what is kept of n, in units of 1
own-unit : (d n : ℕ) → kept_of d n 1 ≡ closest n (2 ^ (size n - suc d))
own-unit d n = rw (div-one, one-mul)

pub kept-le : (d n : ℕ) → closest n (2 ^ (size n - suc d)) ≤ 2 ^ suc d
kept-le d n = rw (← own-unit d n) (format.kept-le d n 1)

pub kept-ge : (d n : ℕ) → suc d < size n → 2 ^ d ≤ closest n (2 ^ (size n - suc d))
kept-ge d n h =
    let k : 0 < size (n / 1) - suc d = rw (div-one) (omega arith) in
    rw (← own-unit d n) (format.kept-ge d n 1 k)

abbrev pub kept : ℕ → ℕ
kept n = closest n (2 ^ (size n - 53))

-- ---- the bits, by the number k of digits dropped
at : (n k : ℕ) → size n - 53 ≡ k → bits64 n ≡ min (2047 * 2 ^ 52) (k * 2 ^ 52 + closest n (2 ^ k))
at n k e = code_at 52 (2047 * 2 ^ 52) n 0 k (rw (div-one) e) ∙ rw (zero-add)

pub bits-cut : (m e : ℕ) → 53 < size m → bits64 (m * 2 ^ e) ≡ min (2047 * 2 ^ 52) ((size m - 53 + e) * 2 ^ 52 + kept m)
bits-cut m e h =
    let pos : 0 < m = lt_of_lt_of_le (lit< tt) (size_reaches m 53 h) in
    let z : size m - 53 + e - e ≡ size m - 53 = omega arith in
    at (m * 2 ^ e) (size m - 53 + e) (omega (arith, size-shift m e pos)) ∙ rw (closest-moved m e (size m - 53 + e) (omega arith), z)

-- ---- what `pack` does in each case, with s for the number of digits
pub pack-zero : (m e : ℕ) → m ≡ 0 → 0 ≡ bits64 (m * 2 ^ e)
unfolding code size
pack-zero m e h = rw (h, zero-mul)

module _ (m e s : ℕ) (z : s ≡ size m) where
  pub digits_le : m < 2 ^ 64 → s ≤ 64
  digits_le h = omega (arith, size-le m 64 h)

  -- more than 53: r is kept
  module _ (r : ℕ) (h : r ≡ closest m (2 ^ (s - 53))) where
    pub pack-fits : r ≤ 2 ^ 53
    pack-fits = rw (h, z) (kept-le 52 m)

    pub pack-cut : 53 < s → s - 53 + e < 2046 → (s - 53 + e) * 2 ^ 52 + r ≡ bits64 (m * 2 ^ e)
    pack-cut l k =
        let q : r ≡ kept m = rw (h, z) in
        omega (arith, kept-le 52 m, bits-cut m e (omega arith))

  pub pack-cut-inf : 53 < s → 2046 ≤ s - 53 + e → 2047 * 2 ^ 52 ≡ bits64 (m * 2 ^ e)
  pack-cut-inf l k = omega (arith, kept-ge 52 m (omega arith), bits-cut m e (omega arith))

  -- no more: a left shift that loses nothing
  room : (j : ℕ) → s + j ≤ 53 → m * 2 ^ j < 2 ^ 53
  room j h = lt_of_lt_of_le (shl_lt (size m) j (size-lt m)) (pow_mono {j = 53} (omega arith))

  fill : (j : ℕ) → s + j ≤ 53 → m * 2 ^ j % 2 ^ 64 ≡ m * 2 ^ j
  fill j h = mod-eq_of_lt (lt_of_lt_of_le (room j h) (lit≤ tt))

  pub fill-lt : (j : ℕ) → s + j ≤ 53 → m * 2 ^ j % 2 ^ 64 < 2 ^ 53
  fill-lt j h = rw (fill j h) (room j h)

  pub pack-low : s ≤ 53 → e ≤ 53 - s → m * 2 ^ e % 2 ^ 64 ≡ bits64 (m * 2 ^ e)
  pack-low l h =
      let k : s + e ≤ 53 = omega arith in
      let q : closest (m * 2 ^ e) (2 ^ 0) ≡ m * 2 ^ e = rw (closest-multiple m e 0 (omega arith), sub-zero) in
      omega (arith, fill e k, room e k, at (m * 2 ^ e) 0 (omega (arith, size-le (m * 2 ^ e) 53 (room e k))))

  module _ (l : s ≤ 53) (h : 53 - s < e) (p : 0 < m) where
    up : bits64 (m * 2 ^ e) ≡ min (2047 * 2 ^ 52) ((e - (53 - s)) * 2 ^ 52 + m * 2 ^ (53 - s))
    up =
        let k = e - (53 - s) in
        let y : e - k ≡ 53 - s = omega arith in
        at (m * 2 ^ e) k (omega (arith, size-shift m e p)) ∙ rw (closest-multiple m e k (omega arith), y)

    pub pack-up : e - (53 - s) < 2046 → (e - (53 - s)) * 2 ^ 52 + m * 2 ^ (53 - s) % 2 ^ 64 ≡ bits64 (m * 2 ^ e)
    pack-up k = omega (arith, fill (53 - s) (omega arith), room (53 - s) (omega arith), up)

    -- the leading digit is at its place
    lead : 2 ^ 53 ≤ 2 * (m * 2 ^ (53 - s))
    lead =
        let y : 53 ≡ size m + (53 - s) = omega arith in
        le_trans (le_of_eq (ap (λ (x : ℕ). 2 ^ x) y ∙ pow-add 2 (size m) (53 - s)))
        (le_trans (mul-le-mul_right (2 ^ (53 - s)) (size-ge m p)) (le_of_eq (mul_assoc 2 m (2 ^ (53 - s)))))

    pub pack-up-inf : 2046 ≤ e - (53 - s) → 2047 * 2 ^ 52 ≡ bits64 (m * 2 ^ e)
    pack-up-inf k = omega (arith, lead, up)
