-- The parts of a binary64 word: its digits, its magnitude, whose order is that of the bits, and its sign.
-- Assumes nothing.
use mathlib.Core.Path.{◌≡◌, sym, ap, ◌∙◌}
use mathlib.Core.Bool.{Bool, true, false, not, cond}
use Prim.Native.Nat.{ℕ, ◌+◌, ◌-◌, ◌*◌, ◌/◌, ◌%◌, ◌^◌, ◌≤◌, ◌<◌}
use native.Mathlib.Nat.{one-mul, zero-mul, div-eq_of_lt}
use native.Mathlib.Omega.{arith}
use lib.Arith.{digits_div}
use lib.Dec.{T, leb, leb→le, nleb→lt, lit<}
use lib.Pow.{mod-mod-pow}
use Rattle.lerc_numeric.specs.Numeric.{bits64, code, sig, mag, negative}
use Rattle.lerc_numeric.proofs.Format.{value, value-lt, value-le}

pub sig-lt : (w : ℕ) → sig w < 2 ^ 53
sig-lt w = omega arith

-- ---- the magnitude is the value of the bits without the sign
pub mag-value : (w : ℕ) → mag w ≡ value 52 (w % 2 ^ 63)
unfolding mag
mag-value w = rw (mod-mod-pow w 11 52)

pub mag-lt : (a b : ℕ) → a % 2 ^ 63 < b % 2 ^ 63 → mag a < mag b
mag-lt a b h = rw (mag-value a, mag-value b) (value-lt 52 (a % 2 ^ 63) (b % 2 ^ 63) h)

pub mag-le : (a b : ℕ) → b % 2 ^ 63 ≤ a % 2 ^ 63 → mag b ≤ mag a
mag-le a b h = rw (mag-value a, mag-value b) (value-le 52 (b % 2 ^ 63) (a % 2 ^ 63) h)

pub mag-eq : (a b : ℕ) → a % 2 ^ 63 ≡ b % 2 ^ 63 → mag a ≡ mag b
mag-eq a b h = rw (mag-value a, mag-value b, h)

-- ---- the sign: u for a word of t or more, below 2 * t
pub sign-is : (t u w : ℕ) → 0 < t → w < 2 * t → cond (leb t w) u 0 ≡ w / t * u
sign-is t u w p h = go (leb t w) (leb→le t w) (nleb→lt t w)
  where
    go : (b : Bool) → (T b → t ≤ w) → (T (not b) → w < t) → cond b u 0 ≡ w / t * u
    go true q r =
        let q' = q tt in
        let e : w ≡ 1 * t + (w - t) = omega arith in
        let l : w - t < t = omega arith in
        let d : w / t ≡ 1 = ap (λ (y : ℕ). y / t) e ∙ digits_div 1 l in
        rw (d) (sym (one-mul u))
    go false q r = rw (div-eq_of_lt (r tt)) (sym (zero-mul u))

-- 0 or 2 ^ 63
abbrev pub weight : ℕ → ℕ
weight w = w - w % 2 ^ 63

pub weight_is : (w : ℕ) → w < 2 ^ 64 → cond (negative w) (2 ^ 63) 0 ≡ weight w
weight_is w h = omega (arith, sign-is (2 ^ 63) (2 ^ 63) w (lit< tt) h)

-- ---- a sign's weight and bits fit in a word
pub bits-le : (n : ℕ) → bits64 n ≤ 2047 * 2 ^ 52
unfolding code
bits-le n = omega arith

pub weight-fits : (w n r : ℕ) → w < 2 ^ 64 → r ≡ bits64 n → weight w + r < 2 ^ 64
weight-fits w n r h e = omega (arith, bits-le n)
