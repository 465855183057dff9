-- Infinities: farther out than every finite number, and what a sum of one and a finite number is.
-- Assumes nothing.
use mathlib.Core.Path.{◌≡◌, refl}
use mathlib.Core.Bool.{Bool, true, false, and-false}
use Prim.Native.Nat.{ℕ, ◌-◌, ◌*◌, ◌%◌, ◌^◌, ◌≤◌, ◌<◌}
use native.Mathlib.Nat.{le_trans}
use native.Mathlib.Omega.{arith}
use lib.Dec.{lit≤, lit<}
use borrow.Author.Tests.{eq-eqb, ne_eqb, eqb-true, le-ltb, lt-ltb, ltb-true}
use Rattle.lerc_words.proofs.Binding.{and_is}
use Rattle.lerc_numeric.specs.Numeric.{bits64, field, finite, infinite, absorbs, mag, negative, signed, sum, counted_sum}
use Rattle.lerc_numeric.proofs.Magnitude.{mag-lt, mag-le, mag-eq, weight_is}
use Rattle.lerc_numeric.proofs.Right.{infinite64}

-- the magnitude at which an infinity is counted, 2 ^ 1024
abbrev pub outer : ℕ
outer = mag (2047 * 2 ^ 52)

pub outer-is : outer ≡ 2 ^ 2098
unfolding mag
outer-is = refl

pub outer-pos : 0 < outer
outer-pos = rw (outer-is) (lit< tt)

-- finite or infinite: no fraction behind a field of 2047
abbrev pub IsNumber : ℕ → Type 0
IsNumber w = w % 2 ^ 63 ≤ 2047 * 2 ^ 52

-- ---- by the bits
pub infinite-bits : (w : ℕ) → infinite w ≡ true → w % 2 ^ 63 ≡ 2047 * 2 ^ 52
infinite-bits w e = eqb-true (w % 2 ^ 63) (2047 * 2 ^ 52) e

pub bits-infinite : (w : ℕ) → w % 2 ^ 63 ≡ 2047 * 2 ^ 52 → infinite w ≡ true
bits-infinite w e = eq-eqb (w % 2 ^ 63) (2047 * 2 ^ 52) e

pub finite-not : (w : ℕ) → field w < 2047 → infinite w ≡ false
finite-not w h = ne_eqb (w % 2 ^ 63) (2047 * 2 ^ 52) (λ e. omega arith)

pub infinite-not : (w : ℕ) → infinite w ≡ true → finite w ≡ false
infinite-not w e = let h = infinite-bits w e in le-ltb (field w) 2047 (omega arith)

-- ---- by the magnitude
pub infinite-mag : (w : ℕ) → infinite w ≡ true → mag w ≡ outer
infinite-mag w e = mag-eq w (2047 * 2 ^ 52) (infinite-bits w e)

pub finite-mag : (w : ℕ) → field w < 2047 → mag w < outer
finite-mag w h = mag-lt w (2047 * 2 ^ 52) (omega arith)

pub number-mag : (w : ℕ) → IsNumber w → mag w ≤ outer
number-mag w h = mag-le (2047 * 2 ^ 52) w h

-- from there on, and up to 2 ^ 970 below it, magnitudes are rounded to it
pub outer-less : (m n : ℕ) → m ≤ 2 ^ 2044 → outer - m ≤ n → bits64 n ≡ 2047 * 2 ^ 52
outer-less m n h l = infinite64 n (le_trans (within (2 ^ 2098) (2 ^ 2044) h) (rw (outer-is) at l))
  where
    within : (x k : ℕ) → m ≤ k → x - k ≤ x - m
    within x k b = omega arith

pub outer-bits : (n : ℕ) → outer ≤ n → bits64 n ≡ 2047 * 2 ^ 52
outer-bits n h = outer-less 0 n (lit≤ tt) (omega arith)

-- ---- sums with an infinity
pub sum-counted : (a b : ℕ) → absorbs a b ≡ false → absorbs b a ≡ false → sum a b ≡ counted_sum a b
unfolding sum
sum-counted a b e f = rw (e, f)

pub sum_left : (a b : ℕ) → absorbs a b ≡ true → sum a b ≡ a
unfolding sum
sum_left a b e = rw (e)

-- what is not finite is not absorbed, and what is not infinite absorbs nothing
pub absorbed-not : (a b : ℕ) → finite a ≡ false → absorbs b a ≡ false
absorbed-not a b e = rw (e) (and-false (infinite b))

pub absorbs-not : (a b : ℕ) → infinite a ≡ false → absorbs a b ≡ false
absorbs-not a b e = rw (e)

pub absorbs-both : (a b : ℕ) → infinite a ≡ true → field b < 2047 → absorbs a b ≡ true
absorbs-both a b e h = rw (e) (lt-ltb (field b) 2047 h)

pub absorbs-is : (a b : ℕ) → absorbs a b ≡ true → (infinite a ≡ true) × (field b < 2047)
absorbs-is a b e = let x = and_is (infinite a) (finite b) e in (x.0, ltb-true (field b) 2047 x.1)

pub sum-right : (a b : ℕ) → absorbs b a ≡ true → sum a b ≡ b
unfolding sum
sum-right a b e = rw (absorbed-not b a (infinite-not b (absorbs-is b a e).0), e)

-- an infinity absorbs only what is nearer
pub nearer-not : (a b : ℕ) → mag a ≤ mag b → absorbs a b ≡ false
nearer-not a b h = go (absorbs a b) refl
  where
    go : (t : Bool) → absorbs a b ≡ t → t ≡ false
    go true e = let x = absorbs-is a b e in absurd (omega (arith, infinite-mag a x.0, finite-mag b x.1))
    go false e = refl

-- an infinity is its sign, and what is rounded to it
pub infinite-own : (w n : ℕ) → w < 2 ^ 64 → infinite w ≡ true → bits64 n ≡ 2047 * 2 ^ 52 → signed (negative w) (bits64 n) ≡ w
infinite-own w n l e h = rw (h, weight_is w l) (omega (arith, infinite-bits w e))
