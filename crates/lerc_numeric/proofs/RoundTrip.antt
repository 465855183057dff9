-- A binary32 comes back from its binary64, non-finite ones too; and how far out a finite one can be.
-- Assumes nothing.
use mathlib.Core.Path.{◌≡◌}
use mathlib.Core.Bool.{Bool, true, false, cond}
use Prim.Native.Nat.{ℕ, ◌+◌, ◌-◌, ◌*◌, ◌/◌, ◌%◌, ◌^◌, ◌<◌, min}
use native.Mathlib.Nat.{lt_of_lt_of_le, mul_assoc}
use native.Mathlib.Decide.{dec_lt}
use native.Mathlib.Omega.{arith}
use borrow.Author.Tests.{eq-eqb, ne_eqb}
use lib.Dec.{leb, eqb, lit≤, lit<}
use lib.Pow.{pow-add, pow_mono, shl_lt}
use Rattle.lerc_numeric.specs.Numeric.{bits64, bits32, field, mag, signed}
use Rattle.lerc_numeric.specs.Kinds.{field32, mag32, narrowed, widened}
use Rattle.lerc_numeric.proofs.Magnitude.{sign-is}
use Rattle.lerc_numeric.proofs.Right.{negative-signed, rest-signed, mag-signed, bits-lt, finite64, exact64, own32}

-- ---- a binary32 with a sign s and other bits r
module _ (s : Bool) (r : ℕ) (h : r < 2 ^ 63) where
  narrow-top : r / 2 ^ 52 ≡ 2047 → narrowed (signed s r) ≡ cond s (2 ^ 31) 0 + (255 * 2 ^ 23 + r % 2 ^ 52 / 2 ^ 29)
  unfolding narrowed
  narrow-top e =
      let t : signed s r % 2 ^ 52 ≡ r % 2 ^ 52 = go s in
      rw (negative-signed s r h, rest-signed s r h, eq-eqb (r / 2 ^ 52) 2047 e, t)
    where
      go : (s : Bool) → signed s r % 2 ^ 52 ≡ r % 2 ^ 52
      go true = omega arith
      go false = omega arith

  narrow-fin : r / 2 ^ 52 < 2047 → narrowed (signed s r) ≡ cond s (2 ^ 31) 0 + bits32 (mag r)
  unfolding narrowed
  narrow-fin e = rw (negative-signed s r h, rest-signed s r h, ne_eqb (r / 2 ^ 52) 2047 (λ z. absurd (omega arith)), mag-signed s r h)

-- ---- the magnitude of a finite binary32 needs no rounding
module _ (v : ℕ) (f : field32 v < 255) where
  digits : ℕ
  digits = min 1 (field32 v) * 2 ^ 23 + v % 2 ^ 23

  units : mag32 v * 2 ^ 925 ≡ digits * 2 ^ (field32 v - 1 + 925)
  unfolding digits
  units = rw (mul_assoc digits (2 ^ (field32 v - 1)) (2 ^ 925), ← pow-add 2 (field32 v - 1) 925)

  digits_lt : digits < 2 ^ 24
  unfolding digits
  digits_lt = omega arith

  units_lt : mag32 v * 2 ^ 925 < 2 ^ 1202
  units_lt = rw (units) (lt_of_lt_of_le (shl_lt 24 (field32 v - 1 + 925) digits_lt) (pow_mono {j = 1202} (omega arith)))

  below_top : bits64 (mag32 v * 2 ^ 925) < 2047 * 2 ^ 52
  below_top = finite64 (mag32 v * 2 ^ 925) (lt_of_lt_of_le units_lt (lit≤ tt))

  wide-mag : mag (bits64 (mag32 v * 2 ^ 925)) ≡ mag32 v * 2 ^ 925
  wide-mag =
      let l : bits64 (digits * 2 ^ (field32 v - 1 + 925)) < 2047 * 2 ^ 52 = rw (← units) below_top in
      rw (units) (exact64 digits (field32 v - 1 + 925) (lt_of_lt_of_le digits_lt (lit≤ tt)) l)

pub narrow_wide : (v : ℕ) → v < 2 ^ 32 → narrowed (widened v) ≡ v
unfolding widened
narrow_wide v h = go (dec_lt (field32 v) 255)
  where
    s : Bool
    s = leb (2 ^ 31) v

    back : cond s (2 ^ 31) 0 + v % 2 ^ 31 ≡ v
    back = omega (arith, sign-is (2 ^ 31) (2 ^ 31) v (lit< tt) h)

    go : Dec (field32 v < 255) → narrowed (signed s (cond (eqb (field32 v) 255) (2047 * 2 ^ 52 + v % 2 ^ 23 * 2 ^ 29) (bits64 (mag32 v * 2 ^ 925)))) ≡ v
    go (yes f) =
        let l : bits64 (mag32 v * 2 ^ 925) / 2 ^ 52 < 2047 = fine (bits64 (mag32 v * 2 ^ 925)) (below_top v f) in
        rw (ne_eqb (field32 v) 255 (λ z. absurd (omega arith)), narrow-fin s (bits64 (mag32 v * 2 ^ 925)) (bits-lt (mag32 v * 2 ^ 925)) l, wide-mag v f, own32 v f) back
      where
        fine : (n : ℕ) → n < 2047 * 2 ^ 52 → n / 2 ^ 52 < 2047
        fine n l = omega arith
    go (no f) =
        let e : field32 v ≡ 255 = omega arith in
        let r = 2047 * 2 ^ 52 + v % 2 ^ 23 * 2 ^ 29 in
        let x : r / 2 ^ 52 ≡ 2047 = omega arith in
        let t : 255 * 2 ^ 23 + r % 2 ^ 52 / 2 ^ 29 ≡ v % 2 ^ 31 = omega arith in
        rw (eq-eqb (field32 v) 255 e, narrow-top s r (omega arith) x, t) back

-- ---- a finite binary32 stays below 2 ^ 128
pub wide-near : (v : ℕ) → field (widened v) < 2047 → mag (widened v) < 2 ^ 1202
unfolding widened
wide-near v = go (dec_lt (field32 v) 255)
  where
    s : Bool
    s = leb (2 ^ 31) v

    w : ℕ
    w = signed s (cond (eqb (field32 v) 255) (2047 * 2 ^ 52 + v % 2 ^ 23 * 2 ^ 29) (bits64 (mag32 v * 2 ^ 925)))

    go : Dec (field32 v < 255) → field w < 2047 → mag w < 2 ^ 1202
    go (yes f) h = rw (ne_eqb (field32 v) 255 (λ z. absurd (omega arith)), mag-signed s (bits64 (mag32 v * 2 ^ 925)) (bits-lt (mag32 v * 2 ^ 925)), wide-mag v f) (units_lt v f)
    go (no f) h =
        let e : field32 v ≡ 255 = omega arith in
        let r = 2047 * 2 ^ 52 + v % 2 ^ 23 * 2 ^ 29 in
        let k : r / 2 ^ 52 < 2047 = rw (eq-eqb (field32 v) 255 e, rest-signed s r (omega arith)) at h in
        absurd (omega arith)
