-- The language's own rounding to a binary64 is `bits64`: what `lib.Ieee`'s `round` makes of a whole number of units, as bits.
-- Assumes nothing.
use mathlib.Core.Path.{◌≡◌, sym, ap, ◌∙◌}
use mathlib.Core.Bool.{Bool, not, cond}
use Prim.Native.Nat.{ℕ, zero, suc, ◌+◌, ◌-◌, ◌*◌, ◌/◌, ◌%◌, ◌^◌, ◌≤◌, ◌<◌, min}
use native.Mathlib.Nat.{div-one, mul-div_cancel, mul_assoc, mul-pos, one-mul}
use native.Mathlib.Decide.{dec_lt}
use native.Mathlib.Omega.{arith}
use lib.Dec.{T, lit<}
use lib.Arith.{le→nltb}
use lib.Pow.{pow_pos}
use lib.Ieee as Ieee
use lib.Ieee.{Float, nan, inf, fin, binary64, up, down, size, units, round, of_fields, of_bits, to_bits}
use lib.Ieee.Fits.{round_is, down_pos}
use lib.Ieee.Exact.{HasValue, odd_sign, units_val}
use lib.Ieee.Nearest.{closest, closest_same}
use lib.Ieee.Bits.{nan_bits_above, nan_bits_is, to_bits-of_bits}
use borrow.Author.Tests.{ne_eqb, le-ltb}
use Rattle.lerc_numeric.specs.Numeric.{bits64, dropped, field, mag, negative, signed}
use Rattle.lerc_numeric.proofs.Format.{kept_of, code_is, kept-le, kept-ge, value, value-kept, value-lt, value-le}
use Rattle.lerc_numeric.proofs.Magnitude.{mag-value}
use Rattle.lerc_numeric.proofs.Right.{negative-signed, rest-signed, signed_lt}

-- ---- a NaN has a fraction behind a field of 2047
pub no-nan-bits : (w : ℕ) → w % 2 ^ 63 ≤ 2047 * 2 ^ 52 → T (not (Ieee.nan_bits binary64 w))
no-nan-bits w h = rw (nan_bits_above binary64 w) (le→nltb (2047 * 2 ^ 52) (w % 2 ^ 63) h)

-- so its bits are those of what it stands for
word-bits : (w : ℕ) → w < 2 ^ 64 → w % 2 ^ 63 ≤ 2047 * 2 ^ 52 → to_bits binary64 (of_bits binary64 w) ≡ w
word-bits w l h = to_bits-of_bits binary64 w l (rw (nan_bits_is binary64 w) at (no-nan-bits w h))

-- ---- a finite word has the value of its magnitude
pub word_value : (w : ℕ) → field w < 2047 → HasValue (of_bits binary64 w) (negative w) (mag w) (2 ^ 1074)
unfolding of_bits of_fields mag
word_value w h = go (field w) h
  where
    t : ℕ
    t = w % 2 ^ 52

    go : (x : ℕ) → x < 2047 → HasValue (of_fields binary64 (negative w) x t) (negative w) ((min 1 x * 2 ^ 52 + t) * 2 ^ (x - 1)) (2 ^ 1074)
    go zero l =
        let none : 0 * 2 ^ 52 + t ≡ t = omega arith in
        rw (none) (odd_sign 53 (negative w) t 0 1074)
    go (suc x) l =
        let some : min 1 (suc x) * 2 ^ 52 + t ≡ 2 ^ 52 + t = omega arith in
        let before : suc x - 1 ≡ x = omega arith in
        rw (ne_eqb (suc x) 2047 (λ e. absurd (omega arith)), some, before) (odd_sign 53 (negative w) (2 ^ 52 + t) x 1074)

-- ---- numbers of one sign and value have the same bits
abbrev bits_of : Bool → ℕ → ℕ
bits_of s a = cond s (2 ^ 63) 0 + (size a - 53) * 2 ^ 52 + a / 2 ^ (size a - 53)

bits-of : (x : Float) (s : Bool) (a : ℕ) → HasValue x s a (2 ^ 1074) → to_bits binary64 x ≡ bits_of s a
unfolding to_bits size
bits-of nan s a p = absurd p
bits-of (inf t) s a p = absurd p
bits-of (fin t m e) s a p =
    let q : m * up e * 2 ^ 1074 / down e ≡ a = ap (λ (x : ℕ). x / down e) p.1 ∙ mul-div_cancel a (down_pos e) in
    rw (q, p.0)

same_bits : (x y : Float) (s : Bool) (a : ℕ) → HasValue x s a (2 ^ 1074) → HasValue y s a (2 ^ 1074) → to_bits binary64 x ≡ to_bits binary64 y
same_bits x y s a p q = bits-of x s a p ∙ sym (bits-of y s a q)

-- ---- q units, of which k binary digits more are dropped: the field is k, and a carry runs into it
module _ (s : Bool) (q k : ℕ) (h : q ≤ 2 ^ 53) (l : 0 < k → 2 ^ 52 ≤ q) where
  abbrev bits : ℕ
  bits = k * 2 ^ 52 + q

  worth : value 52 bits ≡ q * 2 ^ k
  worth = value-kept 52 k q h l

  -- below 2 ^ 1024 it is the number of that word, and from there on an infinity
  low_bits : bits < 2047 * 2 ^ 52 → to_bits binary64 (units binary64 s q k) ≡ signed s bits
  low_bits g =
      let w = signed s bits in
      let e : w % 2 ^ 63 ≡ bits = rest-signed s bits (omega arith) in
      let near : q * 2 ^ k < 2 ^ 2098 = rw (worth) at (value-lt 52 bits (2047 * 2 ^ 52) g) in
      let m : mag w ≡ q * 2 ^ k = mag-value w ∙ rw (e) worth in
      let v : HasValue (of_bits binary64 w) s (q * 2 ^ k) (2 ^ 1074) = rw (negative-signed s bits (omega arith), m) at (word_value w (omega arith)) in
      same_bits (units binary64 s q k) (of_bits binary64 w) s (q * 2 ^ k) (units_val binary64 s q k near) v ∙ word-bits w (signed_lt s bits (omega arith)) (omega arith)

  high_bits : 2047 * 2 ^ 52 ≤ bits → to_bits binary64 (units binary64 s q k) ≡ signed s (2047 * 2 ^ 52)
  unfolding units to_bits
  high_bits g =
      let far : 2 ^ 2098 ≤ q * 2 ^ k = rw (worth) at (value-le 52 (2047 * 2 ^ 52) bits g) in
      rw (le-ltb (q * 2 ^ k) (2 ^ 2098) far)

  units-bits : to_bits binary64 (units binary64 s q k) ≡ signed s (min (2047 * 2 ^ 52) bits)
  units-bits = go (dec_lt bits (2047 * 2 ^ 52))
    where
      go : Dec (bits < 2047 * 2 ^ 52) → to_bits binary64 (units binary64 s q k) ≡ signed s (min (2047 * 2 ^ 52) bits)
      go (yes g) = let e : min (2047 * 2 ^ 52) bits ≡ bits = omega arith in rw (e) (low_bits g)
      go (no g) = let e : min (2047 * 2 ^ 52) bits ≡ 2047 * 2 ^ 52 = omega arith in rw (e) (high_bits (omega arith))

-- ---- n units, with a sign
round-units : (s : Bool) (n : ℕ) → round binary64 s n (2 ^ 1074) ≡ units binary64 s (kept_of 52 n 1) (dropped 53 n 1)
round-units s n = round_is binary64 s n (2 ^ 1074) ∙ over (2 ^ 1074) (pow_pos 1074)
  where
    alike : (c k : ℕ) → 0 < c → closest (n * c) (c * 2 ^ k) ≡ closest n (1 * 2 ^ k)
    alike c k p = closest_same (n * c) (c * 2 ^ k) n (1 * 2 ^ k) (mul-pos p (pow_pos k)) (mul-pos (lit< tt) (pow_pos k)) (rw (one-mul (2 ^ k)) (mul_assoc n c (2 ^ k)))

    over : (c : ℕ) → 0 < c → units binary64 s (closest (n * c) (c * 2 ^ (size (n * c / c) - 53))) (size (n * c / c) - 53) ≡ units binary64 s (kept_of 52 n 1) (dropped 53 n 1)
    over c p = rw (mul-div_cancel n p, div-one n, alike c (size n - 53) p)

pub round-bits : (s : Bool) (n : ℕ) → to_bits binary64 (round binary64 s n (2 ^ 1074)) ≡ signed s (bits64 n)
round-bits s n = rw (round-units s n, code_is 52 (2047 * 2 ^ 52) n 1) (units-bits s (kept_of 52 n 1) (dropped 53 n 1) (kept-le 52 n 1) (kept-ge 52 n 1))
