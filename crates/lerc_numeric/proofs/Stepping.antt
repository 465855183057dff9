-- One step of a block by the machine: product, sum and clamp are the rules' own.
-- Assumes nothing.
use mathlib.Core.Path.{◌≡◌, sym, ap, ◌∙◌}
use mathlib.Core.Bool.{true, false, not}
use Prim.Native.Nat.{ℕ, ◌+◌, ◌-◌, ◌*◌, ◌/◌, ◌%◌, ◌^◌, ◌≤◌, ◌<◌}
use native.Mathlib.Nat.{lt_of_lt_of_le, lt_of_le_of_lt, mul_assoc, mul-le-mul_right, mul-lt-mul_of_pos_left}
use native.Mathlib.Omega.{arith}
use lib.Dec.{T, lit≤, lit<}
use borrow.Author.Tests.{lt-leb}
use lib.Pow.{pow-add, pow_pos, pow_mono, shl_lt}
use lib.Ieee as Ieee
use lib.Ieee.{Float, binary64, round, of_bits, to_bits}
use lib.IntN.{pos}
use lib.Ieee.Exact.{HasValue, round_exact}
use lib.Ieee.Fits.{add-fits}
use lib.Ieee.Bits.{of_bits-to_bits}
use Rattle.lerc_numeric.specs.Numeric.{bits64, field, sig, exp, mag, negative, sum, scaled, less, lesser}
use Rattle.lerc_numeric.specs.Inside.{error_end}
use Rattle.lerc_numeric.proofs.Format.{roof}
use Rattle.lerc_numeric.proofs.Magnitude.{sig-lt, mag-value}
use Rattle.lerc_numeric.proofs.Right.{rest-signed, bits-lt, finite64}
use Rattle.lerc_numeric.proofs.Rounds.{word_value}
use Rattle.lerc_numeric.proofs.ByMachine.{add-value, mul-value, count-value, product, product-fits, machine-sum, machine-scaled, machine-less, sum_number, sum-no-nan}

-- no count of 32 bits makes the product infinite where the error is below 2 ^ 991
pub small_product : (error q : ℕ) → error < error_end → q < 2 ^ 32 → field (scaled error q) < 2047
unfolding scaled
small_product error q h l =
    let n = 2 * q * mag error in
    let near : mag error < 2 ^ 2065 = rw (mag-value error) (lt_of_lt_of_le (roof 52 (error % 2 ^ 63)) (pow_mono {j = 2065} (omega arith))) in
    let most : n ≤ (2 ^ 33 - 2) * mag error = mul-le-mul_right (mag error) (omega arith) in
    let below : bits64 n < 2047 * 2 ^ 52 = finite64 n (lt_of_le_of_lt most (lt_of_lt_of_le (mul-lt-mul_of_pos_left near (lit< tt)) (lit≤ tt))) in
    rw (rest-signed (negative error) (bits64 n) (bits-lt n)) (fine (bits64 n) below)
  where
    fine : (b : ℕ) → b < 2047 * 2 ^ 52 → b / 2 ^ 52 < 2047
    fine b h = omega arith

-- twice such an error is exact, and times a count it is the error times twice the count
module _ (error : ℕ) (h : error < error_end) where
  value : HasValue (of_bits binary64 error) false (mag error) (2 ^ 1074)
  value = rw (lt-leb (2 ^ 63) error (omega arith)) at (word_value error (omega arith))

  twice : HasValue (Ieee.add binary64 (of_bits binary64 error) (of_bits binary64 error)) false (mag error + mag error) (2 ^ 1074)
  unfolding Ieee.sum mag
  twice =
      let e : mag error + mag error ≡ sig error * 2 ^ (exp error + 1) = rw (pow-add 2 (exp error) 1, ← mul_assoc) (omega arith) in
      let small : sig error * 2 ^ (exp error + 1) < 2 ^ 2098 = lt_of_lt_of_le (shl_lt 53 (exp error + 1) (sig-lt error)) (pow_mono {j = 2098} (omega arith)) in
      rw (add-value (of_bits binary64 error) (of_bits binary64 error) false false (mag error) (mag error) (2 ^ 1074) (pow_pos 1074) value value)
      (round_exact binary64 false (mag error + mag error) (2 ^ 1074) (sig error) (exp error + 1) (pow_pos 1074) (sig-lt error) small (rw (e)))

  pub doubled : (q : ℕ) → q < 2 ^ 32 → Ieee.mul binary64 (Ieee.add binary64 (of_bits binary64 error) (of_bits binary64 error)) (Ieee.of_int binary64 (pos q)) ≡ product error q
  doubled q l =
      let e : (mag error + mag error) * q ≡ mag error * (2 * q) = rw (mul-two (mag error)) (mul_assoc (mag error) 2 q) in
      mul-value _ (Ieee.of_int binary64 (pos q)) false false (mag error + mag error) q (2 ^ 1074) 1 (pow_pos 1074) (lit< tt) twice (count-value q (omega arith))
      ∙ ap (λ (n : ℕ). round binary64 false n (2 ^ 1074 * 1)) e
      ∙ sym (mul-value (of_bits binary64 error) (Ieee.of_int binary64 (pos (2 * q))) false false (mag error) (2 * q) (2 ^ 1074) 1 (pow_pos 1074) (lit< tt) value (count-value (2 * q) (omega arith)))
    where
      mul-two : (n : ℕ) → n + n ≡ n * 2
      mul-two n = omega arith

module _ (offset error q : ℕ) (fo : field offset < 2047) (fe : error < error_end) (lq : q < 2 ^ 32) where
  abbrev pub moved : Float
  moved = Ieee.add binary64 (of_bits binary64 offset) (product error q)

  abbrev reached : ℕ
  reached = sum offset (scaled error q)

  finite-product : field (scaled error q) < 2047
  finite-product = small_product error q fe lq

  product_is : product error q ≡ of_bits binary64 (scaled error q)
  product_is = sym (of_bits-to_bits binary64 (product error q) (product-fits error q)) ∙ ap (of_bits binary64) (machine-scaled error q (omega arith) (omega arith))

  pub moved-bits : to_bits binary64 moved ≡ reached
  moved-bits = rw (product_is) (machine-sum offset (scaled error q) fo finite-product)

  moved-is : moved ≡ of_bits binary64 reached
  moved-is = sym (of_bits-to_bits binary64 moved (add-fits binary64 (of_bits binary64 offset) (product error q))) ∙ ap (of_bits binary64) moved-bits

  pub moved-no-nan : T (not (Ieee.is_nan moved))
  moved-no-nan = rw (product_is) (sum-no-nan offset (scaled error q) fo finite-product)

  module _ (top : ℕ) (ft : field top < 2047) where
    pub test-is : Ieee.lt moved (of_bits binary64 top) ≡ less reached top
    test-is = rw (moved-is) (machine-less reached top (sum_number offset (scaled error q) fo finite-product) ft)

    pub taken-bits : Ieee.lt moved (of_bits binary64 top) ≡ true → to_bits binary64 moved ≡ lesser reached top
    unfolding lesser
    taken-bits e = rw (sym test-is ∙ e) moved-bits

    pub left-bits : Ieee.lt moved (of_bits binary64 top) ≡ false → top ≡ lesser reached top
    unfolding lesser
    left-bits e = rw (sym test-is ∙ e)
