-- The laws behind `product` and `scale`: a product of more than 64 digits, cut and jammed.
-- Assumes nothing.
use mathlib.Core.Path.{◌≡◌, sym, ap, ◌∙◌}
use mathlib.Core.Logic.{◌⊎◌, inl, inr}
use Prim.Native.Nat.{ℕ, ◌+◌, ◌-◌, ◌*◌, ◌/◌, ◌%◌, ◌^◌, ◌≤◌, ◌<◌}
use native.Mathlib.Nat.{le_trans, le_of_lt, lt_of_lt_of_le, lt_of_le_of_lt, mul_assoc, mul_comm, mul_left_comm, mul_right_comm, mul-le-mul_left, mul-lt-mul_of_pos_right, add-mul, add_comm, div-add-mod', mod-lt, add-mul-div_right, add-mul-mod_self_right, le-div_iff_mul-le, mul-le-mul, mul-zero, le-add_right, eq-zero-or-pos}
use native.Mathlib.Omega.{arith}
use lib.Dec.{lit≤, lit<}
use lib.Pow.{pow-add, pow_pos, pow_mono, shr_lt}
use lib.Ieee.{size}
use lib.Ieee.Digits.{size-lt, size-le, size_reaches}
use Rattle.lerc_numeric.specs.Numeric.{bits64, sig, exp, mag, scaled}
use Rattle.lerc_numeric.specs.Inside.{jam}
use Rattle.lerc_numeric.proofs.Jam.{jam-round, jam-is, jam_none, jam_some}
use Rattle.lerc_numeric.proofs.Magnitude.{weight, weight_is, sig-lt}

-- ---- m * q without its i lowest digits, with l for those of m
module _ (m q i l : ℕ) (el : l ≡ m % 2 ^ i) where
  whole : m * q ≡ l * q + m / 2 ^ i * q * 2 ^ i
  whole =
      ap (λ (y : ℕ). y * q) (sym (div-add-mod' m (2 ^ i)))
      ∙ rw (add-mul (m / 2 ^ i * 2 ^ i) (m % 2 ^ i) q, mul_right_comm (m / 2 ^ i) (2 ^ i) q, ← el) (add_comm (m / 2 ^ i * q * 2 ^ i) (l * q))

  top-is : m / 2 ^ i * q + l * q / 2 ^ i ≡ m * q / 2 ^ i
  top-is = rw (whole, add-mul-div_right (l * q) (m / 2 ^ i * q) (pow_pos i)) (add_comm (m / 2 ^ i * q) (l * q / 2 ^ i))

  low-is : l * q % 2 ^ i ≡ m * q % 2 ^ i
  low-is = rw (whole) (sym (add-mul-mod_self_right (l * q) (m / 2 ^ i * q) (2 ^ i)))

  pub low_fits : q < 2 ^ 32 → i < 32 → l * q < 2 ^ 64
  low_fits h k =
      let a : l ≤ 2 ^ 31 = rw (el) (le_trans (le_of_lt (mod-lt m (pow_pos i))) (pow_mono {j = 31} (omega arith))) in
      lt_of_le_of_lt (mul-le-mul a (le_of_lt h)) (lit< tt)

  pub top-fits : m * q < 2 ^ (64 + i) → m / 2 ^ i * q + l * q / 2 ^ i < 2 ^ 64
  top-fits h = rw (top-is) (shr_lt 64 i h)

  pub high_fits : m * q < 2 ^ (64 + i) → m / 2 ^ i * q < 2 ^ 64
  high_fits h = lt_of_le_of_lt (le-add_right (m / 2 ^ i * q) (l * q / 2 ^ i)) (top-fits h)

  pub product-none : (r : ℕ) → r ≡ l * q % 2 ^ i → r ≡ 0 → m / 2 ^ i * q + l * q / 2 ^ i ≡ jam (m * q) i
  product-none r er z = rw (top-is) (jam_none (m * q) i (sym low-is ∙ sym er ∙ z))

  pub product-some : (r : ℕ) → r ≡ l * q % 2 ^ i → (r ≡ 0 → ⊥) → m / 2 ^ i * q + l * q / 2 ^ i + (1 - (m / 2 ^ i * q + l * q / 2 ^ i) % 2) ≡ jam (m * q) i
  product-some r er z = rw (top-is) (jam_some (m * q) i (omega (arith, er ∙ low-is, z)))

-- ---- the digits of a product, s and t those of its factors
product_lt : (m q : ℕ) → m * q < 2 ^ (size m + size q)
product_lt m q = go (eq-zero-or-pos q)
  where
    go : (q ≡ 0) ⊎ (0 < q) → m * q < 2 ^ (size m + size q)
    go (inl z) = rw (z, mul-zero m) (pow_pos (size m + size 0))
    go (inr p) = lt_of_lt_of_le (mul-lt-mul_of_pos_right (size-lt m) p) (rw (pow-add 2 (size m) (size q)) (mul-le-mul_left (2 ^ size m) (le_of_lt (size-lt q))))

module _ (m q s t : ℕ) (es : s ≡ size m) (et : t ≡ size q) where
  pub digits-fit : s + t ≤ 64 → m * q < 2 ^ 64
  digits-fit h = lt_of_lt_of_le (product_lt m q) (pow_mono {j = 64} (omega arith))

  pub digits-wide : 64 < s + t → m * q < 2 ^ (64 + (s + t - 64))
  digits-wide h = lt_of_lt_of_le (product_lt m q) (pow_mono (omega arith))

  -- the leading digit
  large : 64 < s + t → s ≤ 53 → t ≤ 32 → 2 ^ 62 ≤ m * q / 2 ^ (s + t - 64)
  large h hs ht =
      let e : 62 + (s + t - 64) ≡ s - 1 + (t - 1) = omega arith in
      (le-div_iff_mul-le (pow_pos (s + t - 64))).1
      (rw (← pow-add 2 62 (s + t - 64), e, pow-add 2 (s - 1) (t - 1)) (mul-le-mul (size_reaches m (s - 1) (omega arith)) (size_reaches q (t - 1) (omega arith))))

jam-ge : (n i : ℕ) → n / 2 ^ i ≤ jam n i
unfolding jam
jam-ge n i = omega arith

-- ---- `scale`, with m and e for the parts of a
module _ (a q m e : ℕ) (la : a < 2 ^ 64) (em : m ≡ sig a) (ee : e ≡ exp a) where
  shape : (p : ℕ) → 2 * q * (m * p) ≡ m * q * (p * 2)
  shape p = simp (mul_assoc, mul_comm, mul_left_comm)

  pub scaled-fit : (r : ℕ) → r ≡ bits64 (m * q * 2 ^ (e + 1)) → weight a + r ≡ scaled a q
  unfolding scaled mag
  scaled-fit r h = rw (h, weight_is a la, ← em, ← ee, shape (2 ^ e), pow-add 2 e 1)

  pub scaled-wide : (s t j r : ℕ) → s ≡ size m → t ≡ size q → 64 < s + t → s ≤ 53 → t ≤ 32 → j ≡ jam (m * q) (s + t - 64) → r ≡ bits64 (j * 2 ^ (s + t - 64 + (e + 1))) → weight a + r ≡ scaled a q
  scaled-wide s t j r es et h hs ht hj hr =
      let i = s + t - 64 in
      let l : 2 ^ 54 ≤ jam (m * q) i = le_trans (lit≤ tt) (le_trans (large m q s t es et h hs ht) (jam-ge (m * q) i)) in
      scaled-fit r (hr ∙ rw (hj) (sym (jam-round (jam (m * q) i) i (m * q) (e + 1) (jam-is (m * q) i) l)))

pub sig-digits : (a m s : ℕ) → m ≡ sig a → s ≡ size m → s ≤ 53
sig-digits a m s em es = rw (es) (size-le m 53 (rw (em) (sig-lt a)))

pub count-digits : (q s : ℕ) → q < 2 ^ 32 → s ≡ size q → s ≤ 32
count-digits q s h es = rw (es) (size-le q 32 h)
