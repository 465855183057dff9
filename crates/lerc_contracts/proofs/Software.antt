-- lerc_numeric.rs: the bodies that end in `pack`, of a product and of a stored word, compute ours.
-- Assumes nothing.
use mathlib.Core.Path.{◌≡◌, refl, sym, ap, ◌∙◌}
use mathlib.Core.Bool.{Bool, true, false, cond, ◌&&◌}
use Prim.Native.Nat.{ℕ, ◌+◌, ◌-◌, ◌*◌, ◌/◌, ◌%◌, ◌^◌, ◌≤◌, ◌<◌, min}
use native.Mathlib.Omega.{arith}
use native.Mathlib.Numerals.{add-one}
use native.Mathlib.Nat.{mul_assoc, mul_comm, pow-suc, mul-le-mul, le_of_lt, lt_of_le_of_lt, lt_of_lt_of_le, mod-eq_of_lt}
use native.Mathlib.Decide.{dec_lt}
use borrow.Author.Tests.{eq-eqb, ne_eqb}
use lib.Dec.{leb, eqb, lit<, lit≤}
use lib.Pow.{pow-add}
use Rattle.lerc_numeric.specs.Numeric.{sig, exp, mag, signed, bits64, scaled}
use Rattle.lerc_numeric.specs.Kinds as kinds
use Rattle.lerc_numeric.specs.Kinds.{field32, widened, value_of}
use Rattle.lerc_numeric.proofs.Magnitude.{sig-lt}
use Rattle.lerc_numeric.proofs.Integers.{value-int, value-six, value-last, modulus-le}
use Rattle.lerc_contracts.proofs.Numeric.{mantissa-is, exponent-is, modulus-is}
use Rattle.lerc_contracts.proofs.Pack.{or_parts, pack-units}
use Rattle.lerc_contracts.specs.Numeric.{sign, mantissa, exponent, modulus_of, power, scale_software, number_six, number_software}

-- ---- `scale_software`

-- the product, as a whole number of units
scaled-units : (a q : ℕ) → a < 2 ^ 64 → scaled a q ≡ signed (sign a) (bits64 (mantissa a * q * 2 ^ (exponent a + 1)))
unfolding scaled mag
scaled-units a q l =
    let p : 2 ^ (exp a + 1) ≡ 2 ^ exp a * 2 = rw (add-one) (pow-suc 2 (exp a)) in
    let e : 2 * q * (sig a * 2 ^ exp a) ≡ sig a * q * (2 ^ exp a * 2) = ring-like (sig a) q (2 ^ exp a) in
    rw (mantissa-is a l, exponent-is a l, p, e)
  where
    ring-like : (s q x : ℕ) → 2 * q * (s * x) ≡ s * q * (x * 2)
    ring-like s q x =
        mul_assoc 2 q (s * x) ∙ mul_comm 2 (q * (s * x)) ∙ ap (λ (y : ℕ). y * 2) (sym (mul_assoc q s x) ∙ ap (λ (y : ℕ). y * x) (mul_comm q s)) ∙ mul_assoc (s * q) x 2

-- 1.28, 1.42
pub scale-is : (a q : ℕ) → a < 2 ^ 64 → q < 2 ^ 32 → scale_software a q ≡ scaled a q
unfolding scale_software
scale-is a q la lq =
    let m : mantissa a * q ≤ 2 ^ 53 * 2 ^ 32 = rw (mantissa-is a la) (mul-le-mul (le_of_lt (sig-lt a)) (le_of_lt lq)) in
    let e : power (exponent a) + 1 ≡ power (exponent a + 1) = omega arith in
    rw (e) (pack-units (sign a) (mantissa a * q) (exponent a + 1) (lt_of_le_of_lt m (lit< tt)) ∙ sym (scaled-units a q la))

-- ---- `number_software`

module _ (v : ℕ) (l : v < 2 ^ 32) where
  field_at : v / 2 ^ 23 % 256 ≡ field32 v
  field_at = omega arith

  six-top : field32 v ≡ 255 → number_six v ≡ widened v
  unfolding number_six widened
  six-top f = rw (field_at, eq-eqb (field32 v) 255 f) (or_parts (leb (2 ^ 31) v) 11 52 2047 (v % 2 ^ 23 * 2 ^ 29) (lit< tt) (omega arith))

  -- its digits and its power, as the body has them
  digits-at : Dec (0 < field32 v) → v % 2 ^ 23 + cond (eqb (field32 v) 0) 0 (2 ^ 23) ≡ min 1 (field32 v) * 2 ^ 23 + v % 2 ^ 23
  digits-at (yes p) = rw (ne_eqb (field32 v) 0 (λ e. omega arith)) (omega arith)
  digits-at (no p) = rw (eq-eqb (field32 v) 0 (omega arith)) (omega arith)

  power_at : Dec (0 < field32 v) → cond (eqb (field32 v) 0) 3947 (field32 v + 3946) ≡ power (field32 v - 1 + 925)
  power_at (yes p) = rw (ne_eqb (field32 v) 0 (λ e. omega arith)) (omega arith)
  power_at (no p) = rw (eq-eqb (field32 v) 0 (omega arith)) (omega arith)

  six-some : field32 v < 255 → number_six v ≡ widened v
  unfolding number_six widened
  six-some f =
      let m = min 1 (field32 v) * 2 ^ 23 + v % 2 ^ 23 in
      let x = field32 v - 1 in
      let small : m < 2 ^ 24 = omega arith in
      let e : m * 2 ^ (x + 925) ≡ m * 2 ^ x * 2 ^ 925 = rw (pow-add 2 x 925) (sym (mul_assoc m (2 ^ x) (2 ^ 925))) in
      rw (field_at, ne_eqb (field32 v) 255 (λ e. omega arith), digits-at (dec_lt 0 (field32 v)), power_at (dec_lt 0 (field32 v)))
      (pack-units (leb (2 ^ 31) v) m (x + 925) (lt_of_lt_of_le small (lit≤ tt)) ∙ ap (λ (y : ℕ). signed (leb (2 ^ 31) v) (bits64 y)) e)

  six-is : number_six v ≡ widened v
  six-is = go (dec_lt (field32 v) 255)
    where
      go : Dec (field32 v < 255) → number_six v ≡ widened v
      go (yes f) = six-some f
      go (no f) = six-top (omega arith)

-- a whole number
whole_is : (kind v : ℕ) → kind < 6 → v < modulus_of kind → number_software v kind ≡ kinds.integer kind v
unfolding number_software kinds.integer
whole_is kind v k l =
    rw (ne_eqb kind 7 (λ e. omega arith), ne_eqb kind 6 (λ e. omega arith), modulus-is kind k)
    (pack-units s (cond s (m - v) v) 1074 (lt_of_le_of_lt (small s) (lit< tt)))
  where
    m : ℕ
    m = kinds.modulus kind

    s : Bool
    s = eqb (kind % 2) 0 && leb (kinds.modulus kind / 2) v

    small : (t : Bool) → cond t (kinds.modulus kind - v) v ≤ 2 ^ 32
    small true = omega (arith, modulus-le kind k)
    small false = let u = rw (modulus-is kind k) at l in omega (arith, u, modulus-le kind k)

-- 1.37, 1.47
pub number_is : (v kind : ℕ) → kind < 8 → (kind < 7 → v < modulus_of kind) → v < 2 ^ 64 → number_software v kind ≡ value_of kind v
unfolding number_software
number_is v kind k fits l = go (dec_lt kind 6) (dec_lt kind 7)
  where
    go : Dec (kind < 6) → Dec (kind < 7) → number_software v kind ≡ value_of kind v
    go (yes a) b =
        let f : v < modulus_of kind = fits (omega arith) in
        let z : v % kinds.modulus kind ≡ v = mod-eq_of_lt (rw (modulus-is kind a) at f) in
        value-int kind v (kinds.modulus kind) (number_software v kind) refl a (rw (z) (whole_is kind v a f))
    go (no a) (yes b) =
        let e : kind ≡ 6 = omega arith in
        let f : v < 2 ^ 32 = rw (e) at (fits b) in
        let z : v % 2 ^ 32 ≡ v = mod-eq_of_lt f in
        let n : number_software v kind ≡ number_six v = rw (e) in
        value-six kind v (number_software v kind) e (rw (z) (n ∙ six-is v f))
    go (no a) (no b) =
        let e : kind ≡ 7 = omega arith in
        let n : number_software v kind ≡ v = rw (e) in
        n ∙ value-last kind v (omega arith) (λ d. absurd (omega arith)) l
