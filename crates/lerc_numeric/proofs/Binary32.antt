-- The laws behind `narrow` and `widen`: where the digits of a binary64 lie in a binary32, and back.
-- Assumes nothing.
use mathlib.Core.Path.{◌≡◌, refl, sym, ap, ◌∙◌, subst}
use mathlib.Core.Bool.{Bool, true, false, cond}
use Prim.Native.Nat.{ℕ, suc, ◌+◌, ◌-◌, ◌*◌, ◌/◌, ◌%◌, ◌^◌, ◌≤◌, ◌<◌, min, compare}
use native.Mathlib.Nat.{le_trans, le_of_eq, lt_of_lt_of_le, mul_assoc, mul-le-mul_right, le-div_iff_mul-le, div-eq_of_lt, mod-eq_of_lt}
use native.Mathlib.Omega.{arith}
use borrow.Author.Tests.{eq-eqb, ne_eqb}
use lib.Dec.{eqb, lit≤, lit<}
use lib.Pow.{pow-add, pow_pos, pow_mono, shl_lt, shr_lt}
use lib.Ieee.{size}
use lib.Ieee.Fits.{nearest-le}
use lib.Ieee.Digits.{size-le}
use lib.Ieee.Nearest.{closest}
use Rattle.lerc_numeric.specs.Numeric.{bits64, bits32, code, sig, exp, field, mag}
use Rattle.lerc_numeric.specs.Kinds.{field32, widened, narrowed}
use Rattle.lerc_numeric.specs.Inside.{unsigned32}
use Rattle.lerc_numeric.proofs.Closest.{near_down, closest-moved}
use Rattle.lerc_numeric.proofs.Digits.{size_exact}
use Rattle.lerc_numeric.proofs.Format.{code_at}
use Rattle.lerc_numeric.proofs.Bits.{kept-le, kept-ge}
use Rattle.lerc_numeric.proofs.Magnitude.{sig-lt, bits-le, sign-is}

-- ---- the bits of m * 2 ^ e
-- from the smallest normal binary32 on, with 53 digits
module _ (m e : ℕ) (lo : 2 ^ 52 ≤ m) (hi : m < 2 ^ 53) (h : 896 ≤ e) where
  drops : size (m * 2 ^ e / 2 ^ 925) - 24 ≡ e - 896
  drops =
      let a : 2 ^ (e - 873) ≤ m * 2 ^ e / 2 ^ 925 =
      (le-div_iff_mul-le (pow_pos 925)).1
      (le_trans (le_of_eq (sym (pow-add 2 (e - 873) 925) ∙ ap (λ (y : ℕ). 2 ^ y) (omega arith) ∙ pow-add 2 52 e)) (mul-le-mul_right (2 ^ e) lo)) in
      let b : m * 2 ^ e / 2 ^ 925 < 2 ^ suc (e - 873) = shr_lt (suc (e - 873)) 925 (lt_of_lt_of_le (shl_lt 53 e hi) (pow_mono (omega arith))) in
      omega (arith, size_exact (m * 2 ^ e / 2 ^ 925) (e - 873) a b)

  normal : bits32 (m * 2 ^ e) ≡ min (255 * 2 ^ 23) ((e - 896) * 2 ^ 23 + closest m (2 ^ 29))
  normal =
      let z : 925 + (e - 896) - e ≡ 29 = omega arith in
      code_at 23 (255 * 2 ^ 23) (m * 2 ^ e) 925 (e - 896) drops ∙ rw (closest-moved m e (925 + (e - 896)) (omega arith), z)

  s53 : size m ≡ 53
  s53 = size_exact m 52 lo hi

  kept-24 : closest m (2 ^ 29) ≤ 2 ^ 24
  kept-24 = subst (λ (y : ℕ). closest m (2 ^ (y - 24)) ≤ 2 ^ 24) s53 (kept-le 23 m)

  kept-23 : 2 ^ 23 ≤ closest m (2 ^ 29)
  kept-23 = subst (λ (y : ℕ). 2 ^ 23 ≤ closest m (2 ^ (y - 24))) s53 (kept-ge 23 m (omega (arith, s53)))

-- below it
module _ (m e : ℕ) (hi : m < 2 ^ 53) (h : e < 896) where
  small : bits32 (m * 2 ^ e) ≡ min (255 * 2 ^ 23) (0 * 2 ^ 23 + closest m (2 ^ (925 - e)))
  small =
      let l : m * 2 ^ e / 2 ^ 925 < 2 ^ 24 = shr_lt 24 925 (lt_of_lt_of_le (shl_lt 53 e hi) (pow_mono {j = 949} (omega arith))) in
      code_at 23 (255 * 2 ^ 23) (m * 2 ^ e) 925 0 (omega (arith, size-le (m * 2 ^ e / 2 ^ 925) 24 l)) ∙ rw (closest-moved m e 925 (omega arith))

  -- m / 2 ^ (925 - e) is below 2 ^ 23
  small-kept : closest m (2 ^ (925 - e)) ≤ 2 ^ 23
  small-kept =
      let u = 2 ^ (925 - e) in
      le_trans (nearest-le (m / u) (compare (m % u * 2) u)) (shr_lt 23 (925 - e) (lt_of_lt_of_le hi (pow_mono {i = 53} (omega arith))))

  small-fin : bits32 (m * 2 ^ e) ≡ closest m (2 ^ (925 - e))
  small-fin = omega (arith, small, small-kept)

  small-zero : e ≤ 861 → bits32 (m * 2 ^ e) ≡ 0
  small-zero k =
      let u = 2 ^ (925 - e) in
      let big : 2 ^ 64 ≤ u = pow_mono {i = 64} (omega arith) in
      let l : m < u = lt_of_lt_of_le hi (le_trans (lit≤ tt) big) in
      let z : m * 2 < u = omega arith in
      small-fin ∙ sym (near_down m u m u (sym (mod-eq_of_lt l)) refl z) ∙ div-eq_of_lt l

-- ---- what `unsigned` does in each case
pub narrow-top : (w : ℕ) → field w ≡ 2047 → 255 * 2 ^ 23 + w % 2 ^ 52 / 2 ^ 29 ≡ unsigned32 w
unfolding unsigned32
narrow-top w h = rw (eq-eqb (field w) 2047 h)

-- with m and e for the parts of w
module _ (w m e : ℕ) (em : m ≡ sig w) (ee : e ≡ exp w) (nf : field w ≡ 2047 → ⊥) where
  rest : unsigned32 w ≡ bits32 (m * 2 ^ e)
  unfolding unsigned32 mag
  rest = rw (ne_eqb (field w) 2047 nf, em, ee)

  m-lt : m < 2 ^ 53
  m-lt = omega (arith, sig-lt w)

  m-ge : 896 ≤ e → 2 ^ 52 ≤ m
  m-ge h = omega arith

  pub narrow-inf : 896 ≤ e → 254 ≤ e - 896 → 255 * 2 ^ 23 ≡ unsigned32 w
  narrow-inf h k = omega (arith, rest, normal m e (m-ge h) m-lt h, kept-23 m e (m-ge h) m-lt h)

  module _ (r : ℕ) (h : 896 ≤ e) (er : r ≡ closest m (2 ^ 29)) where
    pub narrow-fits : r ≤ 2 ^ 24
    narrow-fits = omega (arith, kept-24 m e (m-ge h) m-lt h)

    pub narrow-normal : e - 896 < 254 → (e - 896) * 2 ^ 23 + r ≡ unsigned32 w
    narrow-normal k = omega (arith, rest, normal m e (m-ge h) m-lt h, kept-24 m e (m-ge h) m-lt h)

  pub narrow-zero : e < 896 → e ≤ 861 → 0 ≡ unsigned32 w
  narrow-zero h k = sym (rest ∙ small-zero m e m-lt h k)

  pub narrow-small : (r : ℕ) → e < 896 → r ≡ closest m (2 ^ (925 - e)) → r ≡ unsigned32 w
  narrow-small r h er = er ∙ sym (rest ∙ small-fin m e m-lt h)

pub unsigned-lt : (w : ℕ) → unsigned32 w < 2 ^ 31
unfolding unsigned32 code
unsigned-lt w = go (eqb (field w) 2047)
  where
    go : (b : Bool) → cond b (255 * 2 ^ 23 + w % 2 ^ 52 / 2 ^ 29) (bits32 (mag w)) < 2 ^ 31
    go true = omega arith
    go false = omega arith

pub narrow-is : (w : ℕ) → w < 2 ^ 64 → w / 2 ^ 63 * 2 ^ 31 + unsigned32 w ≡ narrowed w
unfolding narrowed unsigned32
narrow-is w h = rw (sign-is (2 ^ 63) (2 ^ 31) w (lit< tt) h)

pub narrowed-lt : (w : ℕ) → w < 2 ^ 64 → narrowed w < 2 ^ 32
narrowed-lt w h = omega (arith, narrow-is w h, unsigned-lt w)

-- ---- what `widen` does
module _ (v : ℕ) (lv : v < 2 ^ 32) where
  sign : cond (lib.Dec.leb (2 ^ 31) v) (2 ^ 63) 0 ≡ v / 2 ^ 31 * 2 ^ 63
  sign = sign-is (2 ^ 31) (2 ^ 63) v (lit< tt) lv

  pub wide-top : field32 v ≡ 255 → v / 2 ^ 31 * 2 ^ 63 + (2047 * 2 ^ 52 + v % 2 ^ 23 * 2 ^ 29) ≡ widened v
  unfolding widened
  wide-top h = rw (sign, eq-eqb (field32 v) 255 h)

  -- s and x are the parts of v
  wide-part : (s x r : ℕ) → (field32 v ≡ 255 → ⊥) → s ≡ min 1 (field32 v) * 2 ^ 23 + v % 2 ^ 23 → x ≡ field32 v - 1 → r ≡ bits64 (s * 2 ^ (x + 925)) → v / 2 ^ 31 * 2 ^ 63 + r ≡ widened v
  unfolding widened
  wide-part s x r h es ex er = rw (sign, ne_eqb (field32 v) 255 h, ← es, ← ex, mul_assoc s (2 ^ x) (2 ^ 925), ← pow-add 2 x 925, er)

  pub wide-zero : (r : ℕ) → field32 v ≡ 0 → r ≡ bits64 (v % 2 ^ 23 * 2 ^ 925) → v / 2 ^ 31 * 2 ^ 63 + r ≡ widened v
  wide-zero r h er = wide-part (v % 2 ^ 23) 0 r (λ e. absurd (omega arith)) (omega arith) (omega arith) er

  pub wide-some : (r : ℕ) → (field32 v ≡ 255 → ⊥) → (field32 v ≡ 0 → ⊥) → r ≡ bits64 ((2 ^ 23 + v % 2 ^ 23) * 2 ^ (field32 v - 1 + 925)) → v / 2 ^ 31 * 2 ^ 63 + r ≡ widened v
  wide-some r h k er = wide-part (2 ^ 23 + v % 2 ^ 23) (field32 v - 1) r h (omega arith) refl er

  pub wide_fits : (n r : ℕ) → r ≡ bits64 n → v / 2 ^ 31 * 2 ^ 63 + r < 2 ^ 64
  wide_fits n r e = omega (arith, bits-le n)
