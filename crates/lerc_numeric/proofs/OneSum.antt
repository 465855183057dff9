-- Rounding to a normal binary32 by one sum over the word.
-- Assumes nothing.
use mathlib.Core.Path.{◌≡◌, refl, sym, ap, ◌∙◌}
use Prim.Native.Nat.{ℕ, suc, ◌+◌, ◌-◌, ◌*◌, ◌/◌, ◌%◌, ◌^◌, ◌≤◌, ◌<◌}
use native.Mathlib.Decide.{dec_lt}
use native.Mathlib.Omega.{arith}
use lib.Ieee.Nearest.{closest}
use Rattle.lerc_numeric.specs.Numeric.{sig, exp}
use Rattle.lerc_numeric.specs.Inside.{unsigned32, sign_of}
use Rattle.lerc_numeric.proofs.Closest.{near_down, near_up, near-tie}
use Rattle.lerc_numeric.proofs.Binary32.{narrow-normal}

-- half a unit less one, and one more where the last digit kept is odd
abbrev pub one_sum : ℕ → ℕ
one_sum x = (x + (2 ^ 28 - 1) + x / 2 ^ 29 % 2) / 2 ^ 29

nearest-sum : (m : ℕ) → closest m (2 ^ 29) ≡ one_sum m
nearest-sum m = go (dec_lt (m % 2 ^ 29 * 2) (2 ^ 29)) (dec_lt (2 ^ 29) (m % 2 ^ 29 * 2))
  where
    go : Dec (m % 2 ^ 29 * 2 < 2 ^ 29) → Dec (2 ^ 29 < m % 2 ^ 29 * 2) → closest m (2 ^ 29) ≡ one_sum m
    go (yes l) k = sym (near_down m (2 ^ 29) (m % 2 ^ 29) (2 ^ 29) refl refl l) ∙ omega arith
    go (no g) (yes k) = sym (near_up m (2 ^ 29) (m % 2 ^ 29) (2 ^ 29) refl refl k) ∙ omega arith
    go (no g) (no k) =
        let a : 2 ^ 29 ≤ m % 2 ^ 29 * 2 = omega arith in
        let b : m % 2 ^ 29 * 2 ≤ 2 ^ 29 = omega arith in
        sym (near-tie m (2 ^ 29) (m % 2 ^ 29) (2 ^ 29) refl refl a b) ∙ omega arith

-- the field stands above the digits and is not rounded
beside : (g t : ℕ) → one_sum (suc g * 2 ^ 52 + t) ≡ g * 2 ^ 23 + one_sum (2 ^ 52 + t)
beside g t =
    let last : (suc g * 2 ^ 52 + t) / 2 ^ 29 % 2 ≡ (2 ^ 52 + t) / 2 ^ 29 % 2 = omega arith in
    rw (last) (apart ((2 ^ 52 + t) / 2 ^ 29 % 2))
  where
    apart : (z : ℕ) → (suc g * 2 ^ 52 + t + (2 ^ 28 - 1) + z) / 2 ^ 29 ≡ g * 2 ^ 23 + (2 ^ 52 + t + (2 ^ 28 - 1) + z) / 2 ^ 29
    apart z = omega arith

-- with x for the magnitude's bits of w, from 2 ^ -126 on and below 2 ^ 128
module _ (w x : ℕ) (e : x ≡ w % 2 ^ 63) (lo : 897 * 2 ^ 52 ≤ x) (hi : x < 1151 * 2 ^ 52) where
  parts : one_sum x ≡ exp w * 2 ^ 23 + closest (sig w) (2 ^ 29)
  parts =
      let field-on : x ≡ suc (exp w) * 2 ^ 52 + w % 2 ^ 52 = omega arith in
      let digits : sig w ≡ 2 ^ 52 + w % 2 ^ 52 = omega arith in
      rw (field-on, digits, nearest-sum (2 ^ 52 + w % 2 ^ 52)) (beside (exp w) (w % 2 ^ 52))

  pub one-sum : one_sum x - 896 * 2 ^ 23 ≡ unsigned32 w
  one-sum =
      let normal = narrow-normal w (sig w) (exp w) refl refl (λ z. absurd (omega arith)) (closest (sig w) (2 ^ 29)) (omega arith) refl (omega arith) in
      moved (closest (sig w) (2 ^ 29)) (exp w) (unsigned32 w) (omega arith) parts normal
    where
      moved : (c g u : ℕ) → 896 ≤ g → one_sum x ≡ g * 2 ^ 23 + c → (g - 896) * 2 ^ 23 + c ≡ u → one_sum x - 896 * 2 ^ 23 ≡ u
      moved c g u l p n = rw (p) (omega (arith, l, n))

-- the sign stands above the field, and is not rounded either: of a whole word the sum has it at 2 ^ 34
above : (s x : ℕ) → one_sum (s * 2 ^ 63 + x) ≡ s * 2 ^ 34 + one_sum x
above s x =
    let last : (s * 2 ^ 63 + x) / 2 ^ 29 % 2 ≡ x / 2 ^ 29 % 2 = omega arith in
    rw (last) (apart (x / 2 ^ 29 % 2))
  where
    apart : (z : ℕ) → (s * 2 ^ 63 + x + (2 ^ 28 - 1) + z) / 2 ^ 29 ≡ s * 2 ^ 34 + (x + (2 ^ 28 - 1) + z) / 2 ^ 29
    apart z = omega arith

pub sign-apart : (w s : ℕ) → w < 2 ^ 64 → s ≡ sign_of w → 897 * 2 ^ 52 ≤ w % 2 ^ 63 → (u : ℕ) → one_sum (w % 2 ^ 63) - 896 * 2 ^ 23 ≡ u
    → one_sum w - (896 * 2 ^ 23 + s * (2 ^ 34 - 2 ^ 31)) ≡ w / 2 ^ 63 * 2 ^ 31 + u
sign-apart w s l e h u d =
    let whole : w ≡ w / 2 ^ 63 * 2 ^ 63 + w % 2 ^ 63 = omega arith in
    let sign : s ≡ w / 2 ^ 63 = omega arith in
    let least : 896 * 2 ^ 23 ≤ one_sum (w % 2 ^ 63) = omega (arith, h) in
    joined (w / 2 ^ 63) (one_sum (w % 2 ^ 63)) (ap one_sum whole ∙ above (w / 2 ^ 63) (w % 2 ^ 63)) sign least d
  where
    joined : (t o : ℕ) → one_sum w ≡ t * 2 ^ 34 + o → s ≡ t → 896 * 2 ^ 23 ≤ o → o - 896 * 2 ^ 23 ≡ u → one_sum w - (896 * 2 ^ 23 + s * (2 ^ 34 - 2 ^ 31)) ≡ t * 2 ^ 31 + u
    joined t o p q m n = rw (p, q) (omega (arith, m, n))

-- without its sign a word is rounded as with it
pub low_alike : (w : ℕ) → 897 * 2 ^ 52 ≤ w % 2 ^ 63 → w % 2 ^ 63 < 1151 * 2 ^ 52 → unsigned32 (w % 2 ^ 63) ≡ unsigned32 w
low_alike w lo hi =
    let same : w % 2 ^ 63 ≡ w % 2 ^ 63 % 2 ^ 63 = omega arith in
    sym (one-sum (w % 2 ^ 63) (w % 2 ^ 63) same lo hi) ∙ one-sum w (w % 2 ^ 63) refl lo hi
