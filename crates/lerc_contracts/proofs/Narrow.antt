-- lerc_numeric.rs: `narrow_software` computes ours.
-- Assumes nothing.
use mathlib.Core.Path.{◌≡◌, refl, ap, ◌∙◌}
use mathlib.Core.Bool.{cond, ◌&&◌}
use Prim.Native.Nat.{ℕ, ◌+◌, ◌-◌, ◌*◌, ◌/◌, ◌%◌, ◌^◌, ◌≤◌, ◌<◌}
use native.Mathlib.Omega.{arith}
use native.Mathlib.Nat.{mul_assoc, lt_of_lt_of_le, lt_of_le_of_lt}
use native.Mathlib.Decide.{dec_lt, dec_le}
use borrow.Author.Tests.{le-leb, lt-leb, eq-eqb, ne_eqb}
use lib.Dec.{leb, eqb, lit<, lit≤}
use lib.Bits.{bit_or, or_shifted_r}
use lib.Pow.{pow-add, pow_pos}
use lib.Ieee.{size}
use lib.Ieee.Nearest.{closest}
use Rattle.lerc_numeric.specs.Numeric.{negative, field, sig, exp, mag}
use Rattle.lerc_numeric.specs.Kinds.{narrowed}
use Rattle.lerc_numeric.specs.Inside.{unsigned32}
use Rattle.lerc_numeric.proofs.Magnitude.{sig-lt}
use Rattle.lerc_numeric.proofs.Binary32.{narrow-normal, unsigned-lt}
use Rattle.lerc_contracts.proofs.Numeric.{field_is, mantissa-is, exponent-is, rounded-is}
use Rattle.lerc_contracts.proofs.Rounding.{highest-is, round_is, round-small}
use Rattle.lerc_contracts.proofs.Pack.{or-sign, or_parts, small_of, slow-is, code_same}
use Rattle.lerc_contracts.specs.Numeric.{rounded, narrow_near, narrow_other, narrow_software}

module _ (v : ℕ) (l : v < 2 ^ 64) where
  abbrev sg : ℕ
  sg = cond (negative v) (2 ^ 31) 0

  -- without the sign
  narrowed-is : sg + unsigned32 v ≡ narrowed v
  unfolding narrowed unsigned32
  narrowed-is = refl

  near-is : 897 ≤ field v → field v ≤ 1150 → narrow_near v sg ≡ narrowed v
  unfolding narrow_near rounded
  near-is a b =
      let m : bit_or (v % 2 ^ 52) (2 ^ 52) ≡ sig v = or_shifted_r 1 52 (v % 2 ^ 52) (omega arith) ∙ (let z : 1 * 2 ^ 52 + v % 2 ^ 52 ≡ sig v = omega arith in z) in
      let f : field v - 897 ≡ exp v - 896 = omega arith in
      let x : (exp v - 896) * 2 ^ 23 + closest (sig v) (2 ^ 29) ≡ unsigned32 v =
      narrow-normal v (sig v) (exp v) refl refl (λ e. absurd (omega arith)) (closest (sig v) (2 ^ 29)) (omega arith) refl (omega arith) in
      let r = rounded-is (sig v) 29 (lit< tt) in
      rw (field_is v l, m, f) (ap (λ (t : ℕ). bit_or sg ((exp v - 896) * 2 ^ 23 + t)) r ∙ rw (x) (or-sign (negative v) 31 (unsigned32 v) (unsigned-lt v) ∙ narrowed-is))

  top-is : field v ≡ 2047 → bit_or (bit_or sg 0x7f800000) (v % 2 ^ 52 / 2 ^ 29) ≡ narrowed v
  unfolding narrowed
  top-is f = rw (eq-eqb (field v) 2047 f) (or_parts (negative v) 8 23 255 (v % 2 ^ 52 / 2 ^ 29) (lit< tt) (omega arith))

  other-is : (field v ≡ 2047 → ⊥) → narrow_other v sg ≡ narrowed v
  unfolding narrow_other narrowed mag
  other-is f =
      let m = sig v in
      let e = exp v in
      let lm : m < 2 ^ 128 = lt_of_lt_of_le (sig-lt v) (lit≤ tt) in
      let small = small_of 23 925 (size m - 1) e in
      let q = closest m (2 ^ small) in
      let z : e + (925 - e) ≡ e - 925 + 925 = omega arith in
      let x : m * 2 ^ (e - 925) * 2 ^ 925 ≡ m * 2 ^ e * 2 ^ (925 - e) = rw (mul_assoc m (2 ^ (e - 925)) (2 ^ 925), mul_assoc m (2 ^ e) (2 ^ (925 - e)), ← pow-add 2 (e - 925) 925, ← pow-add 2 e (925 - e), z) in
      rw (mantissa-is v l, exponent-is v l, highest-is m lm, round_is m small lm, highest-is q (lt_of_le_of_lt (round-small m small) lm), ne_eqb (field v) 2047 f)
      (slow-is 23 8 32 253 925 (lit< tt) (lit≤ tt) (lit< tt) (negative v) m e small q refl refl
      ∙ ap (λ (y : ℕ). sg + y) (code_same 23 (255 * 2 ^ 23) (m * 2 ^ (e - 925)) (2 ^ (925 - e)) (m * 2 ^ e) (2 ^ 925) (pow_pos (925 - e)) (pow_pos 925) x))

  -- 1.38, 1.44
  pub narrow-is : narrow_software v ≡ narrowed v
  unfolding narrow_software
  narrow-is = rw (field_is v l) (go (dec_le 897 (field v)) (dec_le (field v) 1150))
    where
      far : Dec (field v < 2047) → cond (eqb (field v) 2047) (bit_or (bit_or sg 0x7f800000) (v % 2 ^ 52 / 2 ^ 29)) (narrow_other v sg) ≡ narrowed v
      far (no f) = let e : field v ≡ 2047 = omega arith in rw (eq-eqb (field v) 2047 e) (top-is e)
      far (yes f) = let n : field v ≡ 2047 → ⊥ = λ e. absurd (omega arith) in rw (ne_eqb (field v) 2047 n) (other-is n)

      go : Dec (897 ≤ field v) → Dec (field v ≤ 1150) → cond (leb 897 (field v) && leb (field v) 1150) (narrow_near v sg) (cond (eqb (field v) 2047) (bit_or (bit_or sg 0x7f800000) (v % 2 ^ 52 / 2 ^ 29)) (narrow_other v sg)) ≡ narrowed v
      go (yes a) (yes b) = rw (le-leb 897 (field v) a, le-leb (field v) 1150 b) (near-is a b)
      go (yes a) (no b) = rw (le-leb 897 (field v) a, lt-leb (field v) 1150 (omega arith)) (far (dec_lt (field v) 2047))
      go (no a) _ = rw (lt-leb 897 (field v) (omega arith)) (far (dec_lt (field v) 2047))
