-- The laws behind `twice_whole` and `raised`: both by their tests, and what they say.
-- Assumes nothing.
use mathlib.Core.Path.{◌≡◌, refl, sym, ap, ◌∙◌}
use mathlib.Core.Bool.{Bool, true, false, not, cond, ◌&&◌, and-false}
use Prim.Native.Nat.{ℕ, suc, ◌+◌, ◌-◌, ◌*◌, ◌/◌, ◌%◌, ◌^◌, ◌≤◌, ◌<◌}
use native.Mathlib.Nat.{lt_of_lt_of_le, lt_of_le_of_lt, mul_assoc, mul-le-mul, div-eq_of_lt, mod-eq_of_lt, mod-lt, le-div_iff_mul-le, div-mul-le_self, mul-div-mul_right, eq_of_mul-eq-mul_right, pow-suc}
use native.Mathlib.Decide.{dec_lt}
use native.Mathlib.Omega.{arith}
use borrow.Author.Tests.{lt-ltb, le-ltb, le-leb, lt-leb, leb-true, eq-eqb, ne_eqb, eqb-true, not-true}
use lib.Dec.{ltb, leb, eqb, lit≤, lit<}
use lib.Bits.{bit_and, and_mask}
use lib.Pow.{pow_pos, pow-add, pow_mono, shl_lt}
use Rattle.lerc_words.proofs.Binding.{and_is}
use Rattle.lerc_numeric.specs.Numeric.{sig, exp, mag, negative}
use Rattle.lerc_numeric.specs.Kinds.{type_size, modulus, signed_kind}
use Rattle.lerc_numeric.specs.Whole.{twice_whole, raised}
use Rattle.lerc_numeric.proofs.Magnitude.{sig-lt}
use Rattle.lerc_numeric.proofs.Integers.{sizes, modulus-le}

-- ---- `twice_whole` by its tests
abbrev doubled : ℕ → ℕ
doubled w = mag w * 2 / 2 ^ 1074

pub twice-negative : (w : ℕ) → 2 ^ 63 ≤ w → 0 ≡ twice_whole w
unfolding twice_whole
twice-negative w h = rw (le-leb (2 ^ 63) w h)

-- none is less than 1
none : (w : ℕ) → doubled w ≡ 0 → 0 ≡ twice_whole w
unfolding twice_whole
none w h = rw (h) (go (not (negative w) && eqb (0 * 2 ^ 1074) (mag w * 2)))
  where
    go : (t : Bool) → ◌≡◌ {A = ℕ} 0 (cond (t && true) 0 0)
    go true = refl
    go false = refl

-- none is more than 2 ^ 20
over : (w : ℕ) → 2 ^ 20 < doubled w → 0 ≡ twice_whole w
unfolding twice_whole
over w h = rw (lt-leb (doubled w) (2 ^ 20) h, and-false)

-- with e and m for the parts of w
module _ (w e : ℕ) (ee : e ≡ exp w) where
  units : mag w * 2 ≡ sig w * 2 ^ suc e
  unfolding mag
  units = rw (← ee, mul_assoc (sig w) (2 ^ e) 2, ← pow-suc 2 e)

  pub twice-low : e < 1021 → 0 ≡ twice_whole w
  twice-low h = none w (div-eq_of_lt (rw (units) (lt_of_lt_of_le (shl_lt 53 (suc e) (sig-lt w)) (pow_mono {j = 1074} (omega arith)))))

  pub twice-high : 1073 < e → 0 ≡ twice_whole w
  twice-high h =
      let l : 2 ^ 52 ≤ sig w = omega arith in
      let g : 2 ^ 52 * 2 ^ 1074 ≤ mag w * 2 = rw (units) (mul-le-mul {m₁ = 2 ^ 1074} l (pow_mono {i = 1074} (omega arith))) in
      over w (lt_of_lt_of_le {m = 2 ^ 52} (lit< tt) ((le-div_iff_mul-le (pow_pos 1074)).1 g))

  -- the last d digits stand behind the point of the double
  module _ (m d : ℕ) (em : m ≡ sig w) (ed : d ≡ 1073 - e) (h : e ≤ 1073) where
    one : 2 ^ 1074 ≡ 2 ^ d * 2 ^ suc e
    one =
        let z : 1074 ≡ d + suc e = omega arith in
        ap (λ (y : ℕ). 2 ^ y) z ∙ pow-add 2 d (suc e)

    quotient : doubled w ≡ m / 2 ^ d
    quotient = rw (units, ← em, one) (mul-div-mul_right m (2 ^ d) (pow_pos (suc e)))

    at_one : (q : ℕ) → q * 2 ^ 1074 ≡ q * 2 ^ d * 2 ^ suc e
    at_one q = rw (one) (sym (mul_assoc q (2 ^ d) (2 ^ suc e)))

    fits : m / 2 ^ d * 2 ^ d % 2 ^ 64 ≡ m / 2 ^ d * 2 ^ d
    fits = mod-eq_of_lt (lt_of_le_of_lt (div-mul-le_self m (2 ^ d)) (rw (em) (lt_of_lt_of_le (sig-lt w) (lit≤ tt))))

    pub twice-over : 2 ^ 20 < m / 2 ^ d → 0 ≡ twice_whole w
    twice-over l = over w (rw (quotient) l)

    pub twice-exact : w < 2 ^ 63 → m / 2 ^ d ≤ 2 ^ 20 → m / 2 ^ d * 2 ^ d % 2 ^ 64 ≡ m → m / 2 ^ d ≡ twice_whole w
    unfolding twice_whole
    twice-exact s l x =
        let q = m / 2 ^ d in
        let z : q * 2 ^ 1074 ≡ mag w * 2 = rw (at_one q, ← fits, x, units, em) in
        rw (quotient, lt-leb (2 ^ 63) w s, eq-eqb (q * 2 ^ 1074) (mag w * 2) z, le-leb q (2 ^ 20) l)

    pub twice-broken : (m / 2 ^ d * 2 ^ d % 2 ^ 64 ≡ m → ⊥) → 0 ≡ twice_whole w
    unfolding twice_whole
    twice-broken x =
        let q = m / 2 ^ d in
        let back = eq_of_mul-eq-mul_right (2 ^ suc e) (pow_pos (suc e)) (q * 2 ^ d) m in
        let z : (q * 2 ^ 1074 ≡ mag w * 2) → ⊥ = λ y. x (fits ∙ back (sym (at_one q) ∙ y ∙ rw (em) units)) in
        rw (quotient, ne_eqb (q * 2 ^ 1074) (mag w * 2) z, and-false)

-- ---- what it says where it is not 0
pub record IsTwice (w k : ℕ) : Type 0 where
  pub sign : negative w ≡ false
  pub double : k * 2 ^ 1074 ≡ mag w * 2
  pub few : k ≤ 2 ^ 20

pub twice-is : (w : ℕ) → 0 < twice_whole w → IsTwice w (twice_whole w)
unfolding twice_whole
twice-is w = go (not (negative w) && eqb (q * 2 ^ 1074) (mag w * 2) && leb q (2 ^ 20)) refl
  where
    q : ℕ
    q = doubled w

    go : (t : Bool) → (not (negative w) && eqb (q * 2 ^ 1074) (mag w * 2) && leb q (2 ^ 20)) ≡ t → 0 < cond t q 0 → IsTwice w (cond t q 0)
    go true e h =
        let a = and_is (not (negative w) && eqb (q * 2 ^ 1074) (mag w * 2)) (leb q (2 ^ 20)) e in
        let b = and_is (not (negative w)) (eqb (q * 2 ^ 1074) (mag w * 2)) a.0 in
        record { sign = not-true (negative w) b.0; double = eqb-true (q * 2 ^ 1074) (mag w * 2) b.1; few = leb-true q (2 ^ 20) a.1 }
    go false e h = absurd (omega (arith, h))

pub twice-le : (w : ℕ) → twice_whole w ≤ 2 ^ 20
twice-le w = go (dec_lt 0 (twice_whole w))
  where
    go : Dec (0 < twice_whole w) → twice_whole w ≤ 2 ^ 20
    go (yes h) = (twice-is w h).few
    go (no h) = omega arith

-- ---- `raised` by its tests, with m for the modulus and v for the lowest bytes, that are in the upper half of a signed kind or not
abbrev pub lifted : ℕ → ℕ → Bool → ℕ
lifted m v s = 2 ^ 32 + v - cond s m 0

pub raised_is : (kind w : ℕ) → kind < 6 → raised kind w ≡ lifted (modulus kind) (w % modulus kind) (signed_kind kind && leb (modulus kind / 2) (w % modulus kind))
unfolding raised
raised_is kind w h = rw (lt-ltb kind 6 h)

pub raised-none : (kind w : ℕ) → 6 ≤ kind → 0 ≡ raised kind w
unfolding raised
raised-none kind w h = rw (le-ltb kind 6 h)

-- the code takes the lowest bytes by a mask
module _ (kind w m : ℕ) (h : kind < 6) (em : m ≡ modulus kind) where
  lowest : bit_and w (m - 1) ≡ w % m
  lowest = rw (em) (and_mask w (8 * type_size kind))

  pub raised-fits : 2 ^ 32 + bit_and w (m - 1) < 2 ^ 64
  raised-fits = rw (lowest, em) (omega (arith, mod-lt w (pow_pos (8 * type_size kind)), modulus-le kind h))

  pub raised-upper : kind % 2 ≡ 0 → m / 2 ≤ bit_and w (m - 1) → 2 ^ 32 + bit_and w (m - 1) - m ≡ raised kind w
  raised-upper e l = rw (raised_is kind w h, ← em, ← lowest, eq-eqb (kind % 2) 0 e, le-leb (m / 2) (bit_and w (m - 1)) l)

  pub raised-lower : bit_and w (m - 1) < m / 2 → 2 ^ 32 + bit_and w (m - 1) ≡ raised kind w
  raised-lower l = rw (raised_is kind w h, ← em, ← lowest, lt-leb (m / 2) (bit_and w (m - 1)) l, and-false) (omega arith)

  pub raised-plain : (kind % 2 ≡ 0 → ⊥) → 2 ^ 32 + bit_and w (m - 1) ≡ raised kind w
  raised-plain e = rw (raised_is kind w h, ← em, ← lowest, ne_eqb (kind % 2) 0 e) (omega arith)

-- ---- what it says
pub raised_lt : (kind w : ℕ) → raised kind w < 2 ^ 33
raised_lt kind w = go (dec_lt kind 6)
  where
    go : Dec (kind < 6) → raised kind w < 2 ^ 33
    go (yes h) = rw (raised_is kind w h) (omega (arith, mod-lt w (pow_pos (8 * type_size kind)), modulus-le kind h))
    go (no h) = omega (arith, raised-none kind w (omega arith))

-- 2 ^ 32 is a multiple of the modulus, so the word comes back
widths : (P : ℕ → Type 0) → P (2 ^ 8) → P (2 ^ 16) → P (2 ^ 32) → (kind : ℕ) → kind < 6 → P (modulus kind)
widths P a b c kind h = let l : kind < 7 = omega arith in rw (sizes kind, lt-ltb kind 7 l) (go (ltb kind 2) (ltb kind 4))
  where
    go : (s t : Bool) → P (2 ^ (8 * cond s 1 (cond t 2 4)))
    go true t = a
    go false true = b
    go false false = c

pub raised-back : (kind t : ℕ) → kind < 6 → t < modulus kind → raised kind t % modulus kind ≡ t
raised-back kind t h l = rw (raised_is kind t h, mod-eq_of_lt l) (go (signed_kind kind && leb (modulus kind / 2) t))
  where
    go : (s : Bool) → lifted (modulus kind) t s % modulus kind ≡ t
    go true = widths (λ m. t < m → lifted m t true % m ≡ t) (λ k. omega (arith, k)) (λ k. omega (arith, k)) (λ k. omega (arith, k)) kind h l
    go false = widths (λ m. t < m → lifted m t false % m ≡ t) (λ k. omega (arith, k)) (λ k. omega (arith, k)) (λ k. omega (arith, k)) kind h l
