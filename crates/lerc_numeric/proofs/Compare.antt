-- The order of words by their bits: the laws behind `less` and `same`.
-- Assumes nothing.
use mathlib.Core.Path.{◌≡◌, refl, ◌∙◌}
use mathlib.Core.Bool.{true, false, ◌&&◌}
use Prim.Native.Nat.{ℕ, zero, suc, ◌+◌, ◌%◌, ◌^◌, ◌≤◌, ◌<◌}
use native.Mathlib.Nat.{lt_of_le_of_lt, zero-add}
use native.Mathlib.Decide.{dec_lt}
use native.Mathlib.Omega.{arith}
use borrow.Author.Tests.{lt-ltb, le-ltb, le-leb, lt-leb, eq-eqb, ne_eqb}
use lib.Dec.{ltb, eqb}
use Rattle.lerc_numeric.specs.Numeric.{mag, less, same}
use Rattle.lerc_numeric.proofs.Magnitude.{mag-lt, mag-le, mag-eq}

pub ltb-same : (a b x y : ℕ) → (a < b → x < y) → (b ≤ a → y ≤ x) → ltb a b ≡ ltb x y
ltb-same a b x y f g = go (dec_lt a b)
  where
    go : Dec (a < b) → ltb a b ≡ ltb x y
    go (yes h) = rw (lt-ltb a b h, lt-ltb x y (f h))
    go (no h) = let k : b ≤ a = omega arith in rw (le-ltb a b k, le-ltb x y (g k))

words : (a b : ℕ) → ltb (a % 2 ^ 63) (b % 2 ^ 63) ≡ ltb (mag a) (mag b)
words a b = ltb-same (a % 2 ^ 63) (b % 2 ^ 63) (mag a) (mag b) (mag-lt a b) (mag-le a b)

mag-zero : mag 0 ≡ 0
unfolding mag
mag-zero = refl

some-mag : (a : ℕ) → 0 < a % 2 ^ 63 → 0 < mag a
some-mag a h = lt_of_le_of_lt (omega (arith, mag-zero)) (mag-lt 0 a h)

none-mag : (a : ℕ) → a % 2 ^ 63 ≡ 0 → mag a ≡ 0
none-mag a h = mag-eq a 0 h ∙ mag-zero

either : (a b : ℕ) → ltb 0 (a % 2 ^ 63 + b % 2 ^ 63) ≡ ltb 0 (mag a + mag b)
either a b = ltb-same 0 (a % 2 ^ 63 + b % 2 ^ 63) 0 (mag a + mag b) (split (dec_lt 0 (a % 2 ^ 63)))
    (λ h.
    let x : a % 2 ^ 63 ≡ 0 = omega arith in
    let y : b % 2 ^ 63 ≡ 0 = omega arith in
    omega (arith, none-mag a x, none-mag b y))
  where
    split : Dec (0 < a % 2 ^ 63) → 0 < a % 2 ^ 63 + b % 2 ^ 63 → 0 < mag a + mag b
    split (yes p) h = omega (arith, some-mag a p)
    split (no p) h = omega (arith, some-mag b (omega arith))

-- ---- zeros
zero_same : (x y : ℕ) → (x ≡ 0 → y ≡ 0) → (y ≡ 0 → x ≡ 0) → eqb x 0 ≡ eqb y 0
zero_same zero y f g = rw (f refl)
zero_same (suc x) y f g = rw (ne_eqb (suc x) 0 (λ e. absurd (omega arith)), ne_eqb y 0 (λ e. absurd (omega (arith, g e))))

zero-mag : (a : ℕ) → eqb (a % 2 ^ 63) 0 ≡ eqb (mag a) 0
zero-mag a = zero_same (a % 2 ^ 63) (mag a) (none-mag a) (go (dec_lt 0 (a % 2 ^ 63)))
  where
    go : Dec (0 < a % 2 ^ 63) → mag a ≡ 0 → a % 2 ^ 63 ≡ 0
    go (yes p) e = absurd (omega (arith, some-mag a p))
    go (no p) e = omega arith

both_zero : (x y : ℕ) → eqb (x + y) 0 ≡ (eqb x 0 && eqb y 0)
both_zero zero y = rw (zero-add)
both_zero (suc x) y = rw (ne_eqb (suc x) 0 (λ e. absurd (omega arith)), ne_eqb (suc x + y) 0 (λ e. absurd (omega arith)))

pub same_bits : (a b : ℕ) → a ≡ b → true ≡ same a b
unfolding same
same_bits a b h = rw (eq-eqb a b h)

pub same-zeros : (a b : ℕ) → (a ≡ b → ⊥) → eqb (a % 2 ^ 63 + b % 2 ^ 63) 0 ≡ same a b
unfolding same
same-zeros a b h = rw (ne_eqb a b h, both_zero (a % 2 ^ 63) (b % 2 ^ 63), zero-mag a, zero-mag b)

-- ---- the order, by the signs
module _ (a b : ℕ) where
  pub less-pp : a < 2 ^ 63 → b < 2 ^ 63 → ltb (a % 2 ^ 63) (b % 2 ^ 63) ≡ less a b
  unfolding less
  less-pp p q = rw (lt-leb (2 ^ 63) a p, lt-leb (2 ^ 63) b q) (words a b)

  pub less-pn : a < 2 ^ 63 → 2 ^ 63 ≤ b → false ≡ less a b
  unfolding less
  less-pn p q = rw (lt-leb (2 ^ 63) a p, le-leb (2 ^ 63) b q)

  pub less-np : 2 ^ 63 ≤ a → b < 2 ^ 63 → ltb 0 (a % 2 ^ 63 + b % 2 ^ 63) ≡ less a b
  unfolding less
  less-np p q = rw (le-leb (2 ^ 63) a p, lt-leb (2 ^ 63) b q) (either a b)

  pub less-nn : 2 ^ 63 ≤ a → 2 ^ 63 ≤ b → ltb (b % 2 ^ 63) (a % 2 ^ 63) ≡ less a b
  unfolding less
  less-nn p q = rw (le-leb (2 ^ 63) a p, le-leb (2 ^ 63) b q) (words b a)
