-- A length cut into strips of a side, and a number by three digits.
-- Assumes nothing.
use mathlib.Core.Path.{◌≡◌}
use Prim.Native.Nat.{ℕ, suc, ◌+◌, ◌-◌, ◌*◌, ◌/◌, ◌%◌, ◌≤◌, ◌<◌, min}
use native.Mathlib.Nat.{le-div_iff_mul-le, div-lt_iff_lt-mul, div-add-mod', mod-lt, suc-mul}
use native.Mathlib.Omega.{arith}
use lib.Arith.{digits_div, digits_mod, digits_lt}
use Rattle.lerc_header.specs.Shape.{strips}

-- ---- strips: the only two facts about their number

pub strip-start : (s n t : ℕ) → 0 < s → t < strips s n → t * s < n
unfolding strips
strip-start s n t p l =
    let e : suc t * s ≤ n + s - 1 = (le-div_iff_mul-le p).0 l in
    omega (arith, suc-mul t s)

pub strip-lt : (s n t : ℕ) → 0 < s → t * s < n → t < strips s n
unfolding strips
strip-lt s n t p l =
    let e : suc t * s ≤ n + s - 1 = omega (arith, suc-mul t s) in
    (le-div_iff_mul-le p).1 e

-- a point of a length: its strip is one of them, and it lies in the strip's cut width
module _ (s n x : ℕ) (p : 0 < s) (l : x < n) where
  pub point-strip : x / s < strips s n
  point-strip = strip-lt s n (x / s) p (omega (arith, div-add-mod' x s))

  pub point-rest : x % s < min s (n - x / s * s)
  point-rest = omega (arith, div-add-mod' x s, mod-lt x p)

-- and back
module _ (s n t i : ℕ) (p : 0 < s) (l : t < strips s n) (k : i < min s (n - t * s)) where
  pub strip-point : t * s + i < n
  strip-point = omega (arith, strip-start s n t p l)

  pub strip-div : (t * s + i) / s ≡ t
  strip-div = digits_div t (omega arith)

  pub strip-mod : (t * s + i) % s ≡ i
  strip-mod = digits_mod t (omega arith)

pub strip-wide : (s n t : ℕ) → 0 < s → t < strips s n → 0 < min s (n - t * s)
strip-wide s n t p l = omega (arith, strip-start s n t p l)

-- ---- three digits: (b * A + a) * D + d

module _ (A D a b d : ℕ) (u : a < A) (w : d < D) where
  pub low_digit : ((b * A + a) * D + d) % D ≡ d
  low_digit = digits_mod (b * A + a) w

  pub mid-digit : ((b * A + a) * D + d) / D % A ≡ a
  mid-digit = rw (digits_div (b * A + a) w) (digits_mod b u)

  pub top_digit : ((b * A + a) * D + d) / D / A ≡ b
  top_digit = rw (digits_div (b * A + a) w) (digits_div b u)

  pub digits-below : (B : ℕ) → b < B → (b * A + a) * D + d < B * A * D
  digits-below B v = digits_lt (digits_lt v u) w

pub digits_of : (A D n : ℕ) → (n / D / A * A + n / D % A) * D + n % D ≡ n
digits_of A D n = rw (div-add-mod' (n / D) A, div-add-mod' n D)

pub top_lt : (A B D n : ℕ) → 0 < A → 0 < D → n < B * A * D → n / D / A < B
top_lt A B D n p q l = (div-lt_iff_lt-mul p).1 ((div-lt_iff_lt-mul q).1 l)
