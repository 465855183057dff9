-- Rounding to p = d + 1 binary digits, for any format: n / c units, the infinity at the bits `top`.
-- What is kept, the value of a word, and that the order of words is that of values.
-- Assumes nothing.
use mathlib.Core.Path.{◌≡◌, refl, sym, ap, ◌∙◌}
use mathlib.Core.Logic.{◌⊎◌, inl, inr}
use Prim.Native.Nat.{ℕ, zero, suc, ◌+◌, ◌-◌, ◌*◌, ◌/◌, ◌%◌, ◌^◌, ◌≤◌, ◌<◌, min, compare}
use native.Mathlib.Nat.{le_trans, le_of_eq, le_of_lt, lt_of_lt_of_le, lt_of_le_of_lt, mul_assoc, mul_comm, mul-sub, mul-le-mul_right, mul-le-mul_left, mul-lt-mul_of_pos_right, suc-mul, mul-one, one-mul, zero-add, zero-mul, add-zero, div-eq_of_lt, mod-eq_of_lt, le-div_iff_mul-le, div-div-eq-div-mul, div-add-mod', mod-lt, pow-succ', eq-or-lt_of_le, not-le_of_lt}
use native.Mathlib.Decide.{dec_lt}
use native.Mathlib.Omega.{arith}
use lib.Arith.{digits_div, digits_mod}
use lib.Pow.{pow-add, pow_pos, pow_mono, shl_lt}
use lib.Ieee.{size}
use lib.Ieee.Digits.{size-lt, size-le, size_reaches}
use lib.Ieee.Fits.{kept-lt, nearest-le}
use lib.Ieee.Nearest.{closest, closest_mono, div_mono, nearest-ge}
use Rattle.lerc_numeric.specs.Numeric.{code, dropped}

pub sub-mul : (b j p : ℕ) → (b - j) * p ≡ b * p - j * p
sub-mul b j p = rw (mul_comm (b - j) p, mul-sub p b j, mul_comm p b, mul_comm p j)

-- ---- what is kept of n / c
abbrev pub kept_of : ℕ → ℕ → ℕ → ℕ
kept_of d n c = closest n (c * 2 ^ dropped (suc d) n c)

pub code_is : (d top n c : ℕ) → code (suc d) top n c ≡ min top (dropped (suc d) n c * 2 ^ d + kept_of d n c)
unfolding code
code_is d top n c = let e : suc d - 1 ≡ d = omega arith in rw (e)

-- in units of 2 ^ j, by the number k of digits dropped
pub code_at : (d top n j k : ℕ) → size (n / 2 ^ j) - suc d ≡ k → code (suc d) top n (2 ^ j) ≡ min top (k * 2 ^ d + closest n (2 ^ (j + k)))
code_at d top n j k e = rw (code_is d top n (2 ^ j), e, ← pow-add 2 j k)

part : (d n c : ℕ) → n / (c * 2 ^ dropped (suc d) n c) ≡ n / c / 2 ^ dropped (suc d) n c
part d n c = sym (div-div-eq-div-mul n c (2 ^ dropped (suc d) n c))

-- d + 1 digits, or the next power of two; where digits are dropped, the leading one is kept
pub kept-le : (d n c : ℕ) → kept_of d n c ≤ 2 ^ suc d
kept-le d n c =
    let u = c * 2 ^ dropped (suc d) n c in
    le_trans (nearest-le (n / u) (compare (n % u * 2) u)) (rw (part d n c) (kept-lt (suc d) (n / c)))

pub kept-ge : (d n c : ℕ) → 0 < dropped (suc d) n c → 2 ^ d ≤ kept_of d n c
kept-ge d n c h =
    let k = dropped (suc d) n c in
    let u = c * 2 ^ k in
    let a : 2 ^ d * 2 ^ k ≤ n / c = le_trans (le_of_eq (sym (pow-add 2 d k))) (size_reaches (n / c) (d + k) (omega arith)) in
    le_trans (rw (part d n c) ((le-div_iff_mul-le (pow_pos k)).1 a)) (nearest-ge (n / u) (compare (n % u * 2) u))

-- ---- the value of the bits f * 2 ^ d + t, in the format's own units
abbrev pub value : ℕ → ℕ → ℕ
value d x = (min 1 (x / 2 ^ d) * 2 ^ d + x % 2 ^ d) * 2 ^ (x / 2 ^ d - 1)

pub value_low : (d t : ℕ) → t < 2 ^ d → value d t ≡ t
value_low d t h = rw (div-eq_of_lt h, mod-eq_of_lt h) (omega arith)

pub value-up : (d f t : ℕ) → t < 2 ^ d → value d (suc f * 2 ^ d + t) ≡ (2 ^ d + t) * 2 ^ f
value-up d f t h =
    let e : suc f - 1 ≡ f = omega arith in
    let m : min 1 (suc f) ≡ 1 = omega arith in
    rw (digits_div (suc f) h, digits_mod (suc f) h, m, e, one-mul)

twice : (d : ℕ) → 2 ^ suc d ≡ 2 * 2 ^ d
twice d = pow-succ' 2 d

-- k digits dropped and q kept
pub value-kept : (d k q : ℕ) → q ≤ 2 ^ suc d → (0 < k → 2 ^ d ≤ q) → value d (k * 2 ^ d + q) ≡ q * 2 ^ k
value-kept d k q h l = go (dec_lt q (2 ^ d)) (eq-or-lt_of_le h)
  where
    none : (k : ℕ) → (0 < k → 2 ^ d ≤ q) → q < 2 ^ d → k ≡ 0
    none zero g a = refl
    none (suc k) g a = absurd (not-le_of_lt a (g (omega arith)))

    go : Dec (q < 2 ^ d) → (q ≡ 2 ^ suc d) ⊎ (q < 2 ^ suc d) → value d (k * 2 ^ d + q) ≡ q * 2 ^ k
    go (yes a) e = let z = none k l a in rw (z, zero-mul, zero-add) (value_low d q a ∙ sym (mul-one q))
    go (no a) (inr b) =
        let x : k * 2 ^ d + q ≡ suc k * 2 ^ d + (q - 2 ^ d) = omega (arith, suc-mul k (2 ^ d)) in
        let y : 2 ^ d + (q - 2 ^ d) ≡ q = omega arith in
        rw (x) (value-up d k (q - 2 ^ d) (omega (arith, twice d)) ∙ ap (λ (z : ℕ). z * 2 ^ k) y)
    go (no a) (inl e) =
        let x : k * 2 ^ d + q ≡ suc (suc k) * 2 ^ d + 0 = omega (arith, suc-mul k (2 ^ d), suc-mul (suc k) (2 ^ d), twice d) in
        let z : 2 ^ d * 2 ^ suc k ≡ q * 2 ^ k = rw (e, twice d, pow-succ' 2 k) (sym (mul_assoc (2 ^ d) 2 (2 ^ k)) ∙ ap (λ (w : ℕ). w * 2 ^ k) (mul_comm (2 ^ d) 2)) in
        rw (x) (value-up d (suc k) 0 (pow_pos d) ∙ ap (λ (w : ℕ). w * 2 ^ suc k) (add-zero (2 ^ d)) ∙ z)

-- ---- the order of values is that of the bits
-- below the next field's first value
pub roof : (d x : ℕ) → value d x < 2 ^ (d + x / 2 ^ d)
roof d x = go (x / 2 ^ d) refl
  where
    l : x % 2 ^ d < 2 ^ d
    l = mod-lt x (pow_pos d)

    go : (f : ℕ) → x / 2 ^ d ≡ f → value d x < 2 ^ (d + x / 2 ^ d)
    go zero e = rw (e, add-zero d) (omega (arith, l))
    go (suc f) e =
        let z : d + suc f ≡ suc d + f = omega arith in
        let p : suc f - 1 ≡ f = omega arith in
        let m : min 1 (suc f) ≡ 1 = omega arith in
        rw (e, z, p, m) (shl_lt (suc d) f (omega (arith, l, twice d)))

floor : (d x : ℕ) → 0 < x / 2 ^ d → 2 ^ (d + (x / 2 ^ d - 1)) ≤ value d x
floor d x h =
    let e : min 1 (x / 2 ^ d) ≡ 1 = omega arith in
    rw (e, pow-add 2 d (x / 2 ^ d - 1)) (mul-le-mul_right (2 ^ (x / 2 ^ d - 1)) (omega arith))

pub value-lt : (d x y : ℕ) → x < y → value d x < value d y
value-lt d x y h = go (eq-or-lt_of_le (div_mono x (2 ^ d) y (2 ^ d) (pow_pos d) (pow_pos d) (mul-le-mul_right (2 ^ d) (le_of_lt h))))
  where
    go : (x / 2 ^ d ≡ y / 2 ^ d) ⊎ (x / 2 ^ d < y / 2 ^ d) → value d x < value d y
    go (inl e) =
        let l : x % 2 ^ d < y % 2 ^ d = omega (arith, div-add-mod' x (2 ^ d), div-add-mod' y (2 ^ d), ap (λ (f : ℕ). f * 2 ^ d) e) in
        rw (e) (mul-lt-mul_of_pos_right (omega arith) (pow_pos (y / 2 ^ d - 1)))
    go (inr l) = lt_of_lt_of_le (roof d x) (le_trans (pow_mono (omega arith)) (floor d y (omega arith)))

pub value-le : (d x y : ℕ) → x ≤ y → value d x ≤ value d y
value-le d x y h = go (eq-or-lt_of_le h)
  where
    go : (x ≡ y) ⊎ (x < y) → value d x ≤ value d y
    go (inl e) = le_of_eq (ap (λ (z : ℕ). value d z) e)
    go (inr l) = le_of_lt (value-lt d x y l)

-- ---- a larger number has bits that are no less
size_mono : (n m : ℕ) → n ≤ m → size n ≤ size m
size_mono n m h = size-le n (size m) (lt_of_le_of_lt h (size-lt m))

pub unit-pos : (c k : ℕ) → 0 < c → 0 < c * 2 ^ k
unit-pos c k p = lt_of_lt_of_le p (le_trans (le_of_eq (sym (mul-one c))) (mul-le-mul_left c (pow_pos k)))

pub code_mono : (d top n m c : ℕ) → 0 < c → n ≤ m → code (suc d) top n c ≤ code (suc d) top m c
code_mono d top n m c p h = rw (code_is d top n c, code_is d top m c) (go (eq-or-lt_of_le drops))
  where
    drops : dropped (suc d) n c ≤ dropped (suc d) m c
    drops = omega (arith, size_mono (n / c) (m / c) (div_mono n c m c p p (mul-le-mul_right c h)))

    less : (a b x y t : ℕ) → a * 2 ^ d + x ≤ b * 2 ^ d + y → min t (a * 2 ^ d + x) ≤ min t (b * 2 ^ d + y)
    less a b x y t g = omega arith

    go : (dropped (suc d) n c ≡ dropped (suc d) m c) ⊎ (dropped (suc d) n c < dropped (suc d) m c)
        → min top (dropped (suc d) n c * 2 ^ d + kept_of d n c) ≤ min top (dropped (suc d) m c * 2 ^ d + kept_of d m c)
    go (inl e) =
        let u = c * 2 ^ dropped (suc d) m c in
        let up = unit-pos c (dropped (suc d) m c) p in
        let k : kept_of d n c ≤ kept_of d m c = rw (e) (closest_mono n u m u up up (mul-le-mul_right u h)) in
        less (dropped (suc d) n c) (dropped (suc d) m c) (kept_of d n c) (kept_of d m c) top (omega (arith, ap (λ (z : ℕ). z * 2 ^ d) e))
    go (inr l) =
        let a = dropped (suc d) n c in
        let b = dropped (suc d) m c in
        let s : suc a * 2 ^ d ≤ b * 2 ^ d = mul-le-mul_right (2 ^ d) l in
        less a b (kept_of d n c) (kept_of d m c) top
        (omega (arith, suc-mul a (2 ^ d), kept-le d n c, kept-ge d m c (omega arith), twice d))
