-- lerc_numeric.rs: what its bodies for rounding, `highest`, `round` and the like, compute is what ours are defined by.
-- Assumes nothing.
use mathlib.Core.Path.{◌≡◌, refl, sym, ap, ◌∙◌}
use mathlib.Core.Bool.{not, cond, ◌&&◌, ◌||◌}
use Prim.Native.Nat.{ℕ, zero, suc, ◌+◌, ◌-◌, ◌*◌, ◌/◌, ◌%◌, ◌^◌, ◌≤◌, ◌<◌, min}
use native.Mathlib.Omega.{arith}
use native.Mathlib.Nat.{mod-eq_of_lt, div-eq_of_lt, lt_of_lt_of_le, le_of_lt, mul-one, mul-le-mul, mul-le-mul_left, pow-suc, mod-one}
use native.Mathlib.Decide.{dec_lt, dec_le}
use borrow.Author.Tests.{lt-ltb, le-ltb, le-leb, lt-leb, eq-eqb, ne_eqb}
use lib.Dec.{ltb, leb, eqb}
use lib.Pow.{pow-add, pow_pos, pow_mono, shr_lt, shr-shr, mod-pow-add}
use lib.Ieee.{size}
use lib.Ieee.Digits.{size-lt, size-le}
use lib.Ieee.Nearest.{closest, closest_mono}
use Rattle.lerc_numeric.specs.Inside.{jam}
use Rattle.lerc_numeric.proofs.Closest.{near_down, near_up, near-tie, closest-exact}
use Rattle.lerc_numeric.proofs.Digits.{size-part, size-leading}
use Rattle.lerc_numeric.proofs.Jam.{jam-zero}
use Rattle.lerc_contracts.proofs.Numeric.{rounded-is, sticky-is}
use Rattle.lerc_contracts.specs.Numeric.{sticky, round, jammed, highest64, highest}

-- ---- `highest`

pub size-some : (v : ℕ) → 0 < v → 0 < size v
size-some v h = go (size v) (size-lt v)
  where
    go : (z : ℕ) → v < 2 ^ z → 0 < z
    go zero l = absurd (omega arith)
    go (suc z) l = omega arith

pub highest64-is : (v : ℕ) → v < 2 ^ 64 → highest64 v ≡ size v - 1
highest64-is v l = omega (arith, size-leading v l)

-- 1.11, 1.12
pub highest-is : (v : ℕ) → v < 2 ^ 128 → highest v ≡ size v - 1
unfolding highest size
highest-is v l = go (dec_lt 0 v) (dec_lt 0 (v / 2 ^ 64))
  where
    go : Dec (0 < v) → Dec (0 < v / 2 ^ 64) → highest v ≡ size v - 1
    go (no z) _ = let e : v ≡ 0 = omega arith in rw (e)
    go (yes p) (yes h) =
        let k : v / 2 ^ 64 < 2 ^ 64 = shr_lt 64 64 l in
        let e : 64 + (size (v / 2 ^ 64) - 1) ≡ size v - 1 = omega (arith, size-part v 64 h, size-some (v / 2 ^ 64) h) in
        rw (ne_eqb v 0 (λ e. omega arith), lt-ltb 0 (v / 2 ^ 64) h, highest64-is (v / 2 ^ 64) k) e
    go (yes p) (no h) =
        let k : v % 2 ^ 64 ≡ v = omega arith in
        let s : v < 2 ^ 64 = omega arith in
        rw (ne_eqb v 0 (λ e. omega arith), le-ltb 0 (v / 2 ^ 64) (omega arith), k) (highest64-is v s)

-- 1.13, 1.14
pub highest-most : (v : ℕ) → v < 2 ^ 128 → size v - 1 ≤ 127
highest-most v l = less_one (size v) (size-le v 128 l)
  where
    less_one : (z : ℕ) → z ≤ 128 → z - 1 ≤ 127
    less_one z h = omega arith

pub highest-zero : highest 0 ≡ 0
unfolding highest
highest-zero = refl

-- ---- `round`

-- less than the divisor w, which is twice p
module _ (v p w : ℕ) (t : w ≡ p * 2) (l : v < w) where
  half_up : p < v → closest v w ≡ 1
  half_up h = sym (near_up v w v w (sym (mod-eq_of_lt l)) refl (omega arith)) ∙ ap (λ (x : ℕ). x + 1) (div-eq_of_lt l)

  half_down : v ≤ p → closest v w ≡ 0
  half_down h = go (dec_lt v p)
    where
      go : Dec (v < p) → closest v w ≡ 0
      go (yes k) = sym (near_down v w v w (sym (mod-eq_of_lt l)) refl (omega arith)) ∙ div-eq_of_lt l
      go (no k) = sym (near-tie v w v w (sym (mod-eq_of_lt l)) refl (omega arith) (omega arith)) ∙ ap (λ (x : ℕ). x + x % 2) (div-eq_of_lt l)

odd : (q : ℕ) → cond (eqb (q % 2) 1) 1 0 ≡ q % 2
odd q = go (q % 2) (omega arith)
  where
    go : (r : ℕ) → r < 2 → cond (eqb r 1) 1 0 ≡ r
    go zero h = refl
    go (suc zero) h = refl
    go (suc (suc r)) h = absurd (omega arith)

-- by the halves of v, where s more than 64 digits are dropped
module _ (v s q low rem : ℕ) (eq : q ≡ v / 2 ^ (s + 64)) (el : v % 2 ^ (s + 64) ≡ rem * 2 ^ 64 + low) (ll : low < 2 ^ 64) where
  whole : 2 ^ (s + 64) ≡ 2 ^ s * 2 ^ 64
  whole = pow-add 2 s 64

  far-one : s ≡ 0 → rem ≡ 0 → q + cond (ltb (2 ^ 63) low || (eqb low (2 ^ 63) && eqb (q % 2) 1)) 1 0 ≡ closest v (2 ^ (s + 64))
  far-one z r = go (dec_lt (2 ^ 63) low) (dec_lt low (2 ^ 63))
    where
      one : 2 ^ s ≡ 1
      one = rw (z)

      go : Dec (2 ^ 63 < low) → Dec (low < 2 ^ 63) → q + cond (ltb (2 ^ 63) low || (eqb low (2 ^ 63) && eqb (q % 2) 1)) 1 0 ≡ closest v (2 ^ (s + 64))
      go (yes a) b = rw (lt-ltb _ _ a, eq) (near_up v (2 ^ (s + 64)) (v % 2 ^ (s + 64)) (2 ^ (s + 64)) refl refl (omega (arith, whole, el, one)))
      go (no a) (yes b) =
          rw (le-ltb (2 ^ 63) low (omega arith), ne_eqb low (2 ^ 63) (λ e. omega arith), eq)
          (let z : v / 2 ^ (s + 64) + 0 ≡ v / 2 ^ (s + 64) = omega arith in z ∙ near_down v (2 ^ (s + 64)) (v % 2 ^ (s + 64)) (2 ^ (s + 64)) refl refl (omega (arith, whole, el, one)))
      go (no a) (no b) =
          rw (le-ltb (2 ^ 63) low (omega arith), eq-eqb low (2 ^ 63) (omega arith), odd q, eq)
          (near-tie v (2 ^ (s + 64)) (v % 2 ^ (s + 64)) (2 ^ (s + 64)) refl refl (omega (arith, whole, el, one)) (omega (arith, whole, el, one)))

  far-more : (half : ℕ) → 2 ^ s ≡ half * 2 → q + cond (ltb half rem || (eqb rem half && (not (eqb low 0) || eqb (q % 2) 1))) 1 0 ≡ closest v (2 ^ (s + 64))
  far-more half two = go (dec_lt half rem) (dec_lt rem half) (dec_lt 0 low)
    where
      go : Dec (half < rem) → Dec (rem < half) → Dec (0 < low) → q + cond (ltb half rem || (eqb rem half && (not (eqb low 0) || eqb (q % 2) 1))) 1 0 ≡ closest v (2 ^ (s + 64))
      go (yes a) b c = rw (lt-ltb _ _ a, eq) (near_up v (2 ^ (s + 64)) (v % 2 ^ (s + 64)) (2 ^ (s + 64)) refl refl (omega (arith, whole, el, two)))
      go (no a) (yes b) c =
          rw (le-ltb half rem (omega arith), ne_eqb rem half (λ e. omega arith), eq)
          (let z : v / 2 ^ (s + 64) + 0 ≡ v / 2 ^ (s + 64) = omega arith in z ∙ near_down v (2 ^ (s + 64)) (v % 2 ^ (s + 64)) (2 ^ (s + 64)) refl refl (omega (arith, whole, el, two)))
      go (no a) (no b) (yes c) =
          rw (le-ltb half rem (omega arith), eq-eqb rem half (omega arith), ne_eqb low 0 (λ e. omega arith), eq)
          (near_up v (2 ^ (s + 64)) (v % 2 ^ (s + 64)) (2 ^ (s + 64)) refl refl (omega (arith, whole, el, two)))
      go (no a) (no b) (no c) =
          rw (le-ltb half rem (omega arith), eq-eqb rem half (omega arith), eq-eqb low 0 (omega arith), odd q, eq)
          (near-tie v (2 ^ (s + 64)) (v % 2 ^ (s + 64)) (2 ^ (s + 64)) refl refl (omega (arith, whole, el, two)) (omega (arith, whole, el, two)))

far : (v s : ℕ)
    → (let low = v % 2 ^ 64 in
    let rem = v / 2 ^ 64 % 2 ^ s in
    let q = v / 2 ^ 64 / 2 ^ s in
    q + cond (cond (eqb s 0) (ltb (2 ^ 63) low || (eqb low (2 ^ 63) && eqb (q % 2) 1)) (ltb (2 ^ (s - 1)) rem || (eqb rem (2 ^ (s - 1)) && (not (eqb low 0) || eqb (q % 2) 1)))) 1 0
    ≡ closest v (2 ^ (s + 64)))
far v s = go s refl
  where
    q-is : v / 2 ^ 64 / 2 ^ s ≡ v / 2 ^ (s + 64)
    q-is = let z : 64 + s ≡ s + 64 = omega arith in shr-shr v 64 s ∙ ap (λ (x : ℕ). v / 2 ^ x) z

    low-lt : v % 2 ^ 64 < 2 ^ 64
    low-lt = omega arith

    go : (t : ℕ) → s ≡ t
        → (let low = v % 2 ^ 64 in
        let rem = v / 2 ^ 64 % 2 ^ s in
        let q = v / 2 ^ 64 / 2 ^ s in
        q + cond (cond (eqb s 0) (ltb (2 ^ 63) low || (eqb low (2 ^ 63) && eqb (q % 2) 1)) (ltb (2 ^ (s - 1)) rem || (eqb rem (2 ^ (s - 1)) && (not (eqb low 0) || eqb (q % 2) 1)))) 1 0
        ≡ closest v (2 ^ (s + 64)))
    go zero e =
        rw (eq-eqb s 0 e)
        (far-one v s (v / 2 ^ 64 / 2 ^ s) (v % 2 ^ 64) (v / 2 ^ 64 % 2 ^ s) q-is (mod-pow-add v s 64) low-lt e (rw (e) (mod-one (v / 2 ^ 64))))
    go (suc t) e =
        let z : s ≡ suc (s - 1) = omega arith in
        rw (ne_eqb s 0 (λ n. omega arith))
        (far-more v s (v / 2 ^ 64 / 2 ^ s) (v % 2 ^ 64) (v / 2 ^ 64 % 2 ^ s) q-is (mod-pow-add v s 64) low-lt (2 ^ (s - 1)) (ap (λ (x : ℕ). 2 ^ x) z ∙ pow-suc 2 (s - 1)))

not-lt : (a b : ℕ) → (a < b → ⊥) → b ≤ a
not-lt a b h = omega arith

-- 1.4, 1.18: all of its body
pub round_is : (v n : ℕ) → v < 2 ^ 128 → round v n ≡ closest v (2 ^ n)
unfolding round
round_is v n l = none? (dec_lt 0 n)
  where
    back : 64 ≤ n → closest v (2 ^ (n - 64 + 64)) ≡ closest v (2 ^ n)
    back h = let z : n - 64 + 64 ≡ n = omega arith in rw (z)

    near? : 0 < n → Dec (64 ≤ n) → Dec (n < 128) → Dec (128 < n) → round v n ≡ closest v (2 ^ n)
    near? p (no h) (yes m) _ = rw (ne_eqb n 0 (λ e. omega arith), le-ltb 128 n (omega arith), ne_eqb n 128 (λ e. omega arith), lt-leb 64 n (omega arith)) (rounded-is v n p)
    near? p (no h) (no m) _ = absurd (omega arith)
    near? p (yes h) (yes m) _ = rw (ne_eqb n 0 (λ e. omega arith), le-ltb 128 n (omega arith), ne_eqb n 128 (λ e. omega arith), le-leb 64 n h) (far v (n - 64) ∙ back h)
    near? p (yes h) (no m) (yes o) =
        let z : n ≡ suc (n - 1) = omega arith in
        let t : 2 ^ n ≡ 2 ^ (n - 1) * 2 = ap (λ (x : ℕ). 2 ^ x) z ∙ pow-suc 2 (n - 1) in
        let b : v < 2 ^ (n - 1) = lt_of_lt_of_le l (pow_mono {i = 128} (omega arith)) in
        rw (ne_eqb n 0 (λ e. omega arith), lt-ltb 128 n o) (sym (half_down v (2 ^ (n - 1)) (2 ^ n) t (lt_of_lt_of_le l (pow_mono {i = 128} (omega arith))) (le_of_lt b)))
    near? p (yes h) (no m) (no o) = let z : n ≡ 128 = omega arith in rw (z) (last (dec_lt (2 ^ 127) v))
      where
        last : Dec (2 ^ 127 < v) → cond (ltb (2 ^ 127) v) 1 0 ≡ closest v (2 ^ 128)
        last (yes k) = rw (lt-ltb (2 ^ 127) v k) (sym (half_up v (2 ^ 127) (2 ^ 128) refl l k))
        last (no k) = let g = not-lt (2 ^ 127) v k in rw (le-ltb (2 ^ 127) v g) (sym (half_down v (2 ^ 127) (2 ^ 128) refl l g))

    none? : Dec (0 < n) → round v n ≡ closest v (2 ^ n)
    none? (no p) = let z : n ≡ 0 = omega arith in rw (z) (sym (rw (mul-one v) at (closest-exact v 1 (pow_pos 0))))
    none? (yes p) = near? p (dec_le 64 n) (dec_lt n 128) (dec_lt 128 n)

-- it is no more than the number itself
pub round-small : (v n : ℕ) → closest v (2 ^ n) ≤ v
round-small v n =
    let a : v * 1 ≤ v * 2 ^ n = mul-le-mul_left v (pow_pos n) in
    let one : closest v 1 ≡ v = rw (mul-one v) at (closest-exact v 1 (pow_pos 0)) in
    rw (one) at (closest_mono v (2 ^ n) v 1 (pow_pos n) (pow_pos 0) a)

-- 1.5
pub round-most : (v n : ℕ) → v < 2 ^ 128 → 0 < n → closest v (2 ^ n) ≤ 2 ^ 127
round-most v n l p =
    let a : v * 2 ≤ 2 ^ 128 * 2 ^ n = mul-le-mul (le_of_lt l) (pow_mono {i = 1} p) in
    closest_mono v (2 ^ n) (2 ^ 128) 2 (pow_pos n) (pow_pos 1) a

-- ---- `jam64`, `shift_sticky`

-- 1.6, 1.29: from the width on nothing but a last digit is left
pub jammed-is : (width v n : ℕ) → v < 2 ^ width → jammed width v n ≡ jam v n
unfolding jammed jam
jammed-is width v n l = none? (dec_lt 0 n)
  where
    wide : width ≤ n → Dec (0 < v) → cond (eqb v 0) 0 1 ≡ jam v n
    wide h d = let s : v < 2 ^ n = lt_of_lt_of_le l (pow_mono h) in rw (div-eq_of_lt s, mod-eq_of_lt s) (some d)
      where
        some : Dec (0 < v) → cond (eqb v 0) 0 1 ≡ 0 + min (1 - 0 % 2) v
        some (yes p) = rw (ne_eqb v 0 (λ e. omega arith)) (omega arith)
        some (no p) = let z : v ≡ 0 = omega arith in rw (z)

    past? : Dec (width ≤ n) → cond (leb width n) (cond (eqb v 0) 0 1) (sticky v n) ≡ jam v n
    past? (yes h) = rw (le-leb width n h) (wide h (dec_lt 0 v))
    past? (no h) = rw (lt-leb width n (omega arith)) (sticky-is v n)

    none? : Dec (0 < n) → jammed width v n ≡ jam v n
    none? (yes p) = rw (ne_eqb n 0 (λ e. omega arith)) (past? (dec_le width n))
    none? (no p) = let z : n ≡ 0 = omega arith in rw (z) (sym (jam-zero v))
