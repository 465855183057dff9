-- The laws behind the kinds of integers: sizes, values, ranges, and a value cut to a kind.
-- Assumes nothing.
use mathlib.Core.Path.{◌≡◌, refl, sym, ap, ◌∙◌}
use mathlib.Core.Bool.{Bool, true, false, cond, ◌&&◌}
use Prim.Native.Nat.{ℕ, zero, suc, ◌+◌, ◌-◌, ◌*◌, ◌/◌, ◌%◌, ◌^◌, ◌≤◌, ◌<◌}
use native.Mathlib.Nat.{le_trans, lt_of_lt_of_le, mul_assoc, mul_comm, le-div_iff_mul-le, div-eq_of_lt, mod-eq_of_lt, mul-le-mul, zero-add, pow-succ'}
use native.Mathlib.Omega.{arith}
use borrow.Author.Tests.{lt-ltb, le-ltb, le-leb, lt-leb, eq-eqb, ne_eqb}
use lib.Dec.{ltb, lit≤}
use lib.Pow.{pow-add, pow_pos, pow_mono, shl_lt}
use lib.Ieee.Nearest.{div_same}
use Rattle.lerc_words.specs.Res.{ok, fail, refuse}
use Rattle.lerc_numeric.specs.Numeric.{bits64, sig, exp, field, finite, mag, negative}
use Rattle.lerc_numeric.specs.Kinds.{type_size, modulus, signed_kind, integer, widened, value_of, whole, bound, cut}
use Rattle.lerc_numeric.proofs.Magnitude.{sig-lt, bits-le}

-- ---- sizes, by the kind
abbrev sized : Bool → Bool → Bool → ℕ
sized a b c = cond a 1 (cond b 2 (cond c 4 8))

past : (n : ℕ) → 7 ≤ n → sized (ltb n 2) (ltb n 4) (ltb n 7) ≡ 8
past n h =
    let a : 2 ≤ n = omega arith in
    let b : 4 ≤ n = omega arith in
    rw (le-ltb n 2 a, le-ltb n 4 b, le-ltb n 7 h)

pub sizes : (kind : ℕ) → type_size kind ≡ sized (ltb kind 2) (ltb kind 4) (ltb kind 7)
sizes zero = refl
sizes (suc zero) = refl
sizes (suc (suc zero)) = refl
sizes (suc (suc (suc zero))) = refl
sizes (suc (suc (suc (suc zero)))) = refl
sizes (suc (suc (suc (suc (suc zero))))) = refl
sizes (suc (suc (suc (suc (suc (suc zero)))))) = refl
sizes (suc (suc (suc (suc (suc (suc (suc zero))))))) = refl
sizes (suc (suc (suc (suc (suc (suc (suc (suc k)))))))) = sym (past (suc (suc (suc (suc (suc (suc (suc (suc k)))))))) (omega arith))

size-bounds : (kind : ℕ) → (1 ≤ type_size kind) × (type_size kind ≤ 8)
size-bounds kind = rw (sizes kind) (go (ltb kind 2) (ltb kind 4) (ltb kind 7))
  where
    go : (a b c : Bool) → (1 ≤ sized a b c) × (sized a b c ≤ 8)
    go true b c = (lit≤ tt, lit≤ tt)
    go false true c = (lit≤ tt, lit≤ tt)
    go false false true = (lit≤ tt, lit≤ tt)
    go false false false = (lit≤ tt, lit≤ tt)

pub size-ge : (kind : ℕ) → 1 ≤ type_size kind
size-ge kind = (size-bounds kind).0

pub size-le : (kind : ℕ) → type_size kind ≤ 8
size-le kind = (size-bounds kind).1

pub modulus-ge : (kind : ℕ) → 2 ^ 8 ≤ modulus kind
modulus-ge kind = pow_mono {i = 8} (omega (arith, size-ge kind))

pub modulus-even : (kind : ℕ) → modulus kind % 2 ≡ 0
modulus-even kind = go (8 * type_size kind) (omega (arith, size-ge kind))
  where
    go : (e : ℕ) → 0 < e → 2 ^ e % 2 ≡ 0
    go zero h = absurd (omega arith)
    go (suc e) h = omega (arith, pow-succ' 2 e)

pub modulus-le : (kind : ℕ) → kind < 6 → modulus kind ≤ 2 ^ 32
modulus-le kind h = let l : kind < 7 = omega arith in rw (sizes kind, lt-ltb kind 7 l) (go (ltb kind 2) (ltb kind 4))
  where
    go : (a b : Bool) → 2 ^ (8 * cond a 1 (cond b 2 4)) ≤ 2 ^ 32
    go true b = lit≤ tt
    go false true = lit≤ tt
    go false false = lit≤ tt

-- ---- a stored word's value, with m for the modulus
module _ (kind v m : ℕ) (em : m ≡ modulus kind) where
  pub int-neg : (r : ℕ) → kind % 2 ≡ 0 → m / 2 ≤ v → r ≡ bits64 ((m - v) * 2 ^ 1074) → 2 ^ 63 + r ≡ integer kind v
  unfolding integer
  int-neg r h k er = rw (← em, eq-eqb (kind % 2) 0 h, le-leb (m / 2) v k, er)

  pub int-low : (r : ℕ) → kind % 2 ≡ 0 → v < m / 2 → r ≡ bits64 (v * 2 ^ 1074) → r ≡ integer kind v
  unfolding integer
  int-low r h k er = rw (← em, eq-eqb (kind % 2) 0 h, lt-leb (m / 2) v k, er) (sym (zero-add (bits64 (v * 2 ^ 1074))))

  pub int-plain : (r : ℕ) → (kind % 2 ≡ 0 → ⊥) → r ≡ bits64 (v * 2 ^ 1074) → r ≡ integer kind v
  unfolding integer
  int-plain r h er = rw (ne_eqb (kind % 2) 0 h, er) (sym (zero-add (bits64 (v * 2 ^ 1074))))

pub int-fits : (n r : ℕ) → r ≡ bits64 n → 2 ^ 63 + r < 2 ^ 64
int-fits n r e = omega (arith, bits-le n)

-- ---- any word's value, by the kind
pub value-int : (kind v m r : ℕ) → m ≡ modulus kind → kind < 6 → r ≡ integer kind (v % m) → r ≡ value_of kind v
unfolding value_of
value-int kind v m r em h er = rw (lt-ltb kind 6 h, ← em, er)

pub value-six : (kind v r : ℕ) → kind ≡ 6 → r ≡ widened (v % 2 ^ 32) → r ≡ value_of kind v
unfolding value_of
value-six kind v r h er = rw (h, er)

pub modulus-last : (kind : ℕ) → 7 ≤ kind → modulus kind ≡ 2 ^ 64
modulus-last kind h = rw (sizes kind, past kind h)

pub value-last : (kind v : ℕ) → 6 ≤ kind → (kind ≡ 6 → ⊥) → v < 2 ^ 64 → v ≡ value_of kind v
unfolding value_of
value-last kind v h k l =
    let g : 7 ≤ kind = omega arith in
    rw (le-ltb kind 6 h, ne_eqb kind 6 k, modulus-last kind g) (sym (mod-eq_of_lt l))

-- ---- the whole part, with m and e for the parts of w
pub whole-zero : (w e : ℕ) → e ≡ exp w → e ≤ 1010 → 0 ≡ whole w
unfolding whole mag
whole-zero w e ee h = sym (div-eq_of_lt (lt_of_lt_of_le (shl_lt 53 (exp w) (sig-lt w)) (pow_mono {j = 1074} (omega arith))))

pub whole-some : (w m e : ℕ) → m ≡ sig w → e ≡ exp w → e < 1074 → m / 2 ^ (1074 - e) ≡ whole w
unfolding whole mag
whole-some w m e em ee h =
    let z : 1074 ≡ 1074 - e + e = omega arith in
    let p : 2 ^ 1074 ≡ 2 ^ (1074 - e) * 2 ^ e = ap (λ (y : ℕ). 2 ^ y) z ∙ pow-add 2 (1074 - e) e in
    rw (← em, ← ee)
    (sym (div_same (m * 2 ^ e) (2 ^ 1074) m (2 ^ (1074 - e)) (pow_pos 1074) (pow_pos (1074 - e))
    (mul_assoc m (2 ^ e) (2 ^ (1074 - e)) ∙ ap (λ (y : ℕ). m * y) (mul_comm (2 ^ e) (2 ^ (1074 - e)) ∙ sym p))))

whole-large : (w : ℕ) → 1074 ≤ exp w → 2 ^ 52 ≤ whole w
unfolding whole mag
whole-large w h =
    (le-div_iff_mul-le (pow_pos 1074)).1 (mul-le-mul {n₁ = 2 ^ 52} {m₁ = 2 ^ 1074} {n₂ = sig w} {m₂ = 2 ^ exp w} (omega arith) (pow_mono {i = 1074} (omega arith)))

-- ---- ranges
pub bound-le : (kind : ℕ) (t : Bool) → bound kind t ≤ modulus kind
bound-le kind t = go (signed_kind kind) t
  where
    go : (a t : Bool) → cond a (modulus kind / 2 + cond t 1 0) (cond t 1 (modulus kind)) ≤ modulus kind
    go true true = omega (arith, modulus-ge kind)
    go true false = omega (arith, modulus-ge kind)
    go false true = omega (arith, modulus-ge kind)
    go false false = omega arith

-- ---- `cut`, by its tests
either-no : (a b : Bool) → (a && b && false) ≡ false
either-no true true = refl
either-no true false = refl
either-no false b = refl

pub cut-kind : (kind w : ℕ) → 6 ≤ kind → fail (refuse 9) ≡ cut kind w
unfolding cut
cut-kind kind w h = rw (le-ltb kind 6 h)

-- with q for the whole part and b for the bound
module _ (kind w q b : ℕ) (eq : q ≡ whole w) (eb : b ≡ bound kind (negative w)) where
  pub cut_out : b ≤ q → fail (refuse 9) ≡ cut kind w
  unfolding cut
  cut_out h = rw (← eb, ← eq, le-ltb q b h, either-no (ltb kind 6) (finite w))

  pub cut_in : kind < 6 → field w < 2047 → q < b → cut kind w ≡ ok (cond (negative w) ((modulus kind - q) % modulus kind) q)
  unfolding cut
  cut_in h f k = rw (← eb, ← eq, lt-ltb kind 6 h, lt-ltb (field w) 2047 f, lt-ltb q b k)

  pub cut-pos : kind < 6 → field w < 2047 → q < b → w < 2 ^ 63 → ok q ≡ cut kind w
  cut-pos h f k l = rw (cut_in h f k, lt-leb (2 ^ 63) w l)

  pub cut-neg : kind < 6 → field w < 2047 → q < b → 2 ^ 63 ≤ w → (m : ℕ) → m ≡ modulus kind → ok ((m - q) % m) ≡ cut kind w
  cut-neg h f k l m em = rw (cut_in h f k, le-leb (2 ^ 63) w l, em)

pub cut-large : (kind w e : ℕ) → e ≡ exp w → kind < 6 → 1074 ≤ e → fail (refuse 9) ≡ cut kind w
cut-large kind w e ee h k =
    let l : 1074 ≤ exp w = omega arith in
    cut_out kind w (whole w) (bound kind (negative w)) refl refl
    (le_trans (bound-le kind (negative w)) (le_trans (modulus-le kind h) (le_trans (lit≤ tt) (whole-large w l))))
