-- The machine's own sum, product and order of finite binary64 words, as the language defines them, are the whole-number ones.
-- Assumes nothing.
use mathlib.Core.Path.{◌≡◌, refl, sym, ap, ◌∙◌}
use mathlib.Core.Bool.{Bool, true, false, not, cond, ◌&&◌, beq}
use mathlib.Core.Logic.{◌⊎◌, inl, inr}
use Prim.Native.Nat.{ℕ, ◌+◌, ◌-◌, ◌*◌, ◌/◌, ◌%◌, ◌^◌, ◌≤◌, ◌<◌}
use native.Mathlib.Nat.{lt_of_lt_of_le, lt_of_mul-lt-mul_right, le_of_mul-le-mul_right, mul_assoc, mul_comm, mul-one, mul_right_comm, mul-mul-mul_comm, mul-le-mul_right, mul-lt-mul_of_pos_right, mul-pos, add-mul, zero-mul, eq-or-lt_of_le}
use native.Mathlib.Omega.{arith}
use lib.IntN.{ℤ, pos}
use lib.Dec.{T, ltb, le→leb, lit≤, lit<}
use lib.Pow.{pow_pos, pow_mono, shl_lt}
use lib.Ieee as Ieee
use lib.Ieee.{Float, nan, inf, fin, binary64, up, down, round, of_fields, of_bits, to_bits}
use lib.Ieee.Fits.{down_pos, add-fits, mul-fits}
use lib.Ieee.Bits.{of_bits-to_bits, nan_bits_is}
use lib.Ieee.Exact.{HasValue, round_exact}
use lib.Ieee.Scale.{round_same}
use borrow.Author.Tests.{lt-ltb, le-ltb}
use Rattle.lerc_numeric.specs.Numeric.{bits64, field, mag, negative, signed, counted_sum, sum, scaled, less}
use Rattle.lerc_numeric.proofs.Compare.{ltb-same}
use Rattle.lerc_numeric.proofs.Format.{sub-mul}
use Rattle.lerc_numeric.proofs.Infinity.{IsNumber}
use Rattle.lerc_numeric.proofs.Magnitude.{mag-lt, bits-le}
use Rattle.lerc_numeric.proofs.Monotone.{finite-sum}
use Rattle.lerc_numeric.proofs.Right.{rest-signed, bits-lt}
use Rattle.lerc_numeric.proofs.Rounds.{no-nan-bits, word_value, round-bits}

-- ---- two fractions over one denominator: A / C is a / c, and B / C is b / c
module _ (A B C a b c : ℕ) (hC : 0 < C) (hc : 0 < c) (ea : A * c ≡ a * C) (eb : B * c ≡ b * C) where
  order : ltb A B ≡ ltb a b
  order = ltb-same A B a b below above
    where
      below : A < B → a < b
      below h = lt_of_mul-lt-mul_right C (rw (← ea, ← eb) (mul-lt-mul_of_pos_right h hc))

      above : B ≤ A → b ≤ a
      above h = le_of_mul-le-mul_right (rw (← ea, ← eb) (mul-le-mul_right c h)) hC

  plus : (A + B) * c ≡ (a + b) * C
  plus = rw (add-mul A B c, add-mul a b C, ea, eb)

  minus : (A - B) * c ≡ (a - b) * C
  minus = rw (sub-mul A B c, sub-mul a b C, ea, eb)

sum_same : (s t : Bool) (A B C a b c : ℕ) → 0 < C → 0 < c → A * c ≡ a * C → B * c ≡ b * C → Ieee.sum binary64 s A t B C ≡ Ieee.sum binary64 s a t b c
unfolding Ieee.sum
sum_same s t A B C a b c hC hc ea eb =
    rw (
      order A B C a b c hC hc ea eb,
      order B A C b a c hC hc eb ea,
      round_same binary64 s (A + B) C (a + b) c hC hc (plus A B C a b c hC hc ea eb),
      round_same binary64 t (B - A) C (b - a) c hC hc (minus B A C b a c hC hc eb ea),
      round_same binary64 (s && ltb b a) (A - B) C (a - b) c hC hc (minus A B C a b c hC hc ea eb),
    )

below-same : (s t : Bool) (A B C a b c : ℕ) → 0 < C → 0 < c → A * c ≡ a * C → B * c ≡ b * C → Ieee.below s A t B ≡ Ieee.below s a t b
below-same false false A B C a b c hC hc ea eb = order A B C a b c hC hc ea eb
below-same false true A B C a b c hC hc ea eb = refl
below-same true false A B C a b c hC hc ea eb = order 0 (A + B) C 0 (a + b) c hC hc (zero-mul c ∙ sym (zero-mul C)) (plus A B C a b c hC hc ea eb)
below-same true true A B C a b c hC hc ea eb = order B A C b a c hC hc eb ea

-- ---- sum, order and product of two numbers by the fractions that they are
module _ (m n : ℕ) (e d : ℤ) (a b c : ℕ) (p : m * up e * c ≡ a * down e) (q : n * up d * c ≡ b * down d) where
  first : m * up e * down d * c ≡ a * (down e * down d)
  first = rw (mul_right_comm (m * up e) (down d) c, p) (mul_assoc a (down e) (down d))

  second : n * up d * down e * c ≡ b * (down e * down d)
  second = rw (mul_right_comm (n * up d) (down e) c, q, mul_right_comm b (down d) (down e)) (mul_assoc b (down e) (down d))

common-pos : (e d : ℤ) → 0 < down e * down d
common-pos e d = mul-pos (down_pos e) (down_pos d)

pub add-value : (x y : Float) (s t : Bool) (a b c : ℕ) → 0 < c → HasValue x s a c → HasValue y t b c → Ieee.add binary64 x y ≡ Ieee.sum binary64 s a t b c
unfolding Ieee.add
add-value nan y s t a b c h p q = absurd p
add-value (inf u) y s t a b c h p q = absurd p
add-value (fin u m e) nan s t a b c h p q = absurd q
add-value (fin u m e) (inf v) s t a b c h p q = absurd q
add-value (fin u m e) (fin v n d) s t a b c h p q =
    rw (p.0, q.0)
    (sum_same s t (m * up e * down d) (n * up d * down e) (down e * down d) a b c (common-pos e d) h (first m n e d a b c p.1 q.1) (second m n e d a b c p.1 q.1))

lt-value : (x y : Float) (s t : Bool) (a b c : ℕ) → 0 < c → HasValue x s a c → HasValue y t b c → Ieee.lt x y ≡ Ieee.below s a t b
unfolding Ieee.lt
lt-value nan y s t a b c h p q = absurd p
lt-value (inf u) y s t a b c h p q = absurd p
lt-value (fin u m e) nan s t a b c h p q = absurd q
lt-value (fin u m e) (inf v) s t a b c h p q = absurd q
lt-value (fin u m e) (fin v n d) s t a b c h p q =
    rw (p.0, q.0)
    (below-same s t (m * up e * down d) (n * up d * down e) (down e * down d) a b c (common-pos e d) h (first m n e d a b c p.1 q.1) (second m n e d a b c p.1 q.1))

pub mul-value : (x y : Float) (s t : Bool) (a b c d : ℕ) → 0 < c → 0 < d → HasValue x s a c → HasValue y t b d → Ieee.mul binary64 x y ≡ round binary64 (Ieee.unlike s t) (a * b) (c * d)
unfolding Ieee.mul
mul-value nan y s t a b c d hc hd p q = absurd p
mul-value (inf u) y s t a b c d hc hd p q = absurd p
mul-value (fin u m e) nan s t a b c d hc hd p q = absurd q
mul-value (fin u m e) (inf v) s t a b c d hc hd p q = absurd q
mul-value (fin u m e) (fin v n k) s t a b c d hc hd p q =
    rw (p.0, q.0) (round_same binary64 (Ieee.unlike s t) (m * up e * (n * up k)) (down e * down k) (a * b) (c * d) (common-pos e k) (mul-pos hc hd) cross)
  where
    cross : m * up e * (n * up k) * (c * d) ≡ a * b * (down e * down k)
    cross = rw (mul-mul-mul_comm (m * up e) (n * up k) c d, p.1, q.1) (mul-mul-mul_comm a (down e) b (down k))

-- ---- the sum of two finite words
to_bits-cond : (b : Bool) (x y : Float) → to_bits binary64 (cond b x y) ≡ cond b (to_bits binary64 x) (to_bits binary64 y)
to_bits-cond true x y = refl
to_bits-cond false x y = refl

counted-bits : (a b : ℕ) → to_bits binary64 (Ieee.sum binary64 (negative a) (mag a) (negative b) (mag b) (2 ^ 1074)) ≡ counted_sum a b
unfolding Ieee.sum counted_sum
counted-bits a b =
    rw (
      to_bits-cond (beq (negative a) (negative b)) _ _,
      to_bits-cond (ltb (mag a) (mag b)) _ _,
      round-bits (negative a) (mag a + mag b),
      round-bits (negative b) (mag b - mag a),
      round-bits (negative a && ltb (mag b) (mag a)) (mag a - mag b),
    )

pub machine-sum : (a b : ℕ) → field a < 2047 → field b < 2047 → to_bits binary64 (Ieee.add binary64 (of_bits binary64 a) (of_bits binary64 b)) ≡ sum a b
machine-sum a b ha hb =
    rw (add-value (of_bits binary64 a) (of_bits binary64 b) (negative a) (negative b) (mag a) (mag b) (2 ^ 1074) (pow_pos 1074) (word_value a ha) (word_value b hb), finite-sum a b ha hb)
    (counted-bits a b)

-- ---- the product of a finite word and twice a count
abbrev pub product : ℕ → ℕ → Float
product a q = Ieee.mul binary64 (of_bits binary64 a) (Ieee.of_int binary64 (pos (2 * q)))

pub count-value : (n : ℕ) → n < 2 ^ 53 → HasValue (Ieee.of_int binary64 (pos n)) false n 1
unfolding Ieee.of_int
count-value n h = round_exact binary64 false n 1 n 1074 (lit< tt) h (lt_of_lt_of_le (shl_lt 53 1074 h) (pow_mono {i = 1127} {j = 2098} (lit≤ tt))) (sym (mul-one (n * 2 ^ 1074)))

pub count_fits : (n : ℕ) → n < 2 ^ 53 → T (Ieee.in_float binary64 (pos n))
unfolding Ieee.in_float
count_fits n h = le→leb n (2 ^ 53) (omega arith)

unlike-false : (s : Bool) → Ieee.unlike s false ≡ s
unlike-false true = refl
unlike-false false = refl

pub machine-scaled : (a q : ℕ) → field a < 2047 → 2 * q < 2 ^ 53 → to_bits binary64 (product a q) ≡ scaled a q
unfolding scaled
machine-scaled a q h l =
    rw (
      mul-value (of_bits binary64 a) (Ieee.of_int binary64 (pos (2 * q))) (negative a) false (mag a) (2 * q) (2 ^ 1074) 1 (pow_pos 1074) (lit< tt) (word_value a h) (count-value (2 * q) l),
      unlike-false (negative a),
      mul-one (2 ^ 1074),
      mul_comm (mag a) (2 * q),
    )
    (round-bits (negative a) (2 * q * mag a))

-- ---- the order of a number and a finite word: an infinity is farther out than every finite value
lt-infinite : (s t : Bool) (y : Float) (i a c : ℕ) → HasValue y t a c → a < i → Ieee.lt (inf s) y ≡ Ieee.below s i t a
unfolding Ieee.lt
lt-infinite s t nan i a c p h = absurd p
lt-infinite s t (inf u) i a c p h = absurd p
lt-infinite false false (fin u m e) i a c p h = sym (le-ltb i a (omega arith))
lt-infinite false true (fin u m e) i a c p h = refl
lt-infinite true false (fin u m e) i a c p h = sym (lt-ltb 0 (i + a) (omega arith))
lt-infinite true true (fin u m e) i a c p h = sym (lt-ltb a i h)

infinite-value : (w : ℕ) → w % 2 ^ 63 ≡ 2047 * 2 ^ 52 → of_bits binary64 w ≡ inf (negative w)
unfolding of_bits of_fields
infinite-value w h =
    let x : w % 2 ^ 63 / 2 ^ 52 ≡ 2047 = omega arith in
    let t : w % 2 ^ 52 ≡ 0 = omega arith in
    rw (x, t)

pub machine-less : (w t : ℕ) → IsNumber w → field t < 2047 → Ieee.lt (of_bits binary64 w) (of_bits binary64 t) ≡ less w t
unfolding less
machine-less w t h ht = go (eq-or-lt_of_le h)
  where
    go : (w % 2 ^ 63 ≡ 2047 * 2 ^ 52) ⊎ (w % 2 ^ 63 < 2047 * 2 ^ 52) → Ieee.lt (of_bits binary64 w) (of_bits binary64 t) ≡ Ieee.below (negative w) (mag w) (negative t) (mag t)
    go (inl e) = rw (infinite-value w e) (lt-infinite (negative w) (negative t) (of_bits binary64 t) (mag w) (mag t) (2 ^ 1074) (word_value t ht) (mag-lt t w (omega arith)))
    go (inr l) = lt-value (of_bits binary64 w) (of_bits binary64 t) (negative w) (negative t) (mag w) (mag t) (2 ^ 1074) (pow_pos 1074) (word_value w (omega arith)) (word_value t ht)

-- ---- no result is a NaN: its bits are a number's
no_nan : (x : Float) (w : ℕ) → T (Ieee.fits binary64 x) → to_bits binary64 x ≡ w → IsNumber w → T (not (Ieee.is_nan x))
no_nan x w f e h = rw (sym (of_bits-to_bits binary64 x f) ∙ ap (of_bits binary64) e, ← nan_bits_is binary64 w) (no-nan-bits w h)

pub signed-number : (s : Bool) (n : ℕ) → IsNumber (signed s (bits64 n))
signed-number s n = rw (rest-signed s (bits64 n) (bits-lt n)) (bits-le n)

counted-number : (a b : ℕ) → IsNumber (counted_sum a b)
unfolding counted_sum
counted-number a b = go (beq (negative a) (negative b)) (ltb (mag a) (mag b))
  where
    go : (x y : Bool)
        → IsNumber (cond x (signed (negative a) (bits64 (mag a + mag b)))
        (cond y (signed (negative b) (bits64 (mag b - mag a))) (signed (negative a && ltb (mag b) (mag a)) (bits64 (mag a - mag b)))))
    go true y = signed-number (negative a) (mag a + mag b)
    go false true = signed-number (negative b) (mag b - mag a)
    go false false = signed-number (negative a && ltb (mag b) (mag a)) (mag a - mag b)

pub sum_number : (a b : ℕ) → field a < 2047 → field b < 2047 → IsNumber (sum a b)
sum_number a b ha hb = rw (finite-sum a b ha hb) (counted-number a b)

pub sum-no-nan : (a b : ℕ) → field a < 2047 → field b < 2047 → T (not (Ieee.is_nan (Ieee.add binary64 (of_bits binary64 a) (of_bits binary64 b))))
sum-no-nan a b ha hb =
    no_nan _ (sum a b) (add-fits binary64 (of_bits binary64 a) (of_bits binary64 b)) (machine-sum a b ha hb) (sum_number a b ha hb)

pub product-fits : (a q : ℕ) → T (Ieee.fits binary64 (product a q))
product-fits a q = mul-fits binary64 (of_bits binary64 a) (Ieee.of_int binary64 (pos (2 * q)))

pub scaled-no-nan : (a q : ℕ) → field a < 2047 → 2 * q < 2 ^ 53 → T (not (Ieee.is_nan (product a q)))
unfolding scaled
scaled-no-nan a q h l =
    no_nan (product a q) (scaled a q) (product-fits a q) (machine-scaled a q h l) (signed-number (negative a) (2 * q * mag a))
