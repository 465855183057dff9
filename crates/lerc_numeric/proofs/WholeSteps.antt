-- Steps by whole numbers: where twice the error is a whole number, an offset with any number of steps, clamped and cut, is that of
-- plain arithmetic. Numbers are counted from -2 ^ 32 on, so that none is negative: x stands for x - 2 ^ 32.
-- Assumes nothing.
use mathlib.Core.Path.{◌≡◌, refl, sym, ap, ◌∙◌}
use mathlib.Core.Bool.{Bool, true, false, cond, ◌&&◌, and-false}
use Prim.Native.Nat.{ℕ, ◌+◌, ◌-◌, ◌*◌, ◌/◌, ◌%◌, ◌^◌, ◌≤◌, ◌<◌, min}
use native.Mathlib.Nat.{add-mul, mul_assoc, mul_comm, mul_right_comm, mul-div_cancel, mul-le-mul_right, mod-eq_of_lt, mod-lt, mod_self, zero-add, zero-div}
use native.Mathlib.Decide.{dec_lt}
use native.Mathlib.Omega.{arith}
use borrow.Author.Tests.{le-leb, lt-leb}
use lib.Dec.{leb}
use lib.Pow.{pow_pos}
use lib.Ieee.Nearest.{div_mono}
use Rattle.lerc_words.specs.Res.{ok}
use Rattle.lerc_numeric.specs.Numeric.{bits64, field, mag, negative, signed, sum, scaled, less, lesser}
use Rattle.lerc_numeric.specs.Kinds.{type_size, modulus, signed_kind, integer, value_of, whole, cut}
use Rattle.lerc_numeric.specs.Whole.{twice_whole, raised}
use Rattle.lerc_numeric.proofs.Format.{sub-mul}
use Rattle.lerc_numeric.proofs.Right.{negative-signed, bits-lt}
use Rattle.lerc_numeric.proofs.Integers.{modulus-ge, modulus-even, modulus-le, value-int, bound-le}
use Rattle.lerc_numeric.proofs.Monotone.{up, down, rounded, at_least, less-asym, counted-sides, finite-sum}
use Rattle.lerc_numeric.proofs.Fits.{KindHolds, word_of, held_cut, cut-held, cut-lt, held-clamped, whole-mag, whole-field}
use Rattle.lerc_numeric.proofs.WholeNumbers.{IsTwice, twice-is, lifted, raised_is, raised_lt, raised-back}

-- ---- w stands for x - 2 ^ 32
record Stands (w x : ℕ) : Type 0 where
  high : up w ≡ (x - 2 ^ 32) * 2 ^ 1074
  low : down w ≡ (2 ^ 32 - x) * 2 ^ 1074

-- the whole numbers in u units
unfoldable ones : ℕ → ℕ
ones u = u / 2 ^ 1074

ones-le : (u v : ℕ) → u ≤ v → ones u ≤ ones v
unfolding ones
ones-le u v l = div_mono u (2 ^ 1074) v (2 ^ 1074) (pow_pos 1074) (pow_pos 1074) (mul-le-mul_right (2 ^ 1074) l)

-- w, cut toward zero, stands for x - 2 ^ 32
record Near (w x : ℕ) : Type 0 where
  high : ones (up w) ≡ x - 2 ^ 32
  low : ones (down w) ≡ 2 ^ 32 - x

stands-near : (w x : ℕ) → Stands w x → Near w x
unfolding ones
stands-near w x s = record { high = rw s.high (mul-div_cancel (x - 2 ^ 32) (pow_pos 1074)); low = rw s.low (mul-div_cancel (2 ^ 32 - x) (pow_pos 1074)) }

near-one : (w x y : ℕ) → Near w x → Near w y → x ≡ y
near-one w x y a b = omega (arith, a.high, a.low, b.high, b.low)

-- the number a with the sign s
abbrev from : Bool → ℕ → ℕ
from s a = cond s (2 ^ 32 - a) (2 ^ 32 + a)

up_from : (s : Bool) (a : ℕ) → from s a - 2 ^ 32 ≡ cond s 0 a
up_from true a = omega arith
up_from false a = omega arith

down-from : (s : Bool) (a : ℕ) → cond s a 0 ≤ 2 ^ 32 → 2 ^ 32 - from s a ≡ cond s a 0
down-from true a h = omega arith
down-from false a h = omega arith

whole-stands : (s : Bool) (a : ℕ) → a < 2 ^ 53 → cond s a 0 ≤ 2 ^ 32 → Stands (signed s (bits64 (a * 2 ^ 1074))) (from s a)
whole-stands s a h l = record { high = rw (n, x, up_from s a) (up_is s); low = rw (n, x, down-from s a l) (down_is s) }
  where
    n : negative (signed s (bits64 (a * 2 ^ 1074))) ≡ s
    n = negative-signed s (bits64 (a * 2 ^ 1074)) (bits-lt (a * 2 ^ 1074))

    x : mag (signed s (bits64 (a * 2 ^ 1074))) ≡ a * 2 ^ 1074
    x = whole-mag s a h

    up_is : (s : Bool) → cond s 0 (a * 2 ^ 1074) ≡ cond s 0 a * 2 ^ 1074
    up_is true = refl
    up_is false = refl

    down_is : (s : Bool) → cond s (a * 2 ^ 1074) 0 ≡ cond s a 0 * 2 ^ 1074
    down_is true = refl
    down_is false = refl

-- the value of a word of a kind of integers stands for its number
value-stands : (kind w : ℕ) → kind < 6 → Stands (value_of kind w) (raised kind w)
value-stands kind w h = rw (← value-int kind w (modulus kind) (integer kind v) refl h refl, raised_is kind w h) (unfold integer in go (signed_kind kind && leb (m / 2) v))
  where
    m : ℕ
    m = modulus kind

    v : ℕ
    v = w % m

    l : v < m
    l = mod-lt w (pow_pos (8 * type_size kind))

    k : m ≤ 2 ^ 32
    k = modulus-le kind h

    go : (s : Bool) → Stands (signed s (bits64 (cond s (m - v) v * 2 ^ 1074))) (lifted m v s)
    go true =
        let z : lifted m v true ≡ from true (m - v) = omega (arith, l, k) in
        rw (z) (whole-stands true (m - v) (omega (arith, k)) (omega (arith, k)))
    go false =
        let z : lifted m v false ≡ from false v = omega arith in
        rw (z) (whole-stands false v (omega (arith, l, k)) (omega arith))

-- a value is near its whole part
near-whole : (w : ℕ) → cond (negative w) (whole w) 0 ≤ 2 ^ 32 → Near w (from (negative w) (whole w))
unfolding ones whole
near-whole w l = record { high = rw (up_from (negative w) (whole w)) (up_is (negative w)); low = rw (down-from (negative w) (whole w) l) (down_is (negative w)) }
  where
    up_is : (s : Bool) → cond s 0 (mag w) / 2 ^ 1074 ≡ cond s 0 (mag w / 2 ^ 1074)
    up_is true = zero-div (2 ^ 1074)
    up_is false = refl

    down_is : (s : Bool) → cond s (mag w) 0 / 2 ^ 1074 ≡ cond s (mag w / 2 ^ 1074) 0
    down_is true = refl
    down_is false = zero-div (2 ^ 1074)

-- and so the number of the word that it is cut to
cut-near : (kind w t : ℕ) → cut kind w ≡ ok t → Near w (raised kind t)
cut-near kind w t e =
    let z : t ≡ word_of kind w = cc (held_cut kind w held) in
    let n = go (negative w) (signed_kind kind) (dec_lt 0 q) held.inside z in
    rw (raised_is kind t held.integers, mod-eq_of_lt (cut-lt kind w t e), n) (near-whole w (small (negative w)))
  where
    m : ℕ
    m = modulus kind

    q : ℕ
    q = whole w

    held : KindHolds kind w
    held = cut-held kind w t e

    k : m ≤ 2 ^ 32
    k = modulus-le kind held.integers

    small : (s : Bool) → cond s q 0 ≤ 2 ^ 32
    small true = omega (arith, held.inside, bound-le kind (negative w), k)
    small false = omega arith

    go : (n g : Bool) → Dec (0 < q) → q < cond g (m / 2 + cond n 1 0) (cond n 1 m) → t ≡ cond n ((m - q) % m) q → lifted m t (g && leb (m / 2) t) ≡ from n q
    go false true d b z = rw (lt-leb (m / 2) t (omega arith)) (omega arith)
    go false false d b z = omega arith
    go true true (yes o) b z =
        let y : t ≡ m - q = z ∙ mod-eq_of_lt (omega (arith, modulus-ge kind)) in
        rw (le-leb (m / 2) t (omega (arith, modulus-even kind))) (omega (arith, k))
    go true false (yes o) b z = absurd (omega arith)
    go true g (no o) b z =
        let x : m - q ≡ m = omega arith in
        let y : t ≡ 0 = z ∙ rw (x) (mod_self m) in
        rw (lt-leb (m / 2) t (omega (arith, modulus-ge kind)), and-false) (omega arith)

-- ---- the order of values is that of the numbers that they are near
sides-le : (a b : ℕ) → less a b ≡ false → (up b ≤ up a) × (down a ≤ down b)
sides-le a b e = go (negative a) (negative b) (at_least a b e)
  where
    go : (s t : Bool) → cond t 0 (mag b) + cond s (mag a) 0 ≤ cond s 0 (mag a) + cond t (mag b) 0 → (cond t 0 (mag b) ≤ cond s 0 (mag a)) × (cond s (mag a) 0 ≤ cond t (mag b) 0)
    go true true h = (omega arith, omega arith)
    go true false h = (omega arith, omega arith)
    go false true h = (omega arith, omega arith)
    go false false h = (omega arith, omega arith)

near_le : (a b x y : ℕ) → Near a x → Near b y → less a b ≡ false → y ≤ x
near_le a b x y m n e =
    let l = sides-le a b e in
    omega (arith, m.high, m.low, n.high, n.low, ones-le (up b) (up a) l.0, ones-le (down a) (down b) l.1)

near-lesser : (a b x y : ℕ) → Near a x → Near b y → Near (lesser a b) (min x y)
unfolding lesser
near-lesser a b x y m n = go (less a b) refl
  where
    go : (t : Bool) → less a b ≡ t → Near (cond t a b) (min x y)
    go true e =
        let z : min x y ≡ x = omega (arith, near_le b a y x n m (less-asym a b e)) in
        rw (z) m
    go false e =
        let z : min x y ≡ y = omega (arith, near_le a b x y m n e) in
        rw (z) n

-- ---- the word that is stored
near-cut : (kind w x : ℕ) → KindHolds kind w → Near w x → cut kind w ≡ ok (x % modulus kind)
near-cut kind w x h n =
    let t = word_of kind w in
    let e = held_cut kind w h in
    let z : raised kind t ≡ x = near-one w (raised kind t) x (cut-near kind w t e) n in
    e ∙ ap (λ (y : ℕ). ok y) (sym (raised-back kind t h.integers (cut-lt kind w t e)) ∙ rw (z))

-- ---- an offset with steps
rounded-whole : (n : ℕ) → n < 2 ^ 53 → rounded (n * 2 ^ 1074) ≡ n * 2 ^ 1074
rounded-whole n h = rw (zero-add) at (whole-mag false n h)

-- the sides of a number, b more
module _ (x b p : ℕ) where
  up_more : (x - 2 ^ 32) * p + b * p - ((2 ^ 32 - x) * p + 0 * p) ≡ (x + b - 2 ^ 32) * p
  up_more =
      let z : x - 2 ^ 32 + b - (2 ^ 32 - x + 0) ≡ x + b - 2 ^ 32 = omega arith in
      rw (← add-mul (x - 2 ^ 32) b p, ← add-mul (2 ^ 32 - x) 0 p, ← sub-mul (x - 2 ^ 32 + b) (2 ^ 32 - x + 0) p, z)

  down-more : (2 ^ 32 - x) * p + 0 * p - ((x - 2 ^ 32) * p + b * p) ≡ (2 ^ 32 - (x + b)) * p
  down-more =
      let z : 2 ^ 32 - x + 0 - (x - 2 ^ 32 + b) ≡ 2 ^ 32 - (x + b) = omega arith in
      rw (← add-mul (x - 2 ^ 32) b p, ← add-mul (2 ^ 32 - x) 0 p, ← sub-mul (2 ^ 32 - x + 0) (x - 2 ^ 32 + b) p, z)

sum-stands : (a x b : ℕ) → Stands a x → field a < 2047 → b < 2 ^ 53 → x + b < 2 ^ 53 → Stands (sum a (signed false (bits64 (b * 2 ^ 1074)))) (x + b)
sum-stands a x b s f hb hx =
    let w = signed false (bits64 (b * 2 ^ 1074)) in
    let t = whole-stands false b hb (omega arith) in
    let c = counted-sides a w in
    let u : up w ≡ b * 2 ^ 1074 = t.high ∙ rw (up_from false b) in
    let d : down w ≡ 0 * 2 ^ 1074 = t.low ∙ rw (down-from false b (omega arith)) in
    rw (finite-sum a w f (whole-field false b hb))
    (record {
      high = c.high ∙ rw (s.high, s.low, u, d, up_more x b (2 ^ 1074)) (rounded-whole (x + b - 2 ^ 32) (omega arith));
      low = c.low ∙ rw (s.high, s.low, u, d, down-more x b (2 ^ 1074)) (rounded-whole (2 ^ 32 - (x + b)) (omega arith));
    })

-- twice the error is the whole number k: the product is k * q
scaled-is : (error k q : ℕ) → IsTwice error k → scaled error q ≡ signed false (bits64 (k * q * 2 ^ 1074))
unfolding scaled
scaled-is error k q i = rw (i.sign, moved (2 ^ 1074) i.double)
  where
    moved : (p : ℕ) → k * p ≡ mag error * 2 → 2 * q * mag error ≡ k * q * p
    moved p e = rw (mul_comm (2 * q) (mag error), ← mul_assoc (mag error) 2 q, ← e, mul_right_comm k p q)

-- ---- one step: "the lesser of sum(offset, scaled(error, q)) and the depth's maximum", stored, by whole numbers alone
pub whole-step : (kind okind error w top t q : ℕ) → okind < 6 → 0 < twice_whole error → KindHolds kind (value_of okind w) → cut kind top ≡ ok t → q < 2 ^ 32
    → cut kind (lesser (sum (value_of okind w) (scaled error q)) top) ≡ ok (min (raised okind w + twice_whole error * q) (raised kind t) % modulus kind)
whole-step kind okind error w top t q ho hn held e hq =
    near-cut kind (lesser v top) (min x (raised kind t))
    (held-clamped kind (value_of okind w) error q top held (cut-held kind top t e) i.sign)
    (near-lesser v top x (raised kind t) (stands-near v x stands) (cut-near kind top t e))
  where
    v : ℕ
    v = sum (value_of okind w) (scaled error q)

    x : ℕ
    x = raised okind w + twice_whole error * q

    i : IsTwice error (twice_whole error)
    i = twice-is error hn

    few : twice_whole error * q < 2 ^ 52
    few = omega (arith, mul-le-mul_right q i.few)

    stands : Stands v x
    stands =
        rw (scaled-is error (twice_whole error) q i)
        (sum-stands (value_of okind w) (raised okind w) (twice_whole error * q) (value-stands okind w ho) held.is_finite (omega (arith, few)) (omega (arith, few, raised_lt okind w)))
