-- One step over both sums.
-- Assumes nothing.
use mathlib.Core.Path.{◌≡◌, refl, sym, ap, ◌∙◌}
use mathlib.Core.Logic.{◌≢◌}
use mathlib.Core.Bool.{Bool, true, false, beq}
use Prim.Native.Nat.{ℕ, ◌+◌, ◌-◌, ◌*◌, ◌%◌, ◌^◌, ◌≤◌, ◌<◌}
use native.Mathlib.Decide.{dec_lt}
use native.Mathlib.Omega.{arith}
use borrow.Author.Tests.{ltb-true}
use lib.Dec.{lit≤}
use lib.Ieee.{size}
use Rattle.lerc_numeric.specs.Numeric.{bits64, code, field, finite, infinite, mag, negative, signed, sum, counted_sum, scaled, less, lesser}
use Rattle.lerc_numeric.specs.Steps.{step_of}
use Rattle.lerc_numeric.proofs.Magnitude.{mag-le}
use Rattle.lerc_numeric.proofs.Right.{bits-lt, bits64-mono, negative-signed, rest-signed}
use Rattle.lerc_numeric.proofs.Infinity.{outer, outer-is, finite-not, infinite-mag, finite-mag, outer-bits, outer-less, infinite-own, sum-counted, sum-right, absorbs-not, absorbs-both}
use Rattle.lerc_numeric.proofs.Sums.{counted-comm, counted-alike, counted-apart}
use Rattle.lerc_numeric.proofs.Monotone.{up, down, up-most, not-less, less-asym, scaled_sign}
use Rattle.lerc_overflow.specs.By.{step_by}
use Rattle.lerc_overflow.specs.Changes.{Stepping, far_offset}

pub is_finite : (w : ℕ) → finite w ≡ true → field w < 2047
is_finite w e = ltb-true (field w) 2047 e

-- a product is a word
pub scaled_fits : (a q : ℕ) → scaled a q < 2 ^ 64
unfolding scaled
scaled_fits a q = go (negative a)
  where
    n : ℕ
    n = 2 * q * mag a

    go : (s : Bool) → signed s (bits64 n) < 2 ^ 64
    go true = omega (arith, bits-lt n)
    go false = omega (arith, bits-lt n)

-- ---- where nothing changes
pub step_same : (error top offset q : ℕ) → infinite offset ≡ false → infinite (scaled error q) ≡ false → step_of offset error top q ≡ step_by counted_sum error top offset q
unfolding step_of step_by
step_same error top offset q f i = rw (sum-counted offset (scaled error q) (absorbs-not offset (scaled error q) f) (absorbs-not (scaled error q) offset i))

-- signs: one of both, or two
signs : (s t : Bool) → (t ≡ s → ⊥) → beq s t ≡ false
signs true true h = absurd (h refl)
signs true false h = refl
signs false true h = refl
signs false false h = absurd (h refl)

-- an infinity counted with an offset no farther out than 2 ^ 970 is rounded to itself
near-counted : (a b : ℕ) → b < 2 ^ 64 → infinite b ≡ true → mag a ≤ 2 ^ 2044 → mag a < outer → counted_sum a b ≡ b
near-counted a b l i h n = go (negative a) (negative b) refl refl
  where
    one : negative a ≡ negative b → counted_sum a b ≡ b
    one e = counted-alike a b e ∙ rw (e) (infinite-own b (mag a + mag b) l i (outer-bits (mag a + mag b) (omega (arith, infinite-mag b i))))

    two : beq (negative b) (negative a) ≡ false → counted_sum a b ≡ b
    two e =
        counted-comm a b
        ∙ counted-apart b a e (omega (arith, infinite-mag b i))
        ∙ infinite-own b (mag b - mag a) l i (outer-less (mag a) (mag b - mag a) h (omega (arith, infinite-mag b i)))

    go : (s t : Bool) → negative a ≡ s → negative b ≡ t → counted_sum a b ≡ b
    go true true e f = one (e ∙ sym f)
    go false false e f = one (e ∙ sym f)
    go true false e f = two (rw (e, f))
    go false true e f = two (rw (e, f))

-- so with an offset that near no step changes
pub step-near : (error top offset q : ℕ) → finite offset ≡ true → mag offset ≤ 2 ^ 2044 → step_of offset error top q ≡ step_by counted_sum error top offset q
unfolding step_of step_by
step-near error top offset q f h = go (infinite p) refl
  where
    p : ℕ
    p = scaled error q

    go : (t : Bool) → infinite p ≡ t → lesser (sum offset p) top ≡ lesser (counted_sum offset p) top
    go false i = rw (sum-counted offset p (absorbs-not offset p (finite-not offset (is_finite offset f))) (absorbs-not p offset i))
    go true i =
        let l = is_finite offset f in
        rw (sum-right offset p (absorbs-both p offset i l), near-counted offset p (scaled_fits error q) i h (finite-mag offset l))

-- ---- an infinite product
module _ (error top offset q : ℕ) (g : Stepping error top offset) (i : infinite (scaled error q) ≡ true) where
  positive : negative (scaled error q) ≡ false
  positive = scaled_sign error q ∙ g.error-right

  -- no finite number is greater
  not-below : less (scaled error q) top ≡ false
  not-below =
      let u : up (scaled error q) ≡ mag (scaled error q) = rw (positive) in
      let d : down (scaled error q) ≡ 0 = rw (positive) in
      not-less (scaled error q) top (omega (arith, u, d, up-most top, infinite-mag (scaled error q) i, finite-mag top (is_finite top g.top-finite)))

  pub step-most : step_of offset error top q ≡ top
  unfolding step_of lesser
  step-most = rw (sum-right offset (scaled error q) (absorbs-both (scaled error q) offset i (is_finite offset g.offset-finite)), not-below)

  counted-top : less (counted_sum offset (scaled error q)) top ≡ false → step_by counted_sum error top offset q ≡ top
  unfolding step_by lesser
  counted-top e = rw (e)

  counted-below : less (counted_sum offset (scaled error q)) top ≡ true → step_by counted_sum error top offset q ≡ counted_sum offset (scaled error q)
  unfolding step_by lesser
  counted-below e = rw (e)

  pub step_kept : less (counted_sum offset (scaled error q)) top ≡ false → step_of offset error top q ≡ step_by counted_sum error top offset q
  step_kept e = step-most ∙ sym (counted-top e)

  pub step-changed : less (counted_sum offset (scaled error q)) top ≡ true → step_of offset error top q ≢ step_by counted_sum error top offset q
  step-changed e x =
      let y : top ≡ counted_sum offset (scaled error q) = sym step-most ∙ x ∙ counted-below e in
      let l : less top top ≡ true = rw (← y) at e in
      let n : less top top ≡ false = less-asym top top l in
      absurd (let z : ◌≡◌ {A = ℕ} 0 1 = cc in omega arith)

  -- ---- with an offset less far out, or a positive one, the counted sum is no less than any finite number

  -- the greatest finite word, and the least magnitude that is rounded to it
  greatest : bits64 (2 ^ 2098 - 3 * 2 ^ 2044 + 1) ≡ 2047 * 2 ^ 52 - 1
  unfolding code size
  greatest = refl

  rounded-up : (n : ℕ) → 2 ^ 2098 - 3 * 2 ^ 2044 + 1 ≤ n → 2047 * 2 ^ 52 - 1 ≤ bits64 n
  rounded-up n l = rw (← greatest) (bits64-mono (2 ^ 2098 - 3 * 2 ^ 2044 + 1) n l)

  not-under : (n : ℕ) → counted_sum offset (scaled error q) ≡ signed false (bits64 n) → 2047 * 2 ^ 52 - 1 ≤ bits64 n → less (counted_sum offset (scaled error q)) top ≡ false
  not-under n e l =
      let w = counted_sum offset (scaled error q) in
      let s : negative w ≡ false = rw (e) (negative-signed false (bits64 n) (bits-lt n)) in
      let r : w % 2 ^ 63 ≡ bits64 n = rw (e) (rest-signed false (bits64 n) (bits-lt n)) in
      let u : up w ≡ mag w = rw (s) in
      let d : down w ≡ 0 = rw (s) in
      let f = is_finite top g.top-finite in
      not-less w top (omega (arith, u, d, up-most top, mag-le w top (omega (arith, r, f))))

  plus-counted : negative offset ≡ false → less (counted_sum offset (scaled error q)) top ≡ false
  plus-counted e =
      let n = mag offset + mag (scaled error q) in
      let b : bits64 n ≡ 2047 * 2 ^ 52 = outer-bits n (omega (arith, infinite-mag (scaled error q) i)) in
      not-under n (counted-alike offset (scaled error q) (e ∙ sym positive) ∙ ap (λ (s : Bool). signed s (bits64 n)) e) (omega (arith, b))

  minus-counted : negative offset ≡ true → mag offset < far_offset → less (counted_sum offset (scaled error q)) top ≡ false
  minus-counted e l =
      let p = scaled error q in
      let m = infinite-mag p i in
      let n = mag p - mag offset in
      let c : counted_sum offset p ≡ signed false (bits64 n) = counted-comm offset p
      ∙ counted-apart p offset (rw (e, positive)) (omega (arith, m, finite-mag offset (is_finite offset g.offset-finite)))
      ∙ ap (λ (s : Bool). signed s (bits64 n)) positive
      in
      not-under n c (rounded-up n (rw (m) (rw (outer-is) (under (2 ^ 2098) far_offset (mag offset) (lit≤ tt) l))))
    where
      under : (x k o : ℕ) → k ≤ x → o < k → x - k + 1 ≤ x - o
      under x k o b c = omega arith

-- ---- so a step changes only with an offset of -3·2^970 or less
pub step-offset : (error top offset q : ℕ) → Stepping error top offset → step_of offset error top q ≢ step_by counted_sum error top offset q → (negative offset ≡ true) × (far_offset ≤ mag offset)
step-offset error top offset q g d = go (infinite (scaled error q)) refl (negative offset) refl (dec_lt (mag offset) far_offset)
  where
    go : (t : Bool) → infinite (scaled error q) ≡ t → (s : Bool) → negative offset ≡ s → Dec (mag offset < far_offset) → (negative offset ≡ true) × (far_offset ≤ mag offset)
    go false i s e l = absurd (d (step_same error top offset q (finite-not offset (is_finite offset g.offset-finite)) i))
    go true i false e l = absurd (d (step_kept error top offset q g i (plus-counted error top offset q g i e)))
    go true i true e (yes l) = absurd (d (step_kept error top offset q g i (minus-counted error top offset q g i e l)))
    go true i true e (no l) = (e, not-lt-le (mag offset) far_offset l)
      where
        not-lt-le : (x k : ℕ) → (x < k → ⊥) → k ≤ x
        not-lt-le x k n = omega arith

-- with that offset and 2^1024 below the maximum
pub step-below : (error top offset q : ℕ) → Stepping error top offset → infinite (scaled error q) ≡ true → step_of offset error top q ≢ step_by counted_sum error top offset q → less (counted_sum offset (scaled error q)) top ≡ true
step-below error top offset q g i d = go (less (counted_sum offset (scaled error q)) top) refl
  where
    go : (t : Bool) → less (counted_sum offset (scaled error q)) top ≡ t → t ≡ true
    go true e = refl
    go false e = absurd (d (step_kept error top offset q g i e))
