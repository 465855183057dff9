-- Sums by the signs of their operands: both orders of operands give one sum, of one sign the magnitudes are added, of two they are
-- subtracted, and zeros keep their rules.
-- Assumes nothing.
use mathlib.Core.Path.{◌≡◌, refl, sym, ◌∙◌}
use mathlib.Core.Bool.{Bool, true, false, cond, ◌&&◌, beq, and-true, and-false}
use Prim.Native.Nat.{ℕ, ◌+◌, ◌-◌, ◌^◌, ◌<◌}
use native.Mathlib.Nat.{le_of_eq, le_of_lt, add_comm}
use native.Mathlib.Decide.{dec_lt}
use native.Mathlib.Omega.{arith}
use borrow.Author.Tests.{lt-ltb, le-ltb}
use lib.Dec.{ltb}
use lib.Ieee.{size}
use Rattle.lerc_numeric.specs.Numeric.{bits64, code, infinite, absorbs, mag, negative, signed, sum, counted_sum}
use Rattle.lerc_numeric.proofs.Magnitude.{weight, weight_is}
use Rattle.lerc_numeric.proofs.Infinity.{infinite-mag, outer-bits, sum-counted, sum_left, sum-right, absorbs-not, absorbs-is, nearer-not, infinite-own}

pub beq-refl : (s : Bool) → beq s s ≡ true
beq-refl true = refl
beq-refl false = refl

beq-swap : (s t : Bool) → beq s t ≡ beq t s
beq-swap true true = refl
beq-swap true false = refl
beq-swap false true = refl
beq-swap false false = refl

-- ---- both orders of operands
pub counted-comm : (a b : ℕ) → counted_sum a b ≡ counted_sum b a
unfolding counted_sum
counted-comm a b = go (negative a) (negative b) (dec_lt (mag a) (mag b)) (dec_lt (mag b) (mag a))
  where
    x : ℕ
    x = mag a

    y : ℕ
    y = mag b

    go : (s t : Bool) → Dec (x < y) → Dec (y < x)
        → cond (beq s t) (signed s (bits64 (x + y))) (cond (ltb x y) (signed t (bits64 (y - x))) (signed (s && ltb y x) (bits64 (x - y))))
        ≡ cond (beq t s) (signed t (bits64 (y + x))) (cond (ltb y x) (signed s (bits64 (x - y))) (signed (t && ltb x y) (bits64 (y - x))))
    go false false d e = rw (add_comm x y)
    go true true d e = rw (add_comm x y)
    go false true (yes l) e = rw (lt-ltb x y l, le-ltb y x (le_of_lt l))
    go false true (no l) (yes k) = rw (lt-ltb y x k, le-ltb x y (le_of_lt k))
    go false true (no l) (no k) =
        let z : x ≡ y = omega arith in
        rw (z, le-ltb y y (omega arith))
    go true false (yes l) e = rw (lt-ltb x y l, le-ltb y x (le_of_lt l))
    go true false (no l) (yes k) = rw (lt-ltb y x k, le-ltb x y (le_of_lt k))
    go true false (no l) (no k) =
        let z : x ≡ y = omega arith in
        rw (z, le-ltb y y (omega arith))

-- a sum by its three cases
by_cases : (P : ℕ → Type 0) (a b : ℕ) → (absorbs a b ≡ true → P a) → (absorbs b a ≡ true → P b) → (absorbs a b ≡ false → absorbs b a ≡ false → P (counted_sum a b)) → P (sum a b)
by_cases P a b first second counted = go (absorbs a b) refl (absorbs b a) refl
  where
    go : (t : Bool) → absorbs a b ≡ t → (u : Bool) → absorbs b a ≡ u → P (sum a b)
    go true e u f = rw (sum_left a b e) (first e)
    go false e true f = rw (sum-right a b f) (second f)
    go false e false f = rw (sum-counted a b e f) (counted e f)

pub sum_comm : (a b : ℕ) → sum a b ≡ sum b a
sum_comm a b = by_cases (λ x. x ≡ sum b a) a b (λ e. sym (sum-right b a e)) (λ e. sym (sum_left b a e)) (λ e f. counted-comm a b ∙ sym (sum-counted b a f e))

-- ---- of one sign, infinities among them
pub counted-alike : (a b : ℕ) → negative a ≡ negative b → counted_sum a b ≡ signed (negative a) (bits64 (mag a + mag b))
unfolding counted_sum
counted-alike a b e = rw (e, beq-refl (negative b))

pub sum_alike : (a b : ℕ) → a < 2 ^ 64 → b < 2 ^ 64 → negative a ≡ negative b → sum a b ≡ signed (negative a) (bits64 (mag a + mag b))
sum_alike a b la lb e =
    by_cases (λ x. x ≡ signed (negative a) (bits64 (mag a + mag b))) a b
    (λ f. let i = (absorbs-is a b f).0 in sym (infinite-own a (mag a + mag b) la i (outer-bits (mag a + mag b) (omega (arith, infinite-mag a i)))))
    (λ f. let i = (absorbs-is b a f).0 in rw (e) (sym (infinite-own b (mag a + mag b) lb i (outer-bits (mag a + mag b) (omega (arith, infinite-mag b i))))))
    (λ _ _. counted-alike a b e)

-- ---- of two signs: the greater decides, and unless it is an infinity that meets a finite number the lesser is taken off
pub counted-apart : (a b : ℕ) → beq (negative a) (negative b) ≡ false → mag b < mag a → counted_sum a b ≡ signed (negative a) (bits64 (mag a - mag b))
unfolding counted_sum
counted-apart a b e l = rw (e, le-ltb (mag a) (mag b) (le_of_lt l), lt-ltb (mag b) (mag a) l, and-true (negative a))

pub sum-apart : (a b : ℕ) → beq (negative a) (negative b) ≡ false → mag b < mag a → absorbs a b ≡ false → sum a b ≡ signed (negative a) (bits64 (mag a - mag b))
sum-apart a b e l f = sum-counted a b f (nearer-not b a (le_of_lt l)) ∙ counted-apart a b e l

-- ---- zeros: "Opposite signs cancelling give +0; two zeros of one sign keep it"
counted-cancels : (a b : ℕ) → beq (negative a) (negative b) ≡ false → mag a ≡ mag b → counted_sum a b ≡ 0
unfolding counted_sum code size
counted-cancels a b d e =
    let z : mag a - mag b ≡ 0 = omega arith in
    rw (d, le-ltb (mag a) (mag b) (le_of_eq (sym e)), le-ltb (mag b) (mag a) (le_of_eq e), and-false (negative a), z)

pub sum-cancels : (a b : ℕ) → beq (negative a) (negative b) ≡ false → mag a ≡ mag b → sum a b ≡ 0
sum-cancels a b d e = sum-counted a b (nearer-not a b (le_of_eq e)) (nearer-not b a (le_of_eq (sym e))) ∙ counted-cancels a b d e

counted_zeros : (a b : ℕ) → negative a ≡ negative b → mag a ≡ 0 → mag b ≡ 0 → counted_sum a b ≡ signed (negative a) 0
unfolding counted_sum code size
counted_zeros a b d x y = rw (← d, beq-refl (negative a), x, y)

pub sum_zeros : (a b : ℕ) → negative a ≡ negative b → mag a ≡ 0 → mag b ≡ 0 → sum a b ≡ signed (negative a) 0
sum_zeros a b d x y = sum-counted a b (nearer-not a b (omega arith)) (nearer-not b a (omega arith)) ∙ counted_zeros a b d x y

-- ---- the same by the weights of the signs
alike : (s t : Bool) → cond s (2 ^ 63) 0 ≡ cond t (2 ^ 63) 0 → s ≡ t
alike true true h = refl
alike true false h = absurd (omega arith)
alike false true h = absurd (omega arith)
alike false false h = refl

unlike : (s t : Bool) → (cond s (2 ^ 63) 0 ≡ cond t (2 ^ 63) 0 → ⊥) → beq s t ≡ false
unlike true true h = absurd (h refl)
unlike true false h = refl
unlike false true h = refl
unlike false false h = absurd (h refl)

module _ (a b : ℕ) (la : a < 2 ^ 64) (lb : b < 2 ^ 64) where
  pub sum_same : weight a ≡ weight b → weight a + bits64 (mag a + mag b) ≡ sum a b
  sum_same h = rw (sum_alike a b la lb (alike (negative a) (negative b) (weight_is a la ∙ h ∙ sym (weight_is b lb))), weight_is a la)

  apart : (weight a ≡ weight b → ⊥) → beq (negative a) (negative b) ≡ false
  apart h = unlike (negative a) (negative b) (λ e. h (sym (weight_is a la) ∙ e ∙ weight_is b lb))

  pub sum-above : (weight a ≡ weight b → ⊥) → mag b < mag a → infinite a ≡ false → weight a + bits64 (mag a - mag b) ≡ sum a b
  sum-above h l f = rw (sum-apart a b (apart h) l (absorbs-not a b f), weight_is a la)

  pub sum_below : (weight a ≡ weight b → ⊥) → mag a < mag b → infinite b ≡ false → weight b + bits64 (mag b - mag a) ≡ sum a b
  sum_below h l f = rw (sum_comm a b, sum-apart b a (beq-swap (negative b) (negative a) ∙ apart h) l (absorbs-not b a f), weight_is b lb)

  pub sum-none : (weight a ≡ weight b → ⊥) → mag a ≡ mag b → ◌≡◌ {A = ℕ} 0 (sum a b)
  sum-none h e = sym (sum-cancels a b (apart h) e)
