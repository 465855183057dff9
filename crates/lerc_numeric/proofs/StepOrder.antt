-- The steps of an error that is not negative grow with the count.
-- Assumes nothing.
use mathlib.Core.Path.{◌≡◌, refl, sym, ◌∙◌}
use mathlib.Core.Bool.{Bool, true, false, cond}
use Prim.Native.Nat.{ℕ, ◌+◌, ◌*◌, ◌%◌, ◌^◌, ◌≤◌, ◌<◌}
use native.Mathlib.Nat.{mul-le-mul_right}
use native.Mathlib.Omega.{arith}
use borrow.Author.Tests.{lt-leb, lt-ltb, le-ltb, ltb-true}
use Rattle.lerc_numeric.specs.Numeric.{bits64, mag, negative, sum, scaled, less, lesser}
use Rattle.lerc_numeric.specs.Steps.{step_of}
use Rattle.lerc_numeric.proofs.Right.{bits-lt, bits64-mono}
use Rattle.lerc_numeric.proofs.Compare.{less-pp}
use Rattle.lerc_numeric.proofs.Monotone.{up, down, less-sides, not-less, at_least, less-asym, sum-mono-right}
use Rattle.lerc_numeric.proofs.ByMachine.{signed-number}

-- ---- an order: what is no more than b is below all that b is below
less-after : (a b c : ℕ) → less b a ≡ false → less b c ≡ true → less a c ≡ true
less-after a b c e f =
    let h = ltb-true (up b + down c) (up c + down b) (sym (less-sides b c) ∙ f) in
    rw (less-sides a c) (lt-ltb (up a + down c) (up c + down a) (omega (arith, at_least b a e)))

less-self : (a : ℕ) → less a a ≡ false
less-self a = not-less a a (omega arith)

lesser-mono : (a b t : ℕ) → less b a ≡ false → less (lesser b t) (lesser a t) ≡ false
unfolding lesser
lesser-mono a b t e = go (less a t) (less b t) refl refl
  where
    go : (x y : Bool) → less a t ≡ x → less b t ≡ y → less (cond y b t) (cond x a t) ≡ false
    go true true f g = e
    go true false f g = less-asym a t f
    go false true f g = absurd (let z = sym f ∙ less-after a b t e g in let w : ◌≡◌ {A = ℕ} 0 1 = cc in omega arith)
    go false false f g = less-self t

-- ---- the steps
module _ (offset error : ℕ) (h : error < 2 ^ 63) (p q : ℕ) (l : p ≤ q) where
  scaled-mono : less (scaled error q) (scaled error p) ≡ false
  unfolding scaled
  scaled-mono =
      let x = bits64 (2 * p * mag error) in
      let y = bits64 (2 * q * mag error) in
      let n : x ≤ y = bits64-mono (2 * p * mag error) (2 * q * mag error) (mul-le-mul_right (mag error) (omega arith)) in
      let m : y < 2 ^ 63 = bits-lt (2 * q * mag error) in
      rw (lt-leb (2 ^ 63) error h) (sym (less-pp (0 + y) (0 + x) (omega arith) (omega arith)) ∙ le-ltb ((0 + y) % 2 ^ 63) ((0 + x) % 2 ^ 63) (omega arith))

  moved-mono : less (sum offset (scaled error q)) (sum offset (scaled error p)) ≡ false
  unfolding scaled
  moved-mono =
      sum-mono-right offset (scaled error p) (scaled error q)
      (λ i. signed-number (negative error) (2 * q * mag error))
      (λ i. signed-number (negative error) (2 * p * mag error)) scaled-mono

  -- a greater count, no lesser step
  pub step-mono : (top : ℕ) → less (step_of offset error top q) (step_of offset error top p) ≡ false
  unfolding step_of
  step-mono top = lesser-mono (sum offset (scaled error p)) (sum offset (scaled error q)) top moved-mono

  -- below a step that is not clamped none is
  pub step-free : (top : ℕ) → less (sum offset (scaled error q)) top ≡ true → sum offset (scaled error p) ≡ step_of offset error top p
  unfolding step_of lesser
  step-free top e = rw (less-after (sum offset (scaled error p)) (sum offset (scaled error q)) top moved-mono e)
