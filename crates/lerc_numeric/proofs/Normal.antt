-- Normal binary32 words: where they lie, and that the steps between two of one sign are normal too.
-- Assumes nothing.
use mathlib.Core.Path.{◌≡◌, ◌∙◌}
use mathlib.Core.Bool.{Bool, true, false}
use mathlib.Core.List.{List}
use Prim.Native.Nat.{ℕ, ◌+◌, ◌*◌, ◌/◌, ◌%◌, ◌^◌, ◌≤◌, ◌<◌}
use native.Mathlib.Decide.{dec_lt}
use native.Mathlib.Omega.{arith}
use lib.Dec.{ltb}
use lib.ListN.{get_or}
use borrow.Author.Tests.{lt-ltb, le-leb, ltb-true, ltb-false, leb-true}
use Rattle.lerc_words.proofs.Binding.{and_is}
use Rattle.lerc_numeric.specs.Numeric.{less}
use Rattle.lerc_numeric.specs.Inside.{normal32, sign_of}
use Rattle.lerc_numeric.specs.Steps.{step_of}
use Rattle.lerc_numeric.proofs.Compare.{less-pp, less-np, less-nn}
use Rattle.lerc_numeric.proofs.StepOrder.{step-mono}

pub normal-is : (w : ℕ) → normal32 w ≡ true → (897 * 2 ^ 52 ≤ w % 2 ^ 63) × (w % 2 ^ 63 < 1151 * 2 ^ 52)
normal-is w e =
    let b = and_is _ _ e in
    (leb-true (897 * 2 ^ 52) (w % 2 ^ 63) b.0, ltb-true (w % 2 ^ 63) (1151 * 2 ^ 52) b.1)

is_normal : (w : ℕ) → 897 * 2 ^ 52 ≤ w % 2 ^ 63 → w % 2 ^ 63 < 1151 * 2 ^ 52 → normal32 w ≡ true
is_normal w h k = rw (le-leb (897 * 2 ^ 52) (w % 2 ^ 63) h) (lt-ltb (w % 2 ^ 63) (1151 * 2 ^ 52) k)

-- one word more of those that are normal
pub normal-more : (words : List ℕ) (k : ℕ) → ((i : ℕ) → i < k → normal32 (get_or words i 0) ≡ true) → normal32 (get_or words k 0) ≡ true
    → (i : ℕ) → i < k + 1 → normal32 (get_or words i 0) ≡ true
normal-more words k h e i l = go (dec_lt i k)
  where
    go : Dec (i < k) → normal32 (get_or words i 0) ≡ true
    go (yes p) = h i p
    go (no p) = let same : i ≡ k = omega arith in rw (same) e

-- between two normal words of one sign
between : (a b v : ℕ) → a / 2 ^ 63 ≡ b / 2 ^ 63 → a / 2 ^ 63 < 2 → normal32 a ≡ true → normal32 b ≡ true → less v a ≡ false → less b v ≡ false
    → (normal32 v ≡ true) × (a / 2 ^ 63 ≡ sign_of v)
between a b v s t na nb e f = go (dec_lt a (2 ^ 63)) (dec_lt v (2 ^ 63))
  where
    no_less : (x y : ℕ) {t : Bool} → ltb x y ≡ t → t ≡ false → y ≤ x
    no_less x y d z = ltb-false x y (d ∙ z)

    go : Dec (a < 2 ^ 63) → Dec (v < 2 ^ 63) → (normal32 v ≡ true) × (a / 2 ^ 63 ≡ sign_of v)
    go (yes p) (yes q) = (
      is_normal v (omega (arith, no_less (v % 2 ^ 63) (a % 2 ^ 63) (less-pp v a q p) e, normal-is a na))
          (omega (arith, no_less (b % 2 ^ 63) (v % 2 ^ 63) (less-pp b v (omega arith) q) f, normal-is b nb)),
      omega arith,
    )
    go (yes p) (no q) = absurd (omega (arith, no_less 0 (v % 2 ^ 63 + a % 2 ^ 63) (less-np v a (omega arith) p) e, normal-is a na))
    go (no p) (yes q) = absurd (omega (arith, no_less 0 (b % 2 ^ 63 + v % 2 ^ 63) (less-np b v (omega arith) q) f, normal-is b nb))
    go (no p) (no q) = (
      is_normal v (omega (arith, no_less (v % 2 ^ 63) (b % 2 ^ 63) (less-nn b v (omega arith) (omega arith)) f, normal-is b nb))
          (omega (arith, no_less (a % 2 ^ 63) (v % 2 ^ 63) (less-nn v a (omega arith) (omega arith)) e, normal-is a na)),
      omega arith,
    )

-- with a and b for the first and the last step
pub steps-normal : (offset error top low a b : ℕ) → error < 2 ^ 63 → a ≡ step_of offset error top 0 → b ≡ step_of offset error top low
    → a / 2 ^ 63 ≡ b / 2 ^ 63 → normal32 a ≡ true → normal32 b ≡ true → a / 2 ^ 63 < 2
    → (q : ℕ) → q ≤ low → (normal32 (step_of offset error top q) ≡ true) × (a / 2 ^ 63 ≡ sign_of (step_of offset error top q))
steps-normal offset error top low a b h ea eb s na nb t q l =
    between a b (step_of offset error top q) s t na nb
    (rw (ea) (step-mono offset error h 0 q (omega arith) top))
    (rw (eb) (step-mono offset error h q low l top))
