-- Whether a stored word is a finite number, told without its value.
-- Assumes nothing.
use mathlib.Core.Path.{◌≡◌, ◌∙◌, ap, sym, refl}
use mathlib.Core.Bool.{Bool, true, false, not, cond}
use Prim.Native.Nat.{ℕ, ◌+◌, ◌*◌, ◌/◌, ◌%◌, ◌^◌, ◌≤◌, ◌<◌}
use native.Mathlib.Decide.{dec_lt}
use native.Mathlib.Omega.{arith}
use borrow.Author.Tests.{lt-ltb, le-ltb, eq-eqb, eqb-true, eqb-false}
use lib.Dec.{leb, eqb}
use Rattle.lerc_numeric.specs.Numeric.{field, finite, negative}
use Rattle.lerc_numeric.specs.Kinds.{field32, widened, value_of, narrowed}
use Rattle.lerc_numeric.proofs.Integers.{value-six, value-last}
use Rattle.lerc_numeric.proofs.Fits.{value-held}
use Rattle.lerc_numeric.proofs.Right.{rest-signed}
use Rattle.lerc_numeric.proofs.RoundTrip.{narrow_wide}

-- ---- a binary32

module _ (v : ℕ) (h : v < 2 ^ 32) where
  single-endless : field32 v ≡ 255 → field (widened v) ≡ 2047
  unfolding widened
  single-endless e =
      let r = 2047 * 2 ^ 52 + v % 2 ^ 23 * 2 ^ 29 in
      rw (eq-eqb (field32 v) 255 e, rest-signed (leb (2 ^ 31) v) r (omega arith)) (omega arith)

  -- one that becomes no finite binary64 comes back from it with the field that none has
  top_back : (b : Bool) (w : ℕ) → cond b (2 ^ 31) 0 + (255 * 2 ^ 23 + w % 2 ^ 52 / 2 ^ 29) ≡ v → field32 v ≡ 255
  top_back true w e = omega arith
  top_back false w e = omega arith

  single-finite : (field32 v ≡ 255 → ⊥) → field (widened v) < 2047
  unfolding narrowed
  single-finite d = go (dec_lt (field (widened v)) 2047)
    where
      go : Dec (field (widened v) < 2047) → field (widened v) < 2047
      go (yes l) = l
      go (no l) =
          let e : field (widened v) ≡ 2047 = omega arith in
          absurd (d (top_back (negative (widened v)) (widened v) (rw (eq-eqb (field (widened v)) 2047 e) at (narrow_wide v h))))

-- ---- a word of each kind

pub finite-integer : (kind w : ℕ) → kind < 6 → finite (value_of kind w) ≡ true
finite-integer kind w h = lt-ltb _ 2047 (value-held kind w h).is_finite

pub finite-single : (kind w : ℕ) → kind ≡ 6 → finite (value_of kind w) ≡ not (eqb (w / 2 ^ 23 % 256) 255)
finite-single kind w k = ap finite (sym (value-six kind w (widened (w % 2 ^ 32)) k refl)) ∙ go (eqb (w / 2 ^ 23 % 256) 255) refl
  where
    same : field32 (w % 2 ^ 32) ≡ w / 2 ^ 23 % 256
    same = omega arith

    go : (t : Bool) → eqb (w / 2 ^ 23 % 256) 255 ≡ t → finite (widened (w % 2 ^ 32)) ≡ not t
    go true e = le-ltb (field (widened (w % 2 ^ 32))) 2047 (omega (arith, single-endless (w % 2 ^ 32) (omega arith) (same ∙ eqb-true _ _ e)))
    go false e = lt-ltb (field (widened (w % 2 ^ 32))) 2047 (single-finite (w % 2 ^ 32) (omega arith) (λ z. eqb-false _ _ e (sym same ∙ z)))

pub finite-last : (kind w : ℕ) → 6 ≤ kind → (kind ≡ 6 → ⊥) → w < 2 ^ 64 → finite (value_of kind w) ≡ finite w
finite-last kind w h k l = ap finite (sym (value-last kind w h k l))
