-- The bits of the largest error: the words below are those whose sign is clear and whose number is below 2^1023.
-- Assumes nothing.
use Prim.Native.Nat.{ℕ, ◌+◌, ◌%◌, ◌^◌, ◌≤◌, ◌<◌}
use mathlib.Core.Path.{◌≡◌, refl}
use mathlib.Core.Bool.{false, not, ◌&&◌}
use native.Mathlib.Omega.{arith}
use native.Mathlib.Decide.{dec_lt}
use borrow.Author.Tests.{lt-ltb, le-ltb, le-leb, lt-leb}
use lib.Dec.{ltb}
use Rattle.lerc_numeric.specs.Numeric.{negative, mag}
use Rattle.lerc_numeric.proofs.Magnitude.{mag-lt, mag-le}
use Rattle.lerc_header.specs.Header.{error_right}

-- 2^1023 itself
abbrev pub top : ℕ
top = 0x7FE0000000000000

mag-top : 2 ^ (1023 + 1074) ≡ mag top
unfolding mag
mag-top = refl

-- what the code tests
pub error-bits : (e : ℕ) → ltb e top ≡ error_right e
unfolding error_right
error-bits e = go (dec_lt e top)
  where
    above : top ≤ e → Dec (e < 2 ^ 63) → false ≡ (not (negative e) && ltb (mag e) (2 ^ (1023 + 1074)))
    above q (yes r) =
        let l : top % 2 ^ 63 ≤ e % 2 ^ 63 = omega arith in
        rw (lt-leb (2 ^ 63) e r, mag-top, le-ltb (mag e) (mag top) (mag-le e top l))
    above q (no r) =
        let l : 2 ^ 63 ≤ e = omega arith in
        rw (le-leb (2 ^ 63) e l)

    go : Dec (e < top) → ltb e top ≡ (not (negative e) && ltb (mag e) (2 ^ (1023 + 1074)))
    go (yes p) =
        let l : e % 2 ^ 63 < top % 2 ^ 63 = omega arith in
        let k : e < 2 ^ 63 = omega arith in
        rw (lt-ltb e top p, lt-leb (2 ^ 63) e k, mag-top, lt-ltb (mag e) (mag top) (mag-lt e top l))
    go (no q) =
        let k : top ≤ e = omega arith in
        rw (le-ltb e top k) (above k (dec_lt e (2 ^ 63)))
