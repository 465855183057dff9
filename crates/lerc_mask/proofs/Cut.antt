-- Bits of a byte, cut at both ends, and the pixels that they are: by one law, `valid-bits`, every count of pixels goes.
-- Assumes nothing.
use mathlib.Core.Path.{◌≡◌, refl, sym, ap, ◌∙◌}
use mathlib.Core.List.{List}
use Prim.Native.Nat.{ℕ, zero, suc, ◌+◌, ◌-◌, ◌*◌, ◌/◌, ◌%◌, ◌^◌, ◌≤◌, ◌<◌}
use native.Mathlib.Omega.{arith}
use native.Mathlib.Nat.{pow-suc, div-div-eq-div-mul, div-one, zero-div, zero-mod, mod-one, mod-lt, mod-eq_of_lt, mul_assoc, mul-le-mul}
use lib.Count.{ones, ones_in, ones_step, ones-le}
use lib.Arith.{mod-mul}
use lib.Pow.{pow-add, pow_pos, pow_mono}
use lib.Ieee.Nearest.{div_same}
use lib.ListN.{get_or, replicate}
use Rattle.lerc_words.specs.Lists.{count}
use Rattle.lerc_mask.specs.Mask.{valid_below, valid_from}
use Rattle.lerc_mask.specs.Passes.{bits_of}
use Rattle.lerc_mask.proofs.Pixels.{from_suc, valid-split, valid-upto, valid-uniform-255}

pub zero-ones : ones 0 ≡ 0
unfolding ones ones_in
zero-ones = refl

-- one binary digit more
next-digit : (z n : ℕ) → ones (z % 2 ^ suc n) ≡ ones (z / 2 % 2 ^ n) + z % 2
next-digit z n =
    let p : 2 ^ suc n ≡ 2 ^ n * 2 = pow-suc 2 n in
    let e : z % (2 ^ n * 2) ≡ z / 2 % 2 ^ n * 2 + z % 2 = mod-mul z (pow_pos n) (omega arith) in
    let y = z % (2 ^ n * 2) in
    let d : y / 2 ≡ z / 2 % 2 ^ n = omega arith in
    let r : y % 2 ≡ z % 2 = omega arith in
    rw (p) (rw (d, r) at (ones_step y) ∙ omega arith)

-- the set bits of a cut byte are the valid ones of its pixels: every count of pixels goes by this
pub valid-bits : (m : List ℕ) (k skip n : ℕ) → skip + n ≤ 8 → valid_from (8 * k + skip) n m ≡ ones (bits_of (get_or m k 0) skip n)
unfolding bits_of count ones ones_in
valid-bits m k skip zero h = rw (mod-one)
valid-bits m k skip (suc n) h =
    let d : (8 * k + skip + n) / 8 ≡ k = omega arith in
    let r : (8 * k + skip + n) % 8 ≡ skip + n = omega arith in
    let x = get_or m k 0 in
    let low = 8 - skip - suc n in
    let t : 7 - (skip + n) ≡ low = omega arith in
    let u : 8 - skip - n ≡ suc low = omega arith in
    let p : 2 ^ suc low ≡ 2 ^ low * 2 = pow-suc 2 low in
    let q : x / 2 ^ low / 2 ≡ x / (2 ^ low * 2) = div-div-eq-div-mul x (2 ^ low) 2 in
    rw (from_suc, d, r, t, next-digit (x / 2 ^ low) n, valid-bits m k skip n (omega arith), u, p, ← q)

-- a whole byte
pub bits-whole : (x : ℕ) → x < 256 → bits_of x 0 8 ≡ x
unfolding bits_of
bits-whole x h = rw (div-one) (mod-eq_of_lt h)

-- where all are set, and where none is
pub bits-all : (skip n : ℕ) → skip + n ≤ 8 → ones (bits_of 255 skip n) ≡ n
bits-all skip n h =
    let m : List ℕ = replicate 1 255 in
    let z : 8 * 0 + skip ≡ skip = omega arith in
    let all : valid_below (skip + n) m ≡ skip + n = valid-uniform-255 (skip + n) 1 (omega arith) in
    let front : valid_below skip m ≡ skip = valid-uniform-255 skip 1 (omega arith) in
    sym (rw (z) at (valid-bits m 0 skip n h)) ∙ omega (arith, valid-upto skip n m)

pub bits_none : (skip n : ℕ) → ones (bits_of 0 skip n) ≡ 0
unfolding bits_of
bits_none skip n = rw (zero-div, zero-mod) zero-ones

pub bits-few : (x skip n : ℕ) → ones (bits_of x skip n) ≤ n
unfolding bits_of
bits-few x skip n = ones-le n (bits_of x skip n) (mod-lt _ (pow_pos n))

-- pixels of one byte
pub valid-within : (m : List ℕ) (first n : ℕ) → first % 8 + n ≤ 8 → valid_from first n m ≡ ones (bits_of (get_or m (first / 8) 0) (first % 8) n)
valid-within m first n h =
    let z : 8 * (first / 8) + first % 8 ≡ first = omega arith in
    rw (z) at (valid-bits m (first / 8) (first % 8) n h)

-- pixels that go on behind their first byte
pub valid-across : (m : List ℕ) (first n : ℕ) → 8 - first % 8 ≤ n
    → valid_from first n m ≡ ones (bits_of (get_or m (first / 8) 0) (first % 8) (8 - first % 8)) + valid_from (8 * (first / 8 + 1)) (n - (8 - first % 8)) m
valid-across m first n h =
    let here = 8 - first % 8 in
    let z : here + (n - here) ≡ n = omega arith in
    let w : first + here ≡ 8 * (first / 8 + 1) = omega arith in
    let front = valid-within m first here (omega arith) in
    rw (← front) (rw (z, w) at (valid-split first here (n - here) m))

-- the first pixels of a byte
pub valid-first : (m : List ℕ) (k n : ℕ) → n ≤ 8 → valid_from (8 * k) n m ≡ ones (bits_of (get_or m k 0) 0 n)
valid-first m k n h =
    let d : 8 * k / 8 ≡ k = omega arith in
    let r : 8 * k % 8 ≡ 0 = omega arith in
    rw (d, r) at (valid-within m (8 * k) n (omega arith))

-- the pixels of two bytes
pub valid-two : (m : List ℕ) (k n : ℕ) → 8 ≤ n → valid_from (8 * k) n m ≡ ones (bits_of (get_or m k 0) 0 8) + valid_from (8 * (k + 1)) (n - 8) m
valid-two m k n h =
    let d : 8 * k / 8 ≡ k = omega arith in
    let r : 8 * k % 8 ≡ 0 = omega arith in
    rw (d, r) at (valid-across m (8 * k) n (omega arith))

-- a bit of a byte, moved up to the highest
pub moved_up : (x r : ℕ) → x < 256 → r < 8 → x * 2 ^ r % 2 ^ 64 / 128 ≡ x / 2 ^ (7 - r)
moved_up x r b l =
    let i : r + (7 - r) ≡ 7 = omega arith in
    let t : 2 ^ r * 2 ^ (7 - r) ≡ 128 = sym (pow-add 2 r (7 - r)) ∙ ap (λ (k : ℕ). 2 ^ k) i in
    let up : r ≤ 7 = omega arith in
    let few : 2 ^ r ≤ 2 ^ 7 = pow_mono up in
    let low : x ≤ 255 = omega arith in
    let most : x * 2 ^ r ≤ 255 * 2 ^ 7 = mul-le-mul low few in
    let small : x * 2 ^ r < 2 ^ 64 = omega arith in
    let even : x * 2 ^ r * 2 ^ (7 - r) ≡ x * 128 = mul_assoc x (2 ^ r) (2 ^ (7 - r)) ∙ ap (λ (k : ℕ). x * k) t in
    rw (mod-eq_of_lt small) (div_same (x * 2 ^ r) 128 x (2 ^ (7 - r)) (omega arith) (pow_pos (7 - r)) even)
