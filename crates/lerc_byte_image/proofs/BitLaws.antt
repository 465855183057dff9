-- Laws of bits that stand high bit first in little-endian 32-bit words.
-- Assumes nothing.
use Rattle.std.proofs.Common.{◌≡◌, ℕ, suc, ◌+◌, ◌-◌, ◌*◌, ◌/◌, ◌%◌, ◌^◌, ◌<◌, ◌≤◌, List, sym, ap, ◌∙◌, mod-lt, mul_assoc, add_comm, pow-suc, arith, pow_pos, pow_mono, pow-add, shr-shr}
use native.Mathlib.Decide.{dec_lt}
use native.Mathlib.Nat.{add-mul-div_right}
use lib.Arith.{digits_mod}
use lib.Pow.{mod-pow-add, high, field, shl-shr}
use Rattle.lerc_words.specs.Res.{little}
use Rattle.lerc_words.proofs.Little.{Bytes, little-split, little-lt}
use Rattle.lerc_byte_image.specs.Table.{two_words, bits_at}

-- ---- as the code takes them

-- a word is 32 bits
pub word_lt : (s : List ℕ) (at : ℕ) → Bytes s → little 4 s at < 2 ^ 32
word_lt s at b = little-lt 4 s at b

-- eight bytes are two words, the second one the higher
pub two_is : (s : List ℕ) (at : ℕ) → little 8 s at ≡ little 4 s at + 2 ^ 32 * little 4 s (at + 4)
two_is s at = little-split 4 4 s at

-- the two in the other order
swapped : (low high : ℕ) → low < 2 ^ 32 → (low + 2 ^ 32 * high) * 2 ^ 32 % 2 ^ 64 + (low + 2 ^ 32 * high) / 2 ^ 32 ≡ low * 2 ^ 32 + high
swapped low high h =
    let l : low * 2 ^ 32 < 2 ^ 64 = omega arith in
    let e : (low + 2 ^ 32 * high) * 2 ^ 32 ≡ high * 2 ^ 64 + low * 2 ^ 32 = omega arith in
    let d : (low + 2 ^ 32 * high) / 2 ^ 32 ≡ high = omega arith in
    rw (d, e, digits_mod high l)

module _ (s : List ℕ) (at : ℕ) (b : Bytes s) {v : ℕ} (e : v ≡ little 8 s at) where
  pub swap_is : v * 2 ^ 32 % 2 ^ 64 + v / 2 ^ 32 ≡ little 4 s at * 2 ^ 32 + little 4 s (at + 4)
  swap_is = rw (e, two_is s at) (swapped (little 4 s at) (little 4 s (at + 4)) (word_lt s at b))

  pub swap-lt : v * 2 ^ 32 % 2 ^ 64 + v / 2 ^ 32 < 2 ^ 64
  swap-lt = rw (swap_is) (omega (arith, word_lt s at b, word_lt s (at + 4) b))

-- n bits below the highest q
under : (v q n r : ℕ) → v * 2 ^ q % 2 ^ (n + (q + r)) / 2 ^ (q + r) ≡ v / 2 ^ r % 2 ^ n
under v q n r = rw (field, ← shr-shr, shl-shr)

-- the same of 64
pub top-is : (v q n : ℕ) → q + n ≤ 64 → v * 2 ^ q % 2 ^ 64 / 2 ^ (64 - n) ≡ v / 2 ^ (64 - q - n) % 2 ^ n
top-is v q n h =
    let e : n + (q + (64 - q - n)) ≡ 64 = omega arith in
    let d : q + (64 - q - n) ≡ 64 - n = omega arith in
    rw (e, d) at (under v q n (64 - q - n))

module _ (s : List ℕ) (at p : ℕ) {v : ℕ} (e : v ≡ two_words s at p) where
  -- n bits by their 32
  pub take-is : (n : ℕ) → n ≤ 32 → v * 2 ^ (p % 32) % 2 ^ 64 / 2 ^ 32 / 2 ^ (32 - n) ≡ bits_at s at p n
  unfolding bits_at
  take-is n h =
      let d : 32 + (32 - n) ≡ 64 - n = omega arith in
      let q : p % 32 + n ≤ 64 = omega arith in
      rw (e, shr-shr, d) (top-is (two_words s at p) (p % 32) n q)

  pub twelve-is : v * 2 ^ (p % 32) % 2 ^ 64 / 2 ^ 52 ≡ bits_at s at p 12
  unfolding bits_at
  twelve-is = let q : p % 32 + 12 ≤ 64 = omega arith in rw (e) (top-is (two_words s at p) (p % 32) 12 q)

-- ---- what they are

pub bits-lt : (s : List ℕ) (at p n : ℕ) → bits_at s at p n < 2 ^ n
unfolding bits_at
bits-lt s at p n = mod-lt _ (pow_pos n)

-- they are a word at most
pub bits_fit : (s : List ℕ) (at p n : ℕ) → n ≤ 32 → bits_at s at p n < 2 ^ 32
bits_fit s at p n h = let l : 2 ^ n ≤ 2 ^ 32 = pow_mono {i = n} {j = 32} h in omega (arith, bits-lt s at p n)

-- the first of them
pub bits-cut : (s : List ℕ) (at p : ℕ) {m n : ℕ} → m ≤ n → n ≤ 32 → bits_at s at p m ≡ bits_at s at p n / 2 ^ (n - m)
unfolding bits_at
bits-cut s at p {m} {n} h k =
    let e : m + (n - m) ≡ n = omega arith in
    let d : 64 - p % 32 - n + (n - m) ≡ 64 - p % 32 - m = omega arith in
    rw (e, shr-shr, d) at (sym (field (two_words s at p / 2 ^ (64 - p % 32 - n)) m (n - m)))

-- ---- each is the bit that it should be

-- one more digit
more : (v r n : ℕ) → v / 2 ^ r % 2 ^ (n + 1) ≡ 2 * (v / 2 ^ (r + 1) % 2 ^ n) + v / 2 ^ r % 2
more v r n =
    let e = mod-pow-add (v / 2 ^ r) n 1 in
    rw (shr-shr) at e ∙ omega arith

even : (x m : ℕ) → (x + m * 2) % 2 ≡ x % 2
even x m = omega arith

-- the bits of the lower word are its own
lower : (a b r : ℕ) → r < 32 → (a * 2 ^ 32 + b) / 2 ^ r % 2 ≡ b / 2 ^ r % 2
lower a b r h =
    let e : suc (31 - r) + r ≡ 32 = omega arith in
    let d : a * 2 ^ 32 ≡ a * 2 ^ (31 - r) * 2 * 2 ^ r = ap (λ x. a * 2 ^ x) (sym e) ∙ rw (pow-add, pow-suc, ← mul_assoc, ← mul_assoc) in
    let c : (a * 2 ^ 32 + b) / 2 ^ r ≡ b / 2 ^ r + a * 2 ^ (31 - r) * 2 = rw (d, add_comm) (add-mul-div_right b (a * 2 ^ (31 - r) * 2) (pow_pos r)) in
    rw (c) (even (b / 2 ^ r) (a * 2 ^ (31 - r)))

-- bit n is the first from bit p + n on
bit_is : (s : List ℕ) (at p n : ℕ) → Bytes s → n < 32 → bits_at s at (p + n) 1 ≡ two_words s at p / 2 ^ (64 - p % 32 - (n + 1)) % 2
unfolding bits_at
bit_is s at p n b h = go (dec_lt (p % 32 + n) 32)
  where
    go : Dec (p % 32 + n < 32) → bits_at s at (p + n) 1 ≡ two_words s at p / 2 ^ (64 - p % 32 - (n + 1)) % 2
    go (yes l) =
        let e : (p + n) / 32 ≡ p / 32 = omega arith in
        let d : 64 - (p + n) % 32 - 1 ≡ 64 - p % 32 - (n + 1) = omega arith in
        rw (e, d)
    go (no l) =
        let e : at + (p + n) / 32 * 4 ≡ at + p / 32 * 4 + 4 = omega arith in
        let d : 64 - (p + n) % 32 - 1 ≡ 32 + (64 - p % 32 - (n + 1)) = omega arith in
        let f : 64 - p % 32 - (n + 1) < 32 = omega arith in
        let c : little 4 s (at + p / 32 * 4 + 4 + 4) < 2 ^ 32 = word_lt s (at + p / 32 * 4 + 4 + 4) b in
        rw (e, d, ← shr-shr, high (little 4 s (at + p / 32 * 4 + 4)) 32 c) (sym (lower (little 4 s (at + p / 32 * 4)) (little 4 s (at + p / 32 * 4 + 4)) (64 - p % 32 - (n + 1)) f))

pub bits-more : (s : List ℕ) (at p n : ℕ) → Bytes s → n < 32 → bits_at s at p (n + 1) ≡ 2 * bits_at s at p n + bits_at s at (p + n) 1
unfolding bits_at
bits-more s at p n b h =
    let e : 64 - p % 32 - (n + 1) + 1 ≡ 64 - p % 32 - n = omega arith in
    rw (bit_is s at p n b h) (rw (e) at (more (two_words s at p) (64 - p % 32 - (n + 1)) n))
