-- A run of values is one number, and each value is read from a few bytes.
-- Assumes nothing.
use mathlib.Core.Path.{◌≡◌, sym}
use mathlib.Core.List.{List, [], ◌∷◌}
use Prim.Native.Nat.{ℕ, suc, ◌+◌, ◌-◌, ◌*◌, ◌/◌, ◌%◌, ◌^◌, ◌≤◌, ◌<◌}
use native.Mathlib.Omega.{arith}
use native.Mathlib.Decide.{dec_le, dec_lt}
use native.Mathlib.Nat.{mul_assoc, mul-le-mul, mul-le-mul_right, suc-mul, add-mul, zero-mul, pow-zero, div-one, add-mul-div_left, add-mul-mod_self_left, div-div-eq-div-mul, mod-lt}
use lib.Pow.{pow-add, pow_pos, pow_mono, shr-shr}
use lib.ListN.{length, get_or, get_or-eq_default}
use Rattle.lerc_words.specs.Res.{little}
use Rattle.lerc_words.specs.Lists.{from}
use Rattle.lerc_words.proofs.Little.{Bytes, little-split, little-high, byte_pow}
use Rattle.lerc_words.proofs.Tables.{length-tabulate, get_d_tabulate}
use Rattle.lerc_bits.specs.Bits.{run_bytes, digits}

pub small_product : (n b : ℕ) → n ≤ 256 → b ≤ 31 → n * b ≤ 7936
small_product n b h k = mul-le-mul {n₂ = 256} {m₂ = 31} h k

spread : (c r b e x : ℕ) → 8 * c ≡ r + (b + e) → 256 ^ c * x ≡ 2 ^ r * (2 ^ b * (2 ^ e * x))
spread c r b e x t = rw (byte_pow c, t, pow-add 2 r (b + e), pow-add 2 b e, mul_assoc, mul_assoc)

-- bytes above the digits that are asked for do not matter
window : (c d r b : ℕ) (s : List ℕ) (q : ℕ) → r + b ≤ 8 * c → little (c + d) s q / 2 ^ r % 2 ^ b ≡ little c s q / 2 ^ r % 2 ^ b
window c d r b s q h =
    let e = 8 * c - (r + b) in
    let x = little d s (q + c) in
    let t : 8 * c ≡ r + (b + e) = omega arith in
    rw (little-split c d s q, spread c r b e x t, add-mul-div_left (little c s q) (2 ^ b * (2 ^ e * x)) (pow_pos r), add-mul-mod_self_left)

window-any : (c d r b : ℕ) (s : List ℕ) (q : ℕ) → r + b ≤ 8 * c → r + b ≤ 8 * d → little c s q / 2 ^ r % 2 ^ b ≡ little d s q / 2 ^ r % 2 ^ b
window-any c d r b s q h k = go (dec_le c d)
  where
    go : Dec (c ≤ d) → little c s q / 2 ^ r % 2 ^ b ≡ little d s q / 2 ^ r % 2 ^ b
    go (yes l) =
        let e : c + (d - c) ≡ d = omega arith in
        sym (rw (e) at (window c (d - c) r b s q h))
    go (no l) =
        let e : d + (c - d) ≡ c = omega arith in
        rw (e) at (window d (c - d) r b s q k)

-- b digits of a number of m bytes, t digits up, stand in the c bytes from w on, u digits up there, where these hold so many
digit-in : (m c t b u w : ℕ) (s : List ℕ) (p : ℕ) → Bytes s → p ≤ w → 8 * w + u ≡ 8 * p + t → t + b ≤ 8 * m → u + b ≤ 8 * c
    → little m s p / 2 ^ t % 2 ^ b ≡ little c s w / 2 ^ u % 2 ^ b
digit-in m c t b u w s p y g f h l =
    let i = w - p in
    let j = m - i in
    let e : i + j ≡ m = omega arith in
    let d : p + i ≡ w = omega arith in
    let x : 8 * i + u ≡ t = omega arith in
    let z : 2 ^ t ≡ 256 ^ i * 2 ^ u = rw (byte_pow i, ← pow-add 2 (8 * i) u, x) in
    let k : little m s p / 256 ^ i ≡ little j s w = rw (e, d) at (little-high i j s p y) in
    rw (z, ← div-div-eq-div-mul (little m s p) (256 ^ i) (2 ^ u), k)
    (window-any j c u b s w (omega arith) l)

-- so in the c bytes from their first on
pub digit_at : (m c t b : ℕ) (s : List ℕ) (p : ℕ) → Bytes s → t + b ≤ 8 * m → t % 8 + b ≤ 8 * c
    → little m s p / 2 ^ t % 2 ^ b ≡ little c s (p + t / 8) / 2 ^ (t % 8) % 2 ^ b
digit_at m c t b s p y h l = digit-in m c t b (t % 8) (p + t / 8) s p y (omega arith) (omega arith) h l

-- THE RUN LAW: value k of a run stands in the c bytes from its first on: five are enough for 33 bits, eight for 57
pub run-digit : (c n b k : ℕ) (s : List ℕ) (p : ℕ) → Bytes s → k < n → b + 7 ≤ 8 * c
    → little (run_bytes n b) s p / 2 ^ (k * b) % 2 ^ b ≡ little c s (p + k * b / 8) / 2 ^ (k * b % 8) % 2 ^ b
run-digit c n b k s p y h l =
    let a : suc k * b ≤ n * b = mul-le-mul_right b h in
    let e : suc k * b ≡ k * b + b = suc-mul k b in
    let w : k * b + b ≤ 8 * run_bytes n b = omega arith in
    digit_at (run_bytes n b) c (k * b) b s p y w (omega arith)

-- THE WORD LAW: where value k starts u bits up in a word, value k + i stands i values further up, as far as the word reaches
pub run-word : (n b k i u w : ℕ) (s : List ℕ) (p : ℕ) → Bytes s → p ≤ w → 8 * w + u ≡ 8 * p + k * b → k + i < n → u + suc i * b ≤ 64
    → little 8 s w / 2 ^ u / 2 ^ (i * b) % 2 ^ b ≡ little (run_bytes n b) s p / 2 ^ ((k + i) * b) % 2 ^ b
run-word n b k i u w s p y g e h l =
    let a : suc (k + i) * b ≤ n * b = mul-le-mul_right b h in
    let x : suc (k + i) * b ≡ (k + i) * b + b = suc-mul (k + i) b in
    let z : (k + i) * b ≡ k * b + i * b = add-mul k i b in
    let v : suc i * b ≡ i * b + b = suc-mul i b in
    rw (shr-shr (little 8 s w) u (i * b))
    (sym (digit-in (run_bytes n b) 8 ((k + i) * b) b (u + i * b) w s p y g (omega arith) (omega arith) (omega arith)))

pub length_digits : (whole n bits : ℕ) → length (digits whole n bits) ≡ n
unfolding digits
length_digits whole n bits = length-tabulate n _

pub digits-at : (whole n bits k : ℕ) → k < n → get_or (digits whole n bits) k 0 ≡ whole / 2 ^ (k * bits) % 2 ^ bits
unfolding digits
digits-at whole n bits k l = get_d_tabulate n (λ j. whole / 2 ^ (j * bits) % 2 ^ bits) k 0 l

-- four digits, each from what is left of the number behind the one before
pub digits-four : (v b : ℕ) → digits v 4 b ≡ v % 2 ^ b ∷ v / 2 ^ b % 2 ^ b ∷ v / 2 ^ b / 2 ^ b % 2 ^ b ∷ v / 2 ^ b / 2 ^ b / 2 ^ b % 2 ^ b ∷ []
unfolding digits from
digits-four v b =
    let up : (i : ℕ) → v / 2 ^ (suc i * b) ≡ v / 2 ^ (i * b) / 2 ^ b = λ i. rw (suc-mul) (sym (shr-shr v (i * b) b)) in
    rw (up 2, up 1, up 0, zero-mul, pow-zero, div-one)

-- no digit reaches the base
pub digits-small : (whole n bits k : ℕ) → get_or (digits whole n bits) k 0 < 2 ^ bits
digits-small whole n bits k = go (dec_lt k n)
  where
    go : Dec (k < n) → get_or (digits whole n bits) k 0 < 2 ^ bits
    go (yes l) = rw (digits-at whole n bits k l) (mod-lt (whole / 2 ^ (k * bits)) (pow_pos bits))
    go (no l) =
        let h : length (digits whole n bits) ≤ k = omega (arith, length_digits whole n bits) in
        rw (get_or-eq_default (digits whole n bits) 0 h) (pow_pos bits)

-- a value fits 32 bits
pub value-fits : (x bits : ℕ) → bits ≤ 31 → x % 2 ^ bits < 2 ^ 32
value-fits x bits h =
    let m : 2 ^ bits ≤ 2 ^ 31 = pow_mono {j = 31} h in
    let w : x % 2 ^ bits < 2 ^ bits = mod-lt x (pow_pos bits) in
    omega arith
