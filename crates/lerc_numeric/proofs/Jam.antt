-- A number that stands for one with more digits: all but its last digit are that number's, and the last is 1 where anything
-- was cut off. It rounds as that number does, as long as two digits at least are dropped.
-- Assumes nothing.
use mathlib.Core.Path.{◌≡◌, refl, sym, ap, ◌∙◌}
use mathlib.Core.Bool.{cond}
use mathlib.Core.Logic.{◌⊎◌, inl, inr}
use Prim.Native.Nat.{ℕ, zero, suc, ◌+◌, ◌-◌, ◌*◌, ◌/◌, ◌%◌, ◌^◌, ◌≤◌, ◌<◌, min}
use native.Mathlib.Nat.{lt_of_lt_of_le, lt_of_le_of_lt, mul_assoc, mul-le-mul_right, add-mul, suc-mul, one-mul, div-add-mod', mod-lt, add_assoc, add-zero, pow-succ', div-le_self, div-one, mod-one, div-eq_of_lt, mod-eq_of_lt}
use native.Mathlib.Decide.{dec_lt}
use native.Mathlib.Omega.{arith}
use borrow.Author.Tests.{lt-ltb, le-ltb}
use lib.Arith.{digits_div}
use lib.Dec.{ltb}
use lib.Pow.{pow-add, pow_pos, pow_mono}
use lib.Ieee.{size}
use lib.Ieee.Digits.{size-lt}
use lib.Ieee.Nearest.{closest}
use Rattle.lerc_numeric.specs.Numeric.{bits64}
use Rattle.lerc_numeric.specs.Inside.{jam}
use Rattle.lerc_numeric.proofs.Closest.{closest-down, closest-up}
use Rattle.lerc_numeric.proofs.Digits.{size-part, pow_lt_back}
use Rattle.lerc_numeric.proofs.Bits.{bits-cut, kept}
use Rattle.lerc_numeric.proofs.Format.{sub-mul}

-- j stands for n / 2 ^ i
abbrev pub StandsFor : ℕ → ℕ → ℕ → Type 0
StandsFor j i n = (n ≡ j * 2 ^ i) ⊎ ((j % 2 ≡ 1) × (j * 2 ^ i < n + 2 ^ i) × (n < j * 2 ^ i + 2 ^ i))

-- ---- z * x + t with a t strictly between 0 and x, to a multiple of 2 * v * x: it is never a tie, and t does not matter
side : ℕ → ℕ → ℕ
side z v = cond (ltb (z % (2 * v)) v) (z / (2 * v)) (suc (z / (2 * v)))

sandwich : (z x t v : ℕ) → 0 < v → 0 < t → t < x → closest (z * x + t) (2 * v * x) ≡ side z v
unfolding side
sandwich z x t v vp p l = rw (whole) (go (dec_lt b v))
  where
    a : ℕ
    a = z / (2 * v)

    b : ℕ
    b = z % (2 * v)

    b_lt : b < 2 * v
    b_lt = mod-lt z (omega arith)

    whole : z * x + t ≡ a * (2 * v * x) + (b * x + t)
    whole =
        ap (λ (y : ℕ). y * x + t) (sym (div-add-mod' z (2 * v)))
        ∙ rw (add-mul (a * (2 * v)) b x, mul_assoc a (2 * v) x) (add_assoc (a * (2 * v * x)) (b * x) t)

    go : Dec (b < v) → closest (a * (2 * v * x) + (b * x + t)) (2 * v * x) ≡ cond (ltb b v) a (suc a)
    go (yes h) = rw (lt-ltb b v h) (closest-down a (b * x + t) (2 * v * x) (omega (arith, mul_assoc 2 v x, suc-mul b x, mul-le-mul_right x h)))
    go (no h) =
        let g : v ≤ b = omega arith in
        rw (le-ltb b v g)
        (closest-up a (b * x + t) (2 * v * x) (omega (arith, suc-mul b x, mul-le-mul_right x b_lt)) (omega (arith, mul_assoc 2 v x, mul-le-mul_right x g)))

-- ---- a number strictly between two multiples of 2 ^ suc i: its size, and what is kept of it, do not depend on where
module _ (n z i : ℕ) (lo : z * 2 ^ suc i < n) (hi : n < suc z * 2 ^ suc i) where
  split : n ≡ z * 2 ^ suc i + (n - z * 2 ^ suc i)
  split = omega arith

  rest_lt : n - z * 2 ^ suc i < 2 ^ suc i
  rest_lt = omega (arith, suc-mul z (2 ^ suc i))

  size-inside : 0 < z → size n ≡ size z + suc i
  size-inside p =
      let e : n / 2 ^ suc i ≡ z = ap (λ (y : ℕ). y / 2 ^ suc i) split ∙ digits_div z rest_lt in
      size-part n (suc i) (rw (e) p) ∙ rw (e)

  kept-inside : (d : ℕ) → 2 ≤ d → closest n (2 ^ (d + i)) ≡ side z (2 ^ (d - 2))
  kept-inside d h =
      let e : d + i ≡ suc (d - 2) + suc i = omega arith in
      rw (e, pow-add 2 (suc (d - 2)) (suc i), pow-succ' 2 (d - 2))
      (ap (λ (y : ℕ). closest y (2 * 2 ^ (d - 2) * 2 ^ suc i)) split ∙ sandwich z (2 ^ suc i) (n - z * 2 ^ suc i) (2 ^ (d - 2)) (pow_pos (d - 2)) (omega arith) rest_lt)

round-odd : (j i n e : ℕ) → j % 2 ≡ 1 → j * 2 ^ i < n + 2 ^ i → n < j * 2 ^ i + 2 ^ i → 2 ^ 54 ≤ j → bits64 (n * 2 ^ e) ≡ bits64 (j * 2 ^ (i + e))
round-odd j i n e o lo hi big =
    let z = j / 2 in
    let d = size j - 53 in
    let own : j ≡ z * 2 + 1 = omega arith in
    let at : j * 2 ^ i ≡ z * 2 ^ suc i + 2 ^ i = rw (pow-succ' 2 i) (ap (λ (y : ℕ). y * 2 ^ i) own ∙ rw (add-mul (z * 2) 1 (2 ^ i), mul_assoc z 2 (2 ^ i), one-mul)) in
    let ln : z * 2 ^ suc i < n = omega arith in
    let hn : n < suc z * 2 ^ suc i = omega (arith, suc-mul z (2 ^ suc i), pow-succ' 2 i) in
    let lj : z * 2 ^ 1 < j = omega arith in
    let hj : j < suc z * 2 ^ 1 = omega arith in
    let digits : 54 < size j = pow_lt_back 54 (size j) (lt_of_le_of_lt big (size-lt j)) in
    let sj : size j ≡ size z + 1 = size-inside j z 0 lj hj (omega arith) in
    let sn : size n ≡ size j + i = omega (arith, size-inside n z i ln hn (omega arith)) in
    let dn : size n - 53 ≡ d + i = omega arith in
    let k : kept n ≡ kept j = rw (dn, kept-inside n z i ln hn d (omega arith)) (sym (rw (add-zero) at (kept-inside j z 0 lj hj d (omega arith)))) in
    omega (arith, bits-cut n e (omega arith), bits-cut j (i + e) (omega arith))

pub jam-round : (j i n e : ℕ) → StandsFor j i n → 2 ^ 54 ≤ j → bits64 (n * 2 ^ e) ≡ bits64 (j * 2 ^ (i + e))
jam-round j i n e (inl h) b = rw (h, mul_assoc j (2 ^ i) (2 ^ e), ← pow-add 2 i e)
jam-round j i n e (inr h) b = round-odd j i n e h.0 h.1 h.2 b

-- ---- what `jam` gives
pub jam-is : (v n : ℕ) → StandsFor (jam v n) n v
unfolding jam
jam-is v n = go (v % 2 ^ n) refl
  where
    q : ℕ
    q = v / 2 ^ n

    b : ℕ
    b = min (1 - q % 2) (v % 2 ^ n)

    whole : q * 2 ^ n + v % 2 ^ n ≡ v
    whole = div-add-mod' v (2 ^ n)

    one : b * 2 ^ n ≤ 1 * 2 ^ n
    one = mul-le-mul_right (2 ^ n) (omega arith)

    go : (r : ℕ) → v % 2 ^ n ≡ r → StandsFor (q + b) n v
    go zero e =
        let z : q + b ≡ q = omega arith in
        inl (rw (z) (omega (arith, whole)))
    go (suc r) e =
        inr (omega arith, omega (arith, whole, one, add-mul q b (2 ^ n)), omega (arith, whole, add-mul q b (2 ^ n), mod-lt v (pow_pos n)))

pub jam-le : (v n : ℕ) → jam v n ≤ suc v
unfolding jam
jam-le v n = omega (arith, div-le_self v (2 ^ n))

pub jam-zero : (v : ℕ) → jam v 0 ≡ v
unfolding jam
jam-zero v = omega (arith, div-one v, mod-one v)

pub jam_wide : (v n : ℕ) → 64 ≤ n → v < 2 ^ 64 → jam v n ≡ min 1 v
unfolding jam
jam_wide v n h l =
    let s : v < 2 ^ n = lt_of_lt_of_le l (pow_mono h) in
    rw (div-eq_of_lt s, mod-eq_of_lt s) (omega arith)

pub jam_none : (v n : ℕ) → v % 2 ^ n ≡ 0 → v / 2 ^ n ≡ jam v n
unfolding jam
jam_none v n h = omega arith

pub jam_some : (v n : ℕ) → 0 < v % 2 ^ n → v / 2 ^ n + (1 - v / 2 ^ n % 2) ≡ jam v n
unfolding jam
jam_some v n h = omega arith

-- an even number more, and less
pub jam-add : (b j i n : ℕ) → b % 2 ≡ 0 → StandsFor j i n → StandsFor (b + j) i (b * 2 ^ i + n)
jam-add b j i n h (inl e) = inl (ap (λ (y : ℕ). b * 2 ^ i + y) e ∙ sym (add-mul b j (2 ^ i)))
jam-add b j i n h (inr k) = inr (omega (arith, k.0), omega (arith, k.1, add-mul b j (2 ^ i)), omega (arith, k.2, add-mul b j (2 ^ i)))

pub jam-sub : (b j i n : ℕ) → b % 2 ≡ 0 → j ≤ b → StandsFor j i n → StandsFor (b - j) i (b * 2 ^ i - n)
jam-sub b j i n h l (inl e) = inl (ap (λ (y : ℕ). b * 2 ^ i - y) e ∙ sym (sub-mul b j (2 ^ i)))
jam-sub b j i n h l (inr k) =
    let o = k.0 in
    let r : suc j * 2 ^ i ≤ b * 2 ^ i = mul-le-mul_right (2 ^ i) (omega arith) in
    inr (omega arith, omega (arith, k.1, sub-mul b j (2 ^ i), suc-mul j (2 ^ i)), omega (arith, k.2, sub-mul b j (2 ^ i), suc-mul j (2 ^ i)))
