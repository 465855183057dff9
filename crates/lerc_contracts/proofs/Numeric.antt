-- lerc_numeric.rs: its clauses from ours.
-- Assumes nothing.
use mathlib.Core.Path.{◌≡◌, refl, sym, ap, ◌∙◌}
use mathlib.Core.Bool.{Bool, true, false, not, cond, ◌&&◌, ◌||◌}
use mathlib.Core.Logic.{◌⊎◌, inl, inr}
use mathlib.Core.Option.{none, some}
use Prim.Native.Nat.{ℕ, zero, suc, ◌+◌, ◌-◌, ◌*◌, ◌/◌, ◌%◌, ◌^◌, ◌≤◌, ◌<◌, min}
use native.Mathlib.Omega.{arith}
use native.Mathlib.Nat.{mod-mod, mod_self, mod-eq_of_lt, pow-suc, div-add-mod, mul-le-mul}
use native.Mathlib.Decide.{dec_lt, dec_le}
use borrow.Author.Tests.{lt-ltb, le-ltb, le-leb, lt-leb, eq-eqb, ne_eqb}
use lib.Dec.{ltb, leb, eqb}
use lib.Pow.{pow_pos}
use lib.Ieee.{size}
use lib.Ieee.Digits.{size-lt, size-le}
use lib.Ieee.Nearest.{closest}
use Rattle.lerc_words.specs.Res.{Res, ok, fail, ◌>>=◌, refuse, require}
use Rattle.lerc_numeric.specs.Numeric.{negative, field, finite, sig, exp, less, lesser}
use Rattle.lerc_numeric.specs.Kinds as kinds
use Rattle.lerc_numeric.specs.Kinds.{type_size, value_of, cut}
use Rattle.lerc_numeric.specs.Inside.{jam}
use Rattle.lerc_numeric.proofs.Closest.{near_down, near_up, near-tie}
use Rattle.lerc_numeric.proofs.Digits.{size-ge}
use Rattle.lerc_numeric.proofs.Compare.{less-pp, less-pn, less-np, less-nn}
use Rattle.lerc_numeric.proofs.Jam.{jam-zero, jam_none, jam_some}
use Rattle.lerc_numeric.proofs.Magnitude.{sig-lt}
use Rattle.lerc_numeric.proofs.Integers.{cut-kind, cut-large, modulus-last, modulus-le, modulus-ge, whole-zero, whole-some}
use Rattle.lerc_contracts.proofs.WithoutNumber.{said-some}
use Rattle.lerc_contracts.specs.Outside.{said}
use Rattle.lerc_contracts.specs.Numeric.{field_of, finite_of, sign, mantissa, exponent, rounded, sticky, less_than, size_of, modulus_of, cut_of, integer}
use Rattle.lerc_contracts.specs.NumericClauses.{PartsClauses, ToIntegerClauses}

-- ---- `parts`

pub field_is : (v : ℕ) → v < 2 ^ 64 → field_of v ≡ field v
field_is v l = omega arith

-- the test for an offset and a range
pub finite-is : (v : ℕ) → v < 2 ^ 64 → finite_of v ≡ finite v
finite-is v l = rw (field_is v l) (go (dec_lt (field v) 2047))
  where
    go : Dec (field v < 2047) → not (eqb (field v) 2047) ≡ ltb (field v) 2047
    go (yes h) = rw (ne_eqb (field v) 2047 (λ e. omega arith), lt-ltb (field v) 2047 h)
    go (no h) = rw (eq-eqb (field v) 2047 (omega arith), le-ltb (field v) 2047 (omega arith))

-- 1.1
module _ (v : ℕ) (l : v < 2 ^ 64) where
  pub mantissa-is : mantissa v ≡ sig v
  unfolding mantissa
  mantissa-is = rw (field_is v l) (go (field v))
    where
      go : (f : ℕ) → v % 2 ^ 52 + cond (eqb f 0) 0 (2 ^ 52) ≡ min 1 f * 2 ^ 52 + v % 2 ^ 52
      go zero = omega arith
      go (suc f) = rw (ne_eqb (suc f) 0 (λ e. absurd (omega arith))) (omega arith)

  pub exponent-is : exponent v ≡ exp v
  unfolding exponent
  exponent-is = rw (field_is v l) (go (field v))
    where
      go : (f : ℕ) → cond (eqb f 0) 0 (f - 1) ≡ f - 1
      go zero = refl
      go (suc f) = rw (ne_eqb (suc f) 0 (λ e. absurd (omega arith)))

  pub parts-clauses : PartsClauses v
  parts-clauses = record {
    mantissa-is = mantissa-is;
    exponent-is = exponent-is;
    parts-small = (sig-lt v, omega arith);
  }

-- ---- `highest64`

-- 1.9
pub top_small : (v : ℕ) → v < 2 ^ 64 → size v - 1 < 64
top_small v l = omega (arith, size-le v 64 l)

module _ (v : ℕ) (s : 0 < v) where
  -- 1.8, 1.10, 1.11, 1.15: the highest digit is at `size` less 1
  pub top-is : (2 ^ (size v - 1) ≤ v) × (v < 2 * 2 ^ (size v - 1))
  top-is =
      let a : 0 < size v = some (size v) refl in
      let z : size v ≡ suc (size v - 1) = omega arith in
      let p : 2 ^ size v ≡ 2 ^ (size v - 1) * 2 = ap (λ (x : ℕ). 2 ^ x) z ∙ pow-suc 2 (size v - 1) in
      (omega (arith, size-ge v s), omega (arith, size-lt v))
    where
      some : (n : ℕ) → size v ≡ n → 0 < n
      some zero e = absurd (let k = rw (e) at (size-lt v) in omega arith)
      some (suc n) e = omega arith

-- ---- `minimum`

-- 1.32
pub minimum-is : (a b r : ℕ) → r ≡ lesser a b → r ≡ cond (less a b) a b
unfolding lesser
minimum-is a b r e = e

-- the comparison of its body
module _ (a b : ℕ) (la : a < 2 ^ 64) (lb : b < 2 ^ 64) where
  pub less-is : less_than a b ≡ less a b
  unfolding less_than
  less-is = go (dec_lt a (2 ^ 63)) (dec_lt b (2 ^ 63)) (dec_lt 0 (a % 2 ^ 63 + b % 2 ^ 63))
    where
      zeros : (t : Bool) → 0 < a % 2 ^ 63 + b % 2 ^ 63 → cond (eqb (a % 2 ^ 63) 0 && eqb (b % 2 ^ 63) 0) false t ≡ t
      zeros t h = left (dec_lt 0 (a % 2 ^ 63))
        where
          left : Dec (0 < a % 2 ^ 63) → cond (eqb (a % 2 ^ 63) 0 && eqb (b % 2 ^ 63) 0) false t ≡ t
          left (yes k) = rw (ne_eqb (a % 2 ^ 63) 0 (λ e. omega arith))
          left (no k) = rw (eq-eqb (a % 2 ^ 63) 0 (omega arith), ne_eqb (b % 2 ^ 63) 0 (λ e. omega arith))

      none : (t : Bool) → a % 2 ^ 63 + b % 2 ^ 63 ≡ 0 → cond (eqb (a % 2 ^ 63) 0 && eqb (b % 2 ^ 63) 0) false t ≡ false
      none t h = rw (eq-eqb (a % 2 ^ 63) 0 (omega arith), eq-eqb (b % 2 ^ 63) 0 (omega arith))

      same : (x y u w : ℕ) → u ≡ x → w ≡ y → ltb x y ≡ ltb u w
      same x y u w e d = rw (e, d)

      go : Dec (a < 2 ^ 63) → Dec (b < 2 ^ 63) → Dec (0 < a % 2 ^ 63 + b % 2 ^ 63) → less_than a b ≡ less a b
      go (yes p) (yes q) (yes o) = rw (lt-leb (2 ^ 63) a p, lt-leb (2 ^ 63) b q) (zeros (ltb a b) o ∙ same a b (a % 2 ^ 63) (b % 2 ^ 63) (omega arith) (omega arith) ∙ less-pp a b p q)
      go (yes p) (yes q) (no o) = rw (lt-leb (2 ^ 63) a p, lt-leb (2 ^ 63) b q) (none (ltb a b) (omega arith) ∙ sym (le-ltb (a % 2 ^ 63) (b % 2 ^ 63) (omega arith)) ∙ less-pp a b p q)
      go (yes p) (no q) (yes o) = rw (lt-leb (2 ^ 63) a p, le-leb (2 ^ 63) b (omega arith)) (zeros false o ∙ less-pn a b p (omega arith))
      go (yes p) (no q) (no o) = rw (lt-leb (2 ^ 63) a p, le-leb (2 ^ 63) b (omega arith)) (none false (omega arith) ∙ less-pn a b p (omega arith))
      go (no p) (yes q) (yes o) = rw (le-leb (2 ^ 63) a (omega arith), lt-leb (2 ^ 63) b q) (zeros true o ∙ sym (lt-ltb 0 (a % 2 ^ 63 + b % 2 ^ 63) o) ∙ less-np a b (omega arith) q)
      go (no p) (yes q) (no o) = rw (le-leb (2 ^ 63) a (omega arith), lt-leb (2 ^ 63) b q) (none true (omega arith) ∙ sym (le-ltb 0 (a % 2 ^ 63 + b % 2 ^ 63) (omega arith)) ∙ less-np a b (omega arith) q)
      go (no p) (no q) (yes o) = rw (le-leb (2 ^ 63) a (omega arith), le-leb (2 ^ 63) b (omega arith)) (zeros (ltb b a) o ∙ apart ∙ less-nn a b (omega arith) (omega arith))
        where
          apart : ltb b a ≡ ltb (b % 2 ^ 63) (a % 2 ^ 63)
          apart = by (dec_lt b a)
            where
              by : Dec (b < a) → ltb b a ≡ ltb (b % 2 ^ 63) (a % 2 ^ 63)
              by (yes l) = rw (lt-ltb b a l, lt-ltb (b % 2 ^ 63) (a % 2 ^ 63) (omega arith))
              by (no l) = rw (le-ltb b a (omega arith), le-ltb (b % 2 ^ 63) (a % 2 ^ 63) (omega arith))
      go (no p) (no q) (no o) = rw (le-leb (2 ^ 63) a (omega arith), le-leb (2 ^ 63) b (omega arith)) (none (ltb b a) (omega arith) ∙ sym (le-ltb (b % 2 ^ 63) (a % 2 ^ 63) (omega arith)) ∙ less-nn a b (omega arith) (omega arith))

-- ---- `size`

-- 1.33
pub size_is : (kind : ℕ) → size_of kind ≡ type_size kind
size_is zero = refl
size_is (suc zero) = refl
size_is (suc (suc zero)) = refl
size_is (suc (suc (suc zero))) = refl
size_is (suc (suc (suc (suc zero)))) = refl
size_is (suc (suc (suc (suc (suc zero))))) = refl
size_is (suc (suc (suc (suc (suc (suc zero)))))) = refl
size_is (suc (suc (suc (suc (suc (suc (suc zero))))))) = refl
size_is (suc (suc (suc (suc (suc (suc (suc (suc k)))))))) =
    let n = suc (suc (suc (suc (suc (suc (suc (suc k))))))) in
    let a : 2 ≤ n = omega arith in
    let b : 4 ≤ n = omega arith in
    let c : 7 ≤ n = omega arith in
    rw (le-ltb n 2 a, le-ltb n 4 b, le-ltb n 7 c)

-- 1.34
pub size-one-of : (kind : ℕ) → (type_size kind ≡ 1) ⊎ ((type_size kind ≡ 2) ⊎ ((type_size kind ≡ 4) ⊎ (type_size kind ≡ 8)))
size-one-of kind = rw (← size_is kind) (go (ltb kind 2) (ltb kind 4) (ltb kind 7))
  where
    go : (a b c : Bool) → let n : ℕ = cond a 1 (cond b 2 (cond c 4 8)) in (n ≡ 1) ⊎ ((n ≡ 2) ⊎ ((n ≡ 4) ⊎ (n ≡ 8)))
    go true b c = inl refl
    go false true c = inr (inl refl)
    go false false true = inr (inr (inl refl))
    go false false false = inr (inr (inr refl))

-- ---- `round`, `round_significand`

-- 1.4, 1.18
pub rounded-is : (v n : ℕ) → 0 < n → rounded v n ≡ closest v (2 ^ n)
unfolding rounded
rounded-is v n l = rw (ne_eqb n 0 (λ e. omega arith)) (up (dec_lt (2 ^ (n - 1)) (v % 2 ^ n)) (dec_lt (v % 2 ^ n) (2 ^ (n - 1))))
  where
    half : ℕ
    half = 2 ^ (n - 1)

    whole : 2 ^ n ≡ 2 ^ (n - 1) * 2
    whole = let z : n ≡ suc (n - 1) = omega arith in ap (λ (x : ℕ). 2 ^ x) z ∙ pow-suc 2 (n - 1)

    odd : (r : ℕ) → r < 2 → cond (eqb r 1) 1 0 ≡ r
    odd zero h = refl
    odd (suc zero) h = refl
    odd (suc (suc r)) h = absurd (omega arith)

    up : Dec (2 ^ (n - 1) < v % 2 ^ n) → Dec (v % 2 ^ n < 2 ^ (n - 1)) → v / 2 ^ n + cond (ltb (2 ^ (n - 1)) (v % 2 ^ n) || (eqb (v % 2 ^ n) (2 ^ (n - 1)) && eqb (v / 2 ^ n % 2) 1)) 1 0 ≡ closest v (2 ^ n)
    up (yes a) b = rw (lt-ltb _ _ a) (near_up v (2 ^ n) (v % 2 ^ n) (2 ^ n) refl refl (omega (arith, whole)))
    up (no a) (yes b) =
        rw (le-ltb (2 ^ (n - 1)) (v % 2 ^ n) (omega arith), ne_eqb (v % 2 ^ n) (2 ^ (n - 1)) (λ e. omega arith))
        (let z : v / 2 ^ n + 0 ≡ v / 2 ^ n = omega arith in z ∙ near_down v (2 ^ n) (v % 2 ^ n) (2 ^ n) refl refl (omega (arith, whole)))
    up (no a) (no b) =
        rw (le-ltb (2 ^ (n - 1)) (v % 2 ^ n) (omega arith), eq-eqb (v % 2 ^ n) (2 ^ (n - 1)) (omega arith), odd (v / 2 ^ n % 2) (omega arith))
        (near-tie v (2 ^ n) (v % 2 ^ n) (2 ^ n) refl refl (omega (arith, whole)) (omega (arith, whole)))

-- a rounded number is the cut one, or one more
rounded-near : (v n : ℕ) → 0 < n → (v / 2 ^ n ≤ closest v (2 ^ n)) × (closest v (2 ^ n) ≤ v / 2 ^ n + 1)
unfolding rounded
rounded-near v n l = rw (← rounded-is v n l, ne_eqb n 0 (λ e. omega arith)) (go (ltb (2 ^ (n - 1)) (v % 2 ^ n) || (eqb (v % 2 ^ n) (2 ^ (n - 1)) && eqb (v / 2 ^ n % 2) 1)))
  where
    go : (t : Bool) → (v / 2 ^ n ≤ v / 2 ^ n + cond t 1 0) × (v / 2 ^ n + cond t 1 0 ≤ v / 2 ^ n + 1)
    go true = (omega arith, omega arith)
    go false = (omega arith, omega arith)

-- 1.19
pub significand-wide : (v n : ℕ) → 0 < n → 2 ^ 52 ≤ v / 2 ^ n → v / 2 ^ n < 2 ^ 53 → (2 ^ 52 ≤ closest v (2 ^ n)) × (closest v (2 ^ n) ≤ 2 ^ 53)
significand-wide v n l a b = let (c, d) = rounded-near v n l in (omega arith, omega arith)

-- ---- `jam64`

-- 1.29
pub sticky-is : (v n : ℕ) → sticky v n ≡ jam v n
unfolding sticky
sticky-is v n = zero? (dec_lt 0 n)
  where
    cut? : Dec (0 < v % 2 ^ n) → cond (eqb (v % 2 ^ n) 0) (v / 2 ^ n) (v / 2 ^ n + (1 - v / 2 ^ n % 2)) ≡ jam v n
    cut? (yes l) = rw (ne_eqb (v % 2 ^ n) 0 (λ e. omega arith)) (jam_some v n l)
    cut? (no l) = rw (eq-eqb (v % 2 ^ n) 0 (omega arith)) (jam_none v n (omega arith))

    zero? : Dec (0 < n) → cond (eqb n 0) v (cond (eqb (v % 2 ^ n) 0) (v / 2 ^ n) (v / 2 ^ n + (1 - v / 2 ^ n % 2))) ≡ jam v n
    zero? (yes l) = rw (ne_eqb n 0 (λ e. omega arith)) (cut? (dec_lt 0 (v % 2 ^ n)))
    zero? (no l) = let z : n ≡ 0 = omega arith in rw (z) (sym (jam-zero v))

-- 1.30
pub jam-small : (v n : ℕ) → jam v n ≤ v
unfolding jam
jam-small v n =
    let a : 1 * (v / 2 ^ n) ≤ 2 ^ n * (v / 2 ^ n) = mul-le-mul (pow_pos n) (let z : v / 2 ^ n ≤ v / 2 ^ n = omega arith in z) in
    omega (arith, div-add-mod v (2 ^ n), a)

-- ---- `number`

-- 1.36, 1.46: a word is taken modulo its kind
pub number-wide : (kind v : ℕ) → value_of kind v ≡ value_of kind (v % kinds.modulus kind)
unfolding value_of
number-wide kind v = rw (mod-mod v (kinds.modulus kind))

-- 1.35, 1.45: a kind above 7 counts as 7
pub number-kind : (kind v : ℕ) → 7 ≤ kind → value_of kind v ≡ value_of 7 v
unfolding value_of
number-kind kind v h = rw (le-ltb kind 6 (omega arith), ne_eqb kind 6 (λ e. omega arith), modulus-last kind h)

-- ---- `to_integer`

-- 1.39
pub integer-kind : (v kind : ℕ) (r : Res ℕ) → r ≡ cut kind v → 6 ≤ kind → r ≡ fail (refuse 9)
integer-kind v kind r e l = e ∙ sym (cut-kind kind v l)

pub modulus-is : (kind : ℕ) → kind < 6 → modulus_of kind ≡ kinds.modulus kind
modulus-is zero l = refl
modulus-is (suc zero) l = refl
modulus-is (suc (suc zero)) l = refl
modulus-is (suc (suc (suc zero))) l = refl
modulus-is (suc (suc (suc (suc zero)))) l = refl
modulus-is (suc (suc (suc (suc (suc zero))))) l = refl
modulus-is (suc (suc (suc (suc (suc (suc k)))))) l = absurd (omega arith)

-- a number below 0, as a word
wrapped : (m q : ℕ) → 0 < m → (m - q) % m ≡ cond (not (eqb q 0)) (m - q) q
wrapped m zero h = let z : m - 0 ≡ m = omega arith in rw (z) (mod_self m)
wrapped m (suc q) h = let z : m - suc q < m = omega arith in rw (ne_eqb (suc q) 0 (λ e. absurd (omega arith))) (mod-eq_of_lt z)

-- by the sign and the kind's: q is the magnitude
ranged : (s e : Bool) (q m : ℕ) → 256 ≤ m
    → cond (leb (cond e (m / 2 + cond s 1 0) m) q || (s && not e && not (eqb q 0))) none (some (cond (s && not (eqb q 0)) (m - q) q))
    ≡ said (λ w. w) (require (ltb q (cond e (m / 2 + cond s 1 0) (cond s 1 m))) 9 >>= λ _. ok (cond s ((m - q) % m) q))
ranged true true q m h = go (dec_lt q (m / 2 + 1))
  where
    go : Dec (q < m / 2 + 1) → cond (leb (m / 2 + 1) q || false) none (some (cond (not (eqb q 0)) (m - q) q)) ≡ said (λ w. w) (require (ltb q (m / 2 + 1)) 9 >>= λ _. ok ((m - q) % m))
    go (yes l) = rw (lt-ltb q (m / 2 + 1) l, lt-leb (m / 2 + 1) q l, wrapped m q (omega arith))
    go (no l) = rw (le-ltb q (m / 2 + 1) (omega arith), le-leb (m / 2 + 1) q (omega arith))
ranged false true q m h = let z : m / 2 + 0 ≡ m / 2 = omega arith in rw (z) (go (dec_lt q (m / 2)))
  where
    go : Dec (q < m / 2) → cond (leb (m / 2) q || false) none (some q) ≡ said (λ w. w) (require (ltb q (m / 2)) 9 >>= λ _. ok q)
    go (yes l) = rw (lt-ltb q (m / 2) l, lt-leb (m / 2) q l)
    go (no l) = rw (le-ltb q (m / 2) (omega arith), le-leb (m / 2) q (omega arith))
ranged true false zero m h = rw (lt-leb m 0 (omega arith), wrapped m 0 (omega arith))
ranged true false (suc q) m h = rw (ne_eqb (suc q) 0 (λ e. absurd (omega arith)), le-ltb (suc q) 1 (omega arith)) (go (leb m (suc q)))
  where
    go : (t : Bool) → cond (t || true) none (some (m - suc q)) ≡ none
    go true = refl
    go false = refl
ranged false false q m h = go (dec_lt q m)
  where
    go : Dec (q < m) → cond (leb m q || false) none (some q) ≡ said (λ w. w) (require (ltb q m) 9 >>= λ _. ok q)
    go (yes l) = rw (lt-ltb q m l, lt-leb m q l)
    go (no l) = rw (le-ltb q m (omega arith), le-leb m q (omega arith))

odd_is : (kind : ℕ) → eqb (kind % 2) 1 ≡ not (eqb (kind % 2) 0)
odd_is kind = go (kind % 2) (omega arith)
  where
    go : (r : ℕ) → r < 2 → eqb r 1 ≡ not (eqb r 0)
    go zero h = refl
    go (suc zero) h = refl
    go (suc (suc r)) h = absurd (omega arith)

module _ (v kind : ℕ) (l : v < 2 ^ 64) (k : kind < 6) where
  cut-is : exp v < 1074 → cut_of v ≡ kinds.whole v
  cut-is h = rw (exponent-is v l, mantissa-is v l, lt-leb 1074 (exp v) h) (go (dec_le (exp v + 128) 1074))
    where
      go : Dec (exp v + 128 ≤ 1074) → cond (leb (exp v + 128) 1074) 0 (sig v / 2 ^ (1074 - exp v)) ≡ kinds.whole v
      go (yes o) = rw (le-leb (exp v + 128) 1074 o) (whole-zero v (exp v) refl (omega arith))
      go (no o) = rw (lt-leb (exp v + 128) 1074 (omega arith)) (whole-some v (sig v) (exp v) refl refl h)

  -- the two bounds, of a magnitude that is too large
  large : 1074 ≤ exp v → exp v ≤ 1074 + 32 → (b : ℕ) → b ≤ 2 ^ 32 → leb b (cut_of v) ≡ true
  large h o b c =
      let a : 2 ^ 52 * 1 ≤ sig v * 2 ^ (exp v - 1074) = mul-le-mul {n₁ = 2 ^ 52} {m₁ = 1} {n₂ = sig v} (omega arith) (pow_pos (exp v - 1074)) in
      rw (exponent-is v l, mantissa-is v l, le-leb 1074 (exp v) h) (le-leb b (sig v * 2 ^ (exp v - 1074)) (omega arith))

  bound-small : (s e : Bool) → cond e (kinds.modulus kind / 2 + cond s 1 0) (kinds.modulus kind) ≤ 2 ^ 32
  bound-small true true = omega (arith, modulus-le kind k)
  bound-small false true = omega (arith, modulus-le kind k)
  bound-small s false = modulus-le kind k

  integer-wild : 2047 ≤ field v → integer v kind ≡ said (λ w. w) (cut kind v)
  unfolding integer cut
  integer-wild f = rw (field_is v l, eq-eqb (field v) 2047 (omega arith), lt-ltb kind 6 k, le-ltb (field v) 2047 f)

  integer-large : field v < 2047 → 1074 ≤ exp v → Dec (1074 + 32 < exp v) → integer v kind ≡ said (λ w. w) (cut kind v)
  unfolding integer
  integer-large f h (yes o) = rw (← cut-large kind v (exp v) refl k h, field_is v l, ne_eqb (field v) 2047 (λ e. omega arith), exponent-is v l, lt-ltb (1074 + 32) (exp v) o)
  integer-large f h (no o) =
      rw (
        ← cut-large kind v (exp v) refl k h,
        field_is v l,
        ne_eqb (field v) 2047 (λ e. omega arith),
        modulus-is kind k,
        large h (omega arith) (cond (eqb (kind % 2) 0) (kinds.modulus kind / 2 + cond (sign v) 1 0) (kinds.modulus kind)) (bound-small (sign v) (eqb (kind % 2) 0)),
        exponent-is v l,
        le-ltb (1074 + 32) (exp v) (omega arith),
      )

  integer-near : field v < 2047 → exp v < 1074 → integer v kind ≡ said (λ w. w) (cut kind v)
  unfolding integer cut
  integer-near f h =
      rw (field_is v l, ne_eqb (field v) 2047 (λ e. omega arith), cut-is h, exponent-is v l, le-ltb (1074 + 32) (exp v) (omega arith), modulus-is kind k, odd_is kind, lt-ltb kind 6 k, lt-ltb (field v) 2047 f)
      (ranged (negative v) (eqb (kind % 2) 0) (kinds.whole v) (kinds.modulus kind) (modulus-ge kind))

  -- `integer` of the body is `cut`
  pub integer-is : integer v kind ≡ said (λ w. w) (cut kind v)
  integer-is = go (dec_lt (field v) 2047) (dec_lt (exp v) 1074)
    where
      go : Dec (field v < 2047) → Dec (exp v < 1074) → integer v kind ≡ said (λ w. w) (cut kind v)
      go (no f) _ = integer-wild (omega arith)
      go (yes f) (yes h) = integer-near f h
      go (yes f) (no h) = integer-large f (omega arith) (dec_lt (1074 + 32) (exp v))

  pub to-integer-clauses : ToIntegerClauses v kind
  to-integer-clauses = record {
    integer-is = integer-is;
    integer-ok = λ r promise. rw (promise, integer-is) (said-some (λ w. w) (cut kind v));
    integer-word = λ r promise w e. integer-is ∙ ap (said (λ w. w)) (sym promise ∙ e);
  }
