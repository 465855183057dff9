-- lerc_numeric.rs: `plus_software` computes ours. Its operands are over one power, the lesser one with a jammed digit: either
-- nothing is cut off, or the sum and the difference round as the exact ones do.
-- Assumes nothing.
use mathlib.Core.Path.{◌≡◌, refl, sym, ap, ◌∙◌}
use mathlib.Core.Bool.{Bool, true, false, not, cond, ◌&&◌, ◌||◌, beq, and-false, and-true}
use Prim.Native.Nat.{ℕ, zero, suc, ◌+◌, ◌-◌, ◌*◌, ◌/◌, ◌%◌, ◌^◌, ◌≤◌, ◌<◌, min}
use native.Mathlib.Omega.{arith}
use native.Mathlib.Nat.{zero-mul, suc-mul, add_comm, add-zero, add-mul, mul-one, mul_assoc, mul_right_comm, mul-mod_left, mul-le-mul, mul-lt-mul_of_pos_right, lt_of_mul-lt-mul_right, eq_of_mul-eq-mul_right, lt_of_le_of_lt, lt_of_lt_of_le, le_of_lt}
use native.Mathlib.Decide.{dec_lt, dec_le}
use borrow.Author.Tests.{lt-ltb, le-ltb, le-leb, lt-leb, ne_eqb}
use lib.Dec.{leb, ltb, eqb, lit≤, lit<}
use lib.Pow.{pow-add, pow_pos, pow_mono, shl_lt, add-lt-pow, shl-shr, shr-shr, mod-pow-add}
use lib.Ieee.{size}
use lib.Ieee.Digits.{size-lt}
use Rattle.lerc_numeric.specs.Numeric.{negative, infinite, sig, exp, mag, code, bits64, signed, sum, counted_sum}
use Rattle.lerc_numeric.specs.Inside.{jam}
use Rattle.lerc_numeric.proofs.Digits.{pow_lt_back}
use Rattle.lerc_numeric.proofs.Format.{sub-mul}
use Rattle.lerc_numeric.proofs.Jam.{StandsFor, jam-round, jam-is, jam-add, jam-sub, jam_none, jam-le, jam-zero}
use Rattle.lerc_numeric.proofs.Magnitude.{sig-lt, mag-lt}
use Rattle.lerc_numeric.proofs.Infinity.{sum-counted, absorbs-not}
use Rattle.lerc_contracts.proofs.Numeric.{mantissa-is, exponent-is, jam-small}
use Rattle.lerc_contracts.proofs.Rounding.{highest64-is, jammed-is}
use Rattle.lerc_contracts.proofs.Pack.{pack-is, normal-is, code_same}
use Rattle.lerc_contracts.specs.Numeric.{exponent, highest64, lined, joined, plus_near, plus_other, plus_software}
use Rattle.lerc_contracts.specs.Between.{rounds}

-- ---- m in units of 2 ^ (e - k)
abbrev over : ℕ → ℕ → ℕ → ℕ
over k e m = code 53 (2047 * 2 ^ 52) (m * 2 ^ e) (2 ^ k)

rounds-over : (s : Bool) (m e k t : ℕ) → k ≤ 3022 → t ≡ e + 3022 - k → rounds s m t ≡ signed s (over k e m)
rounds-over s m e k t l et =
    let z : t - 3022 + k ≡ e + (3022 - t) = omega arith in
    let x : m * 2 ^ (t - 3022) * 2 ^ k ≡ m * 2 ^ e * 2 ^ (3022 - t) = rw (mul_assoc m (2 ^ (t - 3022)) (2 ^ k), mul_assoc m (2 ^ e) (2 ^ (3022 - t)), ← pow-add 2 (t - 3022) k, ← pow-add 2 e (3022 - t), z) in
    ap (λ (y : ℕ). signed s y) (code_same 52 (2047 * 2 ^ 52) (m * 2 ^ (t - 3022)) (2 ^ (3022 - t)) (m * 2 ^ e) (2 ^ k) (pow_pos (3022 - t)) (pow_pos k) x)

-- nothing is cut off
over-exact : (k e m n : ℕ) → m * 2 ^ e ≡ n * 2 ^ k → over k e m ≡ bits64 n
over-exact k e m n x = code_same 52 (2047 * 2 ^ 52) (m * 2 ^ e) (2 ^ k) n 1 (pow_pos k) (pow_pos 0) (rw (mul-one) x)

-- ---- what a jammed digit is, of a number moved up by k digits
jam-exact : (v k n : ℕ) → n ≤ k → jam (v * 2 ^ k) n ≡ v * 2 ^ (k - n)
jam-exact v k n l =
    let z : k - n + n ≡ k = omega arith in
    let e : v * 2 ^ k ≡ v * 2 ^ (k - n) * 2 ^ n = rw (mul_assoc v (2 ^ (k - n)) (2 ^ n), ← pow-add 2 (k - n) n, z) in
    rw (e) (sym (jam_none (v * 2 ^ (k - n) * 2 ^ n) n (mul-mod_left (v * 2 ^ (k - n)) (2 ^ n))) ∙ shl-shr (v * 2 ^ (k - n)) n)

jam-moved : (v k i : ℕ) → jam (v * 2 ^ k) (i + k) ≡ jam v i
unfolding jam
jam-moved v k i =
    let q : v * 2 ^ k / 2 ^ (i + k) ≡ v / 2 ^ i = (let z : i + k ≡ k + i = omega arith in ap (λ (y : ℕ). v * 2 ^ k / 2 ^ y) z) ∙ sym (shr-shr (v * 2 ^ k) k i) ∙ ap (λ (y : ℕ). y / 2 ^ i) (shl-shr v k) in
    let r : v * 2 ^ k % 2 ^ (i + k) ≡ v % 2 ^ i * 2 ^ k = mod-pow-add (v * 2 ^ k) i k ∙ rw (shl-shr v k, mul-mod_left v (2 ^ k)) (add-zero (v % 2 ^ i * 2 ^ k)) in
    rw (q, r) (ap (λ (y : ℕ). v / 2 ^ i + y) (least (1 - v / 2 ^ i % 2) (v % 2 ^ i) (2 ^ k) (omega arith) (pow_pos k)))
  where
    least : (b r p : ℕ) → b ≤ 1 → 0 < p → min b (r * p) ≡ min b r
    least b zero p l h = rw (zero-mul p)
    least b (suc r) p l h = omega (arith, suc-mul r p)

-- ---- how two numbers x and y lie, and two magnitudes A and B in the same way
data Order (x y A B : ℕ) : Type 0 where
  under : x < y → A < B → Order x y A B
  level : x ≡ y → A ≡ B → Order x y A B
  above : y < x → B < A → Order x y A B

flip : {x y A B : ℕ} → Order x y A B → Order y x B A
flip (under l m) = above l m
flip (level e d) = level (sym e) (sym d)
flip (above l m) = under l m

-- a power that is greater than another has a leading digit
sig-least : (p q k : ℕ) → k < exp p - exp q → 2 ^ 52 ≤ sig p
sig-least p q k l = omega arith

-- ---- p has the greater power: x is p, moved up by k digits, and y is q, over the power of p
module _ (p q k : ℕ) (h : exp q ≤ exp p) (wide : 8 ≤ k) where
  abbrev d : ℕ
  d = exp p - exp q

  abbrev x : ℕ
  x = sig p * 2 ^ k

  abbrev y : ℕ
  y = jam (sig q * 2 ^ k) d

  x-is : x * 2 ^ exp p ≡ mag p * 2 ^ k
  unfolding mag
  x-is = mul_right_comm (sig p) (2 ^ k) (2 ^ exp p)

  y-near : d ≤ k → y * 2 ^ exp p ≡ mag q * 2 ^ k
  unfolding mag
  y-near l =
      let z : k - d + exp p ≡ exp q + k = omega arith in
      rw (jam-exact (sig q) k d l, mul_assoc (sig q) (2 ^ (k - d)) (2 ^ exp p), ← pow-add 2 (k - d) (exp p), z, pow-add 2 (exp q) k) (sym (mul_assoc (sig q) (2 ^ exp q) (2 ^ k)))

  y-far : k < d → y ≡ jam (sig q) (d - k)
  y-far l = let z : d ≡ d - k + k = omega arith in ap (λ (t : ℕ). jam (sig q * 2 ^ k) t) z ∙ jam-moved (sig q) k (d - k)

  -- where digits are cut off, x is much the larger
  y-most : k < d → y ≤ 2 ^ 53
  y-most l = rw (y-far l) (omega (arith, jam-le (sig q) (d - k), sig-lt q))

  x-least : k < d → 2 ^ 60 ≤ x
  x-least l = mul-le-mul {n₁ = 2 ^ 52} {m₁ = 2 ^ 8} {n₂ = sig p} (sig-least p q k l) (pow_mono {i = 8} wide)

  order : Order x y (mag p) (mag q)
  order = go (dec_le d k)
    where
      near : d ≤ k → Dec (mag p < mag q) → Dec (mag q < mag p) → Order x y (mag p) (mag q)
      near l (yes a) _ = under (lt_of_mul-lt-mul_right (2 ^ exp p) (rw (x-is, y-near l) (mul-lt-mul_of_pos_right a (pow_pos k)))) a
      near l (no a) (yes b) = above (lt_of_mul-lt-mul_right (2 ^ exp p) (rw (x-is, y-near l) (mul-lt-mul_of_pos_right b (pow_pos k)))) b
      near l (no a) (no b) =
          let e : mag p ≡ mag q = omega arith in
          level (eq_of_mul-eq-mul_right (2 ^ exp p) (pow_pos (exp p)) x y (x-is ∙ ap (λ (t : ℕ). t * 2 ^ k) e ∙ sym (y-near l))) e

      go : Dec (d ≤ k) → Order x y (mag p) (mag q)
      go (yes l) = near l (dec_lt (mag p) (mag q)) (dec_lt (mag q) (mag p))
      go (no l) =
          let f : k < d = omega arith in
          above (omega (arith, y-most f, x-least f)) (mag-lt q p (omega arith))

  -- a sum or a difference
  module _ (op : ℕ → ℕ → ℕ) (through : (a b z : ℕ) → op a b * z ≡ op (a * z) (b * z)) where
    op-near : d ≤ k → over k (exp p) (op x y) ≡ bits64 (op (mag p) (mag q))
    op-near l = over-exact k (exp p) (op x y) (op (mag p) (mag q)) (through x y (2 ^ exp p) ∙ rw (x-is, y-near l) (sym (through (mag p) (mag q) (2 ^ k))))

    op-far : k < d → StandsFor (op x (jam (sig q) (d - k))) (d - k) (op (x * 2 ^ (d - k)) (sig q)) → 2 ^ 54 ≤ op x y → over k (exp p) (op x y) ≡ bits64 (op (mag p) (mag q))
    unfolding mag
    op-far l j big =
        let m = op x y in
        let z : d - k + exp q + k ≡ exp p = omega arith in
        let a : m * 2 ^ exp p ≡ m * 2 ^ (d - k + exp q) * 2 ^ k = rw (mul_assoc m (2 ^ (d - k + exp q)) (2 ^ k), ← pow-add 2 (d - k + exp q) k, z) in
        let t : k + (d - k) + exp q ≡ exp p = omega arith in
        let w : sig p * 2 ^ k * 2 ^ (d - k) * 2 ^ exp q ≡ sig p * 2 ^ exp p = rw (mul_assoc (sig p) (2 ^ k) (2 ^ (d - k)), ← pow-add 2 k (d - k), mul_assoc (sig p) (2 ^ (k + (d - k))) (2 ^ exp q), ← pow-add 2 (k + (d - k)) (exp q), t) in
        let b : op (x * 2 ^ (d - k)) (sig q) * 2 ^ exp q ≡ op (mag p) (mag q) = through (x * 2 ^ (d - k)) (sig q) (2 ^ exp q) ∙ ap (λ (u : ℕ). op u (sig q * 2 ^ exp q)) w in
        let jy : StandsFor m (d - k) (op (x * 2 ^ (d - k)) (sig q)) = rw (y-far l) j in
        over-exact k (exp p) m (m * 2 ^ (d - k + exp q)) a ∙ sym (jam-round m (d - k) (op (x * 2 ^ (d - k)) (sig q)) (exp q) jy big) ∙ ap (λ (u : ℕ). bits64 u) b

  even : x % 2 ≡ 0
  even = let z : k ≡ k - 1 + 1 = omega arith in let e : x ≡ sig p * 2 ^ (k - 1) * 2 = ap (λ (t : ℕ). sig p * 2 ^ t) z ∙ rw (pow-add 2 (k - 1) 1) (sym (mul_assoc (sig p) (2 ^ (k - 1)) 2)) in omega (arith, e)

  total-is : (k < d → 2 ^ 54 ≤ x + y) → over k (exp p) (x + y) ≡ bits64 (mag p + mag q)
  total-is w = go (dec_le d k)
    where
      go : Dec (d ≤ k) → over k (exp p) (x + y) ≡ bits64 (mag p + mag q)
      go (yes l) = op-near ◌+◌ add-mul l
      go (no l) = let f : k < d = omega arith in op-far ◌+◌ add-mul f (jam-add x (jam (sig q) (d - k)) (d - k) (sig q) even (jam-is (sig q) (d - k))) (w f)

  rest-is : (k < d → 2 ^ 54 ≤ x - y) → over k (exp p) (x - y) ≡ bits64 (mag p - mag q)
  rest-is w = go (dec_le d k)
    where
      go : Dec (d ≤ k) → over k (exp p) (x - y) ≡ bits64 (mag p - mag q)
      go (yes l) = op-near ◌-◌ sub-mul l
      go (no l) =
          let f : k < d = omega arith in
          let less : jam (sig q) (d - k) ≤ x = rw (← y-far f) (omega (arith, y-most f, x-least f)) in
          op-far ◌-◌ sub-mul f (jam-sub x (jam (sig q) (d - k)) (d - k) (sig q) even less (jam-is (sig q) (d - k))) (w f)

  -- the other difference is not 0 only where nothing is cut off
  under-is : x < y → over k (exp p) (y - x) ≡ bits64 (mag q - mag p)
  under-is o = go (dec_le d k)
    where
      go : Dec (d ≤ k) → over k (exp p) (y - x) ≡ bits64 (mag q - mag p)
      go (yes l) = op-near (λ a b. b - a) (λ a b z. sub-mul b a z) l
      go (no l) = absurd (let f : k < d = omega arith in omega (arith, y-most f, x-least f))

-- ---- two operands over one power e, of the magnitudes A and B: W says of a sum or difference that it is wide enough
record Fits (W : ℕ → Type 0) (k e x y A B : ℕ) : Type 0 where
  lies : Order x y A B
  both : W (x + y) → over k e (x + y) ≡ bits64 (A + B)
  more : y < x → W (x - y) → over k e (x - y) ≡ bits64 (A - B)
  less : x < y → W (y - x) → over k e (y - x) ≡ bits64 (B - A)

swap : {W : ℕ → Type 0} {k e x y A B : ℕ} → Fits W k e x y A B → Fits W k e y x B A
swap {W} {k} {e} {x} {y} {A} {B} f =
    record {
      lies = flip f.lies;
      both = λ w. rw (add_comm y x, add_comm B A) (f.both (rw (add_comm x y) w));
      more = f.less;
      less = f.more;
    }

-- by the operand that has the greater power
fits-over : (W : ℕ → Type 0) (p q k : ℕ) (h : exp q ≤ exp p) (wide : 8 ≤ k) → (k < exp p - exp q → (m : ℕ) → x p q k h wide - y p q k h wide ≤ m → W m → 2 ^ 54 ≤ m)
    → Fits W k (exp p) (x p q k h wide) (y p q k h wide) (mag p) (mag q)
fits-over W p q k h wide enough =
    record {
      lies = order p q k h wide;
      both = λ w. total-is p q k h wide (λ f. enough f (x p q k h wide + y p q k h wide) (omega arith) w);
      more = λ o w. rest-is p q k h wide (λ f. enough f (x p q k h wide - y p q k h wide) (omega arith) w);
      less = λ o w. under-is p q k h wide o;
    }

-- ---- the sign and the number, put together
abbrev sign_of : Bool → Bool → ℕ → ℕ → ℕ → Bool
sign_of sa sb x y m = cond (eqb m 0 && not (beq sa sb)) false (cond (beq sa sb || leb y x) sa sb)

abbrev sum_of : Bool → Bool → ℕ → ℕ → ℕ
sum_of sa sb A B = cond (beq sa sb) (signed sa (bits64 (A + B))) (cond (ltb A B) (signed sb (bits64 (B - A))) (signed (sa && ltb B A) (bits64 (A - B))))

module _ (W : ℕ → Type 0) (k e x y A B : ℕ) (f : Fits W k e x y A B) where
  unlike : (sa sb : Bool) → W (cond (leb y x) (x - y) (y - x)) → Order x y A B
      → (let m = cond (leb y x) (x - y) (y - x) in signed (cond (eqb m 0 && true) false (cond (leb y x) sa sb)) (over k e m))
      ≡ cond (ltb A B) (signed sb (bits64 (B - A))) (signed (sa && ltb B A) (bits64 (A - B)))
  unlike sa sb w (under l m) = rw (lt-leb y x l, ne_eqb (y - x) 0 (λ z. omega arith), lt-ltb A B m) (ap (λ (t : ℕ). signed sb t) (f.less l (rw (lt-leb y x l) at w)))
  unlike sa sb w (level g c) =
      let z : x - y ≡ 0 = omega arith in
      let n : A - B ≡ 0 = omega arith in
      rw (le-leb y x (omega arith), z, le-ltb A B (omega arith), le-ltb B A (omega arith), and-false sa, n) (ap (λ (t : ℕ). signed false t) (over-exact k e 0 0 (zero-mul (2 ^ e) ∙ sym (zero-mul (2 ^ k)))))
  unlike sa sb w (above l m) =
      rw (le-leb y x (omega arith), ne_eqb (x - y) 0 (λ z. omega arith), le-ltb A B (omega arith), lt-ltb B A m, and-true sa) (ap (λ (t : ℕ). signed sa t) (f.more l (rw (le-leb y x (le_of_lt l)) at w)))

  sum_is : (sa sb : Bool) → W (joined (beq sa sb) x y) → (let m = joined (beq sa sb) x y in signed (sign_of sa sb x y m) (over k e m)) ≡ sum_of sa sb A B
  sum_is true true w = rw (and-false (eqb (x + y) 0)) (ap (λ (t : ℕ). signed true t) (f.both w))
  sum_is false false w = rw (and-false (eqb (x + y) 0)) (ap (λ (t : ℕ). signed false t) (f.both w))
  sum_is true false w = unlike true false w f.lies
  sum_is false true w = unlike false true w f.lies

-- ---- the two paths
module _ (sa sb : Bool) (e x y A B : ℕ) where
  abbrev m : ℕ
  m = joined (beq sa sb) x y

  joined-le : (t : Bool) → joined t x y ≤ x + y
  joined-le true = omega arith
  joined-le false = go (leb y x)
    where
      go : (t : Bool) → cond t (x - y) (y - x) ≤ x + y
      go true = omega arith
      go false = omega arith

  near-path : Fits (λ n. 2 ^ 54 ≤ n) 8 e x y A B → x + y < 2 ^ 64 → 2 ^ 54 ≤ m → 3074 ≤ e + 3014 + highest64 m → e + 3014 + highest64 m ≤ 5119 → plus_near sa sb x y e m ≡ sum_of sa sb A B
  unfolding plus_near
  near-path f l big a b =
      let lm : m < 2 ^ 64 = omega (arith, joined-le (beq sa sb)) in
      let hi = highest64-is m lm in
      let digits : 54 < size m = pow_lt_back 54 (size m) (lt_of_le_of_lt big (size-lt m)) in
      let sg : cond (beq sa sb || leb y x) sa sb ≡ sign_of sa sb x y m = rw (ne_eqb m 0 (λ z. omega arith)) in
      rw (sg, hi)
      (normal-is (sign_of sa sb x y m) m (e + 3014) (lt_of_lt_of_le lm (lit≤ tt)) (omega arith) (rw (hi) at a) (rw (hi) at b)
      ∙ rounds-over (sign_of sa sb x y m) m e 8 (e + 3014) (lit≤ tt) (omega arith)
      ∙ sum_is (λ n. 2 ^ 54 ≤ n) 8 e x y A B f sa sb big)

  other_path : Fits (λ _. Unit) 64 e x y A B → x + y < 2 ^ 118 → plus_other sa sb x y e m ≡ sum_of sa sb A B
  unfolding plus_other
  other_path f l =
      let lm : m < 2 ^ 128 = lt_of_le_of_lt (joined-le (beq sa sb)) (lt_of_lt_of_le l (lit≤ tt)) in
      pack-is (sign_of sa sb x y m) m (e + 2958) lm ∙ rounds-over (sign_of sa sb x y m) m e 64 (e + 2958) (lit≤ tt) (omega arith) ∙ sum_is (λ _. Unit) 64 e x y A B f sa sb tt

paths : (sa sb : Bool) (e x y u w A B : ℕ) → Fits (λ n. 2 ^ 54 ≤ n) 8 e x y A B → Fits (λ _. Unit) 64 e u w A B → x + y < 2 ^ 64 → u + w < 2 ^ 118
    → (let m = joined (beq sa sb) x y in
    cond (leb (2 ^ 54) m && leb 3074 (e + 3014 + highest64 m) && leb (e + 3014 + highest64 m) 5119) (plus_near sa sb x y e m) (plus_other sa sb u w e (joined (beq sa sb) u w)))
    ≡ sum_of sa sb A B
paths sa sb e x y u w A B f g l k = go (dec_le (2 ^ 54) n) (dec_le 3074 (e + 3014 + highest64 n)) (dec_le (e + 3014 + highest64 n) 5119)
  where
    n : ℕ
    n = joined (beq sa sb) x y

    last : plus_other sa sb u w e (joined (beq sa sb) u w) ≡ sum_of sa sb A B
    last = other_path sa sb e u w A B g k

    go : Dec (2 ^ 54 ≤ n) → Dec (3074 ≤ e + 3014 + highest64 n) → Dec (e + 3014 + highest64 n ≤ 5119)
        → cond (leb (2 ^ 54) n && leb 3074 (e + 3014 + highest64 n) && leb (e + 3014 + highest64 n) 5119) (plus_near sa sb x y e n) (plus_other sa sb u w e (joined (beq sa sb) u w)) ≡ sum_of sa sb A B
    go (yes a) (yes b) (yes c) = rw (le-leb (2 ^ 54) n a, le-leb 3074 (e + 3014 + highest64 n) b, le-leb (e + 3014 + highest64 n) 5119 c) (near-path sa sb e x y A B f l a b c)
    go (yes a) (yes b) (no c) = rw (le-leb (2 ^ 54) n a, le-leb 3074 (e + 3014 + highest64 n) b, lt-leb (e + 3014 + highest64 n) 5119 (omega arith)) last
    go (yes a) (no b) _ = rw (le-leb (2 ^ 54) n a, lt-leb 3074 (e + 3014 + highest64 n) (omega arith)) last
    go (no a) _ _ = rw (lt-leb (2 ^ 54) n (omega arith)) last

-- ---- of two words
module _ (a b : ℕ) (la : a < 2 ^ 64) (lb : b < 2 ^ 64) where
  -- the greater power
  abbrev e : ℕ
  e = cond (ltb (exponent b) (exponent a)) (exponent a) (exponent b)

  lined-is : (width k t v : ℕ) → v < 2 ^ 64 → 53 + k ≤ width → lined width k t v ≡ jam (sig v * 2 ^ k) (t - exp v)
  lined-is width k t v l w =
      rw (mantissa-is v l, exponent-is v l) (jammed-is width (sig v * 2 ^ k) (t - exp v) (lt_of_lt_of_le (shl_lt 53 k (sig-lt v)) (pow_mono w)))

  lined-le : (width k t v : ℕ) → v < 2 ^ 64 → 53 + k ≤ width → lined width k t v ≤ sig v * 2 ^ k
  lined-le width k t v l w = rw (lined-is width k t v l w) (jam-small (sig v * 2 ^ k) (t - exp v))

  -- one of them is not moved
  fits-at : (W : ℕ → Type 0) (width k : ℕ) → 8 ≤ k → 53 + k ≤ width → ((p q m : ℕ) → k < exp p - exp q → sig p * 2 ^ k - 2 ^ 53 ≤ m → W m → 2 ^ 54 ≤ m) → Fits W k e (lined width k e a) (lined width k e b) (mag a) (mag b)
  fits-at W width k wide w enough = rw (lined-is width k e a la w, lined-is width k e b lb w, exponent-is a la, exponent-is b lb) (go (dec_lt (exp b) (exp a)))
    where
      same : (v : ℕ) → jam (sig v * 2 ^ k) (exp v - exp v) ≡ sig v * 2 ^ k
      same v = let z : exp v - exp v ≡ 0 = omega arith in rw (z) (jam-zero (sig v * 2 ^ k))

      by : (p q : ℕ) (h : exp q ≤ exp p) → Fits W k (exp p) (sig p * 2 ^ k) (jam (sig q * 2 ^ k) (exp p - exp q)) (mag p) (mag q)
      by p q h = fits-over W p q k h wide (λ f m l w. enough p q m f (omega (arith, y-most p q k h wide f)) w)

      go : Dec (exp b < exp a) → (let t = cond (ltb (exp b) (exp a)) (exp a) (exp b) in Fits W k t (jam (sig a * 2 ^ k) (t - exp a)) (jam (sig b * 2 ^ k) (t - exp b)) (mag a) (mag b))
      go (yes l) = rw (lt-ltb (exp b) (exp a) l, same a) (by a b (omega arith))
      go (no l) = let o : exp a ≤ exp b = omega arith in rw (le-ltb (exp b) (exp a) o, same b) (swap (by b a o))

  -- section 0
  pub plus-counted : plus_software a b ≡ counted_sum a b
  unfolding plus_software counted_sum
  plus-counted =
      paths (negative a) (negative b) e (lined 64 8 e a) (lined 64 8 e b) (lined 128 64 e a) (lined 128 64 e b) (mag a) (mag b)
      (fits-at (λ n. 2 ^ 54 ≤ n) 64 8 (lit≤ tt) (lit≤ tt) (λ p q m f l w. w))
      (fits-at (λ _. Unit) 128 64 (lit≤ tt) (lit≤ tt) (λ p q m f l w. enough (sig p * 2 ^ 64) m (mul-le-mul {n₁ = 2 ^ 52} {m₁ = 2 ^ 8} {n₂ = sig p} (sig-least p q 64 f) (lit≤ tt)) l))
      (omega (arith, lined-le 64 8 e a la (lit≤ tt), lined-le 64 8 e b lb (lit≤ tt), sig-lt a, sig-lt b))
      (add-lt-pow 117 (lt_of_le_of_lt (lined-le 128 64 e a la (lit≤ tt)) (shl_lt 53 64 (sig-lt a))) (lt_of_le_of_lt (lined-le 128 64 e b lb (lit≤ tt)) (shl_lt 53 64 (sig-lt b))))
    where
      enough : (big n : ℕ) → 2 ^ 60 ≤ big → big - 2 ^ 53 ≤ n → 2 ^ 54 ≤ n
      enough big n a b = omega arith

-- 1.31, 1.43
pub plus-is : (a b : ℕ) → a < 2 ^ 64 → b < 2 ^ 64 → infinite a ≡ false → infinite b ≡ false → plus_software a b ≡ sum a b
plus-is a b la lb ia ib = plus-counted a b la lb ∙ sym (sum-counted a b (absorbs-not a b ia) (absorbs-not b a ib))

-- an infinity is counted as 2^1024 there
pub plus-differs : (plus_software 0xFFE0000000000000 0x7FF0000000000000 ≡ 0x7FE0000000000000) × (sum 0xFFE0000000000000 0x7FF0000000000000 ≡ 0x7FF0000000000000)
unfolding sum counted_sum mag code size
plus-differs = (plus-counted 0xFFE0000000000000 0x7FF0000000000000 (lit< tt) (lit< tt), refl)
