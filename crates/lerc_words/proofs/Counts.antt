-- Laws of counts and sums over the numbers below a bound.
-- Assumes nothing.
use mathlib.Core.Path.{◌≡◌, ◌∙◌, sym, refl}
use mathlib.Core.Bool.{Bool, true, false, cond}
use mathlib.Core.Logic.{◌≢◌}
use Prim.Native.Nat.{ℕ, zero, suc, ◌+◌, ◌-◌, ◌*◌, ◌/◌, ◌≤◌, ◌<◌}
use native.Mathlib.Nat.{suc-mul, zero-mul, not-suc-le-zero}
use native.Mathlib.Decide.{dec_lt}
use lib.Arith.{digits_div}
use native.Mathlib.Numerals.{add-one}
use native.Mathlib.Omega.{arith}
use Rattle.lerc_words.specs.Lists.{count, total}

pub count-zero : (p : ℕ → Bool) → count 0 p ≡ 0
unfolding count
count-zero p = refl

pub count-more : (n : ℕ) (p : ℕ → Bool) → count (n + 1) p ≡ count n p + cond (p n) 1 0
unfolding count
count-more n p = rw (add-one)

pub count-le : (n : ℕ) (p : ℕ → Bool) → count n p ≤ n
unfolding count
count-le zero p = omega arith
count-le (suc n) p = go (p n) (count-le n p)
  where
    go : (b : Bool) → count n p ≤ n → count n p + cond b 1 0 ≤ suc n
    go true l = omega arith
    go false l = omega arith

pub count_same : (n : ℕ) (p q : ℕ → Bool) → ((i : ℕ) → i < n → p i ≡ q i) → count n p ≡ count n q
unfolding count
count_same zero p q f = refl
count_same (suc n) p q f = rw (count_same n p q (λ i l. f i (omega arith)), f n (omega arith))

pub count_none : (n : ℕ) (p : ℕ → Bool) → ((i : ℕ) → i < n → p i ≡ false) → count n p ≡ 0
unfolding count
count_none zero p f = refl
count_none (suc n) p f = rw (count_none n p (λ i l. f i (omega arith)), f n (omega arith))

-- one more
module _ (p q : ℕ → Bool) (i : ℕ) (a : p i ≡ false) (b : q i ≡ true) (f : (c : ℕ) → c ≢ i → q c ≡ p c) where
  pub count-one : (n : ℕ) → i < n → count n q ≡ count n p + 1
  unfolding count
  count-one zero l = absurd (omega arith)
  count-one (suc n) l = go (dec_lt i n) (count-one n)
    where
      go : Dec (i < n) → (i < n → count n q ≡ count n p + 1) → count n q + cond (q n) 1 0 ≡ count n p + cond (p n) 1 0 + 1
      go (yes r) h =
          let e : n ≢ i = λ z. let w : n ≡ i = z in absurd (omega arith) in
          rw (f n e) (omega (arith, h r))
      go (no r) h =
          let e : i ≡ n = omega arith in
          let u : count n q ≡ count n p = count_same n q p (λ c k. f c (λ z. let w : c ≡ i = z in absurd (omega arith))) in
          rw (sym e, a, b) (rw (sym e) at (let z : count n q + 1 ≡ count n p + 0 + 1 = omega arith in z))

-- two sets that make up a third
pub count-sum : (n : ℕ) (p q r : ℕ → Bool) → ((i : ℕ) → cond (p i) 1 0 + cond (q i) 1 0 ≡ cond (r i) 1 0) → count n p + count n q ≡ count n r
unfolding count
count-sum zero p q r f = refl
count-sum (suc n) p q r f = omega (arith, count-sum n p q r f, f n)

-- a set by rows of d
pub count-plus : (a b : ℕ) (p : ℕ → Bool) → count (b + a) p ≡ count a p + count b (λ i. p (i + a))
unfolding count
count-plus a zero p = let e : 0 + a ≡ a = omega arith in rw (e) (omega arith)
count-plus a (suc b) p = let e : suc b + a ≡ suc (b + a) = omega arith in rw (e) (omega (arith, count-plus a b p))

pub count-mono : (a b : ℕ) (p : ℕ → Bool) → a ≤ b → count a p ≤ count b p
count-mono a b p l =
    let e : b - a + a ≡ b = omega arith in
    omega (arith, rw (e) at (count-plus a (b - a) p))

count-const : (n : ℕ) (b : Bool) → count n (λ i. b) ≡ cond b n 0
unfolding count
count-const zero true = refl
count-const zero false = refl
count-const (suc n) true = rw (count-const n true) (omega arith)
count-const (suc n) false = rw (count-const n false)

times : (x d : ℕ) (b : Bool) → x * d + cond b d 0 ≡ (x + cond b 1 0) * d
times x d true = let e : x + 1 ≡ suc x = omega arith in rw (e) (omega (arith, suc-mul x d))
times x d false = let e : x + 0 ≡ x = omega arith in rw (e) (omega arith)

pub count-rows : (d n : ℕ) (p : ℕ → Bool) → count (n * d) (λ c. p (c / d)) ≡ count n p * d
unfolding count
count-rows d zero p = rw (zero-mul)
count-rows d (suc n) p =
    let e : suc n * d ≡ d + n * d = omega (arith, suc-mul n d) in
    let f : count d (λ i. p ((i + n * d) / d)) ≡ cond (p n) d 0 =
    count_same d _ (λ i. p n) (λ i l. let g : i + n * d ≡ n * d + i = omega arith in rw (g, digits_div n l)) ∙ count-const d (p n) in
    rw (e, count-plus (n * d) d (λ c. p (c / d)), count-rows d n p, f) (times (count n p) d (p n))

-- ---- sums

pub total-zero : (f : ℕ → ℕ) → 0 ≡ total 0 f
unfolding total
total-zero f = refl

pub total-more : (n : ℕ) (f : ℕ → ℕ) → total n f + f n ≡ total (n + 1) f
unfolding total
total-more n f = rw (add-one)

pub total-le : (f : ℕ → ℕ) (a b : ℕ) → total a f ≤ total (b + a) f
unfolding total
total-le f a zero = let e : 0 + a ≡ a = omega arith in rw (e) (omega arith)
total-le f a (suc b) = let e : suc b + a ≡ suc (b + a) = omega arith in rw (e) (omega (arith, total-le f a b))

pub count-suc : (n : ℕ) (p : ℕ → Bool) → count (suc n) p ≡ count n p + cond (p n) 1 0
unfolding count
count-suc n p = refl

pub count-all : (n : ℕ) (p : ℕ → Bool) → ((i : ℕ) → i < n → p i ≡ true) → count n p ≡ n
unfolding count
count-all zero p h = refl
count-all (suc n) p h = rw (h n (omega arith), count-all n p (λ i l. h i (omega arith))) (omega arith)

-- as many as there are places: all have the property
pub count-full : (n : ℕ) (f : ℕ → Bool) → count n f ≡ n → (i : ℕ) → i < n → f i ≡ true
count-full zero f e i l = absurd (not-suc-le-zero l)
count-full (suc n) f e i l = go (f n) refl (λ z j k. count-full n f z j k)
  where
    rest : (b : Bool) → f n ≡ b → count n f + cond b 1 0 ≡ suc n
    rest b q = rw (← q) (sym (count-suc n f) ∙ e)

    last : f n ≡ true → Dec (i < n) → ((j : ℕ) → j < n → f j ≡ true) → f i ≡ true
    last q (yes d) below = below i d
    last q (no d) below = let e : i ≡ n = omega arith in rw (e) q

    go : (b : Bool) → f n ≡ b → (count n f ≡ n → (j : ℕ) → j < n → f j ≡ true) → f i ≡ true
    go true q below = let r = rest true q in let z : count n f ≡ n = omega (arith, r) in last q (dec_lt i n) (below z)
    go false q below = absurd (let r = rest false q in let z : 0 < 0 = omega (arith, r, count-le n f) in not-suc-le-zero z)
