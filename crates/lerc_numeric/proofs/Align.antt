-- The laws behind `align`, `total` and `rest`: two magnitudes over one power of two, the lesser one with a jammed digit.
-- Assumes nothing.
use mathlib.Core.Path.{◌≡◌, sym, ap, ◌∙◌}
use Prim.Native.Nat.{ℕ, ◌+◌, ◌-◌, ◌*◌, ◌%◌, ◌^◌, ◌≤◌, ◌<◌, min}
use native.Mathlib.Nat.{le_trans, le_of_eq, lt_of_lt_of_le, mul_assoc, mul-one, add-mul, add_comm, add-zero, le_of_mul-le-mul_right}
use native.Mathlib.Decide.{dec_le}
use native.Mathlib.Omega.{arith}
use lib.Pow.{pow-add, pow_pos, pow_mono, shl_lt, shl_exact}
use Rattle.lerc_numeric.specs.Numeric.{bits64, sig, exp, mag}
use Rattle.lerc_numeric.specs.Inside.{jam}
use Rattle.lerc_numeric.proofs.Format.{sub-mul}
use Rattle.lerc_numeric.proofs.Jam.{StandsFor, jam-round, jam-is, jam-le, jam-zero, jam-add, jam-sub}
use Rattle.lerc_numeric.proofs.Magnitude.{sig-lt, mag-le}

-- ---- m * 2 ^ (x + d) moved up by as much as 10 digits
place : (m d x : ℕ) → m * 2 ^ (x + d) ≡ m * 2 ^ min d 10 * 2 ^ (d - 10) * 2 ^ x
place m d x =
    let e : x + d ≡ min d 10 + (d - 10) + x = omega arith in
    rw (e, pow-add 2 (min d 10 + (d - 10)) x, pow-add 2 (min d 10) (d - 10), mul_assoc, mul_assoc, mul_assoc)

-- where digits of the other are cut off, it has moved by 10
even : (m d : ℕ) → 10 < d → m * 2 ^ min d 10 % 2 ≡ 0
even m d h = let e : min d 10 ≡ 10 = omega arith in rw (e) (omega arith)

large : (m d : ℕ) → 10 < d → 2 ^ 52 ≤ m → 2 ^ 62 ≤ m * 2 ^ min d 10
large m d h k = let e : min d 10 ≡ 10 = omega arith in rw (e) (omega arith)

-- ---- a sum or a difference of m * 2 ^ (x + d) and s * 2 ^ x
module _ (op : ℕ → ℕ → ℕ) (over : (a b z : ℕ) → op a b * z ≡ op (a * z) (b * z)) (m s d x : ℕ)
    (jams : 10 < d → StandsFor (op (m * 2 ^ min d 10) (jam s (d - 10))) (d - 10) (op (m * 2 ^ min d 10 * 2 ^ (d - 10)) s))
    (wide : 10 < d → 2 ^ 54 ≤ op (m * 2 ^ min d 10) (jam s (d - 10))) where
  aligned : bits64 (op (m * 2 ^ min d 10) (jam s (d - 10)) * 2 ^ (x + (d - 10))) ≡ bits64 (op (m * 2 ^ (x + d)) (s * 2 ^ x))
  aligned = rw (place m d x, ← over (m * 2 ^ min d 10 * 2 ^ (d - 10)) s (2 ^ x)) (go (dec_le d 10))
    where
      big : ℕ
      big = m * 2 ^ min d 10

      go : Dec (d ≤ 10) → bits64 (op big (jam s (d - 10)) * 2 ^ (x + (d - 10))) ≡ bits64 (op (big * 2 ^ (d - 10)) s * 2 ^ x)
      go (yes h) = let z : d - 10 ≡ 0 = omega arith in rw (z, jam-zero s, add-zero x, mul-one)
      go (no h) = rw (add_comm x (d - 10)) (sym (jam-round (op big (jam s (d - 10))) (d - 10) (op (big * 2 ^ (d - 10)) s) x (jams (omega arith)) (wide (omega arith))))

-- ---- of two words, with what `align` makes of them
mag-at : (a b : ℕ) → exp b ≤ exp a → mag a ≡ sig a * 2 ^ (exp b + (exp a - exp b))
unfolding mag
mag-at a b h = ap (λ (y : ℕ). sig a * 2 ^ y) (omega arith)

sig-ge : (a b : ℕ) → 10 < exp a - exp b → 2 ^ 52 ≤ sig a
sig-ge a b h = omega arith

module _ (a b big small e : ℕ) (h : exp b ≤ exp a) (eb : big ≡ sig a * 2 ^ min (exp a - exp b) 10) (es : small ≡ jam (sig b) (exp a - exp b - 10)) (ee : e ≡ exp b + (exp a - exp b - 10)) where
  pub big_lt : big < 2 ^ 63
  big_lt = rw (eb) (lt_of_lt_of_le (shl_lt 53 (min (exp a - exp b) 10) (sig-lt a)) (pow_mono {j = 63} (omega arith)))

  pub small-le : small ≤ 2 ^ 53
  small-le = omega (arith, jam-le (sig b) (exp a - exp b - 10), sig-lt b)

  far : 10 < exp a - exp b → 2 ^ 62 ≤ big
  far k = rw (eb) (large (sig a) (exp a - exp b) k (sig-ge a b k))

  pub total-is : bits64 ((big + small) * 2 ^ e) ≡ bits64 (mag a + mag b)
  unfolding mag
  total-is =
      rw (ee, mag-at a b h)
      (rw (eb, es)
      (aligned ◌+◌ add-mul (sig a) (sig b) (exp a - exp b) (exp b)
      (λ k. jam-add (sig a * 2 ^ min (exp a - exp b) 10) (jam (sig b) (exp a - exp b - 10)) (exp a - exp b - 10) (sig b) (even (sig a) (exp a - exp b) k) (jam-is (sig b) (exp a - exp b - 10)))
      (λ k. omega (arith, eb, far k))))

  pub rest-is : bits64 ((big - small) * 2 ^ e) ≡ bits64 (mag a - mag b)
  unfolding mag
  rest-is =
      rw (ee, mag-at a b h)
      (rw (eb, es)
      (aligned ◌-◌ sub-mul (sig a) (sig b) (exp a - exp b) (exp b)
      (λ k. jam-sub (sig a * 2 ^ min (exp a - exp b) 10) (jam (sig b) (exp a - exp b - 10)) (exp a - exp b - 10) (sig b) (even (sig a) (exp a - exp b) k) (omega (arith, eb, es, far k, small-le)) (jam-is (sig b) (exp a - exp b - 10)))
      (λ k. omega (arith, eb, es, far k, small-le))))

  pub rest_le : b % 2 ^ 63 ≤ a % 2 ^ 63 → small ≤ big
  unfolding mag
  rest_le o = go (dec_le (exp a - exp b) 10)
    where
      go : Dec (exp a - exp b ≤ 10) → small ≤ big
      go (yes k) =
          let z : exp a - exp b - 10 ≡ 0 = omega arith in
          let y : exp b + (exp a - exp b) ≡ min (exp a - exp b) 10 + exp b = omega arith in
          let l : sig b * 2 ^ exp b ≤ sig a * 2 ^ min (exp a - exp b) 10 * 2 ^ exp b =
          le_trans (mag-le a b o) (le_of_eq (mag-at a b h ∙ ap (λ (w : ℕ). sig a * 2 ^ w) y ∙ ap (λ (w : ℕ). sig a * w) (pow-add 2 (min (exp a - exp b) 10) (exp b)) ∙ sym (mul_assoc (sig a) (2 ^ min (exp a - exp b) 10) (2 ^ exp b)))) in
          rw (es, z, jam-zero (sig b), eb) (le_of_mul-le-mul_right l (pow_pos (exp b)))
      go (no k) = omega (arith, far (omega arith), small-le)

-- ---- what `align` makes, out of the parts that it was given
module _ (m' m s' s A B a b : ℕ) (em : m' ≡ m) (es : s' ≡ s) (ea : A ≡ a) (eb : B ≡ b) (small : m < 2 ^ 53) where
  -- m moved up by j digits
  moved : (j : ℕ) → j ≤ 10 → m' * 2 ^ j % 2 ^ 64 ≡ m * 2 ^ j
  moved j h = rw (em) (shl_exact 53 j 64 small (omega arith))

  pub align-near : A - B ≤ 10 → (m' * 2 ^ (A - B) % 2 ^ 64 ≡ m * 2 ^ min (a - b) 10) × (jam s' 0 ≡ jam s (a - b - 10)) × (B ≡ b + (a - b - 10))
  align-near h =
      let k : a - b ≤ 10 = omega arith in
      let z : a - b - 10 ≡ 0 = omega arith in
      let y : min (a - b) 10 ≡ A - B = omega arith in
      (rw (y) (moved (A - B) h), rw (es, z), omega arith)

  pub align-far : 10 < A - B → (m' * 2 ^ 10 % 2 ^ 64 ≡ m * 2 ^ min (a - b) 10) × (jam s' (A - B - 10) ≡ jam s (a - b - 10)) × (B + (A - B - 10) ≡ b + (a - b - 10))
  align-far h =
      let k : 10 < a - b = omega arith in
      let y : min (a - b) 10 ≡ 10 = omega arith in
      (rw (y) (moved 10 (omega arith)), rw (es, ea, eb), omega arith)
