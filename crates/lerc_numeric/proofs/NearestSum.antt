-- A finite sum of two finite numbers is a word nearest to the exact one, the even one of two; and a number keeps its bits under a zero.
-- Assumes nothing.
use mathlib.Core.Path.{◌≡◌, refl, sym, ap, ◌∙◌}
use mathlib.Core.Logic.{◌≢◌, ◌⊎◌, inl, inr}
use mathlib.Core.Bool.{Bool, true, false, cond, beq}
use Prim.Native.Nat.{ℕ, zero, suc, ◌+◌, ◌-◌, ◌*◌, ◌%◌, ◌^◌, ◌≤◌, ◌<◌}
use native.Mathlib.Nat.{add-zero, sub-zero}
use native.Mathlib.Decide.{dec_lt}
use native.Mathlib.Omega.{arith}
use Rattle.lerc_numeric.specs.Numeric.{bits64, field, infinite, mag, negative, sum}
use Rattle.lerc_numeric.proofs.Nearest.{gap}
use Rattle.lerc_numeric.proofs.Magnitude.{mag-lt, mag-le, bits-le}
use Rattle.lerc_numeric.proofs.Right.{nearest64, even64, own64, bits-lt}
use Rattle.lerc_numeric.proofs.Infinity.{outer, outer-pos, IsNumber, finite-not, finite-mag, sum_left, absorbs-not, absorbs-both}
use Rattle.lerc_numeric.proofs.Sums.{sum_alike, sum-apart}
use Rattle.lerc_numeric.proofs.Monotone.{up, down, rounded, none, Sides, counted-sides, number_is, finite-sum}

mag-zero : mag 0 ≡ 0
unfolding mag
mag-zero = refl

both-sides : (w : ℕ) → up w + down w ≡ mag w
both-sides w = go (negative w)
  where
    go : (s : Bool) → cond s 0 (mag w) + cond s (mag w) 0 ≡ mag w
    go true = omega arith
    go false = omega arith

-- ---- what is rounded to less than an infinity
not-outer : (n : ℕ) → rounded n < outer → bits64 n < 2047 * 2 ^ 52
not-outer n h = go (dec_lt (bits64 n) (2047 * 2 ^ 52))
  where
    top : bits64 n ≡ 2047 * 2 ^ 52 → rounded n ≡ outer
    top e = ap mag e

    go : Dec (bits64 n < 2047 * 2 ^ 52) → bits64 n < 2047 * 2 ^ 52
    go (yes l) = l
    go (no l) = let e : bits64 n ≡ 2047 * 2 ^ 52 = omega (arith, bits-le n) in absurd (omega (arith, top e))

-- ---- gaps from p - q
past_near : (p q m : ℕ) → q ≤ p → gap (p + 0) (q + m) ≡ gap (p - q) m
past_near p q m l = omega arith

past-far : (p q m : ℕ) → q ≤ p → gap (p + m) (q + 0) ≡ p - q + m
past-far p q m l = omega arith

gap-swap : (x y : ℕ) → gap x y ≡ gap y x
gap-swap x y = omega arith

-- ---- the word s stands for p - q, which is n units from 0. A word with the magnitude m and the sides u and d is as far off as m is from n if it lies
-- beside s, and by both if it lies across 0
abbrev Beside : ℕ → ℕ → ℕ → ℕ → ℕ → ℕ → ℕ → Type 0
Beside s p q n m u d = (gap (p + d) (q + u) ≡ gap n m) × (m ≡ rounded n → u + down s ≡ up s + d)

abbrev Across : ℕ → ℕ → ℕ → ℕ → ℕ → ℕ → ℕ → Type 0
Across s p q n m u d = (gap (p + d) (q + u) ≡ n + m) × (m ≡ 0 → rounded n ≡ 0 → u + down s ≡ up s + d)

record Lies (s p q n : ℕ) : Type 0 where
  fine : bits64 n < 2047 * 2 ^ 52
  size : mag s ≡ rounded n
  here : gap (p + down s) (q + up s) ≡ gap n (rounded n)
  there : (w : ℕ) → Beside s p q n (mag w) (up w) (down w) ⊎ Across s p q n (mag w) (up w) (down w)

module _ (s p q : ℕ) (c : Sides s p q) (f : field s < 2047) where
  lies-above : q ≤ p → Lies s p q (p - q)
  lies-above l =
      let z : q - p ≡ 0 = omega arith in
      let d : down s ≡ 0 = c.low ∙ rw (z) none in
      let u : up s ≡ rounded (p - q) = c.high in
      record {
        fine = not-outer (p - q) (omega (arith, u, both-sides s, finite-mag s f));
        size = omega (arith, u, d, both-sides s);
        here = rw (d, u) (past_near p q (rounded (p - q)) l);
        there = λ w. side (mag w) (negative w) d u;
      }
    where
      side : (m : ℕ) (t : Bool) → down s ≡ 0 → up s ≡ rounded (p - q)
          → Beside s p q (p - q) m (cond t 0 m) (cond t m 0) ⊎ Across s p q (p - q) m (cond t 0 m) (cond t m 0)
      side m false d u = inl (past_near p q m l, λ e. omega (arith, d, u, e))
      side m true d u = inr (past-far p q m l, λ e g. omega (arith, d, u, e, g))

  lies-beneath : p ≤ q → Lies s p q (q - p)
  lies-beneath l =
      let z : p - q ≡ 0 = omega arith in
      let d : up s ≡ 0 = c.high ∙ rw (z) none in
      let u : down s ≡ rounded (q - p) = c.low in
      record {
        fine = not-outer (q - p) (omega (arith, u, both-sides s, finite-mag s f));
        size = omega (arith, u, d, both-sides s);
        here = rw (d, u) (gap-swap (p + rounded (q - p)) (q + 0) ∙ past_near q p (rounded (q - p)) l);
        there = λ w. side (mag w) (negative w) d u;
      }
    where
      side : (m : ℕ) (t : Bool) → up s ≡ 0 → down s ≡ rounded (q - p)
          → Beside s p q (q - p) m (cond t 0 m) (cond t m 0) ⊎ Across s p q (q - p) m (cond t 0 m) (cond t m 0)
      side m true d u = inl (gap-swap (p + m) (q + 0) ∙ past_near q p m l, λ e. omega (arith, d, u, e))
      side m false d u = inr (gap-swap (p + 0) (q + m) ∙ past-far q p m l, λ e g. omega (arith, d, u, e, g))

-- no word is nearer
nearest-word : (s p q n : ℕ) → Lies s p q n → (w : ℕ) → gap (p + down s) (q + up s) ≤ gap (p + down w) (q + up w)
nearest-word s p q n i w = go (i.there w)
  where
    go : Beside s p q n (mag w) (up w) (down w) ⊎ Across s p q n (mag w) (up w) (down w) → gap (p + down s) (q + up s) ≤ gap (p + down w) (q + up w)
    go (inl e) = rw (i.here, e.0) (nearest64 n w i.fine)
    go (inr e) = rw (i.here, e.0) (farther (mag w) (rounded n) (mag 0) mag-zero (nearest64 n 0 i.fine))
      where
        farther : (m r o : ℕ) → o ≡ 0 → gap n r ≤ gap n o → gap n r ≤ n + m
        farther m r o z h = omega arith

-- bits of one magnitude are the same, and so is the last of them
last_bit : (s n : ℕ) → mag s ≡ rounded n → bits64 n % 2 ≡ 0 → s % 2 ≡ 0
last_bit s n e h = go (dec_lt (s % 2 ^ 63) (bits64 n)) (dec_lt (bits64 n) (s % 2 ^ 63))
  where
    whole : bits64 n % 2 ^ 63 ≡ bits64 n
    whole = omega (arith, bits-lt n)

    go : Dec (s % 2 ^ 63 < bits64 n) → Dec (bits64 n < s % 2 ^ 63) → s % 2 ≡ 0
    go (yes l) _ = absurd (omega (arith, mag-lt s (bits64 n) (rw (whole) l)))
    go (no l) (yes k) = absurd (omega (arith, mag-lt (bits64 n) s (rw (whole) k)))
    go (no l) (no k) = omega arith

-- where another is as near, the word is even
even-word : (s p q n : ℕ) → Lies s p q n → (w : ℕ) → up w + down s ≢ up s + down w → gap (p + down s) (q + up s) ≡ gap (p + down w) (q + up w) → s % 2 ≡ 0
even-word s p q n i w d e = last_bit s n i.size (go (i.there w))
  where
    go : Beside s p q n (mag w) (up w) (down w) ⊎ Across s p q n (mag w) (up w) (down w) → bits64 n % 2 ≡ 0
    go (inl x) = even64 n w i.fine (λ z. d (x.1 z)) (sym i.here ∙ e ∙ x.0)
    go (inr x) =
        -- a word of the other side as near as that is a zero
        let k : gap n (rounded n) ≡ n + mag w = sym i.here ∙ e ∙ x.0 in
        let m : mag w ≡ 0 = zeroth (mag w) (rounded n) (mag 0) mag-zero (nearest64 n 0 i.fine) k in
        even64 n w i.fine (λ z. d (x.1 m (sym z ∙ m))) (k ∙ level (mag w) m)
      where
        zeroth : (m r o : ℕ) → o ≡ 0 → gap n r ≤ gap n o → gap n r ≡ n + m → m ≡ 0
        zeroth m r o z h k = omega arith

        level : (m : ℕ) → m ≡ 0 → n + m ≡ gap n m
        level m z = omega arith

-- ---- of a sum
module _ (a b : ℕ) (fa : field a < 2047) (fb : field b < 2047) (fs : field (sum a b) < 2047) where
  sum_lies : (n : ℕ) × Lies (sum a b) (up a + up b) (down a + down b) n
  sum_lies = go (dec_lt (up a + up b) (down a + down b))
    where
      sides : Sides (sum a b) (up a + up b) (down a + down b)
      sides = rw (finite-sum a b fa fb) (counted-sides a b)

      go : Dec (up a + up b < down a + down b) → (n : ℕ) × Lies (sum a b) (up a + up b) (down a + down b) n
      go (yes l) = (down a + down b - (up a + up b), lies-beneath (sum a b) (up a + up b) (down a + down b) sides fs (omega arith))
      go (no l) = (up a + up b - (down a + down b), lies-above (sum a b) (up a + up b) (down a + down b) sides fs (omega arith))

  pub sum-nearest : (w : ℕ) → gap (up a + up b + down (sum a b)) (down a + down b + up (sum a b)) ≤ gap (up a + up b + down w) (down a + down b + up w)
  sum-nearest w = nearest-word (sum a b) (up a + up b) (down a + down b) sum_lies.0 sum_lies.1 w

  pub sum-even : (w : ℕ) → up w + down (sum a b) ≢ up (sum a b) + down w
      → gap (up a + up b + down (sum a b)) (down a + down b + up (sum a b)) ≡ gap (up a + up b + down w) (down a + down b + up w) → sum a b % 2 ≡ 0
  sum-even w d e = even-word (sum a b) (up a + up b) (down a + down b) sum_lies.0 sum_lies.1 w d e

-- ---- a number and a zero: its own bits
pub sum-own : (a z : ℕ) → a < 2 ^ 64 → z < 2 ^ 64 → IsNumber a → mag a ≢ 0 → mag z ≡ 0 → sum a z ≡ a
sum-own a z la lz n d e = go (number_is a n) (beq (negative a) (negative z)) refl
  where
    near : field z < 2047
    near = within (dec_lt (z % 2 ^ 63) (2047 * 2 ^ 52))
      where
        within : Dec (z % 2 ^ 63 < 2047 * 2 ^ 52) → field z < 2047
        within (yes l) = omega arith
        within (no l) = absurd (omega (arith, mag-le z (2047 * 2 ^ 52) (omega arith), outer-pos))

    same : (s t : Bool) → beq s t ≡ true → s ≡ t
    same true true h = refl
    same true false h = absurd (let y : ◌≡◌ {A = ℕ} 0 1 = cc in omega arith)
    same false true h = absurd (let y : ◌≡◌ {A = ℕ} 0 1 = cc in omega arith)
    same false false h = refl

    go : (field a < 2047) ⊎ (infinite a ≡ true) → (t : Bool) → beq (negative a) (negative z) ≡ t → sum a z ≡ a
    go (inr i) t h = sum_left a z (absorbs-both a z i near)
    go (inl f) true h = sum_alike a z la lz (same (negative a) (negative z) h) ∙ rw (e, add-zero) (own64 a f la)
    go (inl f) false h = sum-apart a z h (omega (arith, pos)) (absorbs-not a z (finite-not a f)) ∙ rw (e, sub-zero) (own64 a f la)
      where
        pos : 0 < mag a
        pos = some (mag a) d
          where
            some : (x : ℕ) → x ≢ 0 → 0 < x
            some zero q = absurd (q refl)
            some (suc x) q = omega arith
