-- Laws of the order and of sums: a sum of numbers is the exact one, rounded, an infinity being farther out than finite sums reach; so
-- sums grow with their operands.
-- Assumes nothing.
use mathlib.Core.Path.{◌≡◌, refl, sym, ap, ◌∙◌}
use mathlib.Core.Logic.{◌⊎◌, inl, inr}
use mathlib.Core.Bool.{Bool, true, false, cond, ◌&&◌, beq}
use Prim.Native.Nat.{ℕ, ◌+◌, ◌-◌, ◌*◌, ◌%◌, ◌^◌, ◌≤◌, ◌<◌}
use native.Mathlib.Nat.{add_comm, add-zero, zero-add, sub-zero, zero-sub, le_of_lt}
use native.Mathlib.Decide.{dec_lt}
use native.Mathlib.Omega.{arith}
use borrow.Author.Tests.{lt-ltb, le-ltb, ltb-true, ltb-false, ne_eqb}
use lib.Dec.{ltb}
use lib.Ieee.{size, below}
use Rattle.lerc_numeric.specs.Numeric.{bits64, code, field, finite, infinite, mag, negative, signed, sum, counted_sum, scaled, less}
use Rattle.lerc_numeric.proofs.Magnitude.{mag-le, bits-le}
use Rattle.lerc_numeric.proofs.Infinity.{outer, IsNumber, bits-infinite, finite-not, infinite-not, infinite-mag, finite-mag, outer-bits, sum-counted, sum_left, sum-right, absorbed-not, absorbs-not, absorbs-both}
use Rattle.lerc_numeric.proofs.Sums.{sum_comm}
use Rattle.lerc_numeric.proofs.Right.{negative-signed, mag-signed, bits-lt, rounded-mono, rounded-own}

-- ---- the two sides of a value: w stands for up w - down w
abbrev pub up : ℕ → ℕ
up w = cond (negative w) 0 (mag w)

abbrev pub down : ℕ → ℕ
down w = cond (negative w) (mag w) 0

pub up-most : (w : ℕ) → up w ≤ mag w
up-most w = go (negative w)
  where
    go : (s : Bool) → cond s 0 (mag w) ≤ mag w
    go true = omega arith
    go false = omega arith

down-most : (w : ℕ) → down w ≤ mag w
down-most w = go (negative w)
  where
    go : (s : Bool) → cond s (mag w) 0 ≤ mag w
    go true = omega arith
    go false = omega arith

pub less-sides : (a b : ℕ) → less a b ≡ ltb (up a + down b) (up b + down a)
unfolding less
less-sides a b = go (negative a) (negative b)
  where
    go : (s t : Bool) → below s (mag a) t (mag b) ≡ ltb (cond s 0 (mag a) + cond t (mag b) 0) (cond t 0 (mag b) + cond s (mag a) 0)
    go false false = rw (add-zero, add-zero)
    go false true = sym (le-ltb (mag a + mag b) (0 + 0) (omega arith))
    go true false = rw (add_comm (mag b) (mag a))
    go true true = rw (zero-add, zero-add)

-- ---- the sides of a sum are those of the operands, added and rounded
abbrev pub rounded : ℕ → ℕ
rounded n = mag (bits64 n)

pub none : rounded 0 ≡ 0
unfolding mag code size
none = refl

pub record Sides (w p q : ℕ) : Type 0 where
  pub high : up w ≡ rounded (p - q)
  pub low : down w ≡ rounded (q - p)

positive : (n p q : ℕ) → n ≡ p - q → q ≤ p → Sides (signed false (bits64 n)) p q
positive n p q e h =
    let z : q - p ≡ 0 = omega arith in
    let s = negative-signed false (bits64 n) (bits-lt n) in
    let m = mag-signed false (bits64 n) (bits-lt n) in
    record { high = rw (s, m, e); low = rw (s, z) (sym none) }

negated : (n p q : ℕ) → n ≡ q - p → p ≤ q → Sides (signed true (bits64 n)) p q
negated n p q e h =
    let z : p - q ≡ 0 = omega arith in
    let s = negative-signed true (bits64 n) (bits-lt n) in
    let m = mag-signed true (bits64 n) (bits-lt n) in
    record { high = rw (s, z) (sym none); low = rw (s, m, e) }

pub counted-sides : (a b : ℕ) → Sides (counted_sum a b) (up a + up b) (down a + down b)
unfolding counted_sum
counted-sides a b = go (negative a) (negative b) (dec_lt (mag a) (mag b)) (dec_lt (mag b) (mag a))
  where
    x : ℕ
    x = mag a

    y : ℕ
    y = mag b

    go : (s t : Bool) → Dec (x < y) → Dec (y < x)
        → Sides (cond (beq s t) (signed s (bits64 (x + y))) (cond (ltb x y) (signed t (bits64 (y - x))) (signed (s && ltb y x) (bits64 (x - y)))))
        (cond s 0 x + cond t 0 y) (cond s x 0 + cond t y 0)
    go false false d e = positive (x + y) (x + y) (0 + 0) (omega arith) (omega arith)
    go true true d e = negated (x + y) (0 + 0) (x + y) (omega arith) (omega arith)
    go false true (yes l) e = rw (lt-ltb x y l) (negated (y - x) (x + 0) (0 + y) (omega arith) (omega arith))
    go false true (no l) e = let h : y ≤ x = omega arith in rw (le-ltb x y h) (positive (x - y) (x + 0) (0 + y) (omega arith) (omega arith))
    go true false (yes l) e = rw (lt-ltb x y l) (positive (y - x) (0 + y) (x + 0) (omega arith) (omega arith))
    go true false (no l) (yes k) = let h : y ≤ x = omega arith in rw (le-ltb x y h, lt-ltb y x k) (negated (x - y) (0 + y) (x + 0) (omega arith) (omega arith))
    go true false (no l) (no k) =
        let h : y ≤ x = omega arith in
        let g : x ≤ y = omega arith in
        rw (le-ltb x y h, le-ltb y x g) (positive (x - y) (0 + y) (x + 0) (omega arith) (omega arith))

-- ---- a strict order; a greater operand, no lesser sum
pub not-less : (a b : ℕ) → up b + down a ≤ up a + down b → less a b ≡ false
not-less a b h = rw (less-sides a b) (le-ltb (up a + down b) (up b + down a) h)

pub at_least : (a b : ℕ) → less a b ≡ false → up b + down a ≤ up a + down b
at_least a b e = ltb-false (up a + down b) (up b + down a) (sym (less-sides a b) ∙ e)

pub less-asym : (a b : ℕ) → less a b ≡ true → less b a ≡ false
less-asym a b e = not-less b a (le_of_lt (ltb-true (up a + down b) (up b + down a) (sym (less-sides a b) ∙ e)))

pub less-trans : (a b c : ℕ) → less a b ≡ true → less b c ≡ true → less a c ≡ true
less-trans a b c e f =
    let g = ltb-true (up a + down b) (up b + down a) (sym (less-sides a b) ∙ e) in
    let h = ltb-true (up b + down c) (up c + down b) (sym (less-sides b c) ∙ f) in
    rw (less-sides a c) (lt-ltb (up a + down c) (up c + down a) (omega arith))

-- ---- the sides of a sum of numbers: as if an infinity were twice as far out as it is counted, so that no finite number brings it back
abbrev reach : ℕ → ℕ
reach w = cond (infinite w) (2 * mag w) (mag w)

abbrev far_up : ℕ → ℕ
far_up w = cond (negative w) 0 (reach w)

abbrev far_down : ℕ → ℕ
far_down w = cond (negative w) (reach w) 0

reach-finite : (w : ℕ) → field w < 2047 → reach w ≡ mag w
reach-finite w h = rw (finite-not w h)

reach-infinite : (w : ℕ) → infinite w ≡ true → reach w ≡ 2 * outer
reach-infinite w e = rw (e, infinite-mag w e)

reach-least : (w : ℕ) → mag w ≤ reach w
reach-least w = go (infinite w)
  where
    go : (t : Bool) → mag w ≤ cond t (2 * mag w) (mag w)
    go true = omega arith
    go false = omega arith

reach-most : (w : ℕ) → reach w ≤ 2 * mag w
reach-most w = go (infinite w)
  where
    go : (t : Bool) → cond t (2 * mag w) (mag w) ≤ 2 * mag w
    go true = omega arith
    go false = omega arith

-- a number is finite or infinite
pub number_is : (w : ℕ) → IsNumber w → (field w < 2047) ⊎ (infinite w ≡ true)
number_is w n = go (dec_lt (w % 2 ^ 63) (2047 * 2 ^ 52))
  where
    go : Dec (w % 2 ^ 63 < 2047 * 2 ^ 52) → (field w < 2047) ⊎ (infinite w ≡ true)
    go (yes l) = inl (omega arith)
    go (no l) = inr (bits-infinite w (omega arith))

reach-mono : (a c : ℕ) → IsNumber a → mag a ≤ mag c → IsNumber c → reach a ≤ reach c
reach-mono a c na h nc = go (number_is a na) (number_is c nc)
  where
    go : (field a < 2047) ⊎ (infinite a ≡ true) → (field c < 2047) ⊎ (infinite c ≡ true) → reach a ≤ reach c
    go (inl f) _ = rw (reach-finite a f) (omega (arith, reach-least c))
    go (inr e) (inl f) = absurd (omega (arith, infinite-mag a e, finite-mag c f))
    go (inr e) (inr f) = rw (reach-infinite a e, reach-infinite c f) (omega arith)

far-most : (w : ℕ) → far_up w + far_down w ≡ reach w
far-most w = go (negative w)
  where
    go : (s : Bool) → cond s 0 (reach w) + cond s (reach w) 0 ≡ reach w
    go true = omega arith
    go false = omega arith

-- an infinity stands for every sum from `outer` on
outer-rounded : (n : ℕ) → outer ≤ n → rounded n ≡ outer
outer-rounded n h = ap mag (outer-bits n h)

outer-sides : (w p q : ℕ) → infinite w ≡ true → cond (negative w) (p + outer) (q + outer) ≤ cond (negative w) q p → Sides w p q
outer-sides w p q e = go (negative w) refl
  where
    go : (s : Bool) → negative w ≡ s → cond s (p + outer) (q + outer) ≤ cond s q p → Sides w p q
    go true f h =
        let z : p - q ≡ 0 = omega arith in
        record { high = rw (f, z) (sym none); low = rw (f, infinite-mag w e) (sym (outer-rounded (q - p) (omega arith))) }
    go false f h =
        let z : q - p ≡ 0 = omega arith in
        record { high = rw (f, infinite-mag w e) (sym (outer-rounded (p - q) (omega arith))); low = rw (f, z) (sym none) }

-- an infinity and a finite number
absorbed-sides : (a b : ℕ) → infinite a ≡ true → field b < 2047 → Sides a (far_up a + far_up b) (far_down a + far_down b)
absorbed-sides a b e h = outer-sides a (far_up a + far_up b) (far_down a + far_down b) e (go (negative a))
  where
    near : far_up b + far_down b < outer
    near = rw (far-most b, reach-finite b h) (finite-mag b h)

    go : (s : Bool) → cond s (cond s 0 (reach a) + far_up b + outer) (cond s (reach a) 0 + far_down b + outer) ≤ cond s (cond s (reach a) 0 + far_down b) (cond s 0 (reach a) + far_up b)
    go true = omega (arith, near, reach-infinite a e)
    go false = omega (arith, near, reach-infinite a e)

-- two infinities: 2 ^ 1024 counted or twice that, both ends of the sum are the same
infinite-sides : (a b : ℕ) → infinite a ≡ true → infinite b ≡ true → Sides (counted_sum a b) (far_up a + far_up b) (far_down a + far_down b)
infinite-sides a b e f =
    let c = counted-sides a b in
    let x = go (negative a) (negative b) in
    record { high = c.high ∙ x.0; low = c.low ∙ x.1 }
  where
    alike : (x y u v : ℕ) → outer ≤ x - y → outer ≤ u - v → rounded (x - y) ≡ rounded (u - v)
    alike x y u v h k = outer-rounded (x - y) h ∙ sym (outer-rounded (u - v) k)

    flat : (x y u v : ℕ) → x ≤ y → u ≤ v → rounded (x - y) ≡ rounded (u - v)
    flat x y u v h k =
        let z : x - y ≡ 0 = omega arith in
        let w : u - v ≡ 0 = omega arith in
        rw (z, w)

    go : (s t : Bool)
        → (rounded (cond s 0 (mag a) + cond t 0 (mag b) - (cond s (mag a) 0 + cond t (mag b) 0)) ≡ rounded (cond s 0 (reach a) + cond t 0 (reach b) - (cond s (reach a) 0 + cond t (reach b) 0)))
        × (rounded (cond s (mag a) 0 + cond t (mag b) 0 - (cond s 0 (mag a) + cond t 0 (mag b))) ≡ rounded (cond s (reach a) 0 + cond t (reach b) 0 - (cond s 0 (reach a) + cond t 0 (reach b))))
    go s t = rw (reach-infinite a e, reach-infinite b f, infinite-mag a e, infinite-mag b f) (signs s t)
      where
        signs : (s t : Bool)
            → (rounded (cond s 0 outer + cond t 0 outer - (cond s outer 0 + cond t outer 0)) ≡ rounded (cond s 0 (2 * outer) + cond t 0 (2 * outer) - (cond s (2 * outer) 0 + cond t (2 * outer) 0)))
            × (rounded (cond s outer 0 + cond t outer 0 - (cond s 0 outer + cond t 0 outer)) ≡ rounded (cond s (2 * outer) 0 + cond t (2 * outer) 0 - (cond s 0 (2 * outer) + cond t 0 (2 * outer))))
        signs true true = (flat (0 + 0) (outer + outer) (0 + 0) (2 * outer + 2 * outer) (omega arith) (omega arith), alike (outer + outer) (0 + 0) (2 * outer + 2 * outer) (0 + 0) (omega arith) (omega arith))
        signs true false = (flat (0 + outer) (outer + 0) (0 + 2 * outer) (2 * outer + 0) (omega arith) (omega arith), flat (outer + 0) (0 + outer) (2 * outer + 0) (0 + 2 * outer) (omega arith) (omega arith))
        signs false true = (flat (outer + 0) (0 + outer) (2 * outer + 0) (0 + 2 * outer) (omega arith) (omega arith), flat (0 + outer) (outer + 0) (0 + 2 * outer) (2 * outer + 0) (omega arith) (omega arith))
        signs false false = (alike (outer + outer) (0 + 0) (2 * outer + 2 * outer) (0 + 0) (omega arith) (omega arith), flat (0 + 0) (outer + outer) (0 + 0) (2 * outer + 2 * outer) (omega arith) (omega arith))

swapped : (w p q r s : ℕ) → Sides w (p + q) (r + s) → Sides w (q + p) (s + r)
swapped w p q r s c = rw (add_comm q p, add_comm s r) c

pub finite-sum : (a b : ℕ) → field a < 2047 → field b < 2047 → sum a b ≡ counted_sum a b
finite-sum a b f g = sum-counted a b (absorbs-not a b (finite-not a f)) (absorbs-not b a (finite-not b g))

sum-sides : (a b : ℕ) → IsNumber a → IsNumber b → Sides (sum a b) (far_up a + far_up b) (far_down a + far_down b)
sum-sides a b na nb = go (number_is a na) (number_is b nb)
  where
    go : (field a < 2047) ⊎ (infinite a ≡ true) → (field b < 2047) ⊎ (infinite b ≡ true) → Sides (sum a b) (far_up a + far_up b) (far_down a + far_down b)
    go (inl f) (inl g) = rw (finite-sum a b f g, reach-finite a f, reach-finite b g) (counted-sides a b)
    go (inl f) (inr e) = rw (sum-right a b (absorbs-both b a e f)) (swapped b (far_up b) (far_up a) (far_down b) (far_down a) (absorbed-sides b a e f))
    go (inr e) (inl g) = rw (sum_left a b (absorbs-both a b e g)) (absorbed-sides a b e g)
    go (inr e) (inr f) = rw (sum-counted a b (absorbed-not b a (infinite-not b f)) (absorbed-not a b (infinite-not a e))) (infinite-sides a b e f)

-- ---- a greater operand, no lesser sum
at-least-far : (c a : ℕ) → IsNumber c → IsNumber a → less c a ≡ false → far_up a + far_down c ≤ far_up c + far_down a
at-least-far c a nc na e = go (negative c) (negative a) (at_least c a e)
  where
    go : (s t : Bool) → cond t 0 (mag a) + cond s (mag c) 0 ≤ cond s 0 (mag c) + cond t (mag a) 0 → cond t 0 (reach a) + cond s (reach c) 0 ≤ cond s 0 (reach c) + cond t (reach a) 0
    go true true h = omega (arith, reach-mono c a nc (omega arith) na)
    go true false h = omega (arith, reach-most a, reach-most c)
    go false true h = omega arith
    go false false h = omega (arith, reach-mono a c na (omega arith) nc)

-- both sides of two sums, over one other operand
rises : (x y p q r s : ℕ) → Sides x p q → Sides y r s → p + s ≤ r + q → less y x ≡ false
rises x y p q r s c d h =
    not-less y x
    (omega (
      arith,
      c.high,
      c.low,
      d.high,
      d.low,
      rounded-mono (p - q) (r - s) (omega arith),
      rounded-mono (s - r) (q - p) (omega arith),
    ))

-- of numbers
number-mono : (a c b : ℕ) → IsNumber a → IsNumber c → IsNumber b → less c a ≡ false → less (sum c b) (sum a b) ≡ false
number-mono a c b na nc nb e =
    rises (sum a b) (sum c b) (far_up a + far_up b) (far_down a + far_down b) (far_up c + far_up b) (far_down c + far_down b) (sum-sides a b na nb) (sum-sides c b nc nb) (omega (arith, at-least-far c a nc na e))

-- of what is counted
counted-mono : (a c b : ℕ) → sum a b ≡ counted_sum a b → sum c b ≡ counted_sum c b → less c a ≡ false → less (sum c b) (sum a b) ≡ false
counted-mono a c b ea ec e =
    rw (ea, ec)
    (rises (counted_sum a b) (counted_sum c b) (up a + up b) (down a + down b) (up c + up b) (down c + down b) (counted-sides a b) (counted-sides c b) (omega (arith, at_least c a e)))

-- a pattern of field 2047 with a fraction: neither finite nor infinite
module _ (x : ℕ) (l : 2047 * 2 ^ 52 < x % 2 ^ 63) where
  pattern-finite : finite x ≡ false
  pattern-finite = le-ltb (field x) 2047 (omega arith)

  pattern-infinite : infinite x ≡ false
  pattern-infinite = ne_eqb (x % 2 ^ 63) (2047 * 2 ^ 52) (λ z. omega arith)

  pattern-mag : outer ≤ mag x
  pattern-mag = mag-le x (2047 * 2 ^ 52) (omega arith)

  pattern-left : (b : ℕ) → sum x b ≡ counted_sum x b
  pattern-left b = sum-counted x b (absorbs-not x b pattern-infinite) (absorbed-not x b pattern-finite)

  pattern-right : (a : ℕ) → sum a x ≡ counted_sum a x
  pattern-right a = sum-counted a x (absorbed-not x a pattern-finite) (absorbs-not x a pattern-infinite)

  -- of the sign of an infinity, they add to it
  pattern-sum : (b : ℕ) → infinite b ≡ true → negative x ≡ negative b → (up (counted_sum x b) ≡ up b) × (down (counted_sum x b) ≡ down b)
  pattern-sum b i e =
      let c = counted-sides x b in
      let r = go (negative b) in
      (c.high ∙ rw (e) r.0, c.low ∙ rw (e) r.1)
    where
      both : rounded (mag x + mag b - (0 + 0)) ≡ mag b
      both = outer-rounded (mag x + mag b - (0 + 0)) (omega (arith, infinite-mag b i)) ∙ sym (infinite-mag b i)

      none_left : rounded (0 + 0 - (mag x + mag b)) ≡ 0
      none_left = let z : 0 + 0 - (mag x + mag b) ≡ 0 = omega arith in rw (z) none

      go : (s : Bool)
          → (rounded (cond s 0 (mag x) + cond s 0 (mag b) - (cond s (mag x) 0 + cond s (mag b) 0)) ≡ cond s 0 (mag b))
          × (rounded (cond s (mag x) 0 + cond s (mag b) 0 - (cond s 0 (mag x) + cond s 0 (mag b))) ≡ cond s (mag b) 0)
      go true = (none_left, both)
      go false = (both, none_left)

-- no sum is farther out than an infinity
sides-most : (w p q : ℕ) → Sides w p q → (up w ≤ outer) × (down w ≤ outer)
sides-most w p q c = (rw c.high (rounded-most (p - q)), rw c.low (rounded-most (q - p)))
  where
    rounded-most : (n : ℕ) → rounded n ≤ outer
    rounded-most n = mag-le (2047 * 2 ^ 52) (bits64 n) (omega (arith, bits-le n))

-- a pattern and a finite number beside an infinity: x is the pattern
module _ (x b : ℕ) (l : 2047 * 2 ^ 52 < x % 2 ^ 63) (i : infinite b ≡ true) where
  side : (s : Bool) → negative b ≡ s → (up b ≡ cond s 0 outer) × (down b ≡ cond s outer 0)
  side true e = (rw (e), rw (e) (infinite-mag b i))
  side false e = (rw (e) (infinite-mag b i), rw (e))

  pattern-below : (c : ℕ) → field c < 2047 → less c x ≡ false → less b (counted_sum x b) ≡ false
  pattern-below c f e = go (negative b) refl (negative x) refl
    where
      most : (up (counted_sum x b) ≤ outer) × (down (counted_sum x b) ≤ outer)
      most = sides-most (counted_sum x b) (up x + up b) (down x + down b) (counted-sides x b)

      go : (s : Bool) → negative b ≡ s → (t : Bool) → negative x ≡ t → less b (counted_sum x b) ≡ false
      go false s t r = let u = side false s in not-less b (counted_sum x b) (omega (arith, u.0, u.1, most.0))
      go true s true r = let u = pattern-sum x l b i (r ∙ sym s) in not-less b (counted_sum x b) (omega (arith, u.0, u.1))
      go true s false r =
          let u : up x ≡ mag x = rw (r) in
          let d : down x ≡ 0 = rw (r) in
          absurd (omega (arith, u, d, at_least c x e, up-most c, finite-mag c f, pattern-mag x l))

  pattern-above : (a : ℕ) → field a < 2047 → less x a ≡ false → less (counted_sum x b) b ≡ false
  pattern-above a f e = go (negative b) refl (negative x) refl
    where
      most : (up (counted_sum x b) ≤ outer) × (down (counted_sum x b) ≤ outer)
      most = sides-most (counted_sum x b) (up x + up b) (down x + down b) (counted-sides x b)

      go : (s : Bool) → negative b ≡ s → (t : Bool) → negative x ≡ t → less (counted_sum x b) b ≡ false
      go true s t r = let u = side true s in not-less (counted_sum x b) b (omega (arith, u.0, u.1, most.1))
      go false s false r = let u = pattern-sum x l b i (r ∙ sym s) in not-less (counted_sum x b) b (omega (arith, u.0, u.1))
      go false s true r =
          let u : down x ≡ mag x = rw (r) in
          let d : up x ≡ 0 = rw (r) in
          absurd (omega (arith, u, d, at_least x a e, down-most a, finite-mag a f, pattern-mag x l))

-- any two words but an infinity and a pattern
pub sum-mono-left : (a c b : ℕ) → (infinite a ≡ true → IsNumber c) → (infinite c ≡ true → IsNumber a) → less c a ≡ false → less (sum c b) (sum a b) ≡ false
sum-mono-left a c b na nc e = go (dec_lt (2047 * 2 ^ 52) (a % 2 ^ 63)) (dec_lt (2047 * 2 ^ 52) (c % 2 ^ 63)) (dec_lt (2047 * 2 ^ 52) (b % 2 ^ 63))
  where
    -- a finite number, since an infinity does not meet the pattern
    near : (x y : ℕ) → 2047 * 2 ^ 52 < y % 2 ^ 63 → (2047 * 2 ^ 52 < x % 2 ^ 63 → ⊥) → (infinite x ≡ true → IsNumber y) → field x < 2047
    near x y l k n = by (number_is x (omega arith))
      where
        by : (field x < 2047) ⊎ (infinite x ≡ true) → field x < 2047
        by (inl f) = f
        by (inr i) = absurd (let z = n i in omega arith)

    beside : (x : ℕ) → field x < 2047 → infinite b ≡ false → sum x b ≡ counted_sum x b
    beside x f i = sum-counted x b (absorbs-not x b (finite-not x f)) (absorbs-not b x i)

    mixed-below : 2047 * 2 ^ 52 < a % 2 ^ 63 → field c < 2047 → (t : Bool) → infinite b ≡ t → less (sum c b) (sum a b) ≡ false
    mixed-below l f false i = counted-mono a c b (pattern-left a l b) (beside c f i) e
    mixed-below l f true i = rw (sum-right c b (absorbs-both b c i f), pattern-left a l b) (pattern-below a b l i c f e)

    mixed-above : 2047 * 2 ^ 52 < c % 2 ^ 63 → field a < 2047 → (t : Bool) → infinite b ≡ t → less (sum c b) (sum a b) ≡ false
    mixed-above l f false i = counted-mono a c b (beside a f i) (pattern-left c l b) e
    mixed-above l f true i = rw (sum-right a b (absorbs-both b a i f), pattern-left c l b) (pattern-above c b l i a f e)

    go : Dec (2047 * 2 ^ 52 < a % 2 ^ 63) → Dec (2047 * 2 ^ 52 < c % 2 ^ 63) → Dec (2047 * 2 ^ 52 < b % 2 ^ 63) → less (sum c b) (sum a b) ≡ false
    go (yes l) (yes k) _ = counted-mono a c b (pattern-left a l b) (pattern-left c k b) e
    go (yes l) (no k) _ = mixed-below l (near c a l k nc) (infinite b) refl
    go (no l) (yes k) _ = mixed-above k (near a c k l na) (infinite b) refl
    go (no l) (no k) (yes j) = counted-mono a c b (pattern-right b j a) (pattern-right b j c) e
    go (no l) (no k) (no j) = number-mono a c b (omega arith) (omega arith) (omega arith) e

pub sum-mono-right : (a b c : ℕ) → (infinite b ≡ true → IsNumber c) → (infinite c ≡ true → IsNumber b) → less c b ≡ false → less (sum a c) (sum a b) ≡ false
sum-mono-right a b c nb nc e = rw (sum_comm a c, sum_comm a b) (sum-mono-left b c a nb nc e)

-- ---- "a product has the sign of a"
pub scaled_sign : (a q : ℕ) → negative (scaled a q) ≡ negative a
unfolding scaled
scaled_sign a q = negative-signed (negative a) (bits64 (2 * q * mag a)) (bits-lt (2 * q * mag a))

-- ---- adding what is not negative does not go below a finite operand
own-sides : (a : ℕ) → field a < 2047 → (up a ≡ rounded (up a - down a)) × (down a ≡ rounded (down a - up a))
own-sides a h = go (negative a)
  where
    go : (s : Bool) → (cond s 0 (mag a) ≡ rounded (cond s 0 (mag a) - cond s (mag a) 0)) × (cond s (mag a) 0 ≡ rounded (cond s (mag a) 0 - cond s 0 (mag a)))
    go true = (rw (zero-sub) (sym none), rw (sub-zero) (sym (rounded-own a h)))
    go false = (rw (sub-zero) (sym (rounded-own a h)), rw (zero-sub) (sym none))

pub sum-grows : (a b : ℕ) → field a < 2047 → negative b ≡ false → less (sum a b) a ≡ false
sum-grows a b h e = go (infinite b) refl
  where
    z : down b ≡ 0
    z = rw (e)

    go : (t : Bool) → infinite b ≡ t → less (sum a b) a ≡ false
    go true f =
        let own : up b ≡ mag b = rw (e) in
        rw (sum-right a b (absorbs-both b a f h)) (not-less b a (omega (arith, z, own, up-most a, finite-mag a h, infinite-mag b f)))
    go false f =
        let o = own-sides a h in
        rw (sum-counted a b (absorbs-not a b (finite-not a h)) (absorbs-not b a f))
        (rises a (counted_sum a b) (up a) (down a) (up a + up b) (down a + down b) (record { high = o.0; low = o.1 }) (counted-sides a b) (omega (arith, z)))
