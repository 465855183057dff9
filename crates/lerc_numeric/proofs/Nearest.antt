-- That rounding is right, for any format of d + 1 digits in units of c: below the infinity, the result is nearest among all
-- values of the format, and even at a tie; the infinity begins half a step past the largest value; a value is its own rounding.
-- Assumes nothing.
use mathlib.Core.Path.{◌≡◌, refl, sym, ap, ◌∙◌, subst}
use mathlib.Core.Logic.{◌⊎◌, inl, inr, ◌≢◌}
use Prim.Native.Nat.{ℕ, zero, suc, ◌+◌, ◌-◌, ◌*◌, ◌/◌, ◌%◌, ◌^◌, ◌≤◌, ◌<◌, min}
use native.Mathlib.Nat.{le_trans, le_of_eq, lt_of_lt_of_le, mul_assoc, mul_comm, mul_left_comm, mul-le-mul_right, mul-lt-mul_of_pos_right, suc-mul, add-mul, zero-mul, mul-one, mul-div_cancel, le-div_iff_mul-le, div-lt_iff_lt-mul, div-add-mod', mod-lt, pow-succ', eq-or-lt_of_le}
use native.Mathlib.Decide.{dec_le, dec_lt}
use native.Mathlib.Omega.{arith}
use lib.Pow.{pow-add, pow_pos, pow_mono, shl_lt}
use lib.Ieee.{size}
use lib.Ieee.Digits.{size-lt, size-le, size_reaches}
use lib.Ieee.Nearest.{closest}
use Rattle.lerc_numeric.specs.Numeric.{code, dropped}
use Rattle.lerc_numeric.proofs.Closest.{Near, closest-near, closest-exact}
use Rattle.lerc_numeric.proofs.Digits.{size_exact, size-shift}
use Rattle.lerc_numeric.proofs.Format.{kept_of, code_is, kept-le, kept-ge, value, value_low, value-up, value-kept, roof, unit-pos}

-- how far two numbers lie apart
abbrev pub gap : ℕ → ℕ → ℕ
gap a b = a - b + (b - a)

-- ---- q * u is nearest to n among the multiples of u
module _ (n u q : ℕ) (near : Near n u q) where
  beyond : (y : ℕ) → (y ≡ q) ⊎ ((y * u + u ≤ q * u) ⊎ (q * u + u ≤ y * u))
  beyond y = go (dec_lt y q) (dec_lt q y)
    where
      go : Dec (y < q) → Dec (q < y) → (y ≡ q) ⊎ ((y * u + u ≤ q * u) ⊎ (q * u + u ≤ y * u))
      go (yes a) b = inr (inl (omega (arith, mul-le-mul_right u a, suc-mul y u)))
      go (no a) (yes b) = inr (inr (omega (arith, mul-le-mul_right u b, suc-mul q u)))
      go (no a) (no b) = inl (omega arith)

  n0 : 2 * n ≤ 2 * (q * u) + u
  n0 = near.0

  n1 : 2 * (q * u) ≤ 2 * n + u
  n1 = near.1

  multiple : (y : ℕ) → gap n (q * u) ≤ gap n (y * u)
  multiple y = go (beyond y)
    where
      go : (y ≡ q) ⊎ ((y * u + u ≤ q * u) ⊎ (q * u + u ≤ y * u)) → gap n (q * u) ≤ gap n (y * u)
      go (inl e) = le_of_eq (ap (λ (z : ℕ). gap n (z * u)) (sym e))
      go (inr (inl e)) = omega (arith, n0, n1)
      go (inr (inr e)) = omega (arith, n0, n1)

  tie : (y : ℕ) → y ≢ q → gap n (q * u) ≡ gap n (y * u) → q % 2 ≡ 0
  tie y d g = go (beyond y)
    where
      go : (y ≡ q) ⊎ ((y * u + u ≤ q * u) ⊎ (q * u + u ≤ y * u)) → q % 2 ≡ 0
      go (inl e) = absurd (d e)
      go (inr (inl e)) = near.3 (omega (arith, n0, n1, g))
      go (inr (inr e)) = near.2 (omega (arith, n0, n1, g))

closer : (n f m : ℕ) → m < f → f ≤ n → gap n f ≤ gap n m
closer n f m a b = omega arith

farther : (n f m x : ℕ) → m < f → f ≤ n → gap n x ≤ gap n f → gap n x ≡ gap n m → ⊥
farther n f m x a b c d = omega arith

shape : (s a b c : ℕ) → s * 2 ^ (a + b) * c ≡ s * 2 ^ a * (c * 2 ^ b)
shape s a b c = rw (pow-add 2 a b) (simp (mul_assoc, mul_comm, mul_left_comm))

-- ---- the result, where it is below the infinity
module _ (d top n c : ℕ) (pos : 0 < c) (fin : code (suc d) top n c < top) where
  code-fin : code (suc d) top n c ≡ dropped (suc d) n c * 2 ^ d + kept_of d n c
  code-fin = omega (arith, code_is d top n c, fin)

  pub code-value : value d (code (suc d) top n c) * c ≡ kept_of d n c * (c * 2 ^ dropped (suc d) n c)
  code-value =
      let k = dropped (suc d) n c in
      let q = kept_of d n c in
      let e : value d (code (suc d) top n c) ≡ q * 2 ^ k = ap (λ (y : ℕ). value d y) code-fin ∙ value-kept d k q (kept-le d n c) (kept-ge d n c) in
      rw (e) (mul_assoc q (2 ^ k) c ∙ ap (λ (y : ℕ). q * y) (mul_comm (2 ^ k) c))

  near : Near n (c * 2 ^ dropped (suc d) n c) (kept_of d n c)
  near = closest-near n (c * 2 ^ dropped (suc d) n c) (unit-pos c (dropped (suc d) n c) pos)

  module _ (x : ℕ) where
    -- a value with no lower exponent is a multiple of the unit; one with a lower exponent lies below 2 ^ d units, and n does not
    above : dropped (suc d) n c ≤ x / 2 ^ d - 1 → (y : ℕ) × (value d x * c ≡ y * (c * 2 ^ dropped (suc d) n c))
    above h =
        let k = dropped (suc d) n c in
        let s = min 1 (x / 2 ^ d) * 2 ^ d + x % 2 ^ d in
        let z : x / 2 ^ d - 1 ≡ x / 2 ^ d - 1 - k + k = omega arith in
        (s * 2 ^ (x / 2 ^ d - 1 - k), ap (λ (y : ℕ). s * 2 ^ y * c) z ∙ shape s (x / 2 ^ d - 1 - k) k c)

    under : x / 2 ^ d - 1 < dropped (suc d) n c → (value d x * c < 2 ^ d * (c * 2 ^ dropped (suc d) n c)) × (2 ^ d * (c * 2 ^ dropped (suc d) n c) ≤ n)
    under h =
        let k = dropped (suc d) n c in
        let e : 2 ^ (d + k) * c ≡ 2 ^ d * (c * 2 ^ k) = rw (pow-add 2 d k) (mul_assoc (2 ^ d) (2 ^ k) c ∙ ap (λ (y : ℕ). 2 ^ d * y) (mul_comm (2 ^ k) c)) in (
          lt_of_lt_of_le (mul-lt-mul_of_pos_right (lt_of_lt_of_le (roof d x) (pow_mono (omega arith))) pos) (le_of_eq e),
          le_trans (le_of_eq (sym e)) ((le-div_iff_mul-le pos).0 (size_reaches (n / c) (d + k) (omega arith))),
        )

    pub nearest : gap n (value d (code (suc d) top n c) * c) ≤ gap n (value d x * c)
    nearest = rw (code-value) (go (dec_le (dropped (suc d) n c) (x / 2 ^ d - 1)))
      where
        u : ℕ
        u = c * 2 ^ dropped (suc d) n c

        go : Dec (dropped (suc d) n c ≤ x / 2 ^ d - 1) → gap n (kept_of d n c * u) ≤ gap n (value d x * c)
        go (yes p) = let a = above p in rw a.1 (multiple n u (kept_of d n c) near a.0)
        go (no p) =
            let a = under (omega arith) in
            le_trans (multiple n u (kept_of d n c) near (2 ^ d)) (closer n (2 ^ d * u) (value d x * c) a.0 a.1)

    kept-even : value d x * c ≢ value d (code (suc d) top n c) * c → gap n (value d (code (suc d) top n c) * c) ≡ gap n (value d x * c) → kept_of d n c % 2 ≡ 0
    kept-even m g = go (dec_le (dropped (suc d) n c) (x / 2 ^ d - 1)) (rw (code-value) at g)
      where
        u : ℕ
        u = c * 2 ^ dropped (suc d) n c

        go : Dec (dropped (suc d) n c ≤ x / 2 ^ d - 1) → gap n (kept_of d n c * u) ≡ gap n (value d x * c) → kept_of d n c % 2 ≡ 0
        go (yes p) e =
            let a = above p in
            tie n u (kept_of d n c) near a.0 (λ (z : a.0 ≡ kept_of d n c). m (a.1 ∙ ap (λ (y : ℕ). y * u) z ∙ sym code-value)) (rw a.1 at e)
        go (no p) e =
            let a = under (omega arith) in
            absurd (farther n (2 ^ d * u) (value d x * c) (kept_of d n c * u) a.0 a.1 (multiple n u (kept_of d n c) near (2 ^ d)) e)

    pub even-at-tie : 0 < d → value d x * c ≢ value d (code (suc d) top n c) * c → gap n (value d (code (suc d) top n c) * c) ≡ gap n (value d x * c) → code (suc d) top n c % 2 ≡ 0
    even-at-tie p m g =
        let k = dropped (suc d) n c in
        let z : d ≡ suc (d - 1) = omega arith in
        let e : k * 2 ^ d ≡ 2 * (k * 2 ^ (d - 1)) = ap (λ (y : ℕ). k * 2 ^ y) z ∙ rw (pow-succ' 2 (d - 1)) (mul_left_comm k 2 (2 ^ (d - 1))) in
        omega (arith, code-fin, kept-even m g)

-- ---- where the infinity begins: (g + 3) * 2 ^ d are its bits, h is half the step of the largest values
halves : (q h : ℕ) → q * (2 * h) ≡ 2 * (q * h)
halves q h = mul_left_comm q 2 h

full : (n h q p : ℕ) → 0 < h → p % 2 ≡ 0 → Near n (2 * h) q → q ≤ p → 2 * (p * h) ≤ n + h → q ≡ p
full n h q p H even near l g = go (eq-or-lt_of_le l)
  where
    n0 : 2 * n ≤ 2 * (q * (2 * h)) + 2 * h
    n0 = near.0

    go : (q ≡ p) ⊎ (q < p) → q ≡ p
    go (inl e) = e
    go (inr a) = next (eq-or-lt_of_le a)
      where
        next : (suc q ≡ p) ⊎ (suc q < p) → q ≡ p
        next (inl e) =
            let z : p * h ≡ q * h + h = ap (λ (y : ℕ). y * h) (sym e) ∙ suc-mul q h in
            let v : 2 * n ≡ 2 * (q * (2 * h)) + 2 * h = omega (arith, n0, halves q h) in
            absurd (omega (arith, near.2 v))
        next (inr b) = absurd (omega (arith, n0, halves q h, mul-le-mul_right h b, suc-mul (suc q) h, suc-mul q h))

short : (n h q p : ℕ) → Near n (2 * h) q → q ≤ p → n + h < 2 * (p * h) → q < p
short n h q p near l g = go (eq-or-lt_of_le l)
  where
    n1 : 2 * (q * (2 * h)) ≤ 2 * n + 2 * h
    n1 = near.1

    go : (q ≡ p) ⊎ (q < p) → q < p
    go (inl e) = absurd (omega (arith, n1, halves q h, ap (λ (y : ℕ). y * h) e))
    go (inr a) = a

module _ (d g n c : ℕ) (pos : 0 < c) where
  last-near : dropped (suc d) n c ≡ suc g → Near n (2 * (c * 2 ^ g)) (kept_of d n c)
  last-near e =
      let z : c * 2 ^ dropped (suc d) n c ≡ 2 * (c * 2 ^ g) = rw (e, pow-succ' 2 g) (mul_left_comm c 2 (2 ^ g)) in
      subst (λ (y : ℕ). Near n y (kept_of d n c)) z (closest-near n (c * 2 ^ dropped (suc d) n c) (unit-pos c (dropped (suc d) n c) pos))

  even : 2 ^ suc d % 2 ≡ 0
  even = omega (arith, pow-succ' 2 d)

  bits_at : (k q : ℕ) → dropped (suc d) n c ≡ k → kept_of d n c ≡ q → code (suc d) ((g + 3) * 2 ^ d) n c ≡ min ((g + 3) * 2 ^ d) (k * 2 ^ d + q)
  bits_at k q e f = code_is d ((g + 3) * 2 ^ d) n c ∙ ap (λ (y : ℕ). min ((g + 3) * 2 ^ d) (y * 2 ^ d + kept_of d n c)) e ∙ ap (λ (y : ℕ). min ((g + 3) * 2 ^ d) (k * 2 ^ d + y)) f

  pub infinite : 2 * (2 ^ suc d * (c * 2 ^ g)) ≤ n + c * 2 ^ g → code (suc d) ((g + 3) * 2 ^ d) n c ≡ (g + 3) * 2 ^ d
  infinite h = go (dec_lt (dropped (suc d) n c) (suc g)) (dec_le (dropped (suc d) n c) (suc g))
    where
      k : ℕ
      k = dropped (suc d) n c

      go : Dec (k < suc g) → Dec (k ≤ suc g) → code (suc d) ((g + 3) * 2 ^ d) n c ≡ (g + 3) * 2 ^ d
      go (yes a) b =
          let s : n / c < 2 ^ (suc d + g) = lt_of_lt_of_le (size-lt (n / c)) (pow_mono (omega arith)) in
          let e : 2 ^ (suc d + g) * c ≡ 2 ^ suc d * (c * 2 ^ g) = rw (pow-add 2 (suc d) g) (mul_assoc (2 ^ suc d) (2 ^ g) c ∙ ap (λ (y : ℕ). 2 ^ suc d * y) (mul_comm (2 ^ g) c)) in
          let l : n < 2 ^ (suc d + g) * c = (div-lt_iff_lt-mul pos).0 s in
          let one : 1 * (c * 2 ^ g) ≤ 2 ^ suc d * (c * 2 ^ g) = mul-le-mul_right (c * 2 ^ g) (pow_pos (suc d)) in
          absurd (omega arith)
      go (no a) (yes b) =
          let e : k ≡ suc g = omega arith in
          let f : kept_of d n c ≡ 2 ^ suc d = full n (c * 2 ^ g) (kept_of d n c) (2 ^ suc d) (unit-pos c g pos) even (last-near e) (kept-le d n c) h in
          bits_at (suc g) (2 ^ suc d) e f ∙ omega (arith, pow-succ' 2 d, suc-mul g (2 ^ d), add-mul g 3 (2 ^ d))
      go (no a) (no b) =
          let m : suc (suc g) * 2 ^ d ≤ k * 2 ^ d = mul-le-mul_right (2 ^ d) (omega arith) in
          bits_at k (kept_of d n c) refl refl ∙ omega (arith, kept-ge d n c (omega arith), suc-mul (suc g) (2 ^ d), suc-mul g (2 ^ d), add-mul g 3 (2 ^ d))

  pub finite : n + c * 2 ^ g < 2 * (2 ^ suc d * (c * 2 ^ g)) → code (suc d) ((g + 3) * 2 ^ d) n c < (g + 3) * 2 ^ d
  finite h = go (dec_lt (dropped (suc d) n c) (suc g)) (dec_le (dropped (suc d) n c) (suc g))
    where
      k : ℕ
      k = dropped (suc d) n c

      below : (q : ℕ) → k * 2 ^ d + q < (g + 3) * 2 ^ d → kept_of d n c ≡ q → code (suc d) ((g + 3) * 2 ^ d) n c < (g + 3) * 2 ^ d
      below q l e = omega (arith, bits_at k q refl e)

      go : Dec (k < suc g) → Dec (k ≤ suc g) → code (suc d) ((g + 3) * 2 ^ d) n c < (g + 3) * 2 ^ d
      go (yes a) b =
          below (kept_of d n c)
          (omega (arith, mul-le-mul_right (2 ^ d) a, suc-mul k (2 ^ d), suc-mul g (2 ^ d), kept-le d n c, pow-succ' 2 d, pow_pos d, add-mul g 3 (2 ^ d))) refl
      go (no a) (yes b) =
          let e : k ≡ suc g = omega arith in
          let l : kept_of d n c < 2 ^ suc d = short n (c * 2 ^ g) (kept_of d n c) (2 ^ suc d) (last-near e) (kept-le d n c) h in
          below (kept_of d n c) (omega (arith, ap (λ (y : ℕ). y * 2 ^ d) e, suc-mul g (2 ^ d), pow-succ' 2 d, add-mul g 3 (2 ^ d))) refl
      go (no a) (no b) =
          let s : 2 ^ (suc d + suc g) ≤ n / c = size_reaches (n / c) (suc d + suc g) (omega arith) in
          let e : 2 ^ (suc d + suc g) * c ≡ 2 * (2 ^ suc d * (c * 2 ^ g)) =
          rw (pow-add 2 (suc d) (suc g), pow-succ' 2 g) (simp (mul_assoc, mul_comm, mul_left_comm)) in
          let l : 2 ^ (suc d + suc g) * c ≤ n = (le-div_iff_mul-le pos).0 s in
          absurd (omega arith)

-- ---- a value is its own rounding
module _ (d c : ℕ) (pos : 0 < c) where
  own_at : (v k q x : ℕ) → size v - suc d ≡ k → v * c ≡ q * (c * 2 ^ k) → k * 2 ^ d + q ≡ x → (top : ℕ) → x ≤ top → code (suc d) top (v * c) c ≡ x
  own_at v k q x e m s top l =
      let z : dropped (suc d) (v * c) c ≡ k = ap (λ (y : ℕ). size y - suc d) (mul-div_cancel v pos) ∙ e in
      let f : kept_of d (v * c) c ≡ q = ap (λ (y : ℕ). closest (v * c) (c * 2 ^ y)) z ∙ ap (λ (y : ℕ). closest y (c * 2 ^ k)) m ∙ closest-exact q (c * 2 ^ k) (unit-pos c k pos) in
      let t : dropped (suc d) (v * c) c * 2 ^ d ≡ k * 2 ^ d = ap (λ (y : ℕ). y * 2 ^ d) z in
      omega (arith, code_is d top (v * c) c)

  pub own : (top x : ℕ) → x ≤ top → code (suc d) top (value d x * c) c ≡ x
  own top x l = go (x / 2 ^ d) refl
    where
      t : ℕ
      t = x % 2 ^ d

      t-lt : t < 2 ^ d
      t-lt = mod-lt x (pow_pos d)

      go : (f : ℕ) → x / 2 ^ d ≡ f → code (suc d) top (value d x * c) c ≡ x
      go zero e =
          let h : x < 2 ^ d = omega (arith, t-lt, div-add-mod' x (2 ^ d), ap (λ (y : ℕ). y * 2 ^ d) e, zero-mul (2 ^ d)) in
          let s : size x - suc d ≡ 0 = omega (arith, size-le x d h) in
          rw (value_low d x h) (own_at x 0 x x s (ap (λ (y : ℕ). x * y) (sym (mul-one c))) (omega arith) top l)
      go (suc f) e =
          let h : x ≡ suc f * 2 ^ d + t = sym (div-add-mod' x (2 ^ d)) ∙ ap (λ (y : ℕ). y * 2 ^ d + t) e in
          let m = 2 ^ d + t in
          let v : value d x ≡ m * 2 ^ f = ap (λ (y : ℕ). value d y) h ∙ value-up d f t t-lt in
          let z : size m ≡ suc d = size_exact m d (omega arith) (omega (arith, t-lt, pow-succ' 2 d)) in
          let s : size (m * 2 ^ f) - suc d ≡ f = omega (arith, size-shift m f (omega (arith, pow_pos d))) in
          rw (v) (own_at (m * 2 ^ f) f m x s (mul_assoc m (2 ^ f) c ∙ ap (λ (y : ℕ). m * y) (mul_comm (2 ^ f) c)) (omega (arith, h, suc-mul f (2 ^ d))) top l)

  -- so is any number of at most d + 1 digits, up to the infinity
  pub exact : (top q j : ℕ) → q < 2 ^ suc d → code (suc d) top (q * 2 ^ j * c) c < top → value d (code (suc d) top (q * 2 ^ j * c) c) * c ≡ q * 2 ^ j * c
  exact top q j h f =
      let n = q * 2 ^ j * c in
      let k = dropped (suc d) n c in
      let l : size (n / c) ≤ suc d + j = rw (mul-div_cancel (q * 2 ^ j) pos) (size-le (q * 2 ^ j) (suc d + j) (shl_lt (suc d) j h)) in
      let z : j ≡ j - k + k = omega arith in
      let e : n ≡ q * 2 ^ (j - k) * (c * 2 ^ k) = ap (λ (y : ℕ). q * 2 ^ y * c) z ∙ shape q (j - k) k c in
      let m : kept_of d n c ≡ q * 2 ^ (j - k) = ap (λ (y : ℕ). closest y (c * 2 ^ k)) e ∙ closest-exact (q * 2 ^ (j - k)) (c * 2 ^ k) (unit-pos c k pos) in
      code-value d top n c pos f ∙ ap (λ (y : ℕ). y * (c * 2 ^ k)) m ∙ sym e
