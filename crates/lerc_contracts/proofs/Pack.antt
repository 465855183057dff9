-- lerc_numeric.rs: `pack` and all that ends in it is our rounding, `code`, of the same number.
-- Assumes nothing.
use mathlib.Core.Path.{◌≡◌, refl, sym, ap, ◌∙◌}
use mathlib.Core.Logic.{◌⊎◌, inl, inr}
use mathlib.Core.Bool.{Bool, true, false, cond, ◌&&◌}
use Prim.Native.Nat.{ℕ, suc, ◌+◌, ◌-◌, ◌*◌, ◌/◌, ◌%◌, ◌^◌, ◌≤◌, ◌<◌, min}
use native.Mathlib.Omega.{arith}
use native.Mathlib.Nat.{mod-eq_of_lt, div-eq_of_lt, lt_of_lt_of_le, lt_of_le_of_lt, mul-one, mul_assoc, add-mul, mul-le-mul_right, pow-succ', zero-mul, zero-add, add-zero, one-mul, div-one, mod_self, mod-lt, div-lt_iff_lt-mul}
use native.Mathlib.Decide.{dec_lt, dec_le}
use borrow.Author.Tests.{lt-ltb, le-ltb, le-leb, lt-leb, eq-eqb, ne_eqb}
use lib.Dec.{ltb, leb, eqb, lit<, lit≤}
use lib.Arith.{digits_mod}
use lib.Bits.{bit_or, or_shifted, or_zero_l}
use lib.Pow.{pow-add, pow_pos, pow_mono, shl_lt}
use lib.Ieee.{size}
use lib.Ieee.Digits.{size-lt, size-le, size_reaches}
use lib.Ieee.Nearest.{closest, closest_same, div_same}
use Rattle.lerc_numeric.specs.Numeric.{dropped, code, bits64, signed}
use Rattle.lerc_numeric.proofs.Closest.{closest-multiple, closest-exact}
use Rattle.lerc_numeric.proofs.Digits.{size-part, size-shift, pow_lt_back}
use Rattle.lerc_numeric.proofs.Format.{kept_of, code_is, kept-le, kept-ge, unit-pos, code_at}
use Rattle.lerc_contracts.proofs.Rounding.{highest-is, round_is, round-small, size-some}
use Rattle.lerc_contracts.specs.Numeric.{pack_normal, pack_other, pack, power}
use Rattle.lerc_contracts.specs.Between.{rounds}

mod-once : (k p : ℕ) → p ≤ k → k < 2 * p → k % p ≡ k - p
mod-once k p l u = let e : k ≡ 1 * p + (k - p) = omega arith in let r : k - p < p = omega arith in ap (λ (y : ℕ). y % p) e ∙ digits_mod 1 r

-- ---- a number q, moved up by w digits, is written: `hi2`, the branches on `exp`, `bits`. In ours d digits are dropped and
-- K kept, of h + 1; D is the most that are dropped of a number, more is infinity
module _ (h D q w d K : ℕ) (p : 0 < q) (dw : d ≤ w) (ek : K ≡ q * 2 ^ (w - d)) (most : K ≤ 2 ^ suc h) (least : 0 < d → 2 ^ h ≤ K) where
  -- K's highest digit
  abbrev z : ℕ
  z = size q - 1 + (w - d)

  sizes : size K ≡ suc z
  sizes = let s : 0 < size q = size-some q p in let e : size q + (w - d) ≡ suc z = omega arith in ap (λ (y : ℕ). size y) ek ∙ size-shift q (w - d) p ∙ e

  z-low : 2 ^ z ≤ K
  z-low = size_reaches K z (omega (arith, sizes))

  z-high : K < 2 ^ suc z
  z-high = rw (← sizes) (size-lt K)

  twice : 2 ^ suc h ≡ 2 * 2 ^ h
  twice = pow-succ' 2 h

  z-most : z ≤ suc h
  z-most = let l : 2 ^ z < 2 ^ suc (suc h) = omega (arith, z-low, most, pow-succ' 2 (suc h), pow_pos (suc h)) in omega (arith, pow_lt_back z (suc (suc h)) l)

  same_power : d + z ≡ w + (size q - 1)
  same_power = omega arith

  -- K has h + 1 digits, or is the next power; it has fewer only where none are dropped
  abbrev Where : Type 0
  Where = ((z < h) × (d ≡ 0) × (K < 2 ^ h)) ⊎ (((z ≡ h) × (2 ^ h ≤ K) × (K < 2 * 2 ^ h)) ⊎ ((z ≡ suc h) × (K ≡ 2 * 2 ^ h)))

  where-is : Where
  where-is = go (dec_lt z h) (dec_lt h z)
    where
      go : Dec (z < h) → Dec (h < z) → Where
      go (yes l) _ =
          let k : K < 2 ^ h = lt_of_lt_of_le z-high (pow_mono l) in
          inl (l, none (dec_lt 0 d), k)
        where
          none : Dec (0 < d) → d ≡ 0
          none (yes o) = absurd (let k : K < 2 ^ h = lt_of_lt_of_le z-high (pow_mono l) in omega (arith, least o))
          none (no o) = omega arith
      go (no l) (no g) =
          let e : z ≡ h = omega arith in
          inr (inl (e, rw (← e) z-low, (let k = rw (e) at z-high in omega (arith, twice))))
      go (no l) (yes g) =
          let e : z ≡ suc h = omega (arith, z-most) in
          inr (inr (e, (let k = rw (e) at z-low in omega (arith, most, twice))))

  -- too large
  over : D + h < w + (size q - 1) → min ((D + 2) * 2 ^ h) (d * 2 ^ h + K) ≡ (D + 2) * 2 ^ h
  over l = go where-is
    where
      two : (D + 2) * 2 ^ h ≡ D * 2 ^ h + 2 * 2 ^ h
      two = add-mul D 2 (2 ^ h)

      go : Where → min ((D + 2) * 2 ^ h) (d * 2 ^ h + K) ≡ (D + 2) * 2 ^ h
      go (inl x) = absurd (omega (arith, same_power, x.0, x.1))
      go (inr (inl x)) =
          let c : (D + 1) * 2 ^ h ≤ d * 2 ^ h = mul-le-mul_right (2 ^ h) (omega (arith, same_power, x.0)) in
          omega (arith, x.1, two, add-mul D 1 (2 ^ h))
      go (inr (inr x)) =
          let c : D * 2 ^ h ≤ d * 2 ^ h = mul-le-mul_right (2 ^ h) (omega (arith, same_power, x.0)) in
          omega (arith, x.1, two)

  -- below the least normal number
  low : w + (size q - 1) < h → (min ((D + 2) * 2 ^ h) (d * 2 ^ h + K) ≡ q * 2 ^ w) × (q * 2 ^ w < 2 ^ h)
  low l = go where-is
    where
      go : Where → (min ((D + 2) * 2 ^ h) (d * 2 ^ h + K) ≡ q * 2 ^ w) × (q * 2 ^ w < 2 ^ h)
      go (inl x) =
          let e : w - d ≡ w = omega (arith, x.1) in
          let k : K ≡ q * 2 ^ w = ek ∙ ap (λ (y : ℕ). q * 2 ^ y) e in
          let n : d * 2 ^ h ≡ 0 = rw x.1 (zero-mul (2 ^ h)) in
          (omega (arith, x.2, add-mul D 2 (2 ^ h)), omega (arith, x.2))
      go (inr (inl x)) = absurd (omega (arith, same_power, x.0))
      go (inr (inr x)) = absurd (omega (arith, same_power, x.0))

  -- between: the digits without the leading one, behind the field
  abbrev bits : ℕ
  bits = cond (ltb h (size q - 1)) (q / 2 ^ (size q - 1 - h)) (q * 2 ^ (h - (size q - 1)))

  bits_inside : z ≡ h → bits ≡ K
  bits_inside e =
      let t : h - (size q - 1) ≡ w - d = omega arith in
      rw (le-ltb h (size q - 1) (omega arith), t) (sym ek)

  bits-next : z ≡ suc h → K ≡ 2 * 2 ^ h → bits ≡ 2 ^ h
  bits-next e k = go (dec_lt h (size q - 1))
    where
      go : Dec (h < size q - 1) → bits ≡ 2 ^ h
      go (yes l) =
          let t : size q - 1 - h ≡ 1 = omega (arith, e) in
          let u : w - d ≡ 0 = omega (arith, e) in
          let kq : K ≡ q * 2 ^ 0 = ek ∙ ap (λ (y : ℕ). q * 2 ^ y) u in
          rw (lt-ltb h (size q - 1) l, t) (omega (arith, k, kq))
      go (no l) =
          let t : w - d ≡ h - (size q - 1) + 1 = omega (arith, e) in
          let kq : K ≡ q * 2 ^ (h - (size q - 1)) * 2 = ek ∙ ap (λ (y : ℕ). q * 2 ^ y) t ∙ ap (λ (y : ℕ). q * y) (pow-add 2 (h - (size q - 1)) 1) ∙ sym (mul_assoc q (2 ^ (h - (size q - 1))) 2) in
          rw (le-ltb h (size q - 1) (omega arith)) (omega (arith, k, kq))

  mid : h ≤ w + (size q - 1) → w + (size q - 1) ≤ D + h → min ((D + 2) * 2 ^ h) (d * 2 ^ h + K) ≡ (w + (size q - 1) + 1 - h) * 2 ^ h + bits % 2 ^ h
  mid a b = go where-is
    where
      two : (D + 2) * 2 ^ h ≡ D * 2 ^ h + 2 * 2 ^ h
      two = add-mul D 2 (2 ^ h)

      go : Where → min ((D + 2) * 2 ^ h) (d * 2 ^ h + K) ≡ (w + (size q - 1) + 1 - h) * 2 ^ h + bits % 2 ^ h
      go (inl x) = absurd (omega (arith, same_power, x.0, x.1))
      go (inr (inl x)) =
          let f : w + (size q - 1) + 1 - h ≡ d + 1 = omega (arith, same_power, x.0) in
          let c : d * 2 ^ h ≤ D * 2 ^ h = mul-le-mul_right (2 ^ h) (omega (arith, same_power, x.0)) in
          let r : K % 2 ^ h ≡ K - 2 ^ h = mod-once K (2 ^ h) x.1 x.2 in
          rw (f, bits_inside x.0, r) (omega (arith, x.1, x.2, two, add-mul d 1 (2 ^ h)))
      go (inr (inr x)) =
          let f : w + (size q - 1) + 1 - h ≡ d + 2 = omega (arith, same_power, x.0) in
          let c : (d + 1) * 2 ^ h ≤ D * 2 ^ h = mul-le-mul_right (2 ^ h) (omega (arith, same_power, x.0)) in
          let r : 2 ^ h % 2 ^ h ≡ 0 = mod_self (2 ^ h) in
          rw (f, bits-next x.0 x.1, r) (omega (arith, x.1, two, add-mul d 2 (2 ^ h), add-mul d 1 (2 ^ h)))

-- ---- bits of a word put together with "or"

pub or-sign : (s : Bool) (k b : ℕ) → b < 2 ^ k → bit_or (cond s (2 ^ k) 0) b ≡ cond s (2 ^ k) 0 + b
or-sign true k b l = rw (one-mul (2 ^ k)) at (or_shifted 1 k b l)
or-sign false k b l = or_zero_l b ∙ sym (zero-add b)

pub or_parts : (s : Bool) (j h f b : ℕ) → f < 2 ^ j → b < 2 ^ h → bit_or (bit_or (cond s (2 ^ (j + h)) 0) (f * 2 ^ h)) b ≡ cond s (2 ^ (j + h)) 0 + (f * 2 ^ h + b)
or_parts s j h f b lf lb = rw (or-sign s (j + h) (f * 2 ^ h) (shl_lt j h lf)) (go s)
  where
    go : (t : Bool) → bit_or (cond t (2 ^ (j + h)) 0 + f * 2 ^ h) b ≡ cond t (2 ^ (j + h)) 0 + (f * 2 ^ h + b)
    go true =
        let e : (2 ^ j + f) * 2 ^ h ≡ 2 ^ (j + h) + f * 2 ^ h = add-mul (2 ^ j) f (2 ^ h) ∙ ap (λ (y : ℕ). y + f * 2 ^ h) (sym (pow-add 2 j h)) in
        rw (← e, or_shifted (2 ^ j + f) h b lb) (omega (arith, e))
    go false = rw (zero-add (f * 2 ^ h), zero-add (f * 2 ^ h + b)) (or_shifted f h b lb)

-- ---- the branches on q, `exp` and so on, which `pack` and `narrow_software` both have: h digits behind the leading one, j for the
-- field, a word of `wide` digits, `last` the most digits that are dropped of a number, u the power of the unit
abbrev pub tail : ℕ → ℕ → ℕ → ℕ → ℕ → Bool → ℕ → ℕ → ℕ → ℕ
tail h j wide last u s q power hi =
    let sg = cond s (2 ^ (j + h)) 0 in
    let exp = power + hi in
    let bits = cond (ltb h hi) (q / 2 ^ (hi - h)) (q * 2 ^ (h - hi)) in
    cond (eqb q 0) sg
    (cond (ltb (u + h + last) exp) (bit_or sg ((last + 2) * 2 ^ h))
    (cond (ltb exp (u + h)) (bit_or sg (q * 2 ^ (power - u) % 2 ^ wide))
    (bit_or (bit_or sg ((exp - (u + h - 1)) * 2 ^ h)) (bits % 2 ^ h))))

field_is : (w u x h : ℕ) → 0 < h → h ≤ w + x → w + u + x - (u + h - 1) ≡ w + x + 1 - h
field_is w u x h p l = omega arith

module _ (h j wide last u : ℕ) (room : last + 2 < 2 ^ j) (fit : h ≤ wide) (pos : 0 < h) (s : Bool) (q w d K : ℕ) (dw : d ≤ w) (ek : K ≡ q * 2 ^ (w - d)) (most : K ≤ 2 ^ suc h) (least : 0 < d → 2 ^ h ≤ K) where
  tail-is : tail h j wide last u s q (w + u) (size q - 1) ≡ cond s (2 ^ (j + h)) 0 + min ((last + 2) * 2 ^ h) (d * 2 ^ h + K)
  tail-is = none? (dec_lt 0 q)
    where
      top_lt : (last + 2) * 2 ^ h < 2 ^ (j + h)
      top_lt = shl_lt j h room

      nothing : Dec (0 < d) → K ≡ 0 → d ≡ 0
      nothing (yes l) k = absurd (omega (arith, least l, pow_pos h))
      nothing (no l) k = omega arith

      back : w + u - u ≡ w
      back = omega arith

      some? : 0 < q → Dec (last + h < w + (size q - 1)) → Dec (w + (size q - 1) < h) → tail h j wide last u s q (w + u) (size q - 1) ≡ cond s (2 ^ (j + h)) 0 + min ((last + 2) * 2 ^ h) (d * 2 ^ h + K)
      some? p (yes l) _ =
          rw (ne_eqb q 0 (λ e. omega arith), lt-ltb (u + h + last) (w + u + (size q - 1)) (omega arith), or-sign s (j + h) ((last + 2) * 2 ^ h) top_lt, over h last q w d K p dw ek most least l)
      some? p (no l) (yes g) =
          let (e, b) = low h last q w d K p dw ek most least g in
          let m : q * 2 ^ w % 2 ^ wide ≡ q * 2 ^ w = mod-eq_of_lt (lt_of_lt_of_le b (pow_mono fit)) in
          let c : q * 2 ^ w < 2 ^ (j + h) = lt_of_lt_of_le b (pow_mono (omega arith)) in
          rw (ne_eqb q 0 (λ e. omega arith), le-ltb (u + h + last) (w + u + (size q - 1)) (omega arith), lt-ltb (w + u + (size q - 1)) (u + h) (omega arith), back, m, e) (or-sign s (j + h) (q * 2 ^ w) c)
      some? p (no l) (no g) =
          let f : w + u + (size q - 1) - (u + h - 1) ≡ w + (size q - 1) + 1 - h = field_is w u (size q - 1) h pos (omega arith) in
          rw (ne_eqb q 0 (λ e. omega arith), le-ltb (u + h + last) (w + u + (size q - 1)) (omega arith), le-ltb (w + u + (size q - 1)) (u + h) (omega arith), mid h last q w d K p dw ek most least (omega arith) (omega arith), f)
          (or_parts s j h (w + (size q - 1) + 1 - h) (bits h last q w d K p dw ek most least % 2 ^ h) (omega arith) (mod-lt _ (pow_pos h)))

      none? : Dec (0 < q) → tail h j wide last u s q (w + u) (size q - 1) ≡ cond s (2 ^ (j + h)) 0 + min ((last + 2) * 2 ^ h) (d * 2 ^ h + K)
      none? (yes p) = some? p (dec_lt (last + h) (w + (size q - 1))) (dec_lt (w + (size q - 1)) h)
      none? (no p) =
          let z : q ≡ 0 = omega arith in
          let k : K ≡ 0 = ek ∙ ap (λ (y : ℕ). y * 2 ^ (w - d)) z ∙ zero-mul (2 ^ (w - d)) in
          let n : d ≡ 0 = nothing (dec_lt 0 d) k in
          rw (eq-eqb q 0 z, n, k, zero-mul (2 ^ h)) (omega arith)

-- ---- the number that is written: v times 2 ^ e in units of 2 ^ u, of which h + 1 digits are kept

abbrev pub units : ℕ → ℕ → ℕ → ℕ → ℕ → ℕ
units h last u v e = code (suc h) ((last + 2) * 2 ^ h) (v * 2 ^ (e - u)) (2 ^ (u - e))

-- only the quotient matters
pub code_same : (h top n c m k : ℕ) → 0 < c → 0 < k → n * k ≡ m * c → code (suc h) top n c ≡ code (suc h) top m k
code_same h top n c m k pc pk e =
    let d = dropped (suc h) m k in
    let same : dropped (suc h) n c ≡ d = ap (λ (y : ℕ). size y - suc h) (div_same n c m k pc pk e) in
    let x : n * (k * 2 ^ d) ≡ m * (c * 2 ^ d) = sym (mul_assoc n k (2 ^ d)) ∙ ap (λ (y : ℕ). y * 2 ^ d) e ∙ mul_assoc m c (2 ^ d) in
    code_is h top n c
    ∙ ap (λ (y : ℕ). min top (y * 2 ^ h + closest n (c * 2 ^ y))) same
    ∙ ap (λ (y : ℕ). min top (d * 2 ^ h + y)) (closest_same n (c * 2 ^ d) m (k * 2 ^ d) (unit-pos c d pc) (unit-pos k d pk) x)
    ∙ sym (code_is h top m k)

code-zero : (h top a c : ℕ) → code (suc h) top (0 * 2 ^ a) (2 ^ c) ≡ 0
code-zero h top a c =
    let d : size (0 / 2 ^ c) - suc h ≡ 0 = rw (div-eq_of_lt (pow_pos c)) (omega (arith, size-le 0 0 (pow_pos 0))) in
    let k : closest 0 (2 ^ (c + 0)) ≡ 0 = rw (zero-mul (2 ^ (c + 0))) at (closest-exact 0 (2 ^ (c + 0)) (pow_pos (c + 0))) in
    rw (zero-mul (2 ^ a), code_at h top 0 c 0 d, k, zero-mul (2 ^ h)) (omega arith)

size-cut : (v b : ℕ) → size (v / 2 ^ b) ≡ size v - b
unfolding size
size-cut v b = go (dec_lt 0 (v / 2 ^ b))
  where
    go : Dec (0 < v / 2 ^ b) → size (v / 2 ^ b) ≡ size v - b
    go (yes l) = omega (arith, size-part v b l)
    go (no l) =
        let z : v / 2 ^ b ≡ 0 = omega arith in
        let o : v / 2 ^ b < 1 = omega arith in
        let k : v < 1 * 2 ^ b = (div-lt_iff_lt-mul (pow_pos b)).0 o in
        rw (z) (omega (arith, size-le v b (rw (one-mul (2 ^ b)) at k)))

module _ (h v e u : ℕ) (p : 0 < v) where
  drops : dropped (suc h) (v * 2 ^ (e - u)) (2 ^ (u - e)) ≡ size v + e - (u + suc h)
  drops = go (dec_le u e)
    where
      go : Dec (u ≤ e) → size (v * 2 ^ (e - u) / 2 ^ (u - e)) - suc h ≡ size v + e - (u + suc h)
      go (yes l) = let z : u - e ≡ 0 = omega arith in rw (z, div-one, size-shift v (e - u) p) (omega arith)
      go (no l) = let z : e - u ≡ 0 = omega arith in rw (z, mul-one, size-cut v (u - e)) (omega arith)

  -- the digits that `small` drops are those that ours drops, in the unit of v; or none are, and v is moved up
  kept-cut : (small : ℕ) → e + small ≡ u + (size v + e - (u + suc h)) → kept_of h (v * 2 ^ (e - u)) (2 ^ (u - e)) ≡ closest v (2 ^ small)
  kept-cut small z =
      let d = size v + e - (u + suc h) in
      let x : e - u + small ≡ u - e + d = omega arith in
      let y : v * 2 ^ (e - u) * 2 ^ small ≡ v * (2 ^ (u - e) * 2 ^ d) = rw (mul_assoc v (2 ^ (e - u)) (2 ^ small), ← pow-add 2 (e - u) small, x, pow-add 2 (u - e) d) in
      rw (drops) (closest_same (v * 2 ^ (e - u)) (2 ^ (u - e) * 2 ^ d) v (2 ^ small) (unit-pos (2 ^ (u - e)) d (pow_pos (u - e))) (pow_pos small) y)

  kept-up : u ≤ e → size v ≤ h → kept_of h (v * 2 ^ (e - u)) (2 ^ (u - e)) ≡ v * 2 ^ (e - u - (size v + e - (u + suc h)))
  kept-up l k =
      let z : u - e ≡ 0 = omega arith in
      rw (drops, z, one-mul) (closest-multiple v (e - u) (size v + e - (u + suc h)) (omega arith))

-- `small`, from the highest digit
abbrev pub small_of : ℕ → ℕ → ℕ → ℕ → ℕ
small_of h u hi e =
    let shift = cond (ltb h hi) (hi - h) 0 in
    cond (ltb shift (u - e)) (u - e) shift

small_is : (h u z e : ℕ) → 0 < z → (e + small_of h u (z - 1) e ≡ u + (z + e - (u + suc h))) ⊎ ((u ≤ e) × (small_of h u (z - 1) e ≡ 0) × (z ≤ h))
small_is h u z e p = go (dec_lt h (z - 1))
  where
    by : (t : ℕ) → Dec (t < u - e) → ((t < u - e → e + (u - e) ≡ u + (z + e - (u + suc h))) × (u - e ≤ t → (e + t ≡ u + (z + e - (u + suc h))) ⊎ ((u ≤ e) × (t ≡ 0) × (z ≤ h))))
        → (e + cond (ltb t (u - e)) (u - e) t ≡ u + (z + e - (u + suc h))) ⊎ ((u ≤ e) × (cond (ltb t (u - e)) (u - e) t ≡ 0) × (z ≤ h))
    by t (yes l) f = rw (lt-ltb t (u - e) l) (inl (f.0 l))
    by t (no l) f = let g : u - e ≤ t = omega arith in rw (le-ltb t (u - e) g) (f.1 g)

    go : Dec (h < z - 1) → (e + small_of h u (z - 1) e ≡ u + (z + e - (u + suc h))) ⊎ ((u ≤ e) × (small_of h u (z - 1) e ≡ 0) × (z ≤ h))
    go (yes l) = rw (lt-ltb h (z - 1) l) (by (z - 1 - h) (dec_lt (z - 1 - h) (u - e)) ((λ g. omega arith), (λ g. inl (omega arith))))
    go (no l) = rw (le-ltb h (z - 1) (omega arith)) (by 0 (dec_lt 0 (u - e)) ((λ g. omega arith), (λ g. last g (dec_le z h))))
      where
        last : u - e ≤ 0 → Dec (z ≤ h) → (e + 0 ≡ u + (z + e - (u + suc h))) ⊎ ((u ≤ e) × (◌≡◌ {A = ℕ} 0 0) × (z ≤ h))
        last g (yes k) = inr (omega arith, refl, k)
        last g (no k) = inl (omega arith)

module _ (h j wide last u : ℕ) (room : last + 2 < 2 ^ j) (fit : h ≤ wide) (pos : 0 < h) (s : Bool) (v e : ℕ) where
  -- with w for the digits that q is moved up by
  written : (q w : ℕ) → 0 < v → size v + e - (u + suc h) ≤ w → kept_of h (v * 2 ^ (e - u)) (2 ^ (u - e)) ≡ q * 2 ^ (w - (size v + e - (u + suc h)))
      → tail h j wide last u s q (w + u) (size q - 1) ≡ cond s (2 ^ (j + h)) 0 + units h last u v e
  written q w p dw ek =
      let d = drops h v e u p in
      let K = kept_of h (v * 2 ^ (e - u)) (2 ^ (u - e)) in
      tail-is h j wide last u room fit pos s q w (size v + e - (u + suc h)) K dw ek (kept-le h (v * 2 ^ (e - u)) (2 ^ (u - e))) (λ l. kept-ge h (v * 2 ^ (e - u)) (2 ^ (u - e)) (rw (d) l))
      ∙ ap (λ (y : ℕ). cond s (2 ^ (j + h)) 0 + min ((last + 2) * 2 ^ h) (y * 2 ^ h + K)) (sym d)
      ∙ ap (λ (y : ℕ). cond s (2 ^ (j + h)) 0 + y) (sym (code_is h ((last + 2) * 2 ^ h) (v * 2 ^ (e - u)) (2 ^ (u - e))))

  pub slow-is : (small q : ℕ) → small ≡ small_of h u (size v - 1) e → q ≡ closest v (2 ^ small) → tail h j wide last u s q (e + small) (size q - 1) ≡ cond s (2 ^ (j + h)) 0 + units h last u v e
  slow-is small q es eq = none? (dec_lt 0 v)
    where
      some : 0 < v → (e + small ≡ u + (size v + e - (u + suc h))) ⊎ ((u ≤ e) × (small ≡ 0) × (size v ≤ h)) → tail h j wide last u s q (e + small) (size q - 1) ≡ cond s (2 ^ (j + h)) 0 + units h last u v e
      some p (inl x) =
          let d = size v + e - (u + suc h) in
          let y : e + small ≡ d + u = omega (arith, x) in
          let t : d - d ≡ 0 = omega arith in
          rw (y) (written q d p (omega arith) (rw (t, mul-one) (kept-cut h v e u p small x ∙ sym eq)))
      some p (inr x) =
          let y : e + small ≡ e - u + u = omega (arith, x.0, x.1) in
          let one : closest v (2 ^ 0) ≡ v = rw (mul-one v) at (closest-exact v 1 (pow_pos 0)) in
          let qv : q ≡ v = eq ∙ ap (λ (y : ℕ). closest v (2 ^ y)) x.1 ∙ one in
          rw (y) (written q (e - u) p (omega (arith, x.2)) (kept-up h v e u p x.0 x.2 ∙ ap (λ (y : ℕ). y * 2 ^ (e - u - (size v + e - (u + suc h)))) (sym qv)))

      none? : Dec (0 < v) → tail h j wide last u s q (e + small) (size q - 1) ≡ cond s (2 ^ (j + h)) 0 + units h last u v e
      none? (yes p) = some p (rw (es) (small_is h u (size v) e (size-some v p)))
      none? (no p) =
          let z : v ≡ 0 = omega arith in
          let c = u - e in
          let n : closest 0 (2 ^ small) ≡ 0 = rw (zero-mul (2 ^ small)) at (closest-exact 0 (2 ^ small) (pow_pos small)) in
          let qz : q ≡ 0 = eq ∙ ap (λ (y : ℕ). closest y (2 ^ small)) z ∙ n in
          rw (eq-eqb q 0 qz, z, code-zero h ((last + 2) * 2 ^ h) (e - u) (u - e)) (sym (add-zero (cond s (2 ^ (j + h)) 0)))

-- ---- `pack`

module _ (s : Bool) (v e : ℕ) (l : v < 2 ^ 128) where
  other-is : pack_other s v e (size v - 1) ≡ rounds s v e
  unfolding pack_other
  other-is =
      let small = small_of 52 3022 (size v - 1) e in
      let q = closest v (2 ^ small) in
      rw (round_is v small l, highest-is q (lt_of_le_of_lt (round-small v small) l))
      (slow-is 52 11 64 2045 3022 (lit< tt) (lit≤ tt) (lit< tt) s v e small q refl refl)

  pub normal-is : 52 ≤ size v - 1 → 3074 ≤ e + (size v - 1) → e + (size v - 1) ≤ 5119 → pack_normal s v e (size v - 1) ≡ rounds s v e
  unfolding pack_normal
  normal-is a b c =
      let hi = size v - 1 in
      let n = v * 2 ^ (e - 3022) in
      let k = 2 ^ (3022 - e) in
      let p : 0 < v = lt_of_lt_of_le (pow_pos 52) (size_reaches v 52 (omega arith)) in
      let d : dropped 53 n k ≡ e + hi - 3074 = drops 52 v e 3022 p ∙ (let z : size v + e - (3022 + 53) ≡ e + hi - 3074 = omega arith in z) in
      let kept : kept_of 52 n k ≡ closest v (2 ^ (hi - 52)) = kept-cut 52 v e 3022 p (hi - 52) (omega arith) in
      let whole : code 53 (2047 * 2 ^ 52) n k ≡ min (2047 * 2 ^ 52) ((e + hi - 3074) * 2 ^ 52 + closest v (2 ^ (hi - 52))) =
      code_is 52 (2047 * 2 ^ 52) n k ∙ ap (λ (y : ℕ). min (2047 * 2 ^ 52) (dropped 53 n k * 2 ^ 52 + y)) kept ∙ ap (λ (y : ℕ). min (2047 * 2 ^ 52) (y * 2 ^ 52 + closest v (2 ^ (hi - 52)))) d in
      let most : closest v (2 ^ (hi - 52)) ≤ 2 ^ 53 = rw (kept) at (kept-le 52 n k) in
      let same : code 53 (2047 * 2 ^ 52) n k ≡ (e + hi - 3074) * 2 ^ 52 + closest v (2 ^ (hi - 52)) = whole ∙ fits (e + hi - 3074) (closest v (2 ^ (hi - 52))) (omega arith) most in
      rw (round_is v (hi - 52) l, same) (or-sign s 63 ((e + hi - 3074) * 2 ^ 52 + closest v (2 ^ (hi - 52))) (room (e + hi - 3074) (closest v (2 ^ (hi - 52))) (omega arith) most))
    where
      fits : (d k : ℕ) → d ≤ 2045 → k ≤ 2 ^ 53 → min (2047 * 2 ^ 52) (d * 2 ^ 52 + k) ≡ d * 2 ^ 52 + k
      fits d k a b = omega arith

      room : (d k : ℕ) → d ≤ 2045 → k ≤ 2 ^ 53 → d * 2 ^ 52 + k < 2 ^ 63
      room d k a b = omega arith

  -- 1.25, 1.27: for every power
  pub pack-is : pack s v e ≡ rounds s v e
  unfolding pack
  pack-is = rw (highest-is v l) (go (dec_le 52 (size v - 1)) (dec_le 3074 (e + (size v - 1))) (dec_le (e + (size v - 1)) 5119))
    where
      go : Dec (52 ≤ size v - 1) → Dec (3074 ≤ e + (size v - 1)) → Dec (e + (size v - 1) ≤ 5119)
          → cond (leb 52 (size v - 1) && leb 3074 (e + (size v - 1)) && leb (e + (size v - 1)) 5119) (pack_normal s v e (size v - 1)) (pack_other s v e (size v - 1)) ≡ rounds s v e
      go (yes a) (yes b) (yes c) = rw (le-leb 52 (size v - 1) a, le-leb 3074 (e + (size v - 1)) b, le-leb (e + (size v - 1)) 5119 c) (normal-is a b c)
      go (yes a) (yes b) (no c) = rw (le-leb 52 (size v - 1) a, le-leb 3074 (e + (size v - 1)) b, lt-leb (e + (size v - 1)) 5119 (omega arith)) other-is
      go (yes a) (no b) _ = rw (le-leb 52 (size v - 1) a, lt-leb 3074 (e + (size v - 1)) (omega arith)) other-is
      go (no a) _ _ = rw (lt-leb 52 (size v - 1) (omega arith)) other-is

-- from the power -1074 on, v times 2 ^ e is a whole number of units
pub pack-units : (s : Bool) (v e : ℕ) → v < 2 ^ 128 → pack s v (power e) ≡ signed s (bits64 (v * 2 ^ e))
pack-units s v e l =
    let a : e + 3022 - 3022 ≡ e = omega arith in
    let b : 3022 - (e + 3022) ≡ 0 = omega arith in
    pack-is s v (power e) l ∙ rw (a, b)
