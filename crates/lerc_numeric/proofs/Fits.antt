-- What a kind of integers holds: exactly the finite values whose whole part lies in its range; each of its own words; every value
-- between two that it holds.
-- Assumes nothing.
use mathlib.Core.Path.{◌≡◌, refl, sym, ◌∙◌}
use mathlib.Core.Logic.{◌⊎◌, inl, inr}
use mathlib.Core.Bool.{Bool, true, false, cond, ◌&&◌}
use Prim.Native.Nat.{ℕ, ◌+◌, ◌-◌, ◌*◌, ◌/◌, ◌%◌, ◌^◌, ◌≤◌, ◌<◌}
use native.Mathlib.Nat.{lt_of_le_of_lt, lt_of_lt_of_le, mul-div_cancel, mul-le-mul_right, mod-eq_of_lt, mod-lt, not-le_of_lt}
use native.Mathlib.Decide.{dec_lt}
use native.Mathlib.Omega.{arith}
use borrow.Author.Tests.{ltb-true, leb-true, leb-false}
use lib.Dec.{ltb, leb, lit≤}
use lib.Pow.{pow_pos, shl_lt}
use lib.Ieee.Nearest.{div_mono}
use Rattle.lerc_words.specs.Res.{ok, require}
use Rattle.lerc_words.proofs.Binding.{bind_is, require-is}
use Rattle.lerc_numeric.specs.Numeric.{bits64, field, finite, mag, negative, signed, sum, scaled, less, lesser}
use Rattle.lerc_numeric.specs.Kinds.{type_size, modulus, signed_kind, integer, value_of, whole, bound, cut}
use Rattle.lerc_numeric.proofs.Magnitude.{mag-lt}
use Rattle.lerc_numeric.proofs.Integers.{modulus-ge, modulus-even, modulus-le, value-int, bound-le, cut_in}
use Rattle.lerc_numeric.proofs.Right.{negative-signed, rest-signed, mag-signed, bits-lt, finite64, exact64}
use Rattle.lerc_numeric.proofs.Monotone.{at_least, less-asym, sum-grows, scaled_sign}

-- ---- a value is held exactly where it is finite and its whole part lies in the range
pub record KindHolds (kind w : ℕ) : Type 0 where
  pub integers : kind < 6
  pub is_finite : field w < 2047
  pub inside : whole w < bound kind (negative w)

-- the word that is stored then
abbrev pub word_of : ℕ → ℕ → ℕ
word_of kind w = cond (negative w) ((modulus kind - whole w) % modulus kind) (whole w)

pub held_cut : (kind w : ℕ) → KindHolds kind w → cut kind w ≡ ok (word_of kind w)
held_cut kind w h = cut_in kind w (whole w) (bound kind (negative w)) refl refl h.integers h.is_finite h.inside

all_three : (a b c : Bool) → (a && b && c) ≡ true → (a ≡ true) × (b ≡ true) × (c ≡ true)
all_three true true true e = (refl, refl, refl)
all_three true true false e = absurd (let z : ◌≡◌ {A = ℕ} 0 1 = cc in omega arith)
all_three true false c e = absurd (let z : ◌≡◌ {A = ℕ} 0 1 = cc in omega arith)
all_three false b c e = absurd (let z : ◌≡◌ {A = ℕ} 0 1 = cc in omega arith)

pub cut-held : (kind w v : ℕ) → cut kind w ≡ ok v → KindHolds kind w
unfolding cut
cut-held kind w v e =
    let test = ltb kind 6 && finite w && ltb (whole w) (bound kind (negative w)) in
    let b = bind_is (require test 9) (λ _. ok (word_of kind w)) e in
    let t = all_three (ltb kind 6) (finite w) (ltb (whole w) (bound kind (negative w))) (require-is test 9 b.1) in
    record { integers = ltb-true kind 6 t.0; is_finite = ltb-true (field w) 2047 t.1; inside = ltb-true (whole w) (bound kind (negative w)) t.2 }

pub cut-lt : (kind w v : ℕ) → cut kind w ≡ ok v → v < modulus kind
cut-lt kind w v e =
    let h = cut-held kind w v e in
    let z : v ≡ word_of kind w = cc (held_cut kind w h) in
    rw (z) (go (negative w) h.inside)
  where
    go : (s : Bool) → whole w < bound kind s → cond s ((modulus kind - whole w) % modulus kind) (whole w) < modulus kind
    go true l = mod-lt (modulus kind - whole w) (pow_pos (8 * type_size kind))
    go false l = lt_of_lt_of_le l (bound-le kind false)

-- ---- a word of the kind comes back from its value
module _ (s : Bool) (a : ℕ) (h : a < 2 ^ 53) where
  whole-lt : bits64 (a * 2 ^ 1074) < 2047 * 2 ^ 52
  whole-lt = finite64 (a * 2 ^ 1074) (lt_of_lt_of_le (shl_lt 53 1074 h) (lit≤ tt))

  pub whole-mag : mag (signed s (bits64 (a * 2 ^ 1074))) ≡ a * 2 ^ 1074
  whole-mag = mag-signed s (bits64 (a * 2 ^ 1074)) (bits-lt (a * 2 ^ 1074)) ∙ exact64 a 1074 h whole-lt

  pub whole_part : whole (signed s (bits64 (a * 2 ^ 1074))) ≡ a
  unfolding whole
  whole_part = rw (whole-mag) (mul-div_cancel a (pow_pos 1074))

  pub whole-field : field (signed s (bits64 (a * 2 ^ 1074))) < 2047
  whole-field = rw (rest-signed s (bits64 (a * 2 ^ 1074)) (bits-lt (a * 2 ^ 1074))) (fine (bits64 (a * 2 ^ 1074)) whole-lt)
    where
      fine : (n : ℕ) → n < 2047 * 2 ^ 52 → n / 2 ^ 52 < 2047
      fine n l = omega arith

pub cut-integer : (kind v : ℕ) → kind < 6 → v < modulus kind → cut kind (integer kind v) ≡ ok v
unfolding integer
cut-integer kind v k l = go (signed_kind kind) (leb (modulus kind / 2) v) refl refl
  where
    m : ℕ
    m = modulus kind

    m-le : m ≤ 2 ^ 32
    m-le = modulus-le kind k

    -- the number a, with the sign s, is in range, and v its word
    held : (s : Bool) (a : ℕ) → a < 2 ^ 53 → a < bound kind s → cond s ((m - a) % m) a ≡ v → cut kind (signed s (bits64 (a * 2 ^ 1074))) ≡ ok v
    held s a h b e =
        let n = negative-signed s (bits64 (a * 2 ^ 1074)) (bits-lt (a * 2 ^ 1074)) in
        cut_in kind (signed s (bits64 (a * 2 ^ 1074))) a (bound kind s) (sym (whole_part s a h)) (rw (n)) k (whole-field s a h) b ∙ rw (n, e)

    go : (t u : Bool) → signed_kind kind ≡ t → leb (m / 2) v ≡ u → cut kind (signed (t && u) (bits64 (cond (t && u) (m - v) v * 2 ^ 1074))) ≡ ok v
    go true true et eu =
        let g : m / 2 ≤ v = leb-true (m / 2) v eu in
        let z : m - (m - v) ≡ v = omega (arith, l) in
        held true (m - v) (omega (arith, m-le)) (rw (et) (omega (arith, g, modulus-even kind))) (rw (z) (mod-eq_of_lt l))
    go true false et eu =
        let g : v < m / 2 = leb-false (m / 2) v eu in
        held false v (omega (arith, l, m-le)) (rw (et) (omega (arith, g))) refl
    go false u et eu = held false v (omega (arith, l, m-le)) (rw (et) l) refl

-- so the value of any word is held, by its own kind and by each with a wider range
pub value-held : (kind w : ℕ) → kind < 6 → KindHolds kind (value_of kind w)
value-held kind w h =
    let v = w % modulus kind in
    let l : v < modulus kind = mod-lt w (pow_pos (8 * type_size kind)) in
    rw (← value-int kind w (modulus kind) (integer kind v) refl h refl) (cut-held kind (integer kind v) v (cut-integer kind v h l))

pub held-wider : (k kind x : ℕ) → kind < 6 → bound k true ≤ bound kind true → bound k false ≤ bound kind false → KindHolds k x → KindHolds kind x
held-wider k kind x h t f held = record { integers = h; is_finite = held.is_finite; inside = lt_of_lt_of_le held.inside (go (negative x)) }
  where
    go : (s : Bool) → bound k s ≤ bound kind s
    go true = t
    go false = f

-- ---- a value between two that are held is held
bound-pos : (kind : ℕ) (s : Bool) → 0 < bound kind s
bound-pos kind s = go (signed_kind kind) s
  where
    go : (a s : Bool) → 0 < cond a (modulus kind / 2 + cond s 1 0) (cond s 1 (modulus kind))
    go true true = omega (arith, modulus-ge kind)
    go true false = omega (arith, modulus-ge kind)
    go false true = omega (arith, modulus-ge kind)
    go false false = omega (arith, modulus-ge kind)

-- a value no farther from 0 than one that is held, and of its sign or 0
nearer : (kind x y : ℕ) → KindHolds kind y → mag x ≤ mag y → (negative x ≡ negative y) ⊎ (mag x ≡ 0) → KindHolds kind x
unfolding whole
nearer kind x y h l c = record { integers = h.integers; is_finite = fine (dec_lt (y % 2 ^ 63) (x % 2 ^ 63)); inside = range c }
  where
    fine : Dec (y % 2 ^ 63 < x % 2 ^ 63) → field x < 2047
    fine (yes g) = absurd (not-le_of_lt (mag-lt y x g) l)
    fine (no g) = omega (arith, h.is_finite)

    range : (negative x ≡ negative y) ⊎ (mag x ≡ 0) → mag x / 2 ^ 1074 < bound kind (negative x)
    range (inl e) = lt_of_le_of_lt (div_mono (mag x) (2 ^ 1074) (mag y) (2 ^ 1074) (pow_pos 1074) (pow_pos 1074) (mul-le-mul_right (2 ^ 1074) l)) (rw (e) h.inside)
    range (inr z) = rw (z) (bound-pos kind (negative x))

pub held-between : (kind low x high : ℕ) → KindHolds kind low → KindHolds kind high → less x low ≡ false → less high x ≡ false → KindHolds kind x
held-between kind low x high hl hh l h = go (negative x) (negative low) (negative high) refl refl refl
  where
    go : (s t u : Bool) → negative x ≡ s → negative low ≡ t → negative high ≡ u → KindHolds kind x
    go false t false es et eu =
        let b : mag x + 0 ≤ mag high + 0 = rw (es, eu) at (at_least high x h) in
        nearer kind x high hh (omega arith) (inl (es ∙ sym eu))
    go false t true es et eu =
        let b : mag x + mag high ≤ 0 + 0 = rw (es, eu) at (at_least high x h) in
        nearer kind x high hh (omega arith) (inr (omega arith))
    go true true u es et eu =
        let b : 0 + mag x ≤ 0 + mag low = rw (es, et) at (at_least x low l) in
        nearer kind x low hl (omega arith) (inl (es ∙ sym et))
    go true false u es et eu =
        let b : mag low + mag x ≤ 0 + 0 = rw (es, et) at (at_least x low l) in
        nearer kind x low hl (omega arith) (inr (omega arith))

-- ---- so is an offset with any number of steps that are not negative, clamped to a maximum, where the kind holds both
pub held-clamped : (kind offset error q maximum : ℕ) → KindHolds kind offset → KindHolds kind maximum → negative error ≡ false → KindHolds kind (lesser (sum offset (scaled error q)) maximum)
unfolding lesser
held-clamped kind offset error q maximum ho hm e = go (less (sum offset (scaled error q)) maximum) refl
  where
    x : ℕ
    x = sum offset (scaled error q)

    go : (t : Bool) → less x maximum ≡ t → KindHolds kind (cond t x maximum)
    go true l = held-between kind offset x maximum ho hm (sum-grows offset (scaled error q) ho.is_finite (scaled_sign error q ∙ e)) (less-asym x maximum l)
    go false l = hm
