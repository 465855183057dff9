-- Tests that the code makes in fewer steps than the rules say.
-- Assumes nothing.
use Prim.Native.Nat.{ℕ, ◌+◌, ◌*◌, ◌/◌, ◌%◌, ◌^◌, ◌≤◌, ◌<◌}
use mathlib.Core.Path.{◌≡◌, ◌∙◌, sym, ap, refl}
use mathlib.Core.Bool.{Bool, true, false, not, ◌&&◌, and-false, and_comm}
use mathlib.Core.List.{List}
use native.Mathlib.Omega.{arith}
use native.Mathlib.Decide.{dec_lt, dec_le}
use lib.Dec.{leb, ltb, eqb}
use borrow.Author.Tests.{lt-ltb, le-ltb, le-leb, lt-leb, eq-eqb, ne_eqb, eqb-true, eqb-false}
use Rattle.lerc_words.specs.Res.{little}
use Rattle.lerc_words.proofs.Little.{little-split}
use Rattle.lerc_numeric.specs.Numeric.{finite, less}
use Rattle.lerc_numeric.proofs.Compare.{less-pp, less-pn, less-np, less-nn}
use Rattle.lerc_header.specs.declared.Header.{Header}
use Rattle.lerc_header.specs.Header.{ranges_at, error_right, pair_right, fields_right, key, version, key_right}

-- ---- the key: eight bytes at once, the version's first two among them

abbrev pub key_bits : ℕ
key_bits = 0x420326372654C

pub key-bits : (s : List ℕ) → (eqb (little 8 s 0) key_bits && eqb (little 4 s 6) version) ≡ key_right s
unfolding key_right
key-bits s = go (eqb (little 4 s 6) version) refl
  where
    eight : little 8 s 0 ≡ little 6 s 0 + 256 ^ 6 * little 2 s 6
    eight = little-split 6 2 s 0

    four : little 4 s 6 ≡ little 2 s 6 + 256 ^ 2 * little 2 s 8
    four = little-split 2 2 s 6

    same : little 4 s 6 ≡ version → (t : Bool) → eqb (little 6 s 0) key ≡ t → eqb (little 8 s 0) key_bits ≡ t
    same v true e =
        let p : little 6 s 0 ≡ key = eqb-true _ _ e in
        eq-eqb (little 8 s 0) key_bits (omega (arith, eight, four))
    same v false e = ne_eqb (little 8 s 0) key_bits (λ z. eqb-false (little 6 s 0) key e (omega (arith, eight, four)))

    go : (t : Bool) → eqb (little 4 s 6) version ≡ t → (eqb (little 8 s 0) key_bits && t) ≡ (eqb (little 6 s 0) key && t)
    go true e = ap (λ (x : Bool). x && true) (same (eqb-true _ _ e) (eqb (little 6 s 0) key) refl)
    go false e = and-false (eqb (little 8 s 0) key_bits) ∙ sym (and-false (eqb (little 6 s 0) key))

-- ---- minimum and maximum, by their signs

-- the bits of the least that are not finite
abbrev pub infinity : ℕ
infinity = 0x7FF0000000000000

finite-below : (w : ℕ) → w % 2 ^ 63 < infinity → finite w ≡ true
finite-below w h =
    let l : w % 2 ^ 63 / 2 ^ 52 < 2047 = omega arith in
    lt-ltb _ _ l

infinite-above : (w : ℕ) → infinity ≤ w % 2 ^ 63 → finite w ≡ false
infinite-above w h =
    let l : 2047 ≤ w % 2 ^ 63 / 2 ^ 52 = omega arith in
    le-ltb _ _ l

-- what is left of the rule
paired : (low high : ℕ) {t : Bool} → finite low ≡ true → finite high ≡ true → less high low ≡ t → pair_right low high ≡ not t
unfolding pair_right
paired low high p q e = rw (p, q, e)

module _ (low high : ℕ) where
  lesser : less high low ≡ true → pair_right low high ≡ false
  unfolding pair_right
  lesser e = rw (e) (and-false (finite low && finite high))

  unbounded : finite high ≡ false → pair_right low high ≡ false
  unfolding pair_right
  unbounded e = rw (e, and-false (finite low))

  -- neither has a sign
  pub pair-plain : low < 2 ^ 63 → high < infinity → leb low high ≡ pair_right low high
  pair-plain l h = go (dec_le low high)
    where
      go : Dec (low ≤ high) → leb low high ≡ pair_right low high
      go (yes p) =
          let k : low % 2 ^ 63 ≤ high % 2 ^ 63 = omega arith in
          le-leb _ _ p ∙ sym (paired low high (finite-below low (omega arith)) (finite-below high (omega arith)) (sym (less-pp high low (omega arith) l) ∙ le-ltb _ _ k))
      go (no p) =
          let k : high % 2 ^ 63 < low % 2 ^ 63 = omega arith in
          let r : high < low = omega arith in
          lt-leb _ _ r ∙ sym (lesser (sym (less-pp high low (omega arith) l) ∙ lt-ltb _ _ k))

  -- the maximum alone may have one: then both are zeros
  pub pair-zeros : low < 2 ^ 63 → infinity ≤ high → high < 2 ^ 64 → (eqb low 0 && eqb high (2 ^ 63)) ≡ pair_right low high
  pair-zeros l h m = go (dec_lt high (2 ^ 63)) (eqb low 0) (eqb high (2 ^ 63)) refl refl
    where
      go : Dec (high < 2 ^ 63) → (z e : Bool) → eqb low 0 ≡ z → eqb high (2 ^ 63) ≡ e → (z && e) ≡ pair_right low high
      go (yes p) z true _ d = absurd (omega (arith, eqb-true high (2 ^ 63) d))
      go (yes p) z false _ d = and-false z ∙ sym (unbounded (infinite-above high (omega arith)))
      go (no p) true true c d =
          let k : high % 2 ^ 63 + low % 2 ^ 63 ≤ 0 = omega (arith, eqb-true low 0 c, eqb-true high (2 ^ 63) d) in
          let f : finite high ≡ true = finite-below high (omega (arith, eqb-true high (2 ^ 63) d)) in
          sym (paired low high (finite-below low (omega (arith, eqb-true low 0 c))) f (sym (less-np high low (omega arith) l) ∙ le-ltb _ _ k))
      go (no p) false e c d =
          let k : 0 < high % 2 ^ 63 + low % 2 ^ 63 = omega (arith, eqb-false low 0 c) in
          sym (lesser (sym (less-np high low (omega arith) l) ∙ lt-ltb _ _ k))
      go (no p) true false c d =
          let k : 0 < high % 2 ^ 63 + low % 2 ^ 63 = omega (arith, eqb-false high (2 ^ 63) d) in
          sym (lesser (sym (less-np high low (omega arith) l) ∙ lt-ltb _ _ k))

  -- a minimum that is not finite
  pub pair-endless : 2 ^ 63 + infinity ≤ low → low < 2 ^ 64 → false ≡ pair_right low high
  unfolding pair_right
  pair-endless l m = rw (infinite-above low (omega arith))

  -- the minimum alone has a sign
  pub pair-across : 2 ^ 63 ≤ low → low < 2 ^ 63 + infinity → high < infinity → true ≡ pair_right low high
  pair-across l m h = sym (paired low high (finite-below low (omega arith)) (finite-below high (omega arith)) (sym (less-pn high low (omega arith) l)))

  -- or both do
  pub pair-signs : 2 ^ 63 ≤ low → low < 2 ^ 63 + infinity → infinity ≤ high → high < 2 ^ 64 → (leb (2 ^ 63) high && leb high low) ≡ pair_right low high
  pair-signs l m h n = go (dec_lt high (2 ^ 63)) (dec_le high low)
    where
      go : Dec (high < 2 ^ 63) → Dec (high ≤ low) → (leb (2 ^ 63) high && leb high low) ≡ pair_right low high
      go (yes p) _ = rw (lt-leb _ _ p) (sym (unbounded (infinite-above high (omega arith))))
      go (no p) (yes q) =
          let s : 2 ^ 63 ≤ high = omega arith in
          let k : high % 2 ^ 63 ≤ low % 2 ^ 63 = omega arith in
          rw (le-leb _ _ s, le-leb _ _ q) (sym (paired low high (finite-below low (omega arith)) (finite-below high (omega arith)) (sym (less-nn high low s l) ∙ le-ltb _ _ k)))
      go (no p) (no q) =
          let s : 2 ^ 63 ≤ high = omega arith in
          let k : low % 2 ^ 63 < high % 2 ^ 63 = omega arith in
          let r : low < high = omega arith in
          rw (le-leb _ _ s, lt-leb _ _ r) (sym (lesser (sym (less-nn high low s l) ∙ lt-ltb _ _ k)))

-- ---- the fields: the pair last, and only where the others are right

swapped : (x p l t : Bool) → (x && l) ≡ t → (t && p) ≡ (x && p && l)
swapped true p l t e = rw (← e) (and_comm l p)
swapped false p l t e = rw (← e)

pub fields-judged : (h : Header) (t : Bool)
    → (ltb 0 h.rows && ltb 0 h.columns && ltb 0 h.depth && ltb 0 h.side && leb h.valid (h.rows * h.columns) && leb h.kind 7 && error_right h.error && leb (ranges_at h) h.size) ≡ t
    → (t && pair_right h.min h.max) ≡ fields_right h
unfolding fields_right
fields-judged h t e =
    swapped
    (ltb 0 h.rows && ltb 0 h.columns && ltb 0 h.depth && ltb 0 h.side && leb h.valid (h.rows * h.columns) && leb h.kind 7 && error_right h.error)
    (pair_right h.min h.max)
    (leb (ranges_at h) h.size)
    t e
