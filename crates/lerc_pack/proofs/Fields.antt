-- Fields of a pack out of eight bytes at a time.
-- Assumes nothing.
use mathlib.Core.Path.{◌≡◌, ◌∙◌, ap, refl}
use mathlib.Core.Bool.{Bool, true, false, ◌&&◌}
use mathlib.Core.List.{List}
use Prim.Native.Nat.{ℕ, ◌+◌, ◌*◌, ◌/◌, ◌%◌, ◌^◌, ◌≤◌, ◌<◌}
use native.Mathlib.Omega.{arith}
use native.Mathlib.Nat.{add-zero}
use lib.ListN.{get_or, take, drop}
use lib.Seq.{get_or-take, get_or-drop}
use lib.Dec.{eqb}
use Rattle.lerc_words.specs.Res.{little}
use borrow.Author.Tests.{eqb-true, eq-eqb}
use Rattle.lerc_words.proofs.Little.{Bytes, little-low, little-high, little-same, little-split, little-lt}
use Rattle.lerc_words.proofs.Binding.{and_is}
use Rattle.lerc_slices.proofs.Begins.{both_ways}
use Rattle.lerc_pack.specs.Contents.{entry_place}
use Rattle.lerc_pack.specs.Pack.{entry_part, entry_of, entry_at, zeros_right}

-- n bytes behind the first i of a longer number
pub digit : (i n j : ℕ) (s : List ℕ) (at : ℕ) → Bytes s → little (i + (n + j)) s at / 256 ^ i % 256 ^ n ≡ little n s (at + i)
digit i n j s at b = ap (λ (x : ℕ). x % 256 ^ n) (little-high i (n + j) s at b) ∙ little-low n j s (at + i) b

-- a number within a part of m bytes
pub inside : (m n k at : ℕ) (s : List ℕ) → k + n ≤ m → little n (take m (drop at s)) k ≡ little n s (at + k)
inside m n k at s h = little-same n (take m (drop at s)) s k (at + k) same
  where
    same : (i : ℕ) → i < n → get_or (take m (drop at s)) (k + i) 0 ≡ get_or s (at + k + i) 0
    same i l =
        let e : at + (k + i) ≡ at + k + i = omega arith in
        get_or-take m (drop at s) (k + i) 0 (omega arith) ∙ get_or-drop at s (k + i) 0 ∙ ap (λ (x : ℕ). get_or s x 0) e

-- and within the 16 bytes of an entry
pub within : (n k at : ℕ) (s : List ℕ) → k + n ≤ 16 → little n (take 16 (drop at s)) k ≡ little n s (at + k)
within n k at s h = inside 16 n k at s h

-- an entry as the code takes it apart: two words
pub entry-is : (s : List ℕ) (i front back : ℕ) → Bytes s → front ≡ little 8 s (entry_place i) → back ≡ little 8 s (entry_place i + 8)
    → record {
      row = front % 65536;
      column = front / 65536 % 65536;
      kind = front / 4294967296 % 256;
      depth = front / 1099511627776 % 256 + 1;
      start = back % 4294967296;
      length = back / 4294967296;
    } ≡ entry_at s i
unfolding entry_of
entry-is s i front back b f r =
    let e : entry_place i + 8 + 4 ≡ entry_place i + 12 = omega arith in
    rw (
      f,
      r,
      within 2 0 (entry_place i) s (omega arith),
      within 2 2 (entry_place i) s (omega arith),
      within 1 4 (entry_place i) s (omega arith),
      within 1 5 (entry_place i) s (omega arith),
      within 4 8 (entry_place i) s (omega arith),
      within 4 12 (entry_place i) s (omega arith),
      little-low 2 6 s (entry_place i) b,
      digit 2 2 4 s (entry_place i) b,
      digit 4 1 3 s (entry_place i) b,
      digit 5 1 2 s (entry_place i) b,
      little-low 4 4 s (entry_place i + 8) b,
      little-high 4 4 s (entry_place i + 8) b,
      e,
      add-zero,
    )

pub zeros-is : (s : List ℕ) (i front : ℕ) → Bytes s → front ≡ little 8 s (entry_place i) → eqb (front / 281474976710656) 0 ≡ zeros_right (entry_part s i)
unfolding zeros_right
zeros-is s i front b f = rw (f, within 2 6 (entry_place i) s (omega arith), little-high 6 2 s (entry_place i) b)

-- version and zeros as one number
pub version-is : (t : Bool) (s : List ℕ) → Bytes s → (t && eqb (little 4 s 0) 1) ≡ (t && eqb (little 1 s 0) 1 && eqb (little 3 s 1) 0)
version-is false s b = refl
version-is true s b = both_ways _ _ to from
  where
    both : little 4 s 0 ≡ little 1 s 0 + 256 * little 3 s 1
    both = little-split 1 3 s 0

    to : eqb (little 4 s 0) 1 ≡ true → (eqb (little 1 s 0) 1 && eqb (little 3 s 1) 0) ≡ true
    to e =
        let h : little 4 s 0 ≡ 1 = eqb-true _ _ e in
        let l : little 1 s 0 < 256 = little-lt 1 s 0 b in
        let one : little 1 s 0 ≡ 1 = omega (arith, both, h, l) in
        let rest : little 3 s 1 ≡ 0 = omega (arith, both, h, l) in
        rw (eq-eqb _ _ one, eq-eqb _ _ rest)

    from : (eqb (little 1 s 0) 1 && eqb (little 3 s 1) 0) ≡ true → eqb (little 4 s 0) 1 ≡ true
    from e =
        let (f, g) = and_is (eqb (little 1 s 0) 1) _ e in
        let one : little 1 s 0 ≡ 1 = eqb-true _ _ f in
        let rest : little 3 s 1 ≡ 0 = eqb-true _ _ g in
        let all : little 4 s 0 ≡ 1 = omega (arith, both, one, rest) in
        eq-eqb _ _ all

-- ---- fields have as many bytes as they have

module _ (b : List ℕ) (bytes : Bytes b) (i : ℕ) where
  pub row_fits : (entry_at b i).row < 65536
  unfolding entry_of
  row_fits = rw (within 2 0 (entry_place i) b (omega arith)) (little-lt 2 b (entry_place i + 0) bytes)

  pub column_fits : (entry_at b i).column < 65536
  unfolding entry_of
  column_fits = rw (within 2 2 (entry_place i) b (omega arith)) (little-lt 2 b (entry_place i + 2) bytes)

  pub start_fits : (entry_at b i).start < 4294967296
  unfolding entry_of
  start_fits = rw (within 4 8 (entry_place i) b (omega arith)) (little-lt 4 b (entry_place i + 8) bytes)

  pub length-fits : (entry_at b i).length < 4294967296
  unfolding entry_of
  length-fits = rw (within 4 12 (entry_place i) b (omega arith)) (little-lt 4 b (entry_place i + 12) bytes)
