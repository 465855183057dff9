-- Laws of little-endian numbers, and of words at a place.
-- Assumes nothing.
use mathlib.Core.Path.{◌≡◌, ◌∙◌, sym, ap, refl}
use mathlib.Core.List.{List, ◌++◌}
use Prim.Native.Nat.{ℕ, zero, suc, ◌+◌, ◌-◌, ◌*◌, ◌/◌, ◌%◌, ◌^◌, ◌≤◌, ◌<◌, min}
use native.Mathlib.Decide.{dec_le}
use lib.Dec.{leb}
use native.Mathlib.Omega.{arith}
use native.Mathlib.Nat.{pow-suc, pow-succ', pow-zero, pow-le-pow_right, mul_assoc, mul-zero, zero-add, add_assoc, add-zero, suc-add, add-suc, one-mul, add-mul-mod_self_left, add-mul-div_left, div-eq_of_lt, mod-eq_of_lt, one-le-pow}
use lib.ListN.{length, get_or, get_or-eq_default}
use lib.Seq.{get_or-append-add}
use Rattle.lerc_words.specs.Res.{Res, ok, fail, refuse, placed, marked, little, word_at, word_says}
use Rattle.lerc_words.proofs.Marking.{marked-is, Bare, bare-then, bare-no}
use Rattle.lerc_words.specs.declared.Refusal.{Refusal}
use lib.Bits.{bit_and, and_mask}
use lib.Pow.{pow-add, pow-lt}
use borrow.Author.Tests.{le-leb, lt-leb}
use native.Mathlib.Numerals.{add-one, add-two, add-three, add-four, add_five, add_six, add_seven}

-- every entry is a byte
abbrev pub Bytes : List ℕ → Type 0
Bytes s = (i : ℕ) → get_or s i 0 < 256

pub little-suc : (n : ℕ) (s : List ℕ) (at : ℕ) → little (suc n) s at ≡ get_or s at 0 + 256 * little n s (suc at)
unfolding little
little-suc n s at = refl

-- past the end there are zeros
pub little-past : (n : ℕ) (s : List ℕ) (at : ℕ) → length s ≤ at → little n s at ≡ 0
unfolding little
little-past zero s at h = refl
little-past (suc n) s at h = rw (get_or-eq_default s 0 h, little-past n s (suc at) (omega arith))

pub little-split : (i j : ℕ) (s : List ℕ) (at : ℕ) → little (i + j) s at ≡ little i s at + 256 ^ i * little j s (at + i)
unfolding little
little-split zero j s at = rw (zero-add, pow-zero, add-zero, one-mul, zero-add)
little-split (suc i) j s at =
    let e : at + suc i ≡ suc at + i = omega arith in
    let h : little (i + j) s (suc at) ≡ little i s (suc at) + 256 ^ i * little j s (suc at + i) = little-split i j s (suc at) in
    rw (suc-add, e, pow-succ', h, mul_assoc) (omega arith)

pub little-lt : (n : ℕ) (s : List ℕ) (at : ℕ) → Bytes s → little n s at < 256 ^ n
unfolding little
little-lt zero s at b = rw (pow-zero) (omega arith)
little-lt (suc n) s at b =
    let h : little n s (suc at) < 256 ^ n = little-lt n s (suc at) b in
    let e : 256 ^ suc n ≡ 256 ^ n * 256 = pow-suc 256 n in
    omega (arith, b at)

-- the lowest i bytes, and what stands above them
pub little-low : (i j : ℕ) (s : List ℕ) (at : ℕ) → Bytes s → little (i + j) s at % 256 ^ i ≡ little i s at
little-low i j s at b =
    let h = little-lt i s at b in
    rw (little-split i j s at) (add-mul-mod_self_left (little i s at) (256 ^ i) (little j s (at + i)) ∙ mod-eq_of_lt h)

pub little-high : (i j : ℕ) (s : List ℕ) (at : ℕ) → Bytes s → little (i + j) s at / 256 ^ i ≡ little j s (at + i)
little-high i j s at b =
    let h = little-lt i s at b in
    let p : 0 < 256 ^ i = one-le-pow i 256 (omega arith) in
    rw (little-split i j s at) (add-mul-div_left (little i s at) (little j s (at + i)) p ∙ rw (div-eq_of_lt h) (zero-add _))

-- of fewer than eight bytes: there is room for one more
pub little-room : (n : ℕ) (s : List ℕ) (at : ℕ) → Bytes s → n ≤ 7 → little n s at < 2 ^ 56
little-room n s at b h =
    let p : 256 ^ n ≤ 256 ^ 7 = pow-le-pow_right {n = 256} (omega arith) h in
    omega (arith, little-lt n s at b)

-- eight bytes of which only the first n are within s
pub little-short : (n : ℕ) (s : List ℕ) (at : ℕ) → n ≤ 8 → length s ≤ at + n → little 8 s at ≡ little n s at
little-short n s at h k =
    let e : n + (8 - n) ≡ 8 = omega arith in
    let z : little (n + (8 - n)) s at ≡ little n s at + 256 ^ n * little (8 - n) s (at + n) = little-split n (8 - n) s at in
    rw (e, little-past (8 - n) s (at + n) k, mul-zero, add-zero) at z

-- a place past the end may be taken for the end
pub little-end : (n : ℕ) (s : List ℕ) (at : ℕ) → little n s (min at (length s)) ≡ little n s at
little-end n s at = go (dec_le (length s) at)
  where
    go : Dec (length s ≤ at) → little n s (min at (length s)) ≡ little n s at
    go (yes p) = little-past n s (min at (length s)) (omega arith) ∙ sym (little-past n s at p)
    go (no q) = let e : min at (length s) ≡ at = omega arith in rw (e)

-- the bytes from k on are those from `at` on
pub little-tail : (s : List ℕ) (at k : ℕ) → length s < at + 8 → k ≤ length s → min at (length s) ≤ k → k ≤ at → little (length s - k) s k ≡ little 8 s at
unfolding little
little-tail s at k h l m d = go (dec_le (length s) at)
  where
    go : Dec (length s ≤ at) → little (length s - k) s k ≡ little 8 s at
    go (yes p) =
        let e : length s - k ≡ 0 = omega arith in
        rw (little-past 8 s at p, e)
    go (no q) =
        let e : k ≡ at = omega arith in
        let j : length s - at ≤ 8 = omega arith in
        let r : length s ≤ at + (length s - at) = omega arith in
        rw (e) (sym (little-short (length s - at) s at j r))

-- only the bytes that are counted matter
pub little-same : (n : ℕ) (s t : List ℕ) (at bt : ℕ) → ((i : ℕ) → i < n → get_or s (at + i) 0 ≡ get_or t (bt + i) 0) → little n s at ≡ little n t bt
unfolding little
little-same zero s t at bt h = refl
little-same (suc n) s t at bt h =
    let h0 : get_or s at 0 ≡ get_or t bt 0 = rw (add-zero, add-zero) at (h 0 (omega arith)) in
    let hs : little n s (suc at) ≡ little n t (suc bt) = little-same n s t (suc at) (suc bt) (λ i l. rw (suc-add, suc-add) (rw (add-suc, add-suc) at (h (suc i) (omega arith)))) in
    rw (h0, hs)

-- eight bytes as the code adds them
pub little-quads : (s : List ℕ) (at : ℕ) → little 8 s at
    ≡ (get_or s at 0 + 256 * (get_or s (at + 1) 0 + 256 * (get_or s (at + 2) 0 + 256 * get_or s (at + 3) 0)))
    + 4294967296 * (get_or s (at + 4) 0 + 256 * (get_or s (at + 5) 0 + 256 * (get_or s (at + 6) 0 + 256 * get_or s (at + 7) 0)))
unfolding little
little-quads s at = rw (add-one, add-two, add-three, add-four, add_five, add_six, add_seven) (omega arith)

pub byte_pow : (n : ℕ) → 256 ^ n ≡ 2 ^ (8 * n)
byte_pow zero = refl
byte_pow (suc n) =
    let e : 8 * suc n ≡ 8 * n + 8 = omega arith in
    rw (e, pow-add 2 (8 * n) 8, ← byte_pow n, pow-suc)

-- a shift of 1 is a power
pub unit : (d : ℕ) → d < 64 → (1 * 2 ^ d) % 2 ^ 64 ≡ 2 ^ d
unit d h = ap (λ (x : ℕ). x % 2 ^ 64) (one-mul (2 ^ d)) ∙ mod-eq_of_lt (pow-lt h)

-- the lowest bytes of eight
pub little-word : (n : ℕ) (s : List ℕ) (at : ℕ) → Bytes s → n ≤ 8 → little 8 s at % 2 ^ (8 * n) ≡ little n s at
little-word n s at b h =
    let e : n + (8 - n) ≡ 8 = omega arith in
    let z : little (n + (8 - n)) s at % 256 ^ n ≡ little n s at = little-low n (8 - n) s at b in
    rw (e, byte_pow) at z

-- the same by a mask
pub little-masked : (n : ℕ) (s : List ℕ) (at v low : ℕ) → Bytes s → n ≤ 8 → v ≡ little 8 s at → low ≡ 2 ^ (8 * n) - 1 → bit_and v low ≡ little n s at
little-masked n s at v low b h e d = rw (e, d, and_mask) (little-word n s at b h)

pub word_at-ok : (n : ℕ) (s : List ℕ) (at : ℕ) → at + n ≤ length s → word_at n s at ≡ ok (little n s at)
unfolding word_at
word_at-ok n s at h = rw (le-leb (at + n) (length s) h)

pub word_at-no : (n : ℕ) (s : List ℕ) (at : ℕ) → length s < at + n → word_at n s at ≡ fail (refuse 1)
unfolding word_at
word_at-no n s at h = rw (lt-leb (at + n) (length s) h)

pub word_wide : (s : List ℕ) (at size : ℕ) → 8 < size → word_says s at size ≡ fail (refuse 1)
unfolding word_says
word_wide s at size h = rw (lt-leb size 8 h)

pub word-past : (s : List ℕ) (at size : ℕ) → size ≤ 8 → length s < at + size → word_says s at size ≡ fail (refuse 1)
unfolding word_says
word-past s at size h k = rw (le-leb size 8 h, word_at-no size s at k)

pub word_ok : (s : List ℕ) (at size : ℕ) → size ≤ 8 → at + size ≤ length s → word_says s at size ≡ ok (little size s at)
unfolding word_says
word_ok s at size h k = rw (le-leb size 8 h, word_at-ok size s at k)

-- a word of at most eight bytes is a word_at
pub word-at : (s : List ℕ) (at size : ℕ) → size ≤ 8 → word_says s at size ≡ word_at size s at
unfolding word_says
word-at s at size h = rw (le-leb size 8 h)

-- what was read lies within, and is the word_at there
pub record Stands (n : ℕ) (s : List ℕ) (at v : ℕ) : Type 0 where
  pub inside : at + n ≤ length s
  pub value : v ≡ little n s at

pub word_at-is : (n : ℕ) (s : List ℕ) (at v : ℕ) → word_at n s at ≡ ok v → Stands n s at v
word_at-is n s at v e = go (dec_le (at + n) (length s))
  where
    go : Dec (at + n ≤ length s) → Stands n s at v
    go (yes p) = record { inside = p; value = (cc (word_at-ok n s at p)) }
    go (no q) = absurd (let h : length s < at + n = omega arith in let w = word_at-no n s at h in let z : ◌≡◌ {A = ℕ} 0 1 = cc in omega arith)

pub byte-lt : (s : List ℕ) (at v : ℕ) → Bytes s → word_at 1 s at ≡ ok v → v < 256
byte-lt s at v b e = rw (word_at-is 1 s at v e).value (little-lt 1 s at b)

-- the k bytes of s from `at` on stand in t from `to` on
pub record Stays (s : List ℕ) (at : ℕ) (t : List ℕ) (to k : ℕ) : Type 0 where
  pub same : (i : ℕ) → i < k → get_or s (at + i) 0 ≡ get_or t (to + i) 0
  pub room : to + k ≤ length t

pub word_at-stays : (n j : ℕ) {s t : List ℕ} {at to k v : ℕ} → word_at n s (at + j) ≡ ok v → j + n ≤ k → Stays s at t to k → word_at n t (to + j) ≡ ok v
word_at-stays n j {s} {t} {at} {to} {k} {v} e h l =
    let g : to + j + n ≤ length t = omega (arith, l.room) in
    let f : (i : ℕ) → i < n → get_or t (to + j + i) 0 ≡ get_or s (at + j + i) 0 = λ i m.
    let z : get_or s (at + (j + i)) 0 ≡ get_or t (to + (j + i)) 0 = l.same (j + i) (omega arith) in
    sym (rw (← add_assoc at j i, ← add_assoc to j i) at z) in
    word_at-ok n t (to + j) g ∙ ap ok (little-same n t s (to + j) (at + j) f ∙ sym (word_at-is n s (at + j) v e).value)

-- bytes in front of a list only move it
pub little-behind : (n : ℕ) (front rest : List ℕ) → little n (front ++ rest) (length front) ≡ little n rest 0
little-behind n front rest =
    little-same n (front ++ rest) rest (length front) 0 (λ i h. rw (zero-add) (get_or-append-add front rest i 0))

-- what could not be read passes the end
pub word_at-fails : (n : ℕ) (s : List ℕ) (at : ℕ) {r : Refusal} → word_at n s at ≡ fail r → length s < at + n
word_at-fails n s at {r} e = go (dec_le (at + n) (length s))
  where
    go : Dec (at + n ≤ length s) → length s < at + n
    go (yes p) = absurd (let h = word_at-ok n s at p in let z : ◌≡◌ {A = ℕ} 0 1 = cc in omega arith)
    go (no q) = omega arith

-- ---- what an answer of `word` that was taken apart says of the bytes

-- a word tells no place by itself
pub word_at-bare : (n : ℕ) (s : List ℕ) (at : ℕ) → Bare (word_at n s at)
unfolding word_at
word_at-bare n s at = bare-then (leb (at + n) (length s)) 1 _ refl

module _ (s : List ℕ) (at size : ℕ) {r : Res ℕ} (h : size ≤ 8) (e : r ≡ marked at (word_says s at size)) where
  answered : {m : Res ℕ} → r ≡ m → marked at (word_at size s at) ≡ m
  answered d = ap (marked at) (sym (word-at s at size h)) ∙ sym e ∙ d

  pub read_ok : {v : ℕ} → r ≡ ok v → word_at size s at ≡ ok v
  read_ok d = marked-is at _ (answered d)

  -- refused, and the place taken off
  pub read_no : {q : Refusal} → r ≡ fail q → word_at size s at ≡ fail (placed 0 q)
  read_no d = bare-no at _ (word_at-bare size s at) (answered d) refl

  -- refused: 1, at the word's first byte
  pub read-cut : {q : Refusal} → r ≡ fail q → word_at size s at ≡ fail (refuse 1)
  read-cut d = word_at-no size s at (word_at-fails size s at (read_no d))

  pub read-why : {q : Refusal} → r ≡ fail q → q ≡ placed at (refuse 1)
  read-why {q} d =
      let g : marked at (fail (refuse 1)) ≡ fail q = ap (marked at) (sym (read-cut d)) ∙ answered d in
      cc
