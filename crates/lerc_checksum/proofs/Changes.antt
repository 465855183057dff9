-- What the checksum finds out: one changed word, and two words that changed places.
-- Assumes nothing.
use mathlib.Core.Path.{◌≡◌, ◌∙◌, sym, ap, refl}
use mathlib.Core.Logic.{◌≢◌, ◌⊎◌, inl, inr, ⊎_elim}
use mathlib.Core.Bool.{Bool, true, false}
use mathlib.Core.List.{List}
use Prim.Native.Nat.{ℕ, zero, suc, ◌+◌, ◌-◌, ◌*◌, ◌/◌, ◌%◌, ◌≤◌, ◌<◌, min}
use native.Mathlib.Omega.{arith}
use native.Mathlib.Nat.{suc-mul, mul-add}
use native.Mathlib.Decide.{dec_lt}
use borrow.Author.Tests.{eqb-true, eqb-false, eq-eqb, ne_eqb}
use lib.ListN.{length, get_or, get_or-eq_default}
use lib.Dec.{eqb}
use Rattle.lerc_words.specs.Lists.{total}
use Rattle.lerc_checksum.specs.Checksum.{word, word_count, word_sum, running_sum, half, by_the_words, fold, last_sums, checksum, exceptional}
use Rattle.lerc_checksum.specs.Laws.{Bytes, difference, OneChanged, Swapped}
use Rattle.lerc_checksum.proofs.Bounds.{last-le}
use Rattle.lerc_checksum.proofs.Congruence.{Modulo, last-modulo, fold-keeps, fold-some}
use Rattle.lerc_checksum.proofs.Sentence.{half_is, half-same, checksum-low, words-high, exact, even}

-- past the last word there are zeros
pub word_none : (s : List ℕ) (k : ℕ) → word_count s ≤ k → word s k ≡ 0
unfolding word
word_none s k h =
    let p : get_or s (2 * k) 0 ≡ 0 = get_or-eq_default s 0 (omega arith) in
    let q : get_or s (2 * k + 1) 0 ≡ 0 = get_or-eq_default s 0 (omega arith) in
    omega arith

-- as many bytes, as many words
same_count : (s t : List ℕ) → length s ≡ length t → word_count t ≡ word_count s
same_count s t e = omega arith

-- ---- one word

-- a fold of such a number is at most 65,536
fold-le : (x : ℕ) → x ≤ 131175 → fold x ≤ 65536
unfolding fold
fold-le x l = omega arith

-- folds with the same 16 bits are those of numbers with the same remainder
fold-back : (x y : ℕ) → x ≤ 131175 → 0 < x → y ≤ 131175 → 0 < y → fold x % 65536 ≡ fold y % 65536 → x % 65535 ≡ y % 65535
fold-back x y l p m q e =
    let f : fold x ≡ fold y = omega (arith, fold-le x l, fold-le y m, fold-some x p, fold-some y q) in
    sym (fold-keeps x) ∙ ap (λ (z : ℕ). z % 65535) f ∙ fold-keeps y

-- equal checksums: the sums of the words are the same modulo 65,535
same_sum : (s t : List ℕ) → Bytes s → Bytes t → checksum s ≡ checksum t → word_sum s (word_count s) % 65535 ≡ word_sum t (word_count t) % 65535
same_sum s t b c e =
    let g : Modulo (last_sums s) (word_sum s (word_count s)) (running_sum s (word_count s)) = last-modulo s in
    let h : Modulo (last_sums t) (word_sum t (word_count t)) (running_sum t (word_count t)) = last-modulo t in
    let f : fold (last_sums s).first % 65536 ≡ fold (last_sums t).first % 65536 = sym (checksum-low s) ∙ ap (λ (z : ℕ). z % 65536) e ∙ checksum-low t in
    sym g.first ∙ fold-back _ _ (last-le s b).first g.some_first (last-le t c).first h.some_first f ∙ h.first

-- words that are the same but one
module _ (i : ℕ) (s t : List ℕ) (h : OneChanged i s t) where
  -- before it the sums are the same
  sum-before : (n : ℕ) → n ≤ i → word_sum s n ≡ word_sum t n
  unfolding total
  sum-before zero l = refl
  sum-before (suc n) l = omega (arith, sum-before n (omega arith), h.same n (omega arith))

  -- behind it they are apart by the two words
  sum-behind : (n : ℕ) → i < n → word_sum s n + word t i ≡ word_sum t n + word s i
  unfolding total
  sum-behind zero l = absurd (omega arith)
  sum-behind (suc n) l = go (dec_lt i n) (sum-behind n)
    where
      go : Dec (i < n) → (i < n → word_sum s n + word t i ≡ word_sum t n + word s i) → word_sum s n + word s n + word t i ≡ word_sum t n + word t n + word s i
      go (yes p) f = omega (arith, f p, h.same n (omega arith))
      go (no p) f = let e : i ≡ n = omega arith in rw (e) (omega (arith, sum-before n (omega arith)))

-- one word that is changed by anything but a multiple of 65,535 is found out
pub one_word : (i : ℕ) (s t : List ℕ) → Bytes s → Bytes t → OneChanged i s t → word s i % 65535 ≢ word t i % 65535 → checksum s ≢ checksum t
one_word i s t b c h d e = d (go (dec_lt i (word_count s)))
  where
    k : word_count t ≡ word_count s
    k = same_count s t h.long

    z : word_sum s (word_count s) % 65535 ≡ word_sum t (word_count s) % 65535
    z = rw (k) at (same_sum s t b c e)

    go : Dec (i < word_count s) → word s i % 65535 ≡ word t i % 65535
    go (yes p) = omega (arith, z, sum-behind i s t h (word_count s) p)
    go (no p) = rw (word_none s i (omega arith), word_none t i (omega (arith, k)))

-- ---- two words

-- two tests with the same answer
test-same : (a b c d : ℕ) → (a ≡ b → c ≡ d) → (c ≡ d → a ≡ b) → eqb a b ≡ eqb c d
test-same a b c d f g = go (eqb c d) refl
  where
    go : (x : Bool) → eqb c d ≡ x → eqb a b ≡ x
    go true e = eq-eqb a b (g (eqb-true c d e))
    go false e = ne_eqb a b (λ z. eqb-false c d e (f z))

-- numbers apart by a third
module _ (x y u v w : ℕ) (e : x + u ≡ y + v) (f : (u ≡ v + w) ⊎ (v ≡ u + w)) where
  -- with the same remainder: the third has none
  apart-there : x % 65535 ≡ y % 65535 → w % 65535 ≡ 0
  apart-there h = ⊎_elim (λ (z : u ≡ v + w). omega arith) (λ (z : v ≡ u + w). omega arith) f

  -- and back
  apart-back : w % 65535 ≡ 0 → x % 65535 ≡ y % 65535
  apart-back h = ⊎_elim (λ (z : u ≡ v + w). omega arith) (λ (z : v ≡ u + w). omega arith) f

-- multiples of two numbers are apart by the multiple of the numbers' difference
apart : (k a b : ℕ) → (k * b ≡ k * a + k * difference a b) ⊎ (k * a ≡ k * b + k * difference a b)
apart k a b = go (dec_lt a b)
  where
    go : Dec (a < b) → (k * b ≡ k * a + k * difference a b) ⊎ (k * a ≡ k * b + k * difference a b)
    go (yes l) = let e : b ≡ a + difference a b = omega arith in inl (ap (λ (x : ℕ). k * x) e ∙ mul-add k a (difference a b))
    go (no l) = let e : a ≡ b + difference a b = omega arith in inr (ap (λ (x : ℕ). k * x) e ∙ mul-add k b (difference a b))

-- the same half, the same remainder
half_back : (a b : ℕ) → half a ≡ half b → a % 65535 ≡ b % 65535
half_back a b e = let (p, q, r) = half_is a in let (u, v, w) = half_is b in omega arith

-- the same halves, the same checksum by the sentence
words_same : (s t : List ℕ) → half (word_sum s (word_count s)) ≡ half (word_sum t (word_count t)) → half (running_sum s (word_count s)) ≡ half (running_sum t (word_count t)) → by_the_words s ≡ by_the_words t
unfolding by_the_words
words_same s t e f = rw (e, f)

-- words that are the same but two, which changed places
module _ (i j : ℕ) (s t : List ℕ) (h : Swapped i j s t) where
  -- before both the sums are the same
  sum_first : (n : ℕ) → n ≤ i → word_sum s n ≡ word_sum t n
  unfolding total
  sum_first zero l = refl
  sum_first (suc n) l = omega (arith, sum_first n (omega arith), h.same n (omega arith) (omega arith))

  -- between them they are apart by the two words
  sum-between : (n : ℕ) → i < n → n ≤ j → word_sum s n + word s j ≡ word_sum t n + word s i
  unfolding total
  sum-between zero l m = absurd (omega arith)
  sum-between (suc n) l m = go (dec_lt i n) (sum-between n)
    where
      go : Dec (i < n) → (i < n → n ≤ j → word_sum s n + word s j ≡ word_sum t n + word s i) → word_sum s n + word s n + word s j ≡ word_sum t n + word t n + word s i
      go (yes p) f = omega (arith, f p (omega arith), h.same n (omega arith) (omega arith))
      go (no p) f = let e : n ≡ i = omega arith in rw (e) (omega (arith, sum_first i (omega arith), h.first))

  -- behind both they are the same again
  sum-second : (n : ℕ) → j < n → word_sum s n ≡ word_sum t n
  unfolding total
  sum-second zero l = absurd (omega arith)
  sum-second (suc n) l = go (dec_lt j n) (sum-second n)
    where
      go : Dec (j < n) → (j < n → word_sum s n ≡ word_sum t n) → word_sum s n + word s n ≡ word_sum t n + word t n
      go (yes p) f = omega (arith, f p, h.same n (omega arith) (omega arith))
      go (no p) f = let e : n ≡ j = omega arith in rw (e) (omega (arith, sum-between j h.order (omega arith), h.second))

  -- the running sums: apart by the words' difference once for each place between
  running : (n : ℕ) → running_sum s n + (min n j - i) * word s j ≡ running_sum t n + (min n j - i) * word s i
  unfolding total
  running zero = let e : min 0 j - i ≡ 0 = omega arith in rw (e) (omega arith)
  running (suc n) = go (dec_lt n i) (dec_lt n j) (running n)
    where
      go : Dec (n < i) → Dec (n < j) → running_sum s n + (min n j - i) * word s j ≡ running_sum t n + (min n j - i) * word s i
          → running_sum s (suc n) + (min (suc n) j - i) * word s j ≡ running_sum t (suc n) + (min (suc n) j - i) * word s i
      go (yes p) d f =
          let e : min (suc n) j - i ≡ min n j - i = omega arith in
          rw (e) (omega (arith, f, sum_first (suc n) p))
      go (no p) (yes q) f =
          let e : min (suc n) j - i ≡ suc (min n j - i) = omega arith in
          rw (e, suc-mul, suc-mul) (omega (arith, f, sum-between (suc n) (omega arith) q))
      go (no p) (no q) f =
          let e : min (suc n) j - i ≡ min n j - i = omega arith in
          rw (e) (omega (arith, f, sum-second (suc n) (omega arith)))

  -- where the second is behind the last word, both are zero
  beyond : word_count s ≤ j → word s i ≡ word s j
  beyond l = sym h.second ∙ word_none t j (omega (arith, same_count s t h.long)) ∙ sym (word_none s j l)

  -- the sums of all words are the same
  sum-whole : word_sum s (word_count s) ≡ word_sum t (word_count s)
  sum-whole = go (dec_lt j (word_count s)) (dec_lt i (word_count s))
    where
      go : Dec (j < word_count s) → Dec (i < word_count s) → word_sum s (word_count s) ≡ word_sum t (word_count s)
      go (yes p) d = sum-second (word_count s) p
      go (no p) (yes q) = omega (arith, sum-between (word_count s) q (omega arith), beyond (omega arith))
      go (no p) (no q) = sum_first (word_count s) (omega arith)

  -- the running sums of all words are apart by how far the two stand apart, times their difference
  running-whole : running_sum s (word_count s) + (j - i) * word s j ≡ running_sum t (word_count s) + (j - i) * word s i
  running-whole = go (dec_lt j (word_count s))
    where
      go : Dec (j < word_count s) → running_sum s (word_count s) + (j - i) * word s j ≡ running_sum t (word_count s) + (j - i) * word s i
      go (yes p) = let e : min (word_count s) j ≡ j = omega arith in rw (e) at (running (word_count s))
      go (no p) = let e : word s i ≡ word s j = beyond (omega arith) in rw (e) (omega (arith, rw (e) at (running (word_count s))))

  -- two words that changed places, by the sentence: found out exactly where how far they stand apart, times their difference, is no multiple of 65,535
  pub two-words : eqb (by_the_words s) (by_the_words t) ≡ eqb ((j - i) * difference (word s i) (word s j) % 65535) 0
  two-words = test-same _ _ _ _ there back
    where
      k : word_count t ≡ word_count s
      k = same_count s t h.long

      there : by_the_words s ≡ by_the_words t → (j - i) * difference (word s i) (word s j) % 65535 ≡ 0
      there e =
          let f : half (running_sum s (word_count s)) ≡ half (running_sum t (word_count s)) = rw (k) at (sym (words-high s) ∙ ap (λ (x : ℕ). x / 65536) e ∙ words-high t) in
          apart-there _ _ _ _ _ running-whole (apart (j - i) (word s i) (word s j)) (half_back _ _ f)

      back : (j - i) * difference (word s i) (word s j) % 65535 ≡ 0 → by_the_words s ≡ by_the_words t
      back e =
          words_same s t (ap half sum-whole ∙ rw (k))
          (half-same _ _ (apart-back _ _ _ _ _ running-whole (apart (j - i) (word s i) (word s j)) e) ∙ rw (k))

-- and by the rule, where neither is one of the four
pub two-words-by-rule : (i j : ℕ) (s t : List ℕ) → Bytes s → Bytes t → Swapped i j s t → exceptional s ≡ false → exceptional t ≡ false
    → eqb (checksum s) (checksum t) ≡ eqb ((j - i) * difference (word s i) (word s j) % 65535) 0
two-words-by-rule i j s t b c h d e = rw (exact s b d, exact t c e) (two-words i j s t h)

-- ---- one byte

bytes_same : (s t : List ℕ) (k : ℕ) → get_or s (2 * k) 0 ≡ get_or t (2 * k) 0 → get_or s (2 * k + 1) 0 ≡ get_or t (2 * k + 1) 0 → word s k ≡ word t k
unfolding word
bytes_same s t k x y = rw (x, y)

-- two words that are alike modulo 65,535 are the same, or 0 and 65,535
alike : (x y : ℕ) → x ≤ 65535 → y ≤ 65535 → x % 65535 ≡ y % 65535 → (x ≡ y) ⊎ (x + y ≡ 65535)
alike x y l m e = go (dec_lt x 65535) (dec_lt y 65535)
  where
    go : Dec (x < 65535) → Dec (y < 65535) → (x ≡ y) ⊎ (x + y ≡ 65535)
    go (yes p) (yes q) = inl (omega arith)
    go (yes p) (no q) = inr (omega arith)
    go (no p) (yes q) = inr (omega arith)
    go (no p) (no q) = inl (omega arith)

-- so a word in which one byte is another is not alike
high-apart : (a d c : ℕ) → a < 256 → d < 256 → c < 256 → (256 * a + c) % 65535 ≡ (256 * d + c) % 65535 → a ≡ d
high-apart a d c p q r e = ⊎_elim (λ z. omega arith) (λ z. omega arith) (alike (256 * a + c) (256 * d + c) (omega arith) (omega arith) e)

low-apart : (a c d : ℕ) → a < 256 → c < 256 → d < 256 → (256 * a + c) % 65535 ≡ (256 * a + d) % 65535 → c ≡ d
low-apart a c d p q r e = ⊎_elim (λ z. omega arith) (λ z. omega arith) (alike (256 * a + c) (256 * a + d) (omega arith) (omega arith) e)

words-apart : (s t : List ℕ) (k : ℕ) → Bytes s → Bytes t
    → ((get_or s (2 * k) 0 ≢ get_or t (2 * k) 0) × (get_or s (2 * k + 1) 0 ≡ get_or t (2 * k + 1) 0)) ⊎ ((get_or s (2 * k) 0 ≡ get_or t (2 * k) 0) × (get_or s (2 * k + 1) 0 ≢ get_or t (2 * k + 1) 0))
    → word s k % 65535 ≢ word t k % 65535
unfolding word
words-apart s t k b c (inl (x, y)) e = x (high-apart _ _ _ (b (2 * k)) (c (2 * k)) (c (2 * k + 1)) (rw (y) at e))
words-apart s t k b c (inr (x, y)) e = y (low-apart _ _ _ (c (2 * k)) (b (2 * k + 1)) (c (2 * k + 1)) (rw (x) at e))

odd-or-even : (p : ℕ) → (p % 2 ≡ 0) ⊎ (p % 2 ≡ 1)
odd-or-even p = go (dec_lt (p % 2) 1)
  where
    go : Dec (p % 2 < 1) → (p % 2 ≡ 0) ⊎ (p % 2 ≡ 1)
    go (yes l) = inl (omega arith)
    go (no l) = inr (omega arith)

-- of an even number of bytes by the rule, too
pub two-words-even : (i j : ℕ) (s t : List ℕ) → Bytes s → Bytes t → Swapped i j s t → length s % 2 ≡ 0
    → eqb (checksum s) (checksum t) ≡ eqb ((j - i) * difference (word s i) (word s j) % 65535) 0
two-words-even i j s t b c w e = rw (even s b e, even t c (rw (← w.long) e)) (two-words i j s t w)

-- a byte changes its word, and by less than 65,535
pub one_byte : (p : ℕ) (s t : List ℕ) → Bytes s → Bytes t → length s ≡ length t → ((i : ℕ) → i ≢ p → get_or s i 0 ≡ get_or t i 0) → get_or s p 0 ≢ get_or t p 0 → checksum s ≢ checksum t
one_byte p s t b c long same changed = one_word (p / 2) s t b c (record { long = long; same = elsewhere }) moved
  where
    elsewhere : (k : ℕ) → k ≢ p / 2 → word s k ≡ word t k
    elsewhere k q = bytes_same s t k (same (2 * k) (λ z. q (let x : k ≡ p / 2 = omega arith in x))) (same (2 * k + 1) (λ z. q (let x : k ≡ p / 2 = omega arith in x)))

    high : p % 2 ≡ 0 → word s (p / 2) % 65535 ≢ word t (p / 2) % 65535
    high e =
        let at : 2 * (p / 2) ≡ p = omega arith in
        words-apart s t (p / 2) b c (inl (rw (at) changed, same (2 * (p / 2) + 1) (λ z. omega arith)))

    low : p % 2 ≡ 1 → word s (p / 2) % 65535 ≢ word t (p / 2) % 65535
    low e =
        let at : 2 * (p / 2) + 1 ≡ p = omega arith in
        words-apart s t (p / 2) b c (inr (same (2 * (p / 2)) (λ z. omega arith), rw (at) changed))

    moved : word s (p / 2) % 65535 ≢ word t (p / 2) % 65535
    moved = ⊎_elim high low (odd-or-even p)
