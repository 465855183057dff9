-- What is claimed of the checksum, over every list of bytes.
-- Assumes nothing.
use Rattle.std.specs.Prelude.{ℕ, ◌-◌, ◌+◌, ◌*◌, ◌%◌, ◌<◌, ◌≡◌, ◌≢◌, false, not, List, length, get_or, eqb}
use Rattle.lerc_checksum.specs.Checksum.{word, by_the_words, checksum, exceptional}

abbrev pub Bytes : List ℕ → Type 0
Bytes s = (i : ℕ) → get_or s i 0 < 256

-- how far two numbers are apart
abbrev pub difference : ℕ → ℕ → ℕ
difference a b = a - b + (b - a)

-- as many bytes, and every word the same but the i-th
pub record OneChanged (i : ℕ) (s t : List ℕ) : Type 0 where
  pub long : length s ≡ length t
  pub same : (k : ℕ) → k ≢ i → word s k ≡ word t k

-- as many bytes, and every word the same but the i-th and the j-th, which changed places
pub record Swapped (i j : ℕ) (s t : List ℕ) : Type 0 where
  pub long : length s ≡ length t
  pub order : i < j
  pub first : word t i ≡ word s j
  pub second : word t j ≡ word s i
  pub same : (k : ℕ) → k ≢ i → k ≢ j → word s k ≡ word t k

-- of an even number of bytes the rule is the sentence
abbrev pub EvenAlike : Type 0
EvenAlike = (s : List ℕ) → Bytes s → length s % 2 ≡ 0 → checksum s ≡ by_the_words s

-- of any number they are the same exactly where the sums before the last fold are none of four
abbrev pub ExactlyAlike : Type 0
ExactlyAlike = (s : List ℕ) → Bytes s → eqb (checksum s) (by_the_words s) ≡ not (exceptional s)

-- "A stored 0 is never right"
abbrev pub NeverZero : Type 0
NeverZero = (s : List ℕ) → Bytes s → checksum s ≢ 0

-- one word that is changed by anything but a multiple of 65,535 is found out
abbrev pub WordFound : Type 0
WordFound = (i : ℕ) (s t : List ℕ) → Bytes s → Bytes t → OneChanged i s t → word s i % 65535 ≢ word t i % 65535 → checksum s ≢ checksum t

-- so is any byte
abbrev pub ByteFound : Type 0
ByteFound = (p : ℕ) (s t : List ℕ) → Bytes s → Bytes t → length s ≡ length t → ((i : ℕ) → i ≢ p → get_or s i 0 ≡ get_or t i 0) → get_or s p 0 ≢ get_or t p 0 → checksum s ≢ checksum t

-- two words that changed places, by the sentence: found out exactly where how far they stand apart, times their difference, is no multiple of 65,535
abbrev pub SwapFound : Type 0
SwapFound = (i j : ℕ) (s t : List ℕ) → Swapped i j s t → eqb (by_the_words s) (by_the_words t) ≡ eqb ((j - i) * difference (word s i) (word s j) % 65535) 0

-- by the rule, of an even number of bytes, the same
abbrev pub SwapFoundEven : Type 0
SwapFoundEven = (i j : ℕ) (s t : List ℕ) → Bytes s → Bytes t → Swapped i j s t → length s % 2 ≡ 0 → eqb (checksum s) (checksum t) ≡ eqb ((j - i) * difference (word s i) (word s j) % 65535) 0

-- and of any number, where neither is one of the four
abbrev pub SwapFoundByRule : Type 0
SwapFoundByRule = (i j : ℕ) (s t : List ℕ) → Bytes s → Bytes t → Swapped i j s t → exceptional s ≡ false → exceptional t ≡ false
    → eqb (checksum s) (checksum t) ≡ eqb ((j - i) * difference (word s i) (word s j) % 65535) 0

pub record ChecksumLaws : Type 0 where
  pub even : EvenAlike
  pub exactly : ExactlyAlike
  pub never-zero : NeverZero
  pub one_word : WordFound
  pub one_byte : ByteFound
  pub two-words : SwapFound
  pub two-words-even : SwapFoundEven
  pub two-words-by-rule : SwapFoundByRule
