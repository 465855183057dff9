-- The table of a Huffman image: which bits stand for which symbol.
-- Assumes nothing.
use Rattle.std.specs.Prelude.{ℕ, ◌+◌, ◌-◌, ◌*◌, ◌/◌, ◌%◌, ◌^◌, Bool, not, ◌&&◌, leb, List, length, ◌==◌, nat_le, nat_lt, slice_index}
use Rattle.lerc_words.specs.Res.{Res, ok, ◌>>=◌, require, word_at, little}
use Rattle.lerc_words.specs.Lists.{tabulate, total, all_to}
use Rattle.lerc_bits.specs.Bits.{Counts, counts}
use Rattle.lerc_byte_image.specs.declared.table.Range.{Range}

-- ---- the four integers

-- "Four 4-byte integers: version at least 2, size at most 256, first i0, end i1 (i0 below size, i1-i0 from 1 to size ..)", each judged as it is read
unfoldable pub range_at : List ℕ → ℕ → Res Range
range_at s at = do
  version ← word_at 4 s at
  _ ← require (nat_le 2 version) 8
  size ← word_at 4 s (at + 4)
  _ ← require (nat_le size 256) 8
  first ← word_at 4 s (at + 8)
  _ ← require (nat_lt first size) 8
  end ← word_at 4 s (at + 12)
  _ ← require (nat_le 1 (end - first) && nat_le (end - first) size) 8
  ok (record { size = size; first = first; count = end - first })

-- ---- the lengths

-- "then i1-i0 lengths as packed counts, 0 to 32", read whole and then judged: "some length must be above 0", so their sum is
unfoldable pub lengths_at : List ℕ → ℕ → ℕ → Res Counts
lengths_at s at n = do
  c ← counts s at
  _ ← require (length c.values == n) 8
  _ ← require (all_to n (λ k. leb (slice_index c.values k) 32)) 8
  _ ← require (nat_lt 0 (total n (λ k. slice_index c.values k))) 8
  ok c

-- ---- the codes

-- the word that bit p of a run at `at` stands in, and the word behind it, as one number of 64 bits; past the end they are zeros
abbrev pub two_words : List ℕ → ℕ → ℕ → ℕ
two_words s at p = little 4 s (at + p / 32 * 4) * 2 ^ 32 + little 4 s (at + p / 32 * 4 + 4)

-- "high bit first in little-endian 32-bit words": n bits, at most 32, from bit p on (that each is the bit that it should be: bits-more)
unfoldable pub bits_at : List ℕ → ℕ → ℕ → ℕ → ℕ
bits_at s at p n = two_words s at p / 2 ^ (64 - p % 32 - n) % 2 ^ n

-- the words of so many bits: "ending on a word"
abbrev pub run_words : ℕ → ℕ
run_words bits = (bits + 31) / 32

-- one after the other, each as long as its length says
abbrev pub codes_at : List ℕ → ℕ → ℕ → List ℕ → List ℕ
codes_at s at n lengths = tabulate n (λ k. bits_at s at (total k (λ i. slice_index lengths i)) (slice_index lengths k))

-- the lengths and the codes, and where the symbols' bits begin
pub record Table : Type 0 where
  pub range : Range
  pub lengths : List ℕ
  pub codes : List ℕ
  pub start : ℕ

abbrev pub length_of : Table → ℕ → ℕ
length_of t k = slice_index t.lengths k

abbrev pub code_of : Table → ℕ → ℕ
code_of t k = slice_index t.codes k

-- "wrapping modulo size": the symbol of the k-th length
abbrev pub symbol_of : Range → ℕ → ℕ
symbol_of r k = (r.first + k) % r.size

-- code i is there, and the first bits of code k are code i; "A length of 0 means no code"
unfoldable pub begins : Table → ℕ → ℕ → Bool
begins t i k = nat_lt 0 (length_of t i) && nat_le (length_of t i) (length_of t k) && code_of t k / 2 ^ (length_of t k - length_of t i) == code_of t i

-- "Codes must be prefix-free": of two codes neither begins the other
unfoldable pub prefix_free : Table → Bool
prefix_free t = all_to t.range.count (λ k. all_to k (λ i. not (begins t i k) && not (begins t k i)))

-- integers and lengths; "then the code run must fit (1), then prefix-freeness (8)"
unfoldable pub table_at : List ℕ → ℕ → Res Table
table_at s at = do
  r ← range_at s at
  c ← lengths_at s (at + 16) r.count
  let start = c.next + run_words (total r.count (λ k. slice_index c.values k)) * 4
  _ ← require (nat_le start (length s)) 1
  let t : Table = record { range = r; lengths = c.values; codes = codes_at s c.next r.count c.values; start = start }
  _ ← require (prefix_free t) 8
  ok t
