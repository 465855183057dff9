-- The table of refusals for Huffman images: each line is a demand that fails, with its number; the demands before it hold,
-- for "the first failing read decides the number".
-- "A broken table or unknown code is 8, a word or run past the size 1, both at the mode byte's place."
-- Assumes nothing.
use Rattle.std.specs.Prelude.{◌≡◌, ◌≢◌, true, false, List, ℕ, ◌+◌, ◌*◌, ◌≤◌, ◌<◌, length, get_or}
use Rattle.lerc_words.specs.declared.Refusal.{Refusal}
use Rattle.lerc_words.specs.Res.{ok, refuse, word_at}
use Rattle.lerc_words.specs.Lists.{total}
use Rattle.lerc_bits.specs.Bits.{Counts, counts}
use Rattle.lerc_header.specs.declared.Header.{Header}
use Rattle.lerc_byte_image.specs.Table.{Table, range_at, lengths_at, run_words, codes_at, length_of, begins, table_at}
use Rattle.lerc_byte_image.specs.Symbols.{bits_there, agrees, Run, symbols_from, end_of}
use Rattle.lerc_theorems.specs.BlockTable.{At, CountsRefused}

-- ---- the table

-- "Four 4-byte integers: version at least 2, size at most 256, first i0, end i1 (i0 below size, i1-i0 from 1 to size, wrapping modulo size)";
-- "Each integer is judged when it is read, front to back: version below 2 is 8 even if nothing follows."
pub data RangeRefused (s : List ℕ) (at : ℕ) : Refusal → Type 0 where
  version-cut : length s < at + 4 → RangeRefused s at (refuse 1)
  version_low : (version : ℕ) → word_at 4 s at ≡ ok version → version < 2 → RangeRefused s at (refuse 8)
  size-cut : (version : ℕ) → word_at 4 s at ≡ ok version → 2 ≤ version → length s < at + 8 → RangeRefused s at (refuse 1)
  size-high : (version size : ℕ) → word_at 4 s at ≡ ok version → 2 ≤ version → word_at 4 s (at + 4) ≡ ok size → 256 < size → RangeRefused s at (refuse 8)
  first-cut : (version size : ℕ) → word_at 4 s at ≡ ok version → 2 ≤ version → word_at 4 s (at + 4) ≡ ok size → size ≤ 256 → length s < at + 12 → RangeRefused s at (refuse 1)
  first-high : (version size first : ℕ) → word_at 4 s at ≡ ok version → 2 ≤ version → word_at 4 s (at + 4) ≡ ok size → size ≤ 256 → word_at 4 s (at + 8) ≡ ok first
      → size ≤ first → RangeRefused s at (refuse 8)
  end-cut : (version size first : ℕ) → word_at 4 s at ≡ ok version → 2 ≤ version → word_at 4 s (at + 4) ≡ ok size → size ≤ 256 → word_at 4 s (at + 8) ≡ ok first → first < size
      → length s < at + 16 → RangeRefused s at (refuse 1)
  -- "i1 - i0 is over whole numbers"
  end_low : (version size first end : ℕ) → word_at 4 s at ≡ ok version → 2 ≤ version → word_at 4 s (at + 4) ≡ ok size → size ≤ 256 → word_at 4 s (at + 8) ≡ ok first → first < size
      → word_at 4 s (at + 12) ≡ ok end → end ≤ first → RangeRefused s at (refuse 8)
  end-high : (version size first end : ℕ) → word_at 4 s at ≡ ok version → 2 ≤ version → word_at 4 s (at + 4) ≡ ok size → size ≤ 256 → word_at 4 s (at + 8) ≡ ok first → first < size
      → word_at 4 s (at + 12) ≡ ok end → first + size < end → RangeRefused s at (refuse 8)

-- "then i1-i0 lengths as packed counts, 0 to 32"; "the packed counts are read whole (any of their forms), then their number must be i1 - i0 (8),
-- then each at most 32 (8), and some length must be above 0 (8)"
pub data LengthsRefused (s : List ℕ) (at n : ℕ) : Refusal → Type 0 where
  lengths-unread : {j : Refusal} → CountsRefused s at j → LengthsRefused s at n j
  lengths-miscounted : (c : Counts) → counts s at ≡ ok c → length c.values ≢ n → LengthsRefused s at n (refuse 8)
  length_high : (c : Counts) (k : ℕ) → counts s at ≡ ok c → length c.values ≡ n → k < n → 32 < get_or c.values k 0 → LengthsRefused s at n (refuse 8)
  lengths-zero : (c : Counts) → counts s at ≡ ok c → length c.values ≡ n → ((k : ℕ) → k < n → get_or c.values k 0 ≡ 0) → LengthsRefused s at n (refuse 8)

-- the four integers are right: there are `size` symbols, and n of them, from `first` on, have a length
abbrev pub RangeRead : List ℕ → ℕ → ℕ → ℕ → ℕ → Type 0
RangeRead s at size first n = range_at s at ≡ ok (record { size = size; first = first; count = n })

-- where the run of n codes behind their lengths ends: "in little-endian 32-bit words, ending on a word"
abbrev pub codes_end : ℕ → Counts → ℕ
codes_end n c = c.next + run_words (total n (λ k. get_or c.values k 0)) * 4

-- the lengths and the codes together
abbrev pub table_of : List ℕ → ℕ → ℕ → ℕ → Counts → Table
table_of s size first n c =
    record { range = record { size = size; first = first; count = n }; lengths = c.values; codes = codes_at s c.next n c.values; start = codes_end n c }

-- "then the code run must fit (1), then prefix-freeness (8)"
pub data TableRefused (s : List ℕ) (at : ℕ) : Refusal → Type 0 where
  range-refused : {j : Refusal} → RangeRefused s at j → TableRefused s at j
  lengths-refused : {j : Refusal} (size first n : ℕ) → RangeRead s at size first n → LengthsRefused s (at + 16) n j → TableRefused s at j
  codes-cut : (size first n : ℕ) (c : Counts) → RangeRead s at size first n → lengths_at s (at + 16) n ≡ ok c → length s < codes_end n c → TableRefused s at (refuse 1)
  -- "Codes must be prefix-free": code i begins another, k
  code-begins : (size first n : ℕ) (c : Counts) (i k : ℕ) → RangeRead s at size first n → lengths_at s (at + 16) n ≡ ok c → codes_end n c ≤ length s
      → i < n → k < n → i ≢ k → begins (table_of s size first n c) i k ≡ true → TableRefused s at (refuse 8)

-- ---- the symbols

-- "8 as soon as the bits so far begin no code, 1 if a bit's word passes the size before that": of the bits from bit p on,
-- those that are there agree with no code, or with one that has more
pub data SymbolRefused (s : List ℕ) (t : Table) (p : ℕ) : Refusal → Type 0 where
  code-unknown : ((k : ℕ) → k < t.range.count → agrees s t p k ≡ false) → SymbolRefused s t p (refuse 8)
  code-cut : (k : ℕ) → k < t.range.count → agrees s t p k ≡ true → bits_there s t.start < p + length_of t k → SymbolRefused s t p (refuse 1)

-- n symbols from bit p on: k of them are right, and the next is refused
pub data SymbolsRefused (s : List ℕ) (t : Table) (n p : ℕ) : Refusal → Type 0 where
  symbol-refused : {j : Refusal} (k : ℕ) (r : Run) → k < n → symbols_from s t k p ≡ ok r → SymbolRefused s t r.bits j → SymbolsRefused s t n p j

-- ---- the image

-- n symbols behind a table at `at`; "the word after must fit (1, found last) and is not looked at"
pub data ImageRefused (s : List ℕ) (at n : ℕ) : Refusal → Type 0 where
  table-refused : {j : Refusal} → TableRefused s at j → ImageRefused s at n j
  symbols-refused : {j : Refusal} (t : Table) → table_at s at ≡ ok t → SymbolsRefused s t n 0 j → ImageRefused s at n j
  word-after-cut : (t : Table) (r : Run) → table_at s at ≡ ok t → symbols_from s t n 0 ≡ ok r → length s < end_of t.start r.bits → ImageRefused s at n (refuse 1)

-- the image of a blob, whose mode byte stands at `mode`: "Every refusal of such a body has the mode byte's place."
abbrev pub HuffmanRefused : List ℕ → Header → ℕ → Refusal → Type 0
HuffmanRefused s h mode = At mode (ImageRefused s (mode + 1) (h.valid * h.depth))
