-- What private functions promise; not part of the rules.
-- Assumes nothing.
use Rattle.std.specs.Prelude.{◌≡◌, ℕ, ◌+◌, ◌-◌, ◌*◌, ◌/◌, ◌^◌, ◌<◌, ◌≤◌, true, ◌⊎◌, List, length, take, slice_index}
use Rattle.lerc_words.specs.Res.{Res, ok, fail}
use Rattle.lerc_byte_image.specs.declared.table.Range.{Range}
use Rattle.lerc_byte_image.specs.declared.table.TableHead.{TableHead}
use Rattle.lerc_byte_image.specs.Table.{Table, length_of, code_of, symbol_of, prefix_free}
use Rattle.lerc_byte_image.specs.Symbols.{Symbol, symbol_at, bits_there}

-- ---- the table

abbrev pub table_by : Range → ℕ → List ℕ → List ℕ → Table
table_by r start lengths codes = record { range = r; lengths = lengths; codes = codes; start = start }

-- lengths and codes stand in front
abbrev pub table_said : Res TableHead → List ℕ → List ℕ → Res Table
table_said (ok t) lengths codes = ok (table_by t.range t.start (take t.range.count lengths) (take t.range.count codes))
table_said (fail why) lengths codes = fail why

-- what every accepted table keeps to
pub record Kept (t : Table) : Type 0 where
  pub few : t.range.count ≤ 256
  pub some : 0 < t.range.size
  pub bytes : t.range.size ≤ 256
  pub early : t.range.first < t.range.size
  pub lengths : length t.lengths ≡ t.range.count
  pub codes : length t.codes ≡ t.range.count
  pub narrow : (k : ℕ) → length_of t k ≤ 32
  pub low : (k : ℕ) → code_of t k < 2 ^ length_of t k
  pub free : prefix_free t ≡ true

-- ---- symbols

-- a symbol and the length of its code in one number; 0 where there is none
abbrev pub entry_from : ℕ → Res Symbol → ℕ
entry_from p (ok x) = (x.next - p) * 256 + x.value
entry_from p (fail r) = 0

abbrev pub entry_of : List ℕ → Table → ℕ → ℕ
entry_of s t p = entry_from p (symbol_at s t p)

-- the entry of code k
abbrev pub entry_by : Table → ℕ → ℕ
entry_by t k = length_of t k * 256 + symbol_of t.range k

-- code k has at most 12 bits, and they begin the 12 bits of v
pub record Short (t : Table) (v k : ℕ) : Type 0 where
  pub there : k < t.range.count
  pub some : 0 < length_of t k
  pub few : length_of t k ≤ 12
  pub alike : v / 2 ^ (12 - length_of t k) ≡ code_of t k

-- a table by the first 12 bits: an entry below 256 only hints which code to try first, another is that of a code that begins them
pub record Quick (t : Table) (entries : List ℕ) : Type 0 where
  pub wide : length entries ≡ 4096
  pub right : (v : ℕ) → v < 4096 → (slice_index entries v < 256) ⊎ ((k : ℕ) × Short t v k × (slice_index entries v ≡ entry_by t k))

-- what going through the codes asks: a table behind which the symbols' bits stand, in a slice that a header declares
pub record Behind (s : List ℕ) (t : Table) (p : ℕ) : Type 0 where
  pub kept : Kept t
  pub short : length s ≤ 16777216
  pub inside : t.start ≤ length s
  pub at : p ≤ bits_there s t.start

-- what finding a symbol by its first bits asks
pub record Ready (s : List ℕ) (t : Table) (entries : List ℕ) (p : ℕ) : Type 0 where
  pub behind : Behind s t p
  pub quick : Quick t entries
