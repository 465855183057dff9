-- What the functions of the table promise one another; not part of the rules.
-- Assumes nothing.
use Rattle.std.specs.Prelude.{◌≡◌, ℕ, ◌+◌, ◌-◌, ◌*◌, ◌/◌, ◌^◌, ◌≤◌, Bool, true, not, ◌&&◌, leb, List, length, take, ◌==◌, nat_le, nat_lt, slice_index}
use Rattle.lerc_words.specs.Res.{Res, ok, ◌>>=◌, fail, require, word_at}
use Rattle.lerc_words.specs.Lists.{total, all_to}
use Rattle.lerc_bits.specs.Bits.{Counts}
use Rattle.lerc_byte_image.specs.declared.table.Range.{Range}
use Rattle.lerc_byte_image.specs.declared.table.CodesPlace.{CodesPlace}
use Rattle.lerc_byte_image.specs.Table.{lengths_at, run_words, codes_at, Table, prefix_free}

-- ---- the four integers

-- the three behind the version
unfoldable pub sizes_at : List ℕ → ℕ → Res Range
sizes_at s at = do
  size ← word_at 4 s (at + 4)
  _ ← require (nat_le size 256) 8
  first ← word_at 4 s (at + 8)
  _ ← require (nat_lt first size) 8
  end ← word_at 4 s (at + 12)
  _ ← require (nat_le 1 (end - first) && nat_le (end - first) size) 8
  ok (record { size = size; first = first; count = end - first })

-- ---- the lengths

-- the bits of n codes
abbrev pub bits_of : ℕ → List ℕ → ℕ
bits_of n vs = total n (λ k. slice_index vs k)

abbrev pub all_short : List ℕ → Bool
all_short vs = all_to (length vs) (λ k. leb (slice_index vs k) 32)

-- the lengths stand in front
abbrev pub lengths_said : Res CodesPlace → List ℕ → Res Counts
lengths_said (ok t) front = ok (record { values = front; next = t.next })
lengths_said (fail why) front = fail why

-- the bits that were told, where any were
abbrev pub bits_told : Res CodesPlace → ℕ → ℕ
bits_told (ok t) other = t.bits
bits_told (fail why) other = other

pub record LengthsRead (s : List ℕ) (at n : ℕ) (r : Res CodesPlace) (new : List ℕ) : Type 0 where
  pub says : lengths_said r (take n new) ≡ lengths_at s at n
  pub sum : bits_told r (bits_of n (take n new)) ≡ bits_of n (take n new)

-- ---- the codes

-- what taking the codes asks
pub record CodesAsked (s : List ℕ) (at : ℕ) (lengths codes : List ℕ) : Type 0 where
  pub inside : at ≤ length s
  pub short : length s ≤ 16777216
  pub few : length lengths ≤ 256
  pub narrow : all_short lengths ≡ true
  pub room : length lengths ≤ length codes

-- what comparing the codes asks
pub record Few (lengths codes : List ℕ) : Type 0 where
  pub same : length codes ≡ length lengths
  pub narrow : all_short lengths ≡ true

-- a code of so many bits, none or more, begins another
abbrev pub starts : ℕ → ℕ → ℕ → ℕ → Bool
starts len code other-len other = nat_lt 0 len && nat_le len other-len && other / 2 ^ (other-len - len) == code

-- of two codes neither begins the other
unfoldable pub apart : ℕ → ℕ → ℕ → ℕ → Bool
apart len code other-len other = not (starts len code other-len other) && not (starts other-len other len code)

-- no code before code k begins it, nor it one of them
abbrev pub clear : List ℕ → List ℕ → ℕ → Bool
clear lengths codes k = all_to k (λ i. apart (slice_index lengths i) (slice_index codes i) (slice_index lengths k) (slice_index codes k))

-- what stands behind the lengths
unfoldable pub rest_at : List ℕ → Range → ℕ → List ℕ → Res Table
rest_at s r next lengths = do
  let start = next + run_words (bits_of r.count lengths) * 4
  _ ← require (nat_le start (length s)) 1
  let t : Table = record { range = r; lengths = lengths; codes = codes_at s next r.count lengths; start = start }
  _ ← require (prefix_free t) 8
  ok t

-- what reading it asks
pub record RestAsked (s : List ℕ) (r : Range) (next bits : ℕ) (lengths codes : List ℕ) : Type 0 where
  pub asked : CodesAsked s next lengths codes
  pub many : length lengths ≡ r.count
  pub sum : bits ≡ bits_of r.count lengths
