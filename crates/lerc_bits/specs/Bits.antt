-- Packed counts. A run is one little-endian number, whose digits in base 2^bits are its entries.
-- The plan says where the runs stand, from the bytes in front of them; the counts are then read by the plan.
-- Assumes nothing.
use Rattle.std.specs.Prelude.{ℕ, ◌+◌, ◌*◌, ◌-◌, ◌/◌, ◌%◌, ◌^◌, ◌≤◌, ◌≡◌, Bool, cond, ◌&&◌, List, [], ◌∷◌, length, get_or, leb, ltb, eqb}
use Rattle.std.specs.Float.Ieee.{size}
use Rattle.lerc_words.specs.Res.{Res, ok, ◌>>=◌, require, word_at, little, after}
use Rattle.lerc_words.specs.Lists.{tabulate, over, all_to}
use Rattle.lerc_bits.specs.declared.Plan.{Plan}
use Rattle.lerc_bits.specs.declared.Counts.{Counts as Told}

-- ---- where the runs stand

-- "Each run ends on a byte": the bytes of n numbers of `bits` bits
abbrev pub run_bytes : ℕ → ℕ → ℕ
run_bytes n bits = (n * bits + 7) / 8

-- "the least width w with 2^w at least entries" (that it is: index-enough, index-least)
abbrev pub index_width : ℕ → ℕ
index_width entries = size (entries - 1)

-- "h/64 = 0, 1, 2 means a count n of 4, 2, 1 bytes"
abbrev pub count_bytes : ℕ → ℕ
count_bytes h = get_or (4 ∷ 2 ∷ 1 ∷ []) (h / 64) 0

-- "n values of `bits` bits", which start at `at`
abbrev pub plain_plan : ℕ → ℕ → ℕ → Plan
plain_plan n bits at =
    record { n = n; bits = bits; entries = 0; table = at; at = at; width = bits; next = at + run_bytes n bits }

-- "entries-1 values (entry 0 is zero)", which start at `table`; "then n indices"
abbrev pub table_plan : ℕ → ℕ → ℕ → ℕ → Plan
table_plan n bits entries table =
    let at = table + run_bytes (entries - 1) bits in
    let width = index_width entries in
    record { n = n; bits = bits; entries = entries; table = table; at = at; width = width; next = at + run_bytes n width }

-- "its whole length must fit (1) before its content is judged": where the last run fits, so does each
abbrev pub fits : ℕ → Plan → Res Plan
fits len p = do
  _ ← require (leb p.next len) 1
  ok p

-- "Set: bits 0 is, once n has been read, 8; one byte `entries`, under 2 is 8"
unfoldable pub tabled : List ℕ → ℕ → ℕ → ℕ → Res Plan
tabled s at n bits = do
  _ ← require (ltb 0 bits) 8
  entries ← word_at 1 s at
  _ ← require (leb 2 entries) 8
  fits (length s) (table_plan n bits entries (at + 1))

-- "byte h; .. 3 is 8; n above 256 is 8; bits = h%32. Bit 5 clear: n values .. Set: .."
unfoldable pub plan : List ℕ → ℕ → Res Plan
plan s at = do
  h ← word_at 1 s at
  _ ← require (ltb (h / 64) 3) 8
  n ← word_at (count_bytes h) s (at + 1)
  _ ← require (leb n 256) 8
  let to = at + 1 + count_bytes h
  cond (eqb (h / 32 % 2) 0) (fits (length s) (plain_plan n (h % 32) to)) (tabled s to n (h % 32))

-- ---- what the runs hold

-- "lowest bit first": the lowest n digits of a number in base 2^bits
unfoldable pub digits : ℕ → ℕ → ℕ → List ℕ
digits whole n bits = tabulate n (λ k. whole / 2 ^ (k * bits) % 2 ^ bits)

-- n numbers of `bits` bits from `at` on
abbrev pub run : List ℕ → ℕ → ℕ → ℕ → List ℕ
run s at n bits = digits (little (run_bytes n bits) s at) n bits

-- the entries of a table that n indices name
unfoldable pub chosen : ℕ → List ℕ → List ℕ → List ℕ
chosen n table indices = tabulate n (λ k. get_or table (get_or indices k 0) 0)

-- "an index at or above entries is 8"
abbrev pub all_below : ℕ → ℕ → List ℕ → Bool
all_below n entries indices = all_to n (λ k. ltb (get_or indices k 0) entries)

-- what the indices name in the table, whose "entry 0 is zero"
unfoldable pub looked_up : List ℕ → Plan → List ℕ → Res (List ℕ)
looked_up s p indices = do
  _ ← require (all_below p.n p.entries indices) 8
  ok (chosen p.n (0 ∷ run s p.table (p.entries - 1) p.bits) indices)

-- "Bit 5 clear": the n numbers themselves. "Set": what they name
unfoldable pub values_of : List ℕ → Plan → Res (List ℕ)
values_of s p = let numbers = run s p.at p.n p.width in cond (eqb p.entries 0) (ok numbers) (looked_up s p numbers)

pub record Counts : Type 0 where
  pub values : List ℕ
  pub next : ℕ

-- the counts that a plan leads to
unfoldable pub unpacked : List ℕ → Plan → Res Counts
unpacked s p = do
  vs ← values_of s p
  ok (record { values = vs; next = p.next })

-- whether a plan keeps to its bounds in a slice of `len` bytes (what it says: PlanKept)
unfoldable pub keeps : ℕ → Plan → Bool
keeps len p =
    (leb p.n 256 && leb p.bits 31 && leb p.width 31 && leb p.entries 255)
    && (leb p.table p.at && leb p.at p.next && leb p.next len)

-- the same of any plan at all: one that does not keep to its bounds, which none that was found is (counts-by-plan), is 8
unfoldable pub counts_by : List ℕ → Plan → Res Counts
counts_by s p = do
  _ ← require (keeps (length s) p) 8
  unpacked s p

-- the packed counts at `at`: "Reading goes front to back and the first failing read decides the number"
unfoldable pub counts : List ℕ → ℕ → Res Counts
counts s at = do
  p ← plan s at
  unpacked s p

-- ---- the answers: "A refusal carries its number"

-- how many, and where they end
abbrev pub Span : Type 0
Span = Told

abbrev pub span : Counts → Res Span
span c = ok (record { n = length c.values; next = c.next })

abbrev pub spanned : Res Counts → Res Span
spanned m = m >>= span

-- the values stand in front, and the entries behind them keep what they held;
-- a refusal "leaves every lent slice unchanged"
pub record CountsDecoded (m : Res Counts) (r : Res Span) (old new : List ℕ) : Type 0 where
  pub says : r ≡ spanned m
  pub left : new ≡ after m old (λ c. over c.values old)

-- what every plan keeps to, in a slice of `len` bytes
pub record PlanKept (len : ℕ) (p : Plan) : Type 0 where
  pub few : p.n ≤ 256
  pub narrow : p.bits ≤ 31
  pub slim : p.width ≤ 31
  pub short : p.entries ≤ 255
  pub tabled : p.table ≤ p.at
  pub begun : p.at ≤ p.next
  pub inside : p.next ≤ len
