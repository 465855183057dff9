-- The symbols of a Huffman image: each is the code that begins the bits at its place, and of prefix-free codes at most one does (law `one_code`).
-- Assumes nothing.
use Rattle.std.specs.Prelude.{ℕ, zero, suc, ◌+◌, ◌-◌, ◌*◌, ◌/◌, ◌^◌, min, Bool, cond, ◌&&◌, List, [], ◌∷◌, length, ◌==◌, nat_le, nat_lt}
use Rattle.lerc_words.specs.Res.{Res, ok, ◌>>=◌, require}
use Rattle.lerc_byte_image.specs.Table.{Table, table_at, bits_at, run_words, length_of, code_of, symbol_of}

-- the least k below n that has the property; n where none has
unfoldable pub first_of : ℕ → (ℕ → Bool) → ℕ
first_of zero p = 0
first_of (suc n) p = let k = first_of n p in cond (nat_lt k n) k (cond (p n) n (suc n))

-- the bits behind a place that are there, in whole words
abbrev pub bits_there : List ℕ → ℕ → ℕ
bits_there s start = (length s - start) / 4 * 32

-- code k begins the bits from bit p on; where fewer are there, they begin code k
unfoldable pub agrees : List ℕ → Table → ℕ → ℕ → Bool
agrees s t p k =
    let n = min (length_of t k) (bits_there s t.start - p) in
    nat_lt 0 (length_of t k) && code_of t k / 2 ^ (length_of t k - n) == bits_at s t.start p n

-- a symbol, and the bit behind its code
pub record Symbol : Type 0 where
  pub value : ℕ
  pub next : ℕ

-- "8 as soon as the bits so far begin no code, 1 if a bit's word passes the size before that"
unfoldable pub symbol_at : List ℕ → Table → ℕ → Res Symbol
symbol_at s t p = do
  let k = first_of t.range.count (agrees s t p)
  _ ← require (nat_lt k t.range.count) 8
  _ ← require (nat_le (p + length_of t k) (bits_there s t.start)) 1
  ok (record { value = symbol_of t.range k; next = p + length_of t k })

-- n symbols, and the bit behind the last
pub record Run : Type 0 where
  pub values : List ℕ
  pub bits : ℕ

unfoldable pub symbols_from : List ℕ → Table → ℕ → ℕ → Res Run
symbols_from s t zero p = ok (record { values = []; bits = p })
symbols_from s t (suc n) p = do
  x ← symbol_at s t p
  rest ← symbols_from s t n x.next
  ok (record { values = x.value ∷ rest.values; bits = rest.bits })

-- "the symbols end (ceil(bits/32)+1)·4 bytes on"
abbrev pub end_of : ℕ → ℕ → ℕ
end_of start bits = start + (run_words bits + 1) * 4

-- the symbols of an image, and where they end
pub record Coded : Type 0 where
  pub symbols : List ℕ
  pub end : ℕ

-- the table at `at`, n symbols behind it, and the word after: it "must fit (1, found last) and is not looked at"
unfoldable pub coded_at : List ℕ → ℕ → ℕ → Res Coded
coded_at s at n = do
  t ← table_at s at
  r ← symbols_from s t n 0
  _ ← require (nat_le (end_of t.start r.bits) (length s)) 1
  ok (record { symbols = r.values; end = end_of t.start r.bits })
