-- A writer of packed counts, as bytes, in both forms.
-- Assumes nothing.
use Rattle.std.specs.Prelude.{ℕ, zero, suc, ◌+◌, ◌*◌, ◌/◌, ◌%◌, ◌^◌, cond, List, [], ◌∷◌, ◌++◌, ltb, eqb, length, get_or}
use Rattle.lerc_words.specs.Lists.{tabulate}
use Rattle.lerc_bits.specs.Bits.{run_bytes, index_width}

-- "lowest bit first": the number whose digits in base 2^bits are the values
unfoldable pub packed : ℕ → List ℕ → ℕ
packed bits [] = 0
packed bits (v ∷ vs) = v + 2 ^ bits * packed bits vs

-- its lowest n bytes, the lowest first
unfoldable pub bytes_of : ℕ → ℕ → List ℕ
bytes_of zero x = []
bytes_of (suc n) x = x % 256 ∷ bytes_of n (x / 256)

-- "Each run ends on a byte"
unfoldable pub run_of : ℕ → List ℕ → List ℕ
run_of bits values = bytes_of (run_bytes (length values) bits) (packed bits values)

-- the first byte, whose lowest six bits are `form`, and the count: one byte where that is enough, else two
unfoldable pub head_of : ℕ → ℕ → List ℕ
head_of form n = cond (ltb n 256) ((128 + form) ∷ bytes_of 1 n) ((64 + form) ∷ bytes_of 2 n)

-- "Bit 5 clear: n values"
unfoldable pub plain_of : ℕ → List ℕ → List ℕ
plain_of bits values = head_of bits (length values) ++ run_of bits values

-- where a value first stands in a list
unfoldable pub place_of : List ℕ → ℕ → ℕ
place_of [] v = 0
place_of (x ∷ xs) v = cond (eqb x v) 0 (suc (place_of xs v))

-- the places of the values in the table, whose "entry 0 is zero"
unfoldable pub indices_of : List ℕ → List ℕ → List ℕ
indices_of table values = tabulate (length values) (λ k. place_of (0 ∷ table) (get_or values k 0))

-- "Set: .. one byte `entries` ..; entries-1 values (entry 0 is zero); then n indices"
unfoldable pub table_of : ℕ → List ℕ → List ℕ → List ℕ
table_of bits table values =
    let entries = suc (length table) in
    head_of (32 + bits) (length values) ++ entries ∷ (run_of bits table ++ run_of (index_width entries) (indices_of table values))
