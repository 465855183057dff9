-- A reader that takes one bit after the other, as the rules tell it; the definition of a symbol says the same at once (law `bit-by-bit`).
-- Assumes nothing.
use Rattle.std.specs.Prelude.{ℕ, zero, suc, ◌+◌, ◌-◌, ◌/◌, ◌^◌, Bool, cond, ◌&&◌, List, ltb, eqb}
use Rattle.lerc_words.specs.Res.{Res, ok, fail, ◌>>=◌, refuse, require}
use Rattle.lerc_byte_image.specs.Table.{Table, bits_at, length_of, code_of, symbol_of}
use Rattle.lerc_byte_image.specs.Symbols.{first_of, bits_there, Symbol}

-- the symbol of code k, which begins at bit p
abbrev pub symbol_by : Table → ℕ → ℕ → Symbol
symbol_by t p k = record { value = symbol_of t.range k; next = p + length_of t k }

-- the first n bits from bit p on are code k; "A length of 0 means no code"
unfoldable pub is_code : List ℕ → Table → ℕ → ℕ → ℕ → Bool
is_code s t p n k = ltb 0 n && eqb (length_of t k) n && eqb (code_of t k) (bits_at s t.start p n)

-- they begin code k, which is longer
unfoldable pub goes_on : List ℕ → Table → ℕ → ℕ → ℕ → Bool
goes_on s t p n k = ltb n (length_of t k) && eqb (code_of t k / 2 ^ (length_of t k - n)) (bits_at s t.start p n)

-- n bits are taken, and one more at most `more` times: "8 as soon as the bits so far begin no code, 1 if a bit's word passes the size before that"
unfoldable pub read_on : List ℕ → Table → ℕ → ℕ → ℕ → Res Symbol
read_on s t p zero n = fail (refuse 8)
read_on s t p (suc more) n =
    let count = t.range.count in
    let k = first_of count (is_code s t p n) in
    let on = read_on s t p more (n + 1) in
    cond (ltb k count) (ok (symbol_by t p k))
    (require (ltb (first_of count (goes_on s t p n)) count) 8 >>= λ _. require (ltb (p + n) (bits_there s t.start)) 1 >>= λ _. on)

-- no code has more than 32 bits
abbrev pub read_bits : List ℕ → Table → ℕ → Res Symbol
read_bits s t p = read_on s t p 33 0
