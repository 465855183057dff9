-- The checksum of a blob's bytes: the sentence of the change request, and the rule of Esri's published code, which decides.
-- Assumes nothing.
use Rattle.std.specs.Prelude.{ℕ, zero, suc, ◌+◌, ◌*◌, ◌/◌, ◌%◌, ◌^◌, Bool, cond, ◌||◌, List, length, get_or, eqb}
use Rattle.std.specs.Int.Bits.{bit_or}
use Rattle.lerc_words.specs.Lists.{total}
use Rattle.lerc_checksum.specs.declared.Sums.{Sums}

-- "as 16-bit words, first byte high, an odd last byte high over zero": past the end bytes are zeros
unfoldable pub word : List ℕ → ℕ → ℕ
word s k = 256 * get_or s (2 * k) 0 + get_or s (2 * k + 1) 0

-- ---- the sentence

-- how many words, that of an odd last byte included
abbrev pub word_count : List ℕ → ℕ
word_count s = (length s + 1) / 2

-- "sum of the words": of the first n
abbrev pub word_sum : List ℕ → ℕ → ℕ
word_sum s n = total n (word s)

-- "the sum of the running sums": the sums of the first word, of the first two, .., of the first n
abbrev pub running_sum : List ℕ → ℕ → ℕ
running_sum s n = total n (λ k. word_sum s (suc k))

-- "modulo 65,535, zero written as 65,535"
unfoldable pub half : ℕ → ℕ
half x = cond (eqb (x % 65535) 0) 65535 (x % 65535)

-- "Low half: sum of the words .. High half: the same for the sum of the running sums."
unfoldable pub by_the_words : List ℕ → ℕ
by_the_words s = half (running_sum s (word_count s)) * 65536 + half (word_sum s (word_count s))

-- ---- the rule that decides: two sums, folded after each group of words

-- "A and B start at 65,535"
abbrev pub start : Sums
start = record { first = 65535; second = 65535 }

-- "for each word A += word, B += A"
abbrev pub counted : Sums → ℕ → Sums
counted t w = record { first = t.first + w; second = t.second + (t.first + w) }

-- "x becomes x mod 65,536 + x div 65,536"
unfoldable pub fold : ℕ → ℕ
fold x = x % 65536 + x / 65536

-- "for both"
abbrev pub folded : Sums → Sums
folded t = record { first = fold t.first; second = fold t.second }

abbrev pub group_words : ℕ
group_words = 359

-- "after each 359 words"
unfoldable pub sums_to : List ℕ → ℕ → Sums
sums_to s zero = start
sums_to s (suc n) =
    let t = counted (sums_to s n) (word s n) in
    cond (eqb (suc n % group_words) 0) (folded t) t

-- "and after the last whole word if a group is open"
unfoldable pub closed_to : List ℕ → ℕ → Sums
closed_to s n =
    let t = sums_to s n in
    cond (eqb (n % group_words) 0) t (folded t)

-- "an odd last byte b: A += 256 b, B += A"
unfoldable pub with_last : List ℕ → Sums → Sums
with_last s t = cond (eqb (length s % 2) 0) t (counted t (word s (length s / 2)))

-- both sums as they are before the last fold
abbrev pub last_sums : List ℕ → Sums
last_sums s = with_last s (closed_to s (length s / 2))

-- "stored = (B x 65,536 mod 2^32) or-ed with A"
unfoldable pub joined : Sums → ℕ
joined t = bit_or (t.second * 65536 % 2 ^ 32) t.first

-- "then that fold once more for both"
unfoldable pub checksum : List ℕ → ℕ
checksum s = joined (folded (last_sums s))

-- ---- where the two differ: before the last fold A is 131,071, or B is 131,071, 196,606 or 196,607

unfoldable pub exceptional : List ℕ → Bool
exceptional s =
    let t = last_sums s in
    eqb t.first 131071 || eqb t.second 131071 || eqb t.second 196606 || eqb t.second 196607
