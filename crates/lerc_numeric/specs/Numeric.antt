-- binary64 and binary32 over whole numbers. A magnitude is counted in units of 2 ^ -1074 (of 2 ^ -149 in a binary32):
-- "A finite binary64 is a whole number times 2^-1074."
-- Assumes nothing.
use Rattle.std.specs.Prelude.{Bool, ◌&&◌, ◌||◌, cond, ℕ, ◌+◌, ◌-◌, ◌*◌, ◌/◌, ◌%◌, ◌^◌, min, leb, ltb, eqb}
use Rattle.std.specs.Bool.{beq}
use Rattle.std.specs.Float.Ieee.{size, below}
use Rattle.std.specs.Float.Ieee.Nearest.{closest}

-- ---- a word's parts: the sign, the exponent's field, the digits

abbrev pub negative : ℕ → Bool
negative w = leb (2 ^ 63) w

abbrev pub field : ℕ → ℕ
field w = w % 2 ^ 63 / 2 ^ 52

abbrev pub finite : ℕ → Bool
finite w = ltb (field w) 2047

-- a field of 2047 and no fraction
abbrev pub infinite : ℕ → Bool
infinite w = eqb (w % 2 ^ 63) (2047 * 2 ^ 52)

-- the whole number and the power of two whose product is the magnitude; a field of 0 has no leading digit and counts as 1
abbrev pub sig : ℕ → ℕ
sig w = min 1 (field w) * 2 ^ 52 + w % 2 ^ 52

abbrev pub exp : ℕ → ℕ
exp w = field w - 1

-- "An operand with exponent field 2047 is counted as if finite with the next exponent": no field is special here
unfoldable pub mag : ℕ → ℕ
mag w = sig w * 2 ^ exp w

-- ---- n / c units to p binary digits: "nearest with ties to even"

-- how many digits are dropped
abbrev pub dropped : ℕ → ℕ → ℕ → ℕ
dropped p n c = size (n / c) - p

-- the exponent's field counts the digits dropped, and a carry runs into it; `top` is infinity, the most there is
unfoldable pub code : ℕ → ℕ → ℕ → ℕ → ℕ
code p top n c = min top (dropped p n c * 2 ^ (p - 1) + closest n (c * 2 ^ dropped p n c))

-- n units as a binary64: "2^1024 - 2^970 and above becoming infinity"
abbrev pub bits64 : ℕ → ℕ
bits64 n = code 53 (2047 * 2 ^ 52) n 1

-- n units as a binary32, whose own unit is 2 ^ (1074 - 149) as large
abbrev pub bits32 : ℕ → ℕ
bits32 n = code 24 (255 * 2 ^ 23) n (2 ^ 925)

abbrev pub signed : Bool → ℕ → ℕ
signed s n = cond s (2 ^ 63) 0 + n

-- ---- the operations

-- a + b by their magnitudes: "Opposite signs cancelling give +0; two zeros of one sign keep it"
unfoldable pub counted_sum : ℕ → ℕ → ℕ
counted_sum a b =
    cond (beq (negative a) (negative b))
    (signed (negative a) (bits64 (mag a + mag b)))
    (cond (ltb (mag a) (mag b))
    (signed (negative b) (bits64 (mag b - mag a)))
    (signed (negative a && ltb (mag b) (mag a)) (bits64 (mag a - mag b))))

-- an infinite a that meets a finite b
abbrev pub absorbs : ℕ → ℕ → Bool
absorbs a b = infinite a && finite b

-- "sum is a + b"; "finite plus infinity, either way round, is that infinity"
unfoldable pub sum : ℕ → ℕ → ℕ
sum a b = cond (absorbs a b) a (cond (absorbs b a) b (counted_sum a b))

-- "scaled(a, q) is 2·q·a", "a product has the sign of a"
unfoldable pub scaled : ℕ → ℕ → ℕ
scaled a q = signed (negative a) (bits64 (2 * q * mag a))

-- "Comparing treats both zeros alike."
unfoldable pub less : ℕ → ℕ → Bool
less a b = below (negative a) (mag a) (negative b) (mag b)

-- "the same (equal bits, or both zero)"
unfoldable pub same : ℕ → ℕ → Bool
same a b = eqb a b || (eqb (mag a) 0 && eqb (mag b) 0)

-- "the lesser of" two, the second on a tie
unfoldable pub lesser : ℕ → ℕ → ℕ
lesser a b = cond (less a b) a b
