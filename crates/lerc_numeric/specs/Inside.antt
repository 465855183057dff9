-- What private functions promise; not part of the rules.
-- Assumes nothing.
use Rattle.std.specs.Prelude.{Bool, cond, ◌&&◌, ℕ, ◌+◌, ◌-◌, ◌*◌, ◌/◌, ◌%◌, ◌^◌, min, eqb, leb, ltb}
use Rattle.lerc_numeric.specs.Numeric.{field, mag, bits32}

-- v / 2 ^ n, whose last digit is 1 where anything was cut off: what the code rounds in its place
unfoldable pub jam : ℕ → ℕ → ℕ
jam v n = v / 2 ^ n + min (1 - v / 2 ^ n % 2) (v % 2 ^ n)

-- a binary64 as a binary32 without its sign
unfoldable pub unsigned32 : ℕ → ℕ
unsigned32 w = cond (eqb (field w) 2047) (255 * 2 ^ 23 + w % 2 ^ 52 / 2 ^ 29) (bits32 (mag w))

-- from 2 ^ -126 on and below 2 ^ 128, where a binary32 has 24 digits
abbrev pub normal32 : ℕ → Bool
normal32 w = leb (897 * 2 ^ 52) (w % 2 ^ 63) && ltb (w % 2 ^ 63) (1151 * 2 ^ 52)

-- 1 where a word is negative, else 0
abbrev pub sign_of : ℕ → ℕ
sign_of w = min 1 (w / 2 ^ 63)

-- 2 ^ 991 as a word: times twice a count of 32 bits an error below it is finite
abbrev pub error_end : ℕ
error_end = 2014 * 2 ^ 52
