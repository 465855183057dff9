-- The arithmetic is right: rounding goes to the nearest, ties to even, and to infinity exactly from where the rules say; sums, products and conversions are the exact values, rounded,
-- and an infinity stays one beside a finite number; and the functions compute them.
-- A magnitude is a whole number of units of 2^-1074; a binary32's own unit is 2^925 of them.
-- Assumes nothing.
use Rattle.std.specs.Prelude.{ℕ, ◌+◌, ◌-◌, ◌*◌, ◌%◌, ◌^◌, ◌≤◌, ◌<◌, ◌≡◌, ◌≢◌, true, false, cond, ltb, pos}
use Rattle.std.specs.Bool.{beq}
use Rattle.std.specs.Float.{binary64}
use Rattle.std.specs.Float.Ieee.{add, mul, lt, of_int, of_bits, to_bits}
use Rattle.lerc_words.specs.Res.{ok}
use Rattle.lerc_numeric.specs.Numeric.{negative, field, finite, infinite, mag, bits64, bits32, signed, absorbs, sum, scaled, less, lesser}
use Rattle.lerc_numeric.specs.Numeric as Numeric
use Rattle.lerc_numeric.specs.Kinds.{modulus, integer, field32, mag32, widened, value_of, narrowed, whole, cut}
use Rattle.lerc_numeric.proofs.plus.Reads as plusses
use Rattle.lerc_numeric.proofs.scale.Reads as scales
use Rattle.lerc_numeric.proofs.narrow.Reads as narrows
use Rattle.lerc_numeric.proofs.number.Reads as numbers
use Rattle.lerc_numeric.proofs.to_integer.Reads as integers
use Rattle.lerc_numeric.proofs.less.Reads as compares
use Rattle.lerc_numeric.proofs.same.Reads as equates
use Rattle.lerc_numeric.proofs.minimum.Reads as chooses
use Rattle.lerc_numeric.proofs.step.Reads as moves
use Rattle.lerc_numeric.proofs.float_ready.Reads as readies

-- how far two numbers are apart
abbrev pub distance : ℕ → ℕ → ℕ
distance a b = a - b + (b - a)

abbrev pub infinity64 : ℕ
infinity64 = 2047 * 2 ^ 52

abbrev pub infinity32 : ℕ
infinity32 = 255 * 2 ^ 23

-- the magnitude of a binary32 in units of a binary64
abbrev pub units32 : ℕ → ℕ
units32 v = mag32 v * 2 ^ 925

-- a word stands for `above` less `beneath` units: both zeros for 0
abbrev pub above : ℕ → ℕ
above w = cond (negative w) 0 (mag w)

abbrev pub beneath : ℕ → ℕ
beneath w = cond (negative w) (mag w) 0

-- how far a word is from the exact a + b
abbrev pub off_by : ℕ → ℕ → ℕ → ℕ
off_by a b w = distance (above a + above b + beneath w) (beneath a + beneath b + above w)

-- finite or infinite: a field of 2047 has no fraction
abbrev pub IsNumber : ℕ → Type 0
IsNumber w = w % 2 ^ 63 ≤ infinity64

pub record Rounding : Type 0 where
  -- "each nearest with ties to even": no word is nearer to n units than the word that they are rounded to; where another is as near, that word is even
  pub nearest64 : (n w : ℕ) → bits64 n < infinity64 → distance n (mag (bits64 n)) ≤ distance n (mag w)
  pub even64 : (n w : ℕ) → bits64 n < infinity64 → mag w ≢ mag (bits64 n) → distance n (mag (bits64 n)) ≡ distance n (mag w) → bits64 n % 2 ≡ 0
  -- "2^1024 - 2^970 and above becoming infinity", and nothing below
  pub infinite64 : (n : ℕ) → 2 ^ 2098 - 2 ^ 2044 ≤ n → bits64 n ≡ infinity64
  pub finite64 : (n : ℕ) → n < 2 ^ 2098 - 2 ^ 2044 → bits64 n < infinity64
  -- "6 rounds to binary32 (nearest, ties to even, too large becoming infinity)"
  pub nearest32 : (n v : ℕ) → bits32 n < infinity32 → distance n (units32 (bits32 n)) ≤ distance n (units32 v)
  pub even32 : (n v : ℕ) → bits32 n < infinity32 → units32 v ≢ units32 (bits32 n) → distance n (units32 (bits32 n)) ≡ distance n (units32 v) → bits32 n % 2 ≡ 0
  pub infinite32 : (n : ℕ) → 2 ^ 1202 - 2 ^ 1177 ≤ n → bits32 n ≡ infinity32
  pub finite32 : (n : ℕ) → n < 2 ^ 1202 - 2 ^ 1177 → bits32 n < infinity32
  -- a finite word is its own rounding
  pub own64 : (w : ℕ) → field w < 2047 → w < 2 ^ 64 → signed (negative w) (bits64 (mag w)) ≡ w
  pub own32 : (v : ℕ) → field32 v < 255 → bits32 (units32 v) ≡ v % 2 ^ 31

pub record Sums : Type 0 where
  -- "scaled(a, q) is 2·q·a, sum is a + b", each the exact magnitude rounded; of opposite signs the greater decides, and the lesser is taken off it unless it is an infinity that meets a finite number
  pub sum_alike : (a b : ℕ) → a < 2 ^ 64 → b < 2 ^ 64 → negative a ≡ negative b → sum a b ≡ signed (negative a) (bits64 (mag a + mag b))
  pub sum-apart : (a b : ℕ) → beq (negative a) (negative b) ≡ false → mag b < mag a → absorbs a b ≡ false → sum a b ≡ signed (negative a) (bits64 (mag a - mag b))
  pub scaled-is : (a q : ℕ) → scaled a q ≡ signed (negative a) (bits64 (2 * q * mag a))
  -- "Opposite signs cancelling give +0; two zeros of one sign keep it; a product has the sign of a"
  pub sum-cancels : (a b : ℕ) → beq (negative a) (negative b) ≡ false → mag a ≡ mag b → sum a b ≡ 0
  pub sum_zeros : (a b : ℕ) → negative a ≡ negative b → mag a ≡ 0 → mag b ≡ 0 → sum a b ≡ signed (negative a) 0
  pub scaled_sign : (a q : ℕ) → negative (scaled a q) ≡ negative a
  -- a sum does not depend on the order of its operands, and does not fall where one of them grows, unless it grows between an infinity and a pattern with a fraction
  pub sum_comm : (a b : ℕ) → sum a b ≡ sum b a
  pub sum-grows : (a b c : ℕ) → (infinite b ≡ true → IsNumber c) → (infinite c ≡ true → IsNumber b) → less c b ≡ false → less (sum a c) (sum a b) ≡ false

pub record NearestSums : Type 0 where
  -- "nearest with ties to even": no word is nearer to the exact a + b than a finite sum of finite numbers; where another value is as near, the sum is even
  pub sum-nearest : (a b w : ℕ) → finite a ≡ true → finite b ≡ true → finite (sum a b) ≡ true → off_by a b (sum a b) ≤ off_by a b w
  pub sum-even : (a b w : ℕ) → finite a ≡ true → finite b ≡ true → finite (sum a b) ≡ true
      → above w + beneath (sum a b) ≢ above (sum a b) + beneath w → off_by a b (sum a b) ≡ off_by a b w → sum a b % 2 ≡ 0
  -- a number, infinities among them, is its own sum with a zero, unless it is one
  pub sum-own : (a z : ℕ) → a < 2 ^ 64 → z < 2 ^ 64 → IsNumber a → mag a ≢ 0 → mag z ≡ 0 → sum a z ≡ a

pub record InfiniteSums : Type 0 where
  -- "finite plus infinity, either way round, is that infinity"
  pub sum-infinite : (a b : ℕ) → infinite a ≡ true → finite b ≡ true → (sum a b ≡ a) × (sum b a ≡ a)
  -- there it can fall: the greatest finite number, negated, and infinity add to infinity; it and the next pattern, which is counted farther out, to less
  pub sum-falls : (less 0x7FF0000000000001 0x7FF0000000000000 ≡ false) × (less (sum 0xFFEFFFFFFFFFFFFF 0x7FF0000000000001) (sum 0xFFEFFFFFFFFFFFFF 0x7FF0000000000000) ≡ true)

pub record Order : Type 0 where
  -- "the lesser of" two, the second on a tie; comparing is by value, and an order
  pub less-is : (a b : ℕ) → less a b ≡ ltb (above a + beneath b) (above b + beneath a)
  pub lesser-first : (a b : ℕ) → less a b ≡ true → lesser a b ≡ a
  pub lesser-second : (a b : ℕ) → less a b ≡ false → lesser a b ≡ b
  pub less-asym : (a b : ℕ) → less a b ≡ true → less b a ≡ false
  pub less-trans : (a b c : ℕ) → less a b ≡ true → less b c ≡ true → less a c ≡ true

pub record ByMachine : Type 0 where
  -- "the language's own binary64 add and multiply, each rounding once, .. agree bit for bit with the definitions": all finite words, zeros, subnormal ones, ties and overflow included, with twice any count of 32 bits
  pub machine-sum : (a b : ℕ) → field a < 2047 → field b < 2047 → to_bits binary64 (add binary64 (of_bits binary64 a) (of_bits binary64 b)) ≡ sum a b
  pub machine-scaled : (a q : ℕ) → field a < 2047 → q < 2 ^ 32 → to_bits binary64 (mul binary64 (of_bits binary64 a) (of_int binary64 (pos (2 * q)))) ≡ scaled a q
  -- so does its order, of a sum, which may be infinite, and a finite word
  pub machine-less : (w t : ℕ) → IsNumber w → field t < 2047 → lt (of_bits binary64 w) (of_bits binary64 t) ≡ less w t

pub record Conversions : Type 0 where
  -- "6 rounds to binary32", of a finite value; what is not finite is converted as `narrowed` says
  pub narrowed-is : (w : ℕ) → field w < 2047 → narrowed w ≡ cond (negative w) (2 ^ 31) 0 + bits32 (mag w)
  -- "kinds 0 to 5 cut toward zero and refuse outside the range": the word stands for the whole part
  pub cut-toward-zero : (kind w v : ℕ) → cut kind w ≡ ok v
      → (whole w * 2 ^ 1074 ≤ mag w) × (mag w < (whole w + 1) * 2 ^ 1074) × (v ≡ cond (negative w) ((modulus kind - whole w) % modulus kind) (whole w))
  -- a word of a kind comes back from its binary64, non-finite ones of binary32 too
  pub back-integer : (kind v : ℕ) → kind < 6 → v < modulus kind → cut kind (integer kind v) ≡ ok v
  pub back32 : (v : ℕ) → v < 2 ^ 32 → narrowed (widened v) ≡ v

pub record Computes : Type 0 where
  -- the functions compute these, for every operand
  pub plus : (k : _) (a : _) (r : _) (x : _) → plusses.Post k a r x → r ≡ sum a.0 a.1.0
  pub scale : (k : _) (a : _) (r : _) (x : _) → scales.Post k a r x → r ≡ scaled a.0 a.1.0
  pub narrow : (k : _) (a : _) (r : _) (x : _) → narrows.Post k a r x → r ≡ narrowed a.0
  pub number : (k : _) (a : _) (r : _) (x : _) → numbers.Post k a r x → r ≡ value_of a.1.0 a.0
  pub to-integer : (k : _) (a : _) (r : _) (x : _) → integers.Post k a r x → r ≡ cut a.1.0 a.0
  pub less : (k : _) (a : _) (r : _) (x : _) → compares.Post k a r x → r ≡ Numeric.less a.0 a.1.0
  pub same : (k : _) (a : _) (r : _) (x : _) → equates.Post k a r x → r ≡ Numeric.same a.0 a.1.0
  pub minimum : (k : _) (a : _) (r : _) (x : _) → chooses.Post k a r x → r ≡ lesser a.0 a.1.0
  -- "the lesser of sum(offset, scaled(error, q)) and the depth's maximum", of offset, error, maximum and q
  pub step : (k : _) (a : _) (r : _) (x : _) → moves.Post k a r x → r ≡ lesser (sum a.0 (scaled a.1.0 a.1.1.1.0)) a.1.1.0
  -- a thread that is told otherwise has a float unit that is not as the language says
  pub float-ready : (k : _) (a : _) (r : _) (x : _) → readies.Post k a r x → r ≡ true

pub record Arithmetic : Type 0 where
  pub rounding : Rounding
  pub sums : Sums
  pub nearest-sums : NearestSums
  pub infinite-sums : InfiniteSums
  pub order : Order
  pub by-machine : ByMachine
  pub conversions : Conversions
  pub computes : Computes
