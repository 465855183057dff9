-- "Kinds 0 to 7: i8, u8, i16, u16, i32, u32, f32, f64." A kind above 7 counts as 7: no header has one.
-- Assumes nothing.
use Rattle.std.specs.Prelude.{Bool, ◌&&◌, cond, [], ◌∷◌, ℕ, ◌+◌, ◌-◌, ◌*◌, ◌/◌, ◌%◌, ◌^◌, min, get_or, leb, ltb, eqb}
use Rattle.lerc_words.specs.Res.{Res, ok, ◌>>=◌, require}
use Rattle.lerc_numeric.specs.Numeric.{negative, field, finite, mag, signed, bits64, bits32}

-- ---- sizes

abbrev pub type_size : ℕ → ℕ
type_size kind = get_or (1 ∷ 1 ∷ 2 ∷ 2 ∷ 4 ∷ 4 ∷ 4 ∷ 8 ∷ []) kind 8

-- how many words a kind has: "Integer widths share one fact over the width"
abbrev pub modulus : ℕ → ℕ
modulus kind = 2 ^ (8 * type_size kind)

abbrev pub signed_kind : ℕ → Bool
signed_kind kind = eqb (kind % 2) 0

-- ---- a stored word as a binary64

-- a whole number: a word in the upper half of a signed kind is less than 0 by what is missing to the modulus
unfoldable pub integer : ℕ → ℕ → ℕ
integer kind v = let s = signed_kind kind && leb (modulus kind / 2) v in signed s (bits64 (cond s (modulus kind - v) v * 2 ^ 1074))

abbrev pub field32 : ℕ → ℕ
field32 v = v % 2 ^ 31 / 2 ^ 23

-- the magnitude of a binary32, in its own units
abbrev pub mag32 : ℕ → ℕ
mag32 v = (min 1 (field32 v) * 2 ^ 23 + v % 2 ^ 23) * 2 ^ (field32 v - 1)

-- "A non-finite value is .. converted between binary32 and binary64 as `number_software` .. show"
unfoldable pub widened : ℕ → ℕ
widened v =
    signed (leb (2 ^ 31) v)
    (cond (eqb (field32 v) 255) (2047 * 2 ^ 52 + v % 2 ^ 23 * 2 ^ 29) (bits64 (mag32 v * 2 ^ 925)))

-- a word wider than its kind is taken modulo the kind
unfoldable pub value_of : ℕ → ℕ → ℕ
value_of kind w =
    let v = w % modulus kind in
    cond (ltb kind 6) (integer kind v) (cond (eqb kind 6) (widened v) v)

-- ---- a binary64 as a stored word

-- "6 rounds to binary32 (nearest, ties to even, too large becoming infinity)", "as .. `narrow_software` show[s]"
unfoldable pub narrowed : ℕ → ℕ
narrowed w =
    cond (negative w) (2 ^ 31) 0
    + cond (eqb (field w) 2047) (255 * 2 ^ 23 + w % 2 ^ 52 / 2 ^ 29) (bits32 (mag w))

-- the magnitude "cut toward zero"
unfoldable pub whole : ℕ → ℕ
whole w = mag w / 2 ^ 1074

-- the first magnitude outside the kind's range, by the sign
abbrev pub bound : ℕ → Bool → ℕ
bound kind s = cond (signed_kind kind) (modulus kind / 2 + cond s 1 0) (cond s 1 (modulus kind))

-- "kinds 0 to 5 cut toward zero and refuse outside the range", "A non-finite value is refused"; other kinds are no integers
unfoldable pub cut : ℕ → ℕ → Res ℕ
cut kind w = do
  _ ← require (ltb kind 6 && finite w && ltb (whole w) (bound kind (negative w))) 9
  ok (cond (negative w) ((modulus kind - whole w) % modulus kind) (whole w))
