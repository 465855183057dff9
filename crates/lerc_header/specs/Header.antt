-- The header and its rules.
-- Assumes nothing.
use Rattle.std.specs.Prelude.{ℕ, ◌+◌, ◌-◌, ◌*◌, ◌^◌, Bool, not, ◌&&◌, List, length, take, drop, leb, ltb, eqb}
use Rattle.lerc_words.specs.Res.{Res, ok, ◌>>=◌, require, accepts, little}
use Rattle.lerc_checksum.specs.Checksum.{checksum}
use Rattle.lerc_numeric.specs.Numeric.{negative, finite, mag, less}
use Rattle.lerc_header.specs.declared.Header.{Header}
use Rattle.lerc_header.specs.declared.Shape.{Shape}
use Rattle.lerc_header.specs.declared.Extent.{Extent}
use Rattle.lerc_header.specs.declared.Opened.{Opened as Found}
use Rattle.lerc_header.specs.Limits.{sideways, depth_limit, side_limit, cell_limit, size_limit}
use Rattle.lerc_header.specs.Shape.{pixels, cells, mask_length, block_count}

-- "slice under 70 gives 1"
abbrev pub header_bytes : ℕ
header_bytes = 70

abbrev pub shape_of : Header → Shape
shape_of h = record { rows = h.rows; columns = h.columns; depth = h.depth; side = h.side }

-- "mask 70, then ranges and body without a gap": where the ranges, or a body without them, begin
abbrev pub ranges_at : Header → ℕ
ranges_at h = header_bytes + h.mask

-- "error sign clear and below 2^1023"
unfoldable pub error_right : ℕ → Bool
error_right e = not (negative e) && ltb (mag e) (2 ^ (1023 + 1074))

-- a minimum and a maximum: both "finite, max not less than min"
unfoldable pub pair_right : ℕ → ℕ → Bool
pair_right low high = finite low && finite high && not (less high low)

-- "3: rows, columns, depth, side at least 1; valid at most rows × columns; kind at most 7; .. size at least 70 + mask bytes"
unfoldable pub fields_right : Header → Bool
fields_right h =
    ltb 0 h.rows && ltb 0 h.columns && ltb 0 h.depth && ltb 0 h.side
    && leb h.valid (h.rows * h.columns) && leb h.kind 7
    && error_right h.error && pair_right h.min h.max && leb (ranges_at h) h.size

-- "Then ceilings (4)"
unfoldable pub within_ceilings : Header → Bool
within_ceilings h =
    leb h.rows sideways && leb h.columns sideways && leb h.depth depth_limit
    && leb (h.rows * h.columns * h.depth) cell_limit && leb h.side side_limit && leb h.size size_limit

abbrev pub extent_of : Header → Extent
extent_of h =
    let s = shape_of h in
    record { shape = s; pixels = pixels s; cells = cells s; mask = mask_length s; blocks = block_count s; ranges = ranges_at h; size = h.size }

-- "A header .. by value [is] held to these rules again (3, 4, 1 for a slice shorter than the size ..)"
unfoldable pub held : Header → ℕ → Res Extent
held h n = do
  _ ← require (fields_right h) 3
  _ ← require (within_ceilings h) 4
  _ ← require (leb h.size n) 1
  ok (extent_of h)

-- the key "Lerc2 " and the version, 4: ten bytes as two numbers
abbrev pub key : ℕ
key = 0x20326372654C

abbrev pub version : ℕ
version = 4

-- "2: key or version differs"
unfoldable pub key_right : List ℕ → Bool
key_right b = eqb (little 6 b 0) key && eqb (little 4 b 6) version

-- "little-endian; offsets in bytes"
unfoldable pub header_of : List ℕ → Header
header_of b =
    record {
      rows = little 4 b 14;
      columns = little 4 b 18;
      depth = little 4 b 22;
      valid = little 4 b 26;
      side = little 4 b 30;
      size = little 4 b 34;
      kind = little 4 b 38;
      error = little 8 b 42;
      min = little 8 b 50;
      max = little 8 b 58;
      mask = little 4 b 66;
    }

-- "Bytes 14 up to the declared size"
abbrev pub summed_bytes : List ℕ → ℕ → List ℕ
summed_bytes b size = take (size - 14) (drop 14 b)

-- "checksum 10": what is stored there is that of the bytes behind it
unfoldable pub checksum_right : List ℕ → ℕ → Bool
checksum_right b size = eqb (little 4 b 10) (checksum (summed_bytes b size))

-- "Order: slice under 70 gives 1; then 2; then 3 ..; Then ceilings (4) ..; Then slice shorter than size: 1."
-- "Refusal 13, after the header's own refusals"
unfoldable pub header_says : List ℕ → Res Header
header_says b = do
  _ ← require (leb header_bytes (length b)) 1
  _ ← require (key_right b) 2
  _ ← held (header_of b) (length b)
  _ ← require (checksum_right b (header_of b).size) 13
  ok (header_of b)

-- a blob whose header is accepted, says this kind and depth, and declares all of the bytes
unfoldable pub is_tile : List ℕ → ℕ → ℕ → Bool
is_tile b kind depth = accepts (header_says b) && eqb kind (header_of b).kind && eqb depth (header_of b).depth && eqb (length b) (header_of b).size

-- a header with the sizes that follow from it
abbrev pub Opened : Type 0
Opened = Found

unfoldable pub open_says : List ℕ → Res Opened
open_says b = do
  h ← header_says b
  ok (record { header = h; extent = extent_of h })
