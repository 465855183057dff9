-- Tables and images by their bytes, accepted and refused, and the words of images with holes: the definitions at work, computed by the checker.
-- Assumes nothing.
use Rattle.std.specs.Prelude.{ℕ, ◌+◌, ◌*◌, ◌≡◌, Bool, true, false, List, [], ◌∷◌, ◌++◌, map, length, get_or, take, replicate}
use Rattle.lerc_words.specs.Res.{Res, ok, fail, refuse}
use Rattle.lerc_bits.specs.Packing.{bytes_of as bytes}
use Rattle.lerc_header.specs.declared.Header.{Header}
use Rattle.lerc_header.specs.declared.Shape.{Shape}
use Rattle.lerc_image.specs.Geometry.{is_valid_cell}
use Rattle.lerc_image.specs.Paint.{painted}
use Rattle.lerc_byte_image.specs.Table.{Table, table_at}
use Rattle.lerc_byte_image.specs.Symbols.{Coded, coded_at}
use Rattle.lerc_byte_image.specs.Prediction.{byte_word}
use Rattle.lerc_byte_image.specs.Image.{image_at, written_image}

-- ---- tables

-- "Four 4-byte integers: version at least 2, size at most 256, first i0, end i1"
abbrev pub integers : ℕ → ℕ → ℕ → ℕ → List ℕ
integers version size first end = bytes 4 version ++ bytes 4 size ++ bytes 4 first ++ bytes 4 end

-- three lengths of 2 bits each, from symbol 2 of 3 on, so for symbols 2, 0, 1; and the codes' word
abbrev pub three : ℕ → ℕ → List ℕ
three lengths codes = integers 2 3 2 5 ++ (0x82 ∷ 3 ∷ lengths ∷ []) ++ bytes 4 codes

-- 0, 10, 11
abbrev pub wrapping : List ℕ
wrapping = three (1 + 2 * 4 + 2 * 16) 0x58000000

-- 101 alone
abbrev pub single : List ℕ
single = integers 2 1 0 1 ++ (0x83 ∷ 1 ∷ 3 ∷ []) ++ bytes 4 0xA0000000

pub record TableRow : Type 0 where
  pub bytes : List ℕ
  pub says : Res Table

abbrev pub reads : List ℕ → ℕ → ℕ → List ℕ → List ℕ → ℕ → TableRow
reads b size first lengths codes start =
    record { bytes = b; says = ok (record { range = record { size = size; first = first; count = length lengths }; lengths = lengths; codes = codes; start = start }) }

abbrev pub refuses : List ℕ → ℕ → TableRow
refuses b n = record { bytes = b; says = fail (refuse n) }

abbrev pub tables : List TableRow
tables =
    reads wrapping 3 2 (1 ∷ 2 ∷ 2 ∷ []) (0 ∷ 2 ∷ 3 ∷ []) 23
    -- "a single code of any length is right"
    ∷ reads single 1 0 (3 ∷ []) (5 ∷ []) 23
    ∷ reads (integers 2 1 0 1 ++ (0x86 ∷ 1 ∷ 32 ∷ []) ++ bytes 4 0x80000001) 1 0 (32 ∷ []) (0x80000001 ∷ []) 23
    -- "A length of 0 means no code": 0, none, 1
    ∷ reads (integers 2 4 0 3 ++ (0x81 ∷ 3 ∷ 5 ∷ []) ++ bytes 4 0x40000000) 4 0 (1 ∷ 0 ∷ 1 ∷ []) (0 ∷ 0 ∷ 1 ∷ []) 23
    -- two codes of 20 bits, the second across two words
    ∷ reads (integers 2 2 0 2 ++ (0x85 ∷ 2 ∷ 0x94 ∷ 2 ∷ []) ++ bytes 4 0xABCDE123 ++ bytes 4 0x45000000) 2 0 (20 ∷ 20 ∷ []) (0xABCDE ∷ 0x12345 ∷ []) 28
    -- lengths by a table: 2, 2, 0
    ∷ reads (integers 2 3 0 3 ++ (0xA2 ∷ 3 ∷ 2 ∷ 2 ∷ 3 ∷ []) ++ bytes 4 0x10000000) 3 0 (2 ∷ 2 ∷ 0 ∷ []) (0 ∷ 1 ∷ 0 ∷ []) 25
    -- "each judged as it is read": version, size, first, end
    ∷ refuses [] 1
    ∷ refuses (bytes 4 1) 8
    ∷ refuses (bytes 4 2) 1
    ∷ refuses (bytes 4 2 ++ bytes 4 257) 8
    ∷ refuses (bytes 4 2 ++ bytes 4 3) 1
    ∷ refuses (bytes 4 2 ++ bytes 4 3 ++ bytes 4 3) 8
    ∷ refuses (bytes 4 2 ++ bytes 4 3 ++ bytes 4 2) 1
    ∷ refuses (integers 2 3 2 2) 8
    ∷ refuses (integers 2 3 2 1) 8
    ∷ refuses (integers 2 3 2 6) 8
    ∷ refuses (integers 2 3 2 0xFFFFFFFF) 8
    -- lengths: cut short, too few, 33, none above 0
    ∷ refuses (integers 2 3 2 5) 1
    ∷ refuses (integers 2 3 2 5 ++ (0x82 ∷ 2 ∷ 5 ∷ [])) 8
    ∷ refuses (integers 2 1 0 1 ++ (0x86 ∷ 1 ∷ 33 ∷ [])) 8
    ∷ refuses (integers 2 1 0 1 ++ (0x83 ∷ 1 ∷ 0 ∷ [])) 8
    -- codes cut short
    ∷ refuses (take 22 wrapping) 1
    -- "Codes must be prefix-free": 0, 10, 01, then 01, 10, 0, then 0, 10, 10; "then the code run must fit (1), then prefix-freeness (8)"
    ∷ refuses (three (1 + 2 * 4 + 2 * 16) 0x48000000) 8
    ∷ refuses (three (2 + 2 * 4 + 1 * 16) 0x60000000) 8
    ∷ refuses (three (1 + 2 * 4 + 2 * 16) 0x50000000) 8
    ∷ refuses (take 22 (three (1 + 2 * 4 + 2 * 16) 0x48000000)) 1
    ∷ []

-- ---- symbols

pub record CodedRow : Type 0 where
  pub bytes : List ℕ
  pub n : ℕ
  pub says : Res Coded

-- so many symbols of these bytes, which end there
abbrev pub coded : List ℕ → List ℕ → ℕ → CodedRow
coded b symbols end = record { bytes = b; n = length symbols; says = ok (record { symbols = symbols; end = end }) }

abbrev pub wrong : List ℕ → ℕ → ℕ → CodedRow
wrong b n number = record { bytes = b; n = n; says = fail (refuse number) }

abbrev pub codes : List CodedRow
codes =
    -- 0, 10, 11, 11: 7 bits; "the word after must fit (1, found last) and is not looked at"
    coded (wrapping ++ bytes 4 0x5E000000 ++ bytes 4 0) (2 ∷ 0 ∷ 1 ∷ 1 ∷ []) 31
    ∷ coded (wrapping ++ bytes 4 0x5E000000 ++ bytes 4 0xFFFFFFFF) (2 ∷ 0 ∷ 1 ∷ 1 ∷ []) 31
    ∷ wrong (wrapping ++ bytes 4 0x5E000000 ++ (0 ∷ 0 ∷ 0 ∷ [])) 4 1
    ∷ wrong (wrapping ++ bytes 4 0x5E000000) 4 1
    -- no symbols
    ∷ coded (wrapping ++ bytes 4 0) [] 27
    ∷ wrong wrapping 0 1
    -- 32 bits, and 33
    ∷ coded (wrapping ++ bytes 4 0x5E000000 ++ bytes 4 0) (2 ∷ 0 ∷ 1 ∷ 1 ∷ replicate 25 2) 31
    ∷ wrong (wrapping ++ bytes 4 0x5E000000 ++ bytes 4 0) 30 1
    ∷ coded (wrapping ++ bytes 4 0x5E000000 ++ bytes 4 0 ++ bytes 4 0) (2 ∷ 0 ∷ 1 ∷ 1 ∷ replicate 26 2) 35
    -- a code across two words, and cut behind the first
    ∷ coded (wrapping ++ bytes 4 1 ++ bytes 4 0x80000000 ++ bytes 4 0) (replicate 31 2 ++ (1 ∷ [])) 35
    ∷ wrong (wrapping ++ bytes 4 1) 32 1
    -- 101, 101, 100: an unknown code
    ∷ coded (single ++ bytes 4 0xB6000000 ++ bytes 4 0) (0 ∷ 0 ∷ []) 31
    ∷ wrong (single ++ bytes 4 0xB6000000 ++ bytes 4 0) 3 8
    -- 101 ten times, then 10 at the end of the bytes (1), 11 there (8), 100 (8), 101
    ∷ wrong (single ++ bytes 4 0xB6DB6DB6) 11 1
    ∷ wrong (single ++ bytes 4 0xB6DB6DB7) 11 8
    ∷ wrong (single ++ bytes 4 0xB6DB6DB6 ++ bytes 4 0) 11 8
    ∷ coded (single ++ bytes 4 0xB6DB6DB6 ++ bytes 4 0x80000000 ++ bytes 4 0) (replicate 11 0) 35
    -- a table that is refused
    ∷ wrong (three (1 + 2 * 4 + 2 * 16) 0x48000000 ++ bytes 4 0 ++ bytes 4 0) 1 8
    ∷ []

-- ---- words

-- an image of 2 rows and 3 columns, with this byte for its mask
pub record WordRow : Type 0 where
  pub kind : ℕ
  pub delta : Bool
  pub depth : ℕ
  pub mask : ℕ
  pub symbols : List ℕ
  pub words : List ℕ

abbrev pub shape : ℕ → Shape
shape depth = record { rows = 2; columns = 3; depth = depth; side = 8 }

-- every cell held 999
abbrev pub words_of : WordRow → List ℕ
words_of r =
    let m = r.mask ∷ [] in
    painted (replicate (6 * r.depth) 999) (is_valid_cell (shape r.depth) m) (byte_word (shape r.depth) r.kind r.delta m (λ i. get_or r.symbols i 0))

abbrev pub predicted : ℕ → ℕ → ℕ → List ℕ → List ℕ → WordRow
predicted kind depth mask symbols words = record { kind = kind; delta = true; depth = depth; mask = mask; symbols = symbols; words = words }

abbrev pub plain : ℕ → ℕ → ℕ → List ℕ → List ℕ → WordRow
plain kind depth mask symbols words = record { kind = kind; delta = false; depth = depth; mask = mask; symbols = symbols; words = words }

abbrev pub words : List WordRow
words =
    -- no hole: by the left one, and by the one above only at the start of a row
    predicted 1 1 0xFC (1 ∷ 2 ∷ 3 ∷ 4 ∷ 5 ∷ 6 ∷ []) (1 ∷ 3 ∷ 6 ∷ 5 ∷ 10 ∷ 16 ∷ [])
    -- a hole in the second row: the pixel behind it by the one above
    ∷ predicted 1 1 0xF4 (10 ∷ 20 ∷ 250 ∷ 7 ∷ 3 ∷ []) (10 ∷ 30 ∷ 24 ∷ 17 ∷ 999 ∷ 27 ∷ [])
    -- "less 128 for kind 0"
    ∷ predicted 0 1 0xF4 (10 ∷ 20 ∷ 250 ∷ 7 ∷ 3 ∷ []) (138 ∷ 30 ∷ 152 ∷ 17 ∷ 999 ∷ 27 ∷ [])
    -- a hole in each row: by the last valid value
    ∷ predicted 1 1 0xAC (10 ∷ 20 ∷ 250 ∷ 7 ∷ []) (10 ∷ 999 ∷ 30 ∷ 999 ∷ 24 ∷ 31 ∷ [])
    -- "depth by depth", "0 at the start of each depth"
    ∷ predicted 1 2 0xAC (10 ∷ 20 ∷ 250 ∷ 7 ∷ 1 ∷ 2 ∷ 3 ∷ 4 ∷ []) (10 ∷ 1 ∷ 999 ∷ 999 ∷ 30 ∷ 3 ∷ 999 ∷ 999 ∷ 24 ∷ 6 ∷ 31 ∷ 10 ∷ [])
    -- "pixel by pixel, depth innermost, no prediction"
    ∷ plain 1 2 0xAC (10 ∷ 20 ∷ 250 ∷ 7 ∷ 1 ∷ 2 ∷ 3 ∷ 4 ∷ []) (10 ∷ 20 ∷ 999 ∷ 999 ∷ 250 ∷ 7 ∷ 999 ∷ 999 ∷ 1 ∷ 2 ∷ 3 ∷ 4 ∷ [])
    ∷ plain 0 2 0xAC (10 ∷ 20 ∷ 250 ∷ 7 ∷ 1 ∷ 2 ∷ 3 ∷ 4 ∷ []) (138 ∷ 148 ∷ 999 ∷ 999 ∷ 122 ∷ 135 ∷ 999 ∷ 999 ∷ 129 ∷ 130 ∷ 131 ∷ 132 ∷ [])
    ∷ []

-- ---- a whole image

-- 0, 10, 11, 11, 0 behind 74 bytes and a mode byte
abbrev pub blob : ℕ → List ℕ
blob last = replicate 74 0 ++ (1 ∷ []) ++ wrapping ++ bytes 4 0x5E000000 ++ bytes 4 0 ++ (last ∷ [])

-- 2 rows, 3 columns, a hole
abbrev pub header : ℕ → Header
header size = record {
  rows = 2;
  columns = 3;
  depth = 1;
  valid = 5;
  side = 8;
  size = size;
  kind = 1;
  error = 0x3FE0000000000000;
  min = 0;
  max = 0x4024000000000000;
  mask = 1;
}

pub record Computed : Type 0 where
  pub tables : map (λ (r : TableRow). table_at r.bytes 0) tables ≡ map (λ (r : TableRow). r.says) tables
  pub codes : map (λ (r : CodedRow). coded_at r.bytes 0 r.n) codes ≡ map (λ (r : CodedRow). r.says) codes
  pub words : map words_of words ≡ map (λ (r : WordRow). r.words) words
  pub image : image_at (blob 0) (header 107) 74 ≡ ok (record { symbols = 2 ∷ 0 ∷ 1 ∷ 1 ∷ 2 ∷ []; end = 106 })
  -- "both at the mode byte's place"
  pub cut : image_at (take 105 (blob 0)) (header 105) 74 ≡ fail (record { number = 1; at = 74 })
  pub delta : written_image (blob 0) (header 107) 74 true (0xF4 ∷ []) (replicate 7 999) ≡ 2 ∷ 2 ∷ 3 ∷ 3 ∷ 999 ∷ 5 ∷ 999 ∷ []
  pub plain : written_image (blob 0) (header 107) 74 false (0xF4 ∷ []) (replicate 7 999) ≡ 2 ∷ 0 ∷ 1 ∷ 1 ∷ 999 ∷ 2 ∷ 999 ∷ []
