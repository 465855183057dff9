-- What is claimed of Huffman images: that a symbol is the one code that begins the bits at its place, that it is read bit by bit, which symbols an image has and where it ends, what is looked at, and the words of its cells.
-- `Bytes` says of a list what the type of a slice says: every entry is a byte.
-- Assumes nothing.
use Rattle.std.specs.Prelude.{ℕ, ◌+◌, ◌-◌, ◌*◌, ◌/◌, ◌%◌, ◌^◌, ◌≤◌, ◌<◌, ◌≡◌, ◌↔◌, ◌≢◌, ◌⊎◌, Bool, true, false, List, length, get_or}
use Rattle.lerc_words.specs.declared.Refusal.{Refusal}
use Rattle.lerc_words.specs.Res.{ok, fail, little}
use Rattle.lerc_words.specs.Lists.{total, tabulate}
use Rattle.lerc_words.proofs.Little.{Bytes}
use Rattle.lerc_header.specs.declared.Header.{Header}
use Rattle.lerc_header.specs.declared.Extent.{Extent}
use Rattle.lerc_header.specs.declared.Shape.{Shape}
use Rattle.lerc_header.specs.Header.{shape_of, held}
use Rattle.lerc_header.specs.Shape.{pixels, cells, mask_length}
use Rattle.lerc_mask.specs.Mask.{pixel_valid, valid_below}
use Rattle.lerc_image.specs.Geometry.{is_valid_cell}
use Rattle.lerc_image.specs.Paint.{painted}
use Rattle.lerc_byte_image.specs.Table.{Table, table_at, bits_at, length_of, code_of, symbol_of}
use Rattle.lerc_byte_image.specs.Symbols.{bits_there, agrees, Symbol, symbol_at, Coded}
use Rattle.lerc_byte_image.specs.Prediction.{byte_of, left_valid, above_valid, delta_place, plain_place, byte_word}
use Rattle.lerc_byte_image.specs.Image.{image_at, written_image}
use Rattle.lerc_byte_theorems.specs.Reader.{symbol_by, read_bits}
use Rattle.lerc_byte_theorems.specs.Witness.{Computed}

-- ---- a symbol

-- "Codes must be prefix-free": of an accepted table no code begins another, wherever the two stand
abbrev pub PrefixFree : Type 0
PrefixFree = (s : List ℕ) (at : ℕ) (t : Table) (i k : ℕ) → table_at s at ≡ ok t → i < t.range.count → k < t.range.count → i ≢ k → 0 < length_of t i → length_of t i ≤ length_of t k
    → code_of t k / 2 ^ (length_of t k - length_of t i) ≢ code_of t i

-- "the unique code that begins the bits at a place": so there is one at most, also among codes that only begin with the bits that are there
abbrev pub OneCode : Type 0
OneCode = (s : List ℕ) (at : ℕ) (t : Table) (p i k : ℕ) → table_at s at ≡ ok t → i < t.range.count → k < t.range.count → agrees s t p i ≡ true → agrees s t p k ≡ true
    → p + length_of t i ≤ bits_there s t.start → i ≡ k

-- code k begins the bits from bit p on, and all its bits are there
pub record Whole (s : List ℕ) (t : Table) (p k : ℕ) : Type 0 where
  pub below : k < t.range.count
  pub some : 0 < length_of t k
  pub inside : p + length_of t k ≤ bits_there s t.start
  pub bits : bits_at s t.start p (length_of t k) ≡ code_of t k

-- a symbol is accepted exactly where there is such a code, and it is that code's
abbrev pub SymbolIs : Type 0
SymbolIs = (s : List ℕ) (at : ℕ) (t : Table) (p : ℕ) (x : Symbol) → table_at s at ≡ ok t → (symbol_at s t p ≡ ok x) ↔ ((k : ℕ) × Whole s t p k × (x ≡ symbol_by t p k))

-- "Symbols bit by bit: 8 as soon as the bits so far begin no code, 1 if a bit's word passes the size before that"
abbrev pub BitByBit : Type 0
BitByBit = (s : List ℕ) (at : ℕ) (t : Table) (p : ℕ) → table_at s at ≡ ok t → read_bits s t p ≡ symbol_at s t p

-- ---- bits

abbrev pub NoBits : Type 0
NoBits = (s : List ℕ) (at p : ℕ) → bits_at s at p 0 ≡ 0

-- "high bit first": n bits and the next one
abbrev pub BitsMore : Type 0
BitsMore = (s : List ℕ) (at p n : ℕ) → Bytes s → n < 32 → bits_at s at p (n + 1) ≡ 2 * bits_at s at p n + bits_at s at (p + n) 1

-- "in little-endian 32-bit words": bit p is bit 31 - p%32 of word p/32
abbrev pub OneBit : Type 0
OneBit = (s : List ℕ) (at p : ℕ) → Bytes s → bits_at s at p 1 ≡ little 4 s (at + p / 32 * 4) / 2 ^ (31 - p % 32) % 2

-- ---- an image

-- a code for each valid cell, one behind the other: their symbols are the image's, and the sum of their lengths are its bits
pub record CodedBy (s : List ℕ) (h : Header) (mode : ℕ) (x : Coded) : Type 0 where
  pub table : Table
  pub table_is : table_at s (mode + 1) ≡ ok table
  pub code : ℕ → ℕ
  pub each : (i : ℕ) → i < h.valid * h.depth → Whole s table (total i (λ j. length_of table (code j))) (code i)
  pub symbols : x.symbols ≡ tabulate (h.valid * h.depth) (λ i. symbol_of table.range (code i))
  -- "the symbols end (ceil(bits/32)+1)·4 bytes on"
  pub end : x.end ≡ table.start + ((total (h.valid * h.depth) (λ j. length_of table (code j)) + 31) / 32 + 1) * 4
  -- "the word after must fit"
  pub inside : x.end ≤ length s

-- exactly those images are accepted
abbrev pub ImageIs : Type 0
ImageIs = (s : List ℕ) (h : Header) (mode : ℕ) (x : Coded) → (image_at s h mode ≡ ok x) ↔ CodedBy s h mode x

-- "A broken table or unknown code is 8, a word or run past the size 1, both at the mode byte's place"
abbrev pub ImageRefused : Type 0
ImageRefused = (s : List ℕ) (h : Header) (mode : ℕ) (why : Refusal) → image_at s h mode ≡ fail why → (why.at ≡ mode) × ((why.number ≡ 1) ⊎ (why.number ≡ 8))

-- it takes more than 16 bytes behind its mode byte, and ends within
abbrev pub ImageBounds : Type 0
ImageBounds = (s : List ℕ) (h : Header) (mode : ℕ) (x : Coded) → image_at s h mode ≡ ok x → (mode + 17 ≤ x.end) × (x.end ≤ length s)

-- bytes in front of it and behind its end are not looked at, nor how many there are
abbrev pub ImageFront : Type 0
ImageFront = (s c : List ℕ) (h : Header) (mode : ℕ) (x : Coded) → image_at s h mode ≡ ok x → ((i : ℕ) → mode + 1 ≤ i → i < x.end → get_or s i 0 ≡ get_or c i 0) → x.end ≤ length c
    → image_at c h mode ≡ ok x

-- ---- words

-- "symbol and prediction are added modulo 256"
abbrev pub Added : Type 0
Added = (kind symbol prediction : ℕ) → kind ≢ 0 → byte_of kind symbol prediction ≡ (symbol + prediction) % 256

-- "less 128 for kind 0"
abbrev pub AddedLess : Type 0
AddedLess = (symbol prediction : ℕ) → (byte_of 0 symbol prediction + 128) % 256 ≡ (symbol + prediction) % 256

-- mode 1: the word of depth d of pixel p
abbrev pub delta_word : Shape → ℕ → List ℕ → (ℕ → ℕ) → ℕ → ℕ → ℕ
delta_word h kind m symbol p d = byte_word h kind true m symbol (p * h.depth + d)

-- the same with its own symbol and this prediction
abbrev pub Predicted : Shape → ℕ → List ℕ → (ℕ → ℕ) → ℕ → ℕ → ℕ → Type 0
Predicted h kind m symbol p d prediction = delta_word h kind m symbol p d ≡ byte_of kind (symbol (delta_place h m d p)) prediction

-- "the last value where the left pixel (same row) is valid"
abbrev pub PredictedLeft : Type 0
PredictedLeft = (h : Shape) (kind : ℕ) (m : List ℕ) (symbol : ℕ → ℕ) (p d : ℕ) → 0 < h.columns → d < h.depth → pixel_valid m p ≡ true
    → 0 < p % h.columns → pixel_valid m (p - 1) ≡ true → Predicted h kind m symbol p d (delta_word h kind m symbol (p - 1) d)

-- "else the word above where that is valid"
abbrev pub PredictedAbove : Type 0
PredictedAbove = (h : Shape) (kind : ℕ) (m : List ℕ) (symbol : ℕ → ℕ) (p d : ℕ) → 0 < h.columns → d < h.depth → pixel_valid m p ≡ true
    → left_valid h.columns m p ≡ false → h.columns ≤ p → pixel_valid m (p - h.columns) ≡ true → Predicted h kind m symbol p d (delta_word h kind m symbol (p - h.columns) d)

-- "else the last valid value"
abbrev pub PredictedLast : Type 0
PredictedLast = (h : Shape) (kind : ℕ) (m : List ℕ) (symbol : ℕ → ℕ) (p q d : ℕ) → 0 < h.columns → d < h.depth → pixel_valid m p ≡ true
    → left_valid h.columns m p ≡ false → above_valid h.columns m p ≡ false → q < p → pixel_valid m q ≡ true → ((i : ℕ) → q < i → i < p → pixel_valid m i ≡ false)
    → Predicted h kind m symbol p d (delta_word h kind m symbol q d)

-- "(0 at the start of each depth)"
abbrev pub PredictedFirst : Type 0
PredictedFirst = (h : Shape) (kind : ℕ) (m : List ℕ) (symbol : ℕ → ℕ) (p d : ℕ) → 0 < h.columns → d < h.depth → pixel_valid m p ≡ true
    → ((i : ℕ) → i < p → pixel_valid m i ≡ false) → Predicted h kind m symbol p d 0

-- "Mode 2: pixel by pixel, depth innermost, no prediction"
abbrev pub PlainWord : Type 0
PlainWord = (h : Shape) (kind : ℕ) (m : List ℕ) (symbol : ℕ → ℕ) (p d : ℕ) → d < h.depth
    → byte_word h kind false m symbol (p * h.depth + d) ≡ byte_of kind (symbol (plain_place h m d p)) 0

-- "The word is the byte, 0 to 255, for kind 0 too"
abbrev pub SmallWords : Type 0
SmallWords = (h : Shape) (kind : ℕ) (delta : Bool) (m : List ℕ) (symbol : ℕ → ℕ) (c : ℕ) → is_valid_cell h m c ≡ true → byte_word h kind delta m symbol c ≤ 255

-- what is written for an accepted image: each valid cell its word, every other cell as it was
abbrev pub Written : Type 0
Written = (s : List ℕ) (h : Header) (mode : ℕ) (delta : Bool) (m image : List ℕ) (e : Extent) (x : Coded) → held h (length s) ≡ ok e → length s ≡ h.size
    → mask_length (shape_of h) ≤ length m → cells (shape_of h) ≤ length image → valid_below (pixels (shape_of h)) m ≡ h.valid → image_at s h mode ≡ ok x
    → written_image s h mode delta m image ≡ painted image (is_valid_cell (shape_of h) m) (byte_word (shape_of h) h.kind delta m (λ i. get_or x.symbols i 0))

pub record ByteClaims : Type 0 where
  pub prefix-free : PrefixFree
  pub one_code : OneCode
  pub symbol-is : SymbolIs
  pub bit-by-bit : BitByBit
  pub no_bits : NoBits
  pub bits-more : BitsMore
  pub one_bit : OneBit
  pub image-is : ImageIs
  pub image-refused : ImageRefused
  pub image-bounds : ImageBounds
  pub image-front : ImageFront
  pub added : Added
  pub added-less : AddedLess
  pub predicted-left : PredictedLeft
  pub predicted-above : PredictedAbove
  pub predicted-last : PredictedLast
  pub predicted-first : PredictedFirst
  pub plain_word : PlainWord
  pub small-words : SmallWords
  pub written : Written
  -- on tables, symbols and images by their bytes
  pub computed : Computed
