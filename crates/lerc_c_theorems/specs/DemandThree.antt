-- Demand 3 for C: fills by number, in any order and as often as one likes, on a blob that other entries opened. Records are handed from one entry to the next as they were written.
-- Assumes nothing.
use Rattle.std.specs.Prelude.{ℕ, ◌≤◌, ◌<◌, ◌≡◌, Bool, true, cond, ◌&&◌, List, [], ◌∷◌, length, get_or, set, take, eqb}
use Rattle.lerc_words.specs.Res.{ok}
use Rattle.lerc_words.specs.Lists.{over}
use Rattle.lerc_header.specs.declared.Header.{Header}
use Rattle.lerc_header.specs.declared.Shape.{Shape}
use Rattle.lerc_header.specs.Shape.{cells, mask_length, block_count}
use Rattle.lerc_header.specs.Header.{shape_of, header_says}
use Rattle.lerc_ranges.specs.declared.Ranges.{Ranges}
use Rattle.lerc_ranges.specs.Ranges.{read_ranges_says}
use Rattle.lerc_validity.specs.Validity.{MaskInForce, bytes_of}
use Rattle.lerc_image.specs.Geometry.{block_of, tile_of, valid_in_tile, is_valid_cell}
use Rattle.lerc_image.specs.Paint.{among}
use Rattle.lerc_image.specs.Blocks.{Chain}
use Rattle.lerc.specs.Meaning.{blocks, cell_word, meaning}
use Rattle.lerc.specs.Read.{Lent}
use Rattle.lerc_c.specs.Records.{header_room, header_at, ranges_room, ranges_in}
use Rattle.lerc_theorems.specs.DemandTwo.{Roomy}
use Rattle.lerc_theorems.specs.DemandThree.{InHand, Found}
use Rattle.lerc_c_theorems.specs.Calls.{HoldsHeader, HoldsRanges, Told, HasPlace, Accepted, HeaderInC, PrepareInC, RangesInC, WalkInC, FillInC, ReadInC}

-- every element is a byte, as those of C's `uint8_t` are
abbrev pub Bytes : List ℕ → Type 0
Bytes b = (i : ℕ) → get_or b i 0 < 256

-- ---- before the first fill

-- what a C program has in hand: the blob, whether a mask may be reused and which, the records of header and ranges as they were written, the count of blocks and the end
-- that it was told, and what it lends
pub record InHandInC : Type 0 where
  pub blob : List ℕ
  pub reuse : Bool
  pub kept : List ℕ
  pub header : List ℕ
  pub ranges : List ℕ
  pub count : ℕ
  pub end : ℕ
  pub mask : List ℕ
  pub list : List ℕ
  pub image : List ℕ

-- the same with header and ranges out of their records
abbrev pub in_hand : InHandInC → InHand
in_hand x = record {
  blob = x.blob;
  reuse = x.reuse;
  kept = x.kept;
  header = header_at x.header;
  ranges = ranges_in x.ranges;
  count = x.count;
  end = x.end;
  mask = x.mask;
  list = x.list;
  image = x.image;
}

abbrev pub shape_in : InHandInC → Shape
shape_in x = shape_of (header_at x.header)

-- the slice of which `lerc2_prepare_mask` says that the mask in force is its front: said[0] is 1 for the kept mask, 2 for the spare
abbrev pub told_slice : List ℕ → List ℕ → List ℕ → List ℕ
told_slice said kept spare = cond (eqb (get_or said 0 0) 1) kept spare

-- `lerc2_read_header`, `lerc2_prepare_mask`, `lerc2_read_ranges` and `lerc2_walk`, each of which returned 0. `part` is what preparing said, `counts` what the walk said; of each record
-- and slice ₀ is what it held before the call, ₁ what it holds afterwards. The masks that walk and fills are lent begin with the told slice's first part[1] bytes, and the list that
-- fills are lent begins with what the walk listed; each may be longer.
pub record ByWalkInC (x : InHandInC) : Type 0 where
  pub header₀ : List ℕ
  pub spare₀ : List ℕ
  pub spare₁ : List ℕ
  pub part₀ : List ℕ
  pub part₁ : List ℕ
  pub ranges₀ : List ℕ
  pub longer : List ℕ
  pub list₀ : List ℕ
  pub list₁ : List ℕ
  pub counts₀ : List ℕ
  pub counts₁ : List ℕ
  pub bytes : Bytes x.blob
  pub header : Accepted (λ t. HeaderInC x.blob t header₀ x.header)
  pub prepare : Accepted (λ t. PrepareInC x.blob x.header x.reuse x.kept t spare₀ spare₁ part₀ part₁)
  pub ranges : Accepted (λ t. RangesInC x.blob x.header t ranges₀ x.ranges)
  pub begins : take (get_or part₁ 1 0) longer ≡ take (get_or part₁ 1 0) (told_slice part₁ x.kept spare₁)
  pub walk : Accepted (λ t. WalkInC x.blob x.header x.ranges longer t list₀ list₁ counts₀ counts₁)
  pub count : x.count ≡ get_or counts₁ 0 0
  pub end : x.end ≡ get_or counts₁ 1 0
  pub mask : take (get_or part₁ 1 0) x.mask ≡ take (get_or part₁ 1 0) (told_slice part₁ x.kept spare₁)
  pub list : take x.count x.list ≡ take x.count list₁
  pub room : cells (shape_in x) ≤ length x.image

-- `lerc2_read` and `lerc2_read_ranges`, each of which returned 0; the read told of blocks. What it said is the header's record, with the count (said[11]) and the end (said[12]) behind it;
-- list and mask begin as it left them, and the kept mask is the one before it.
pub record ByReadInC (x : InHandInC) : Type 0 where
  pub old : Lent
  pub new : Lent
  pub said₀ : List ℕ
  pub ranges₀ : List ℕ
  pub bytes : Bytes x.blob
  pub read : Accepted (λ t. ReadInC x.blob x.reuse t old new said₀ x.header)
  pub kept : old.kept ≡ x.kept
  pub count : x.count ≡ get_or x.header 11 0
  pub end : x.end ≡ get_or x.header 12 0
  pub some : 0 < x.count
  pub ranges : Accepted (λ t. RangesInC x.blob x.header t ranges₀ x.ranges)
  pub mask : take (mask_length (shape_in x)) x.mask ≡ take (mask_length (shape_in x)) new.kept
  pub list : take x.count x.list ≡ take x.count new.list
  pub room : cells (shape_in x) ≤ length x.image

pub data SurveyedInC (x : InHandInC) : Type 0 where
  by-walk : ByWalkInC x → SurveyedInC x
  by_read : ByReadInC x → SurveyedInC x

-- On a blob that has a meaning in blocks, and with the slices that a whole read could be lent, each of these calls returns 0 where its records and the slice of the place are long enough.
pub record StepsAccept (b : List ℕ) (reuse : Bool) (old : Lent) (h : Header) (f : MaskInForce) : Type 0 where
  pub header : (t : Told) (header₀ header₁ : List ℕ) → HeaderInC b t header₀ header₁ → HasPlace t → header_room ≤ length header₀ → t.number ≡ 0
  pub prepare : (t : Told) (header spare said₀ said₁ : List ℕ) → PrepareInC b header reuse old.kept t old.spare spare said₀ said₁ → HoldsHeader header h → HasPlace t → 2 ≤ length said₀ → t.number ≡ 0
  pub ranges : (t : Told) (header ranges₀ ranges₁ : List ℕ) → RangesInC b header t ranges₀ ranges₁ → HoldsHeader header h → HasPlace t → ranges_room ≤ length ranges₀ → t.number ≡ 0
  -- lent the ranges that were read, and a mask that begins with the mask in force
  pub walk : (t : Told) (header ranges mask list said₀ said₁ : List ℕ) (r : Ranges) → WalkInC b header ranges mask t old.list list said₀ said₁ → HoldsHeader header h → HoldsRanges ranges r
      → read_ranges_says b h ≡ ok r → take (mask_length (shape_of h)) mask ≡ bytes_of f → HasPlace t → 2 ≤ length said₀ → t.number ≡ 0

-- ---- fills

-- what a call of `lerc2_fill` told, and its record before and after
pub record Outcome : Type 0 where
  pub told : Told
  pub said₀ : List ℕ
  pub said₁ : List ℕ

-- calls of `lerc2_fill`, one for each number, each on the image that the one before it left
pub data FillsInC (b header ranges mask list : List ℕ) : List ℕ → List Outcome → List ℕ → List ℕ → Type 0 where
  none : (image : List ℕ) → FillsInC b header ranges mask list [] [] image image
  more : (n : ℕ) (ns : List ℕ) (said : Outcome) (others : List Outcome) (old mid new : List ℕ) → HasPlace said.told → 1 ≤ length said.said₀
      → FillInC b header ranges mask list n said.told old mid said.said₀ said.said₁ → FillsInC b header ranges mask list ns others mid new
      → FillsInC b header ranges mask list (n ∷ ns) (said ∷ others) old new

-- a number below the count of blocks is filled: 0 is returned, and its tile's valid pixels are said; each other is refused 11, and its record is as it was. The place is 0 in both.
pub record Answered (s : Shape) (mask : List ℕ) (n : ℕ) (said : Outcome) : Type 0 where
  pub place : said.told.place₁ ≡ set said.told.place₀ 0 0
  pub below : n < block_count s → (said.told.number ≡ 0) × (said.said₁ ≡ over (valid_in_tile s mask (tile_of s n) ∷ []) said.said₀)
  pub above : block_count s ≤ n → (said.told.number ≡ 11) × (said.said₁ ≡ said.said₀)

-- at every place of the list
pub data AllAnswered (s : Shape) (mask : List ℕ) : List ℕ → List Outcome → Type 0 where
  no_more : AllAnswered s mask [] []
  one_more : (n : ℕ) (ns : List ℕ) (said : Outcome) (others : List Outcome) → Answered s mask n said → AllAnswered s mask ns others → AllAnswered s mask (n ∷ ns) (said ∷ others)

-- a whole read of the blob that was accepted, from the same start; only where reuse is allowed must the kept masks begin alike. `left` is what it left.
pub record ReadAlikeInC (x : InHandInC) (left : Lent) : Type 0 where
  pub lent : Lent
  pub said₀ : List ℕ
  pub said₁ : List ℕ
  pub read : Accepted (λ t. ReadInC x.blob x.reuse t lent left said₀ said₁)
  pub same-mask : x.reuse ≡ true → take (mask_length (shape_in x)) lent.kept ≡ take (mask_length (shape_in x)) x.kept
  pub same_start : lent.image ≡ x.image

pub record AnyOrderInC (x : InHandInC) (ns : List ℕ) (said : List Outcome) (new : List ℕ) : Type 0 where
  -- the blob's meaning, which has the Lerc2 words
  pub found : Found (in_hand x)
  pub answers : AllAnswered (shape_in x) x.mask ns said
  -- "each valid cell of a filled block holds its Lerc2 word and every other cell is as at the start"
  pub long : length new ≡ length x.image
  pub cells : (c : ℕ) → c < length x.image
      → get_or new c 0 ≡ cond (is_valid_cell (shape_in x) x.mask c && among ns (block_of (shape_in x) c)) (cell_word (header_at x.header) (bytes_of found.means) (blocks found.chain) c) (get_or x.image c 0)
  -- the same by an image that a whole read from the same start left
  pub as_read : (left : Lent) → ReadAlikeInC x left → (c : ℕ) → c < length x.image
      → get_or new c 0 ≡ cond (is_valid_cell (shape_in x) x.mask c && among ns (block_of (shape_in x) c)) (get_or left.image c 0) (get_or x.image c 0)
  -- "every order that names each block ends in the whole read's image"
  pub complete : ((n : ℕ) → n < x.count → among ns n ≡ true) → (left : Lent) → ReadAlikeInC x left → new ≡ left.image

pub record DemandThreeInC : Type 0 where
  -- a record that one entry wrote is taken by the others as what it was written from
  pub header-handed : (b header₀ header₁ : List ℕ) → Bytes b → Accepted (λ t. HeaderInC b t header₀ header₁) → (h : Header) × (header_says b ≡ ok h) × HoldsHeader header₁ h
  pub ranges-handed : (b header : List ℕ) (h : Header) (ranges₀ ranges₁ : List ℕ) → HoldsHeader header h → Accepted (λ t. RangesInC b header t ranges₀ ranges₁)
      → (r : Ranges) × (read_ranges_says b h ≡ ok r) × HoldsRanges ranges₁ r
  -- what a whole read said serves as the header's record
  pub read-handed : (b : List ℕ) (reuse : Bool) (old new : Lent) (said₀ said₁ : List ℕ) → Bytes b → Accepted (λ t. ReadInC b reuse t old new said₀ said₁) → (h : Header) × (header_says b ≡ ok h) × HoldsHeader said₁ h
  -- given room, a blob that has a meaning in blocks is accepted by each of the calls before a fill
  pub steps-accepted : (b : List ℕ) (reuse : Bool) (old : Lent) (h : Header) (f : MaskInForce) (c : Chain) → meaning b reuse old.kept ≡ ok (record { header = h; mask = f; body = blocks c })
      → Roomy b old → StepsAccept b reuse old h f
  -- accepted calls open a blob for fills: it has a meaning in blocks, with the count and the end that they told
  pub opened-by-walk-in-c : (x : InHandInC) → ByWalkInC x → Found (in_hand x)
  pub opened-by-read-in-c : (x : InHandInC) → ByReadInC x → Found (in_hand x)
  -- "Fills in any order"
  pub any-order-in-c : (x : InHandInC) → SurveyedInC x → (ns : List ℕ) (said : List Outcome) (new : List ℕ) → FillsInC x.blob x.header x.ranges x.mask x.list ns said x.image new
      → AnyOrderInC x ns said new
