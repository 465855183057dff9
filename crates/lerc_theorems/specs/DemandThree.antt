-- Demand 3: fills by number, in any order and as often as one likes, are exact; every other cell is as it was.
-- Assumes nothing.
use Rattle.std.specs.Prelude.{ℕ, ◌+◌, ◌*◌, ◌≤◌, ◌<◌, ◌≡◌, Bool, true, cond, ◌&&◌, List, [], ◌∷◌, map, length, get_or, take, ltb, eqb}
use Rattle.lerc_words.specs.Res.{ok, refuse, Res, fail}
use Rattle.lerc_words.specs.Lists.{over, count, total}
use Rattle.lerc_header.specs.declared.Header.{Header}
use Rattle.lerc_header.specs.declared.Shape.{Shape}
use Rattle.lerc_header.specs.Shape.{cells, mask_length, block_count}
use Rattle.lerc_header.specs.Header.{shape_of}
use Rattle.lerc_ranges.specs.declared.Ranges.{Ranges}
use Rattle.lerc_validity.specs.Validity.{MaskInForce, bytes_of, prepare_says, MaskTold}
use Rattle.lerc_image.specs.Geometry.{block_of, tile_of, valid_in_tile, is_valid_cell}
use Rattle.lerc_image.specs.Paint.{in_block, among}
use Rattle.lerc_image.specs.Blocks.{Chain}
use Rattle.lerc_image.specs.Walk.{walk_says, Walk}
use Rattle.lerc.specs.Meaning.{blocks, cell_word, meaning}
use Rattle.lerc.specs.Read.{Lent, room, ReadTold}
use Rattle.lerc_theorems.specs.Calls.{HeaderCall, PrepareCall, HandedCall, ReadRanges, WalkCall, FillCall, FillCalls, EachCall, TilesCall, ReadCall}
use Rattle.lerc_theorems.specs.Unread.{SameWithin}

-- a blob in blocks, what it means, and what fills are lent: header, ranges, mask, list and image
pub record Case : Type 0 where
  pub blob : List ℕ
  pub reuse : Bool
  pub kept : List ℕ
  pub header : Header
  pub means : MaskInForce
  pub chain : Chain
  pub ranges : Ranges
  pub mask : List ℕ
  pub list : List ℕ
  pub image : List ℕ

abbrev pub shape : Case → Shape
shape x = shape_of x.header

-- the mask in force
abbrev pub in_mask : Case → List ℕ
in_mask x = bytes_of x.means

-- how many blocks there are
abbrev pub blocks_of : Case → ℕ
blocks_of x = block_count (shape x)

-- The blob has a meaning in blocks, with this header and this mask in force (`opened-by-walk` and `opened-by-read` have calls that tell so). The ranges are those read from it.
-- The lent mask's first bytes are the mask in force, and it may be longer; the list's first count entries are the starts; the image has room.
pub record Opened (x : Case) : Type 0 where
  pub means : meaning x.blob x.reuse x.kept ≡ ok (record { header = x.header; mask = x.means; body = blocks x.chain })
  pub kept : mask_length (shape x) ≤ length x.kept
  pub ranges : ReadRanges x.blob x.header x.ranges
  pub mask : take (mask_length (shape x)) x.mask ≡ in_mask x
  pub long : blocks_of x ≤ length x.list
  pub starts : (n : ℕ) → n < blocks_of x → get_or x.list n 0 ≡ get_or x.chain.starts n 0
  pub room : cells (shape x) ≤ length x.image

-- a call of fill, and calls one after the other
abbrev pub CaseFill : Case → ℕ → Res ℕ → List ℕ → List ℕ → Type 0
CaseFill x n said old new = FillCall x.blob x.header x.ranges x.mask x.list n said old new

abbrev pub CaseFills : Case → List ℕ → List (Res ℕ) → List ℕ → Type 0
CaseFills x ns said new = FillCalls x.blob x.header x.ranges x.mask x.list ns said x.image new

-- the answer to a number: its tile's valid pixels, or 11
abbrev pub answer_to : Shape → List ℕ → ℕ → Res ℕ
answer_to s m n = cond (ltb n (block_count s)) (ok (valid_in_tile s m (tile_of s n))) (fail (refuse 11))

-- A whole read that may be compared with: room for all, and the same start. Only where reuse is allowed must the kept masks begin alike.
pub record ReadAlike (b : List ℕ) (reuse : Bool) (kept : List ℕ) (h : Header) (image : List ℕ) (left : Lent) : Type 0 where
  pub answer : Res ReadTold
  pub lent : Lent
  pub read : ReadCall b reuse answer lent left
  pub room : room h lent ≡ true
  pub same-mask : reuse ≡ true → take (mask_length (shape_of h)) lent.kept ≡ take (mask_length (shape_of h)) kept
  pub same_start : lent.image ≡ image

abbrev pub CaseRead : Case → Lent → Type 0
CaseRead x left = ReadAlike x.blob x.reuse x.kept x.header x.image left

-- the words that an answer reports; a refusal reports 0
abbrev pub reported : Res ℕ → ℕ
reported (ok n) = n
reported (fail r) = 0

-- the words that answers report together
abbrev pub reported_by : List (Res ℕ) → ℕ
reported_by [] = 0
reported_by (a ∷ said) = reported a + reported_by said

-- how often a number stands in a list
abbrev pub times : ℕ → List ℕ → ℕ
times n [] = 0
times n (i ∷ ns) = cond (eqb n i) 1 0 + times n ns

-- how many of the answers are fills
abbrev pub filled_among : List (Res ℕ) → ℕ
filled_among [] = 0
filled_among (ok n ∷ said) = 1 + filled_among said
filled_among (fail r ∷ said) = filled_among said

-- how many of the numbers are below k
abbrev pub below : ℕ → List ℕ → ℕ
below k [] = 0
below k (n ∷ ns) = cond (ltb n k) 1 0 + below k ns

-- ---- from calls alone

-- what a caller has in hand before it fills: the blob, whether a mask may be reused and which, what it was told (header, ranges, count of blocks, end), and what it lends
pub record InHand : Type 0 where
  pub blob : List ℕ
  pub reuse : Bool
  pub kept : List ℕ
  pub header : Header
  pub ranges : Ranges
  pub count : ℕ
  pub end : ℕ
  pub mask : List ℕ
  pub list : List ℕ
  pub image : List ℕ

-- Read header, prepare mask, mask in force, read ranges and walk, the walk accepted. The masks that walk and fills are lent begin with the one that was handed back, and the
-- list that fills are lent begins with what the walk listed; each may be longer.
pub record ByWalk (x : InHand) : Type 0 where
  pub said : Res MaskTold
  pub spare : List ℕ
  pub prepared : List ℕ
  pub part : List ℕ
  pub longer : List ℕ
  pub unlisted : List ℕ
  pub listed : List ℕ
  pub header : HeaderCall x.blob (ok x.header)
  pub prepare : PrepareCall x.blob x.header x.reuse x.kept said spare prepared
  pub handed : HandedCall x.kept prepared said part
  pub ranges : ReadRanges x.blob x.header x.ranges
  pub begins : take (mask_length (shape_of x.header)) longer ≡ part
  pub walk : WalkCall x.blob x.header x.ranges longer (ok (record { blocks = x.count; end = x.end })) unlisted listed
  pub mask : take (mask_length (shape_of x.header)) x.mask ≡ part
  pub list : take x.count x.list ≡ take x.count listed
  pub room : cells (shape_of x.header) ≤ length x.image

-- a whole read that told of blocks, and the ranges read; list and mask begin as it left them
pub record ByRead (x : InHand) : Type 0 where
  pub old : Lent
  pub new : Lent
  pub read : ReadCall x.blob x.reuse (ok (record { header = x.header; blocks = x.count; end = x.end })) old new
  pub kept : old.kept ≡ x.kept
  pub some : 0 < x.count
  pub ranges : ReadRanges x.blob x.header x.ranges
  pub mask : take (mask_length (shape_of x.header)) x.mask ≡ take (mask_length (shape_of x.header)) new.kept
  pub list : take x.count x.list ≡ take x.count new.list
  pub room : cells (shape_of x.header) ≤ length x.image

pub data Surveyed (x : InHand) : Type 0 where
  by-walk : ByWalk x → Surveyed x
  by_read : ByRead x → Surveyed x

abbrev pub case_of : InHand → MaskInForce → Chain → Case
case_of x f c = record {
  blob = x.blob;
  reuse = x.reuse;
  kept = x.kept;
  header = x.header;
  means = f;
  chain = c;
  ranges = x.ranges;
  mask = x.mask;
  list = x.list;
  image = x.image;
}

-- what such calls tell: a meaning in blocks, with the count and the end that they answered
pub record Found (x : InHand) : Type 0 where
  pub means : MaskInForce
  pub chain : Chain
  pub opened : Opened (case_of x means chain)
  pub count : x.count ≡ block_count (shape_of x.header)
  pub end : x.end ≡ chain.end

-- the first byte behind block n: where the next one begins, or the end
abbrev pub ends_at : InHand → ℕ → ℕ
ends_at x n = cond (ltb (n + 1) x.count) (get_or x.list (n + 1) 0) x.end

-- After fills by any list of numbers: what each answered, and every cell.
pub record AnyOrder (x : InHand) (ns : List ℕ) (said : List (Res ℕ)) (new : List ℕ) : Type 0 where
  -- the blob's meaning, which has the Lerc2 words
  pub found : Found x
  -- at every place of the list, a number below the count is filled and the answer is its tile's valid pixels; each other is refused 11
  pub answers : said ≡ map (answer_to (shape_of x.header) x.mask) ns
  -- "each valid cell of a filled block holds its Lerc2 word and every other cell is as at the start"
  pub long : length new ≡ length x.image
  pub cells : (c : ℕ) → c < length x.image
      → get_or new c 0 ≡ cond (is_valid_cell (shape_of x.header) x.mask c && among ns (block_of (shape_of x.header) c)) (cell_word x.header (bytes_of found.means) (blocks found.chain) c) (get_or x.image c 0)
  -- the same by an image that a whole read from the same start left: all that is named then a caller has in hand
  pub as_read : (left : Lent) → ReadAlike x.blob x.reuse x.kept x.header x.image left → (c : ℕ) → c < length x.image
      → get_or new c 0 ≡ cond (is_valid_cell (shape_of x.header) x.mask c && among ns (block_of (shape_of x.header) c)) (get_or left.image c 0) (get_or x.image c 0)
  -- "every order that names each block ends in the whole read's image"
  pub complete : ((n : ℕ) → n < x.count → among ns n ≡ true) → (left : Lent) → ReadAlike x.blob x.reuse x.kept x.header x.image left → new ≡ left.image

pub record DemandThree : Type 0 where
  -- calls of read header, prepare mask, mask in force, read ranges and walk open a blob for fills
  pub opened-by-walk : (x : InHand) → ByWalk x → Found x
  -- and so does a whole read, with the list and the mask as it left them
  pub opened-by-read : (x : InHand) → ByRead x → Found x
  -- "Fills in any order", of calls alone
  pub any_order : (x : InHand) → Surveyed x → (ns : List ℕ) (said : List (Res ℕ)) (new : List ℕ) → FillCalls x.blob x.header x.ranges x.mask x.list ns said x.image new
      → AnyOrder x ns said new
  -- a fill looks at the bytes of its block alone: from where it begins up to where the next one does
  pub fill-own : (x : InHand) → Surveyed x → (c : List ℕ) (n : ℕ) (said told : Res ℕ) (old new other : List ℕ) → n < x.count → cells (shape_of x.header) ≤ length old → x.header.size ≤ length c
      → SameWithin (get_or x.list n 0) (ends_at x n) x.blob c → FillCall x.blob x.header x.ranges x.mask x.list n said old new
      → FillCall c x.header x.ranges x.mask x.list n told old other → (told ≡ said) × (other ≡ new)
  -- what is handed back after preparing is the mask in force
  pub mask-handed : (b : List ℕ) (h : Header) (reuse : Bool) (kept spare new m : List ℕ) (f : MaskInForce) (said : Res MaskTold)
      → PrepareCall b h reuse kept said spare new → HandedCall kept new said m → prepare_says b h reuse kept (length spare) ≡ ok f → m ≡ bytes_of f
  -- the list that a walk leaves holds the starts that it found
  pub walk-lists : (b : List ℕ) (h : Header) (r : Ranges) (m old new : List ℕ) (n end : ℕ) (c : Chain) → WalkCall b h r m (ok (record { blocks = n; end = end })) old new → walk_says b h r m (length old) ≡ ok c
      → (n ≡ block_count (shape_of h)) × (end ≡ c.end) × (n ≤ length new) × ((i : ℕ) → i < n → get_or new i 0 ≡ get_or c.starts i 0)
  -- a number below the count is filled, and the answer is its tile's valid pixels
  pub fill-accepts : (x : Case) → Opened x → (n : ℕ) (said : Res ℕ) (new : List ℕ) → CaseFill x n said x.image new → n < blocks_of x
      → said ≡ ok (valid_in_tile (shape x) (in_mask x) (tile_of (shape x) n))
  -- a number at or above the count is refused 11, and leaves the image
  pub fill-refuses : (x : Case) → Opened x → (n : ℕ) (said : Res ℕ) (new : List ℕ) → CaseFill x n said x.image new → blocks_of x ≤ n
      → (said ≡ fail (refuse 11)) × (new ≡ x.image)
  -- of any call, the words reported are as many as the valid cells of its block
  pub fill-reports : (b : List ℕ) (h : Header) (r : Ranges) (m list : List ℕ) (n words : ℕ) (old new : List ℕ) → FillCall b h r m list n (ok words) old new
      → words ≡ count (cells (shape_of h)) (in_block (shape_of h) m n)
  -- at every place of a list of numbers the answer is that of its number
  pub fills-answer : (x : Case) → Opened x → (ns : List ℕ) (said : List (Res ℕ)) (new : List ℕ) → CaseFills x ns said new → said ≡ map (answer_to (shape x) (in_mask x)) ns
  -- after any list of numbers the image has its length, and a cell holds its Lerc2 word if it is valid and its block is named; else it is as at the start
  pub fills-long : (x : Case) → Opened x → (ns : List ℕ) (said : List (Res ℕ)) (new : List ℕ) → CaseFills x ns said new → length new ≡ length x.image
  pub fills-exact : (x : Case) → Opened x → (ns : List ℕ) (said : List (Res ℕ)) (new : List ℕ) → CaseFills x ns said new → (c : ℕ) → c < length x.image
      → get_or new c 0 ≡ cond (is_valid_cell (shape x) (in_mask x) c && among ns (block_of (shape x) c)) (cell_word x.header (in_mask x) (blocks x.chain) c) (get_or x.image c 0)
  -- order and repeats do not matter: only which numbers below the count are named
  pub fills-order : (x : Case) → Opened x → (ns ms : List ℕ) (said told : List (Res ℕ)) (new other : List ℕ) → CaseFills x ns said new → CaseFills x ms told other → ((n : ℕ) → n < blocks_of x → among ns n ≡ among ms n) → new ≡ other
  -- one call with a list of numbers is as many calls: as many of them are filled as are below the count, and the image is the same
  pub fills-each : (x : Case) → Opened x → (ns : List ℕ) (said : List (Res ℕ)) (new : List ℕ) → CaseFills x ns said new → (other : List ℕ) (filled : ℕ) → EachCall x.blob x.header x.ranges x.mask x.list ns filled x.image other
      → (filled ≡ below (blocks_of x) ns) × (other ≡ new)
  -- of any calls, one call with the list of numbers leaves what they leave, and counts those that were filled
  pub each-as-calls : (b : List ℕ) (h : Header) (r : Ranges) (m list ns : List ℕ) (said : List (Res ℕ)) (old new : List ℕ) → FillCalls b h r m list ns said old new
      → (filled : ℕ) (other : List ℕ) → EachCall b h r m list ns filled old other → (filled ≡ filled_among said) × (other ≡ new)
  -- every number named: the image is that of a whole read from the same start
  pub fills-complete : (x : Case) → Opened x → (ns : List ℕ) (said : List (Res ℕ)) (new : List ℕ) → CaseFills x ns said new → ((n : ℕ) → n < blocks_of x → among ns n ≡ true)
      → (left : Lent) → CaseRead x left → new ≡ left.image
  -- all blocks at once, from the first start on: the count and the end, the starts, each valid cell's word; every other cell is as it was
  pub tiles-exact : (x : Case) → Opened x → (said : Res Walk) (list image : List ℕ)
      → TilesCall x.blob x.header x.mask x.ranges.max (get_or x.list 0 0) said x.list list x.image image
      → (said ≡ ok (record { blocks = (blocks_of x); end = x.chain.end })) × (list ≡ over x.chain.starts x.list) × (length image ≡ length x.image)
      × ((c : ℕ) → c < length x.image → get_or image c 0 ≡ cond (is_valid_cell (shape x) (in_mask x) c) (cell_word x.header (in_mask x) (blocks x.chain) c) (get_or x.image c 0))
  -- the words reported, over all numbers once, add to valid times depth
  pub words-sum : (x : Case) → Opened x → (said : ℕ → Res ℕ) (new : ℕ → List ℕ) → ((n : ℕ) → n < blocks_of x → CaseFill x n (said n) x.image (new n))
      → total (blocks_of x) (λ n. reported (said n)) ≡ x.header.valid * x.header.depth
  -- so do those of calls in a row that name each number below the count once, whatever the others are
  pub words-once : (x : Case) → Opened x → (ns : List ℕ) (said : List (Res ℕ)) (new : List ℕ) → CaseFills x ns said new → ((n : ℕ) → n < blocks_of x → times n ns ≡ 1)
      → reported_by said ≡ x.header.valid * x.header.depth
