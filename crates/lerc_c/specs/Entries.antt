-- The entries of the C interface. Each definition refuses, or gives what is then written to the lent slices.
-- A slice too short for the place is refused first (5), then a record slice that is too short (5), then a number that its field cannot hold (3), then what the reader refuses.
-- Assumes nothing.
use Rattle.std.specs.Prelude.{ℕ, ◌+◌, ◌≡◌, Bool, ◌&&◌, List, [], ◌∷◌, ◌++◌, length, set, leb}
use Rattle.lerc_words.specs.declared.Refusal.{Refusal}
use Rattle.lerc_words.specs.Res.{Res, ok, ◌>>=◌, require, after}
use Rattle.lerc_words.specs.Lists.{over}
use Rattle.lerc_samples.specs.Samples.{stored}
use Rattle.lerc_header.specs.declared.Header.{Header}
use Rattle.lerc_header.specs.Header.{shape_of, header_says}
use Rattle.lerc_header.specs.Shape.{block_count}
use Rattle.lerc_ranges.specs.declared.Ranges.{Ranges}
use Rattle.lerc_validity.specs.Validity.{MaskInForce, reused, new, prepare_says, spare_with}
use Rattle.lerc_ranges.specs.Ranges.{read_ranges_says}
use Rattle.lerc_block.specs.Block.{Block}
use Rattle.lerc_image.specs.Geometry.{tile_of, valid_in_tile}
use Rattle.lerc_image.specs.Paint.{scattered}
use Rattle.lerc_image.specs.Blocks.{Chain}
use Rattle.lerc_image.specs.Walk.{walk_says}
use Rattle.lerc_image.specs.Fill.{fill_says}
use Rattle.lerc.specs.Meaning.{Meaning, end_of, starts_of}
use Rattle.lerc.specs.Read.{Lent, Masked, masked, read_says, published, read_after}
use Rattle.lerc.specs.Stage.{PublishTold, body_told, staged_of, staged_spare, staged_list, publish_says}
use Rattle.lerc_c.specs.Records.{why_of, header_room, header_numbers, header_from, ranges_room, ranges_numbers, ranges_from, staged_room, staged_numbers, staged_from}

-- ---- the place: every entry that can refuse is lent a last slice for it

-- a slice without room for the place is refused before all else (5)
abbrev pub placing : {A : Type 0} → List ℕ → Res A → Res A
placing place m = do
  _ ← require (leb 1 (length place)) 5
  m

-- the number is returned, and the place written, 0 where the entry accepts; the rest of the slice stays
pub record Returned (Done : Refusal → Type 0) (r : ℕ) (place₀ place₁ : List ℕ) : Type 0 where
  pub why : Refusal
  pub done : Done why
  pub number : r ≡ why.number
  pub place : place₁ ≡ set place₀ 0 why.at

-- ---- read header: blob, header

unfoldable pub header_entry : List ℕ → List ℕ → Res Header
header_entry b header = do
  _ ← require (leb header_room (length header)) 5
  header_says b

-- what an answer m does to the record
pub record HeaderDone (m : Res Header) (r : Refusal) (header₀ header₁ : List ℕ) : Type 0 where
  pub why : r ≡ why_of m
  pub header : header₁ ≡ after m header₀ (λ h. over (header_numbers h) header₀)

-- ---- prepare a mask: blob, header, reuse, kept, spare, said

unfoldable pub prepare_entry : List ℕ → List ℕ → Bool → List ℕ → List ℕ → List ℕ → Res MaskInForce
prepare_entry b header reuse old spare said = do
  _ ← require (leb header_room (length header) && leb 2 (length said)) 5
  h ← header_from header
  prepare_says b h reuse old (length spare)

-- 1 for the kept mask, 2 for the spare; how long
abbrev pub mask_numbers : MaskInForce → List ℕ
mask_numbers (reused m) = 1 ∷ length m ∷ []
mask_numbers (new m) = 2 ∷ length m ∷ []

pub record PrepareDone (m : Res MaskInForce) (r : Refusal) (spare₀ spare₁ said₀ said₁ : List ℕ) : Type 0 where
  pub why : r ≡ why_of m
  pub spare : spare₁ ≡ after m spare₀ (λ f. spare_with f spare₀)
  pub said : said₁ ≡ after m said₀ (λ f. over (mask_numbers f) said₀)

-- ---- read ranges: blob, header, ranges

unfoldable pub ranges_entry : List ℕ → List ℕ → List ℕ → Res Ranges
ranges_entry b header ranges = do
  _ ← require (leb header_room (length header) && leb ranges_room (length ranges)) 5
  h ← header_from header
  read_ranges_says b h

pub record RangesDone (m : Res Ranges) (r : Refusal) (ranges₀ ranges₁ : List ℕ) : Type 0 where
  pub why : r ≡ why_of m
  pub ranges : ranges₁ ≡ after m ranges₀ (λ k. over (ranges_numbers k) ranges₀)

-- ---- walk: blob, header, ranges, mask, list, said

-- the blocks of a header's body
pub record Walking : Type 0 where
  pub header : Header
  pub chain : Chain

unfoldable pub walk_entry : List ℕ → List ℕ → List ℕ → List ℕ → List ℕ → List ℕ → Res Walking
walk_entry b header ranges m list said = do
  _ ← require (leb header_room (length header) && leb ranges_room (length ranges) && leb 2 (length said)) 5
  h ← header_from header
  r ← ranges_from ranges
  c ← walk_says b h r m (length list)
  ok (record { header = h; chain = c })

-- the count of blocks, where the last one ends
abbrev pub walk_numbers : Walking → List ℕ
walk_numbers w = block_count (shape_of w.header) ∷ w.chain.end ∷ []

pub record WalkDone (m : Res Walking) (r : Refusal) (list₀ list₁ said₀ said₁ : List ℕ) : Type 0 where
  pub why : r ≡ why_of m
  pub list : list₁ ≡ after m list₀ (λ w. over w.chain.starts list₀)
  pub said : said₁ ≡ after m said₀ (λ w. over (walk_numbers w) said₀)

-- ---- fill: blob, header, ranges, mask, list, number, image, said

-- one block of a header's body
pub record Filling : Type 0 where
  pub header : Header
  pub block : Block

unfoldable pub fill_entry : List ℕ → List ℕ → List ℕ → List ℕ → List ℕ → ℕ → List ℕ → List ℕ → Res Filling
fill_entry b header ranges m list n image said = do
  _ ← require (leb header_room (length header) && leb ranges_room (length ranges) && leb 1 (length said)) 5
  h ← header_from header
  r ← ranges_from ranges
  k ← fill_says b h r m list n (length image)
  ok (record { header = h; block = k })

-- how many words were written
abbrev pub fill_numbers : List ℕ → ℕ → Filling → List ℕ
fill_numbers m n f = valid_in_tile (shape_of f.header) m (tile_of (shape_of f.header) n) ∷ []

-- the words of the block at its valid cells
abbrev pub fill_paints : List ℕ → ℕ → List ℕ → Filling → List ℕ
fill_paints m n image f = scattered (shape_of f.header) m n f.block.words image

pub record FillDone (k : Res Filling) (m : List ℕ) (n : ℕ) (r : Refusal) (image₀ image₁ said₀ said₁ : List ℕ) : Type 0 where
  pub why : r ≡ why_of k
  pub image : image₁ ≡ after k image₀ (fill_paints m n image₀)
  pub said : said₁ ≡ after k said₀ (λ f. over (fill_numbers m n f) said₀)

-- ---- whole read: blob, reuse, the four slices, said

abbrev pub read_room : ℕ
read_room = header_room + 2

unfoldable pub read_entry : List ℕ → Bool → Lent → List ℕ → Res Meaning
read_entry b reuse l said = do
  _ ← require (leb read_room (length said)) 5
  read_says b reuse l

-- the header's numbers, the count of blocks, where the body ends
abbrev pub read_numbers : Meaning → List ℕ
read_numbers m = header_numbers m.header ++ (length (starts_of m.body) ∷ end_of m.body ∷ [])

-- as far as the mask, which is what a refusal may leave in the spare
unfoldable pub masked_entry : List ℕ → Bool → Lent → List ℕ → Res Masked
masked_entry b reuse l said = do
  _ ← require (leb read_room (length said)) 5
  masked b reuse l

-- m is the whole read, k as far as the mask
pub record ReadDone (m : Res Meaning) (k : Res Masked) (r : Refusal) (old new : Lent) (said₀ said₁ : List ℕ) : Type 0 where
  pub why : r ≡ why_of m
  pub lent : new ≡ read_after m k old
  pub said : said₁ ≡ after m said₀ (λ m. over (read_numbers m) said₀)

-- ---- stage: blob, reuse, the four slices, staged

unfoldable pub stage_entry : List ℕ → Bool → Lent → List ℕ → Res Meaning
stage_entry b reuse l staged = do
  _ ← require (leb staged_room (length staged)) 5
  read_says b reuse l

-- as far as the mask, which is what a refusal may leave in the spare
unfoldable pub staged_mask_entry : List ℕ → Bool → Lent → List ℕ → Res Masked
staged_mask_entry b reuse l staged = do
  _ ← require (leb staged_room (length staged)) 5
  masked b reuse l

-- m is the whole blob, k as far as the mask
pub record StageDone (m : Res Meaning) (k : Res Masked) (r : Refusal) (old : Lent) (new-spare new-list staged₀ staged₁ : List ℕ) : Type 0 where
  pub why : r ≡ why_of m
  pub spare : new-spare ≡ staged_spare k old.spare
  pub list : new-list ≡ staged_list m old.list
  pub staged : staged₁ ≡ after m staged₀ (λ m. over (staged_numbers (staged_of m)) staged₀)

-- ---- publish: blob, reuse, staged, the four slices, said

-- the answer given is the one that the record stands for
unfoldable pub publish_entry : List ℕ → Bool → List ℕ → Lent → List ℕ → Res Meaning
publish_entry b reuse staged l said = do
  _ ← require (leb staged_room (length staged) && leb 2 (length said)) 5
  publish_says b reuse (staged_from staged) l

-- where the body ends, how many words were written
abbrev pub told_numbers : PublishTold → List ℕ
told_numbers t = t.end ∷ t.words ∷ []

abbrev pub publish_numbers : Meaning → List ℕ
publish_numbers m = told_numbers (body_told m.header m.body)

pub record PublishDone (m : Res Meaning) (r : Refusal) (old : Lent) (new-kept new-image said₀ said₁ : List ℕ) : Type 0 where
  pub why : r ≡ why_of m
  pub kept : new-kept ≡ after m old.kept (λ m. (published m old).kept)
  pub image : new-image ≡ after m old.image (λ m. (published m old).image)
  pub said : said₁ ≡ after m said₀ (λ m. over (publish_numbers m) said₀)

-- ---- a value as a stored word: kind, value, said

unfoldable pub stored_entry : ℕ → ℕ → List ℕ → Res ℕ
stored_entry kind v said = do
  _ ← require (leb 1 (length said)) 5
  stored kind v

pub record StoredDone (m : Res ℕ) (r : Refusal) (said₀ said₁ : List ℕ) : Type 0 where
  pub why : r ≡ why_of m
  pub said : said₁ ≡ after m said₀ (λ w. over (w ∷ []) said₀)
