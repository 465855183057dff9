-- All blocks of a body: checked, their starts listed or compared with a list, their words put into the image; each by itself, both writes in one pass, and all at once.
-- Assumes nothing.
use Rattle.std.specs.Prelude.{ℕ, zero, suc, ◌≡◌, Bool, ◌&&◌, List, [], ◌∷◌, length, get_or, take, leb}
use Rattle.lerc_words.specs.Res.{Res, ◌>>=◌, require, after, accepts}
use Rattle.lerc_words.specs.Lists.{over}
use Rattle.lerc_slices.specs.Slices.{begins_with}
use Rattle.lerc_header.specs.declared.Header.{Header}
use Rattle.lerc_header.specs.Header.{shape_of, held}
use Rattle.lerc_header.specs.Shape.{block_count}
use Rattle.lerc_block.specs.Block.{Block}
use Rattle.lerc_block.specs.Plan.{plan_at, plan_end}
use Rattle.lerc_image.specs.Geometry.{tile_of, valid_in_tile, block_of, is_valid_cell}
use Rattle.lerc_image.specs.Paint.{painted, word_of, scattered}
use Rattle.lerc_image.specs.Blocks.{block_at, Chain, all_blocks}
use Rattle.lerc_image.specs.Walk.{Walk, walk_count}

-- ---- check: nothing is written

-- 3, 4, 1, then 5 for the mask, then "check every block, values included", from a place on
unfoldable pub checked_tiles : List ℕ → Header → List ℕ → List ℕ → ℕ → Res Chain
checked_tiles b h m maxima at = do
  e ← held h (length b)
  _ ← require (leb e.mask (length m)) 5
  all_blocks (take h.size b) h maxima m at

-- ---- list: the starts, read from the heads alone

-- where block n at a start ends by its plan; its values are not looked at
abbrev pub block_end : List ℕ → Header → List ℕ → ℕ → ℕ → Res ℕ
block_end s h m n at =
    let t = tile_of (shape_of h) n in
    plan_end (plan_at s at h.kind t.x (valid_in_tile (shape_of h) m t))

-- the starts of f blocks from number n on, the first at `at`; none behind a head that cannot be read
unfoldable pub head_starts : List ℕ → Header → List ℕ → ℕ → ℕ → ℕ → List ℕ
head_starts s h m zero n at = []
head_starts s h m (suc f) n at = at ∷ after (block_end s h m n at) [] (λ end. head_starts s h m f (suc n) end)

-- the header keeps the rules, and mask and list are long enough
unfoldable pub room_to_list : List ℕ → Header → List ℕ → ℕ → Res Bool
room_to_list b h m entries = do
  e ← held h (length b)
  require (leb e.mask (length m) && leb e.blocks entries) 5

-- "the list's first count entries"; where there is no room, the list as it was
unfoldable pub listed_tiles : List ℕ → Header → List ℕ → ℕ → List ℕ → List ℕ
listed_tiles b h m at list =
    after (room_to_list b h m (length list)) list (λ _. over (head_starts (take h.size b) h m (block_count (shape_of h)) 0 at) list)

-- there is room, and the list begins with these starts
unfoldable pub tiles_listed : List ℕ → Header → List ℕ → ℕ → List ℕ → Bool
tiles_listed b h m at list =
    accepts (room_to_list b h m (length list)) && begins_with (head_starts (take h.size b) h m (block_count (shape_of h)) 0 at) list

-- ---- fill: each block at its listed start

abbrev pub listed_block : List ℕ → Header → List ℕ → List ℕ → List ℕ → ℕ → Res Block
listed_block s h maxima m list n = block_at s h maxima m n (get_or list n 0)

-- a block's words; none where it is refused
abbrev pub listed_words : List ℕ → Header → List ℕ → List ℕ → List ℕ → ℕ → List ℕ
listed_words s h maxima m list n = after (listed_block s h maxima m list n) [] (λ b. b.words)

-- a valid cell whose block is accepted
abbrev pub is_listed : List ℕ → Header → List ℕ → List ℕ → List ℕ → ℕ → Bool
is_listed s h maxima m list c = is_valid_cell (shape_of h) m c && accepts (listed_block s h maxima m list (block_of (shape_of h) c))

-- each such cell the word of its block, "all other cells keep their words"
unfoldable pub listed_image : List ℕ → Header → List ℕ → List ℕ → List ℕ → List ℕ → List ℕ
listed_image s h maxima m list image = painted image (is_listed s h maxima m list) (word_of (shape_of h) m (listed_words s h maxima m list))

-- the header keeps the rules, and mask, list and image are long enough
unfoldable pub room_to_fill : List ℕ → Header → List ℕ → ℕ → ℕ → Res Bool
room_to_fill b h m entries room = do
  e ← held h (length b)
  require (leb e.mask (length m) && leb e.blocks entries && leb e.cells room) 5

-- where there is no room, the image as it was
unfoldable pub filled_tiles : List ℕ → Header → List ℕ → List ℕ → List ℕ → List ℕ → List ℕ
filled_tiles b h m maxima list image =
    after (room_to_fill b h m (length list) (length image)) image (λ _. listed_image (take h.size b) h maxima m list image)

-- ---- write: each block where the one before it ends, its start and its words, up to the first that is refused

-- the starts of f blocks from number n on, the first at `at`; none behind a block that is refused
unfoldable pub starts_from : List ℕ → Header → List ℕ → List ℕ → ℕ → ℕ → ℕ → List ℕ
starts_from s h maxima m zero n at = []
starts_from s h maxima m (suc f) n at = at ∷ after (block_at s h maxima m n at) [] (λ b. starts_from s h maxima m f (suc n) b.next)

-- the image with their words, put into it block by block
unfoldable pub image_from : List ℕ → Header → List ℕ → List ℕ → ℕ → ℕ → ℕ → List ℕ → List ℕ
image_from s h maxima m zero n at image = image
image_from s h maxima m (suc f) n at image =
    after (block_at s h maxima m n at) image (λ b. image_from s h maxima m f (suc n) b.next (scattered (shape_of h) m n b.words image))

-- where there is no room, the list as it was; `room` is the length of the image
unfoldable pub written_list : List ℕ → Header → List ℕ → List ℕ → ℕ → List ℕ → ℕ → List ℕ
written_list b h m maxima at list room =
    after (room_to_fill b h m (length list) room) list (λ _. over (starts_from (take h.size b) h maxima m (block_count (shape_of h)) 0 at) list)

-- where there is no room, the image as it was; `entries` is the length of the list
unfoldable pub written_image : List ℕ → Header → List ℕ → List ℕ → ℕ → ℕ → List ℕ → List ℕ
written_image b h m maxima at entries image =
    after (room_to_fill b h m entries (length image)) image (λ _. image_from (take h.size b) h maxima m (block_count (shape_of h)) 0 at image)

-- ---- all at once

-- 3, 4, 1, then 5 for the mask, the list and the image, then the blocks from a place on
unfoldable pub tiles_says : List ℕ → Header → List ℕ → List ℕ → ℕ → ℕ → ℕ → Res Chain
tiles_says b h m maxima at entries room = do
  e ← held h (length b)
  _ ← require (leb e.mask (length m) && leb e.blocks entries && leb e.cells room) 5
  all_blocks (take h.size b) h maxima m at

-- each valid cell the word of its block, every other cell as it was
abbrev pub tiles_image : Header → List ℕ → List ℕ → Chain → List ℕ
tiles_image h m image c = painted image (is_valid_cell (shape_of h) m) (word_of (shape_of h) m (λ n. get_or c.words n []))

pub record Tiled (tiles : Res Chain) (h : Header) (m : List ℕ) (r : Res Walk) (old-list new-list old-image new-image : List ℕ) : Type 0 where
  pub says : r ≡ (tiles >>= walk_count h)
  pub list : new-list ≡ after tiles old-list (λ c. over c.starts old-list)
  pub image : new-image ≡ after tiles old-image (tiles_image h m old-image)
