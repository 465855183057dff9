-- What private functions promise; not part of the rules.
-- Assumes nothing.
use Rattle.std.specs.Prelude.{ℕ, ◌≤◌, ◌≡◌, Bool, true, false, cond, ◌&&◌, List, length, take, leb, eqb}
use Rattle.lerc_words.specs.Res.{Res, ok, fail, ◌>>=◌, refuse, require, after}
use Rattle.lerc_words.specs.Lists.{over}
use Rattle.lerc_slices.specs.Slices.{begins_with}
use Rattle.lerc_header.specs.declared.Header.{Header}
use Rattle.lerc_header.specs.declared.Extent.{Extent}
use Rattle.lerc_header.specs.Header.{shape_of, extent_of, held, header_bytes}
use Rattle.lerc_header.specs.Shape.{pixels, cells, block_count, mask_length}
use Rattle.lerc_mask.specs.Mask.{valid_below}
use Rattle.lerc_validity.specs.declared.Mask.{Mask}
use Rattle.lerc_validity.specs.declared.Mask.TheVariants as mask
use Rattle.lerc_validity.specs.Validity.{in_force}
use Rattle.lerc_image.specs.Geometry.{is_valid_cell}
use Rattle.lerc_image.specs.Paint.{painted}
use Rattle.lerc_image.specs.Own.{own_mask}
use Rattle.lerc.specs.declared.BodyKind.{BodyKind}
use Rattle.lerc.specs.declared.BodyKind.TheVariants as kind
use Rattle.lerc.specs.declared.Staged.{Staged}
use Rattle.lerc.specs.declared.body.BodyChecked.{BodyChecked}
use Rattle.lerc.specs.declared.body.BodyFound.{BodyFound}
use Rattle.lerc.specs.declared.body.BodyFound.TheVariants as found
use Rattle.lerc.specs.Meaning.{Body, empty, constant, raw_body, block_body, huffman_body, starts_of, cell_word}
use Rattle.lerc.specs.Stage.{staged_body, is_answer, PublishTold, body_told}

-- ---- room

-- the lengths of kept mask, spare, list and image against what they must hold
abbrev pub has_room : Extent → ℕ → ℕ → ℕ → ℕ → Bool
has_room e kept spare list image = leb e.mask kept && leb e.mask spare && leb e.blocks list && leb e.cells image

-- ---- the mask

-- the mask that a body is judged by: the one in the slice, where it is held there, else the blob's own
abbrev pub mask_by : List ℕ → Header → Bool → List ℕ → List ℕ
mask_by s h true m = m
mask_by s h false m = own_mask s h

-- the bytes of a blob that was opened, and a mask that its header allows
pub record Ready (s : List ℕ) (h : Header) (m : List ℕ) : Type 0 where
  pub header : held h (length s) ≡ ok (extent_of h)
  pub whole : length s ≡ h.size
  pub counts : valid_below (pixels (shape_of h)) m ≡ h.valid
  pub mask : mask_length (shape_of h) ≤ length m

abbrev pub body_image : Header → List ℕ → List ℕ → Body → List ℕ
body_image h m image y = painted image (is_valid_cell (shape_of h) m) (cell_word h m y)

-- ---- checking

-- the body that was found; an empty one only where no pixel is valid
abbrev pub body_in : List ℕ → Header → List ℕ → List ℕ → BodyFound → Res Body
body_in s h m words found.Empty = cond (eqb h.valid 0) (ok empty) (fail (refuse 0))
body_in s h m words (found.Constant end) = ok (constant (take h.depth words) end)
body_in s h m words (found.Raw at end) = raw_body s h at
body_in s h m words (found.Blocks at n end) = block_body s h words m at
body_in s h m words (found.Huffman delta mode end) = huffman_body s h delta mode

abbrev pub staged_by : Header → Res Mask → BodyKind → ℕ → ℕ → Staged
staged_by h said body blocks end = record { header = h; body = body; blocks = blocks; end = end; mask = said }

-- what staging answers for it
abbrev pub answer_of : Header → Res Mask → BodyFound → Staged
answer_of h said found.Empty = staged_by h said kind.Empty 0 header_bytes
answer_of h said (found.Constant end) = staged_by h said kind.Constant 0 end
answer_of h said (found.Raw at end) = staged_by h said kind.Raw 0 end
answer_of h said (found.Blocks at n end) = staged_by h said kind.Blocks n end
answer_of h said (found.Huffman delta mode end) = staged_by h said kind.Huffman 0 end

-- a body that was found, with its words
abbrev pub with_words : List ℕ → Res BodyFound → Res BodyChecked
with_words words r = r >>= λ f. ok (record { found = f; words = words })

-- what was found is the body y, and is told as y is
pub record Checked (y : Res Body) (s : List ℕ) (h : Header) (m : List ℕ) (r : Res BodyChecked) : Type 0 where
  pub says : (said : Res Mask) → (r >>= λ c. ok (answer_of h said c.found)) ≡ (y >>= λ b. ok (staged_body h said b))
  pub means : y ≡ (r >>= λ c. body_in s h m c.words c.found)

-- ---- list and image

-- a body was found
pub record ToWrite (s : List ℕ) (h : Header) (m words : List ℕ) (f : BodyFound) : Type 0 where
  pub ready : Ready s h m
  pub body : Body
  pub is : body_in s h m words f ≡ ok body

abbrev pub list_after : Res Body → List ℕ → List ℕ
list_after y list = after y list (λ b. over (starts_of b) list)

abbrev pub image_after : Res Body → Header → List ℕ → List ℕ → List ℕ
image_after y h m image = after y image (body_image h m image)

-- the list begins with the starts of a body that was not refused
abbrev pub list_holds : Res Body → List ℕ → Bool
list_holds (ok b) list = begins_with (starts_of b) list
list_holds (fail r) list = false

-- what writing asks: its starts stand in the list, and there is room in the image
pub record Writable (s : List ℕ) (h : Header) (m words : List ℕ) (f : BodyFound) (list image : List ℕ) : Type 0 where
  pub body : ToWrite s h m words f
  pub long : block_count (shape_of h) ≤ length list
  pub starts : list_holds (body_in s h m words f) list ≡ true
  pub room : cells (shape_of h) ≤ length image

-- a body that is checked, then written
pub record BodyRead (y : Res Body) (h : Header) (said : Res Mask) (m : List ℕ) (a : Res Staged) (old-image new-image : List ℕ) : Type 0 where
  pub says : a ≡ (y >>= λ b. ok (staged_body h said b))
  pub image : new-image ≡ image_after y h m old-image

-- ---- behind an accepted mask

-- a new mask lies within both slices
abbrev pub MaskFits : Res Mask → List ℕ → List ℕ → Type 0
MaskFits said kept spare = (n : ℕ) → said ≡ ok (mask.Spare n) → (n ≤ length kept) × (n ≤ length spare)

-- header, mask and room; the mask is the part that the answer names
pub record Behind (s : List ℕ) (h : Header) (said : Res Mask) (kept spare list image : List ℕ) : Type 0 where
  pub ready : Ready s h (in_force said kept spare)
  pub room : cells (shape_of h) ≤ length image
  pub blocks : block_count (shape_of h) ≤ length list
  pub fits : MaskFits said kept spare

-- staged: the body's answer and list
pub record StagedBehind (y : Res Body) (h : Header) (said : Res Mask) (r : Res Staged) (old-list new-list : List ℕ) : Type 0 where
  pub says : r ≡ (y >>= λ b. ok (staged_body h said b))
  pub list : new-list ≡ list_after y old-list

-- the body, where staging gave this answer and this list for it
unfoldable pub given_body : Res Body → Header → Res Mask → Res Staged → List ℕ → Res Body
given_body y h said a list = do
  b ← y
  _ ← require (is_answer a (staged_body h said b) && begins_with (starts_of b) list) 3
  ok b

-- published: the image, and last the kept mask; y is the body that was given
pub record PublishedBehind (y : Res Body) (h : Header) (m : List ℕ) (r : Res PublishTold) (old-kept new-kept old-image new-image : List ℕ) : Type 0 where
  pub says : r ≡ (y >>= λ b. ok (body_told h b))
  pub kept : new-kept ≡ after y old-kept (λ _. over m old-kept)
  pub image : new-image ≡ image_after y h m old-image

-- where the spare does not hold the mask: what the body earns, else 3
abbrev pub not_held : Res Body → Res PublishTold
not_held y = y >>= λ _. fail (refuse 3)
