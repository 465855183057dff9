-- What `write_blocks` has done before block n: the starts below it stand in the list, their words in the image, and it begins at `next`.
-- Assumes nothing.
use mathlib.Core.Path.{◌≡◌, ◌∙◌, sym, refl}
use mathlib.Core.List.{List}
use Prim.Native.Nat.{ℕ, zero, suc, ◌+◌, ◌-◌, ◌≤◌, ◌<◌}
use native.Mathlib.Numerals.{add-one}
use native.Mathlib.Omega.{arith}
use lib.ListN.{length, set}
use Rattle.lerc_words.specs.declared.Refusal.{Refusal}
use Rattle.lerc_words.specs.Res.{Res, ok, fail}
use Rattle.lerc_words.specs.Lists.{over}
use Rattle.lerc_header.specs.declared.Header.{Header}
use Rattle.lerc_header.specs.declared.Extent.{Extent}
use Rattle.lerc_header.specs.Header.{shape_of}
use Rattle.lerc_header.specs.Shape.{cells}
use Rattle.lerc_image.specs.declared.Position.{Position}
use Rattle.lerc_image.specs.Geometry.{next_of}
use Rattle.lerc_image.specs.Paint.{scattered}
use Rattle.lerc_image.specs.Blocks.{block_at}
use Rattle.lerc_image.specs.Tiles.{starts_from, image_from}
use Rattle.lerc_image.specs.Parts.{BodyAsked, BlockPut}
use Rattle.lerc_image.proofs.Painting.{length-painted}
use Rattle.lerc_image.proofs.Reading.{said-refused, said-accepted}
use Rattle.lerc_image.proofs.Standing.{shape_is, cells_are, Standing, standing-none, standing-next}
use Rattle.lerc_image.proofs.Listing.{Listing, listing_none, listing-all, listing-last, listing-next}
use Rattle.lerc_image.proofs.Written.{starts_none, starts-last, starts_more, image-none, image-last, image-more}

pub record Writing (s : List ℕ) (h : Header) (maxima m : List ℕ) (at : ℕ) (e : Extent) (old-list old-image list image : List ℕ) (p : Position) (n next : ℕ) : Type 0 where
  pub stands : Standing h e p n
  pub listing : Listing e.blocks (starts_from s h maxima m e.blocks 0 at) old-list list n (starts_from s h maxima m (e.blocks - n) n next)
  pub long : length image ≡ length old-image
  -- those that are left
  pub whole : image_from s h maxima m e.blocks 0 at old-image ≡ image_from s h maxima m (e.blocks - n) n next image

pub writing-none : (s : List ℕ) {h : Header} (maxima m : List ℕ) (at : ℕ) {e : Extent} {list image : List ℕ} → BodyAsked h e → e.blocks ≤ length list
    → Writing s h maxima m at e list image list image (record { x = 0; y = 0; d = 0 }) 0 at
writing-none s {h} maxima m at {e} a r =
    let z : e.blocks - 0 ≡ e.blocks = omega arith in
    record { stands = standing-none a; listing = listing_none (starts_from s h maxima m e.blocks 0 at) r (rw (z)); long = refl; whole = rw (z) }

module _ {s : List ℕ} {h : Header} {maxima m : List ℕ} {at : ℕ} {e : Extent} {old-list old-image list image : List ℕ} {p : Position} {n next : ℕ}
    (w : Writing s h maxima m at e old-list old-image list image p n next) where
  pub writing-room : e.cells ≤ length old-image → cells e.shape ≤ length image
  writing-room r = rw (shape_is w.stands.asked, w.long) (rw (cells_are w.stands.asked) at r)

  pub writing-all : e.blocks ≤ n → (list ≡ over (starts_from s h maxima m e.blocks 0 at) old-list) × (image ≡ image_from s h maxima m e.blocks 0 at old-image)
  writing-all l =
      let z : e.blocks - n ≡ zero = omega arith in
      (listing-all w.listing (rw (z) (starts_none s h maxima m n next)), sym (w.whole ∙ rw (z) (image-none s h maxima m n next image)))

  module _ (l : n < e.blocks) {got : Res ℕ} {put : List ℕ} (b : BlockPut e.shape m n (block_at s h maxima m n next) got image put) where
    left : e.blocks - n ≡ suc (e.blocks - suc n)
    left = omega arith

    -- it is refused
    pub kept : {why : Refusal} → got ≡ fail why → put ≡ image
    kept {why} q =
        let r : block_at s h maxima m n next ≡ fail why = said-refused b.says q in
        rw (r) at b.image

    pub writing-no : {why : Refusal} → got ≡ fail why
        → (set list n next ≡ over (starts_from s h maxima m e.blocks 0 at) old-list) × (put ≡ image_from s h maxima m e.blocks 0 at old-image)
    writing-no {why} q =
        let r : block_at s h maxima m n next ≡ fail why = said-refused b.says q in (
          listing-last w.listing l next (rw (left) (starts-last s h maxima m (e.blocks - suc n) n next r)),
          kept q ∙ sym (w.whole ∙ rw (left) (image-last s h maxima m (e.blocks - suc n) n next image r)),
        )

    -- it is accepted
    pub writing-next : {to : ℕ} → got ≡ ok to → Writing s h maxima m at e old-list old-image (set list n next) put (next_of e.shape p) (n + 1) to
    writing-next {to} q =
        let (k, r, z) = said-accepted {b = block_at s h maxima m n next} b.says q in
        let is : put ≡ scattered (shape_of h) m n k.words image = rw (r, shape_is w.stands.asked) at b.image in
        record {
          stands = standing-next w.stands l;
          listing = listing-next w.listing l next (rw (add-one, left, ← z) (starts_more s h maxima m (e.blocks - suc n) n next r));
          long = rw (is, length-painted image _ _) w.long;
          whole = w.whole ∙ rw (add-one, left, ← z, is) (image-more s h maxima m (e.blocks - suc n) n next image r);
        }
