-- The mask in force, and preparing it.
-- Assumes nothing.
use Rattle.std.specs.Prelude.{ℕ, ◌≡◌, Bool, true, cond, ◌&&◌, List, [], length, take, drop, replicate, leb, eqb}
use Rattle.lerc_words.specs.Res.{Res, ok, fail, ◌>>=◌, placed, marked, require, after}
use Rattle.lerc_words.specs.Lists.{over}
use Rattle.lerc_slices.specs.Slices.{begins_with}
use Rattle.lerc_header.specs.declared.Header.{Header}
use Rattle.lerc_header.specs.Header.{shape_of, header_bytes, ranges_at, held}
use Rattle.lerc_header.specs.Shape.{pixels, mask_length}
use Rattle.lerc_mask.specs.Mask.{valid_below, coded, mask_field}
use Rattle.lerc_validity.specs.declared.Mask.{Mask}
use Rattle.lerc_validity.specs.declared.Mask.TheVariants.{Kept, Spare}
use Rattle.lerc_validity.specs.declared.compared.MaskFound.{MaskFound}

-- a reused mask, or a new one
pub data MaskInForce : Type 0 where
  reused new : List ℕ → MaskInForce

abbrev pub bytes_of : MaskInForce → List ℕ
bytes_of (reused m) = m
bytes_of (new m) = m

-- "Valid 0 gives all 0, valid = pixels all 255; mask bytes must then be 0."
unfoldable pub uniform : Header → ℕ → Res MaskInForce
uniform h byte = do
  _ ← require (eqb h.mask 0) 6
  ok (new (replicate (mask_length (shape_of h)) byte))

-- "mask bytes 0 means the kept mask, if the caller allows reuse"; "Valid pixels must number `valid`."
unfoldable pub kept : Header → Bool → List ℕ → Res MaskInForce
kept h reuse old = do
  _ ← require reuse 6
  let m = take (mask_length (shape_of h)) old
  _ ← require (eqb (valid_below (pixels (shape_of h)) m) h.valid) 6
  ok (reused m)

-- "Else runs", in the mask section
unfoldable pub unrolled : List ℕ → Header → Res MaskInForce
unrolled s h = do
  m ← coded (take h.mask (drop header_bytes s)) (pixels (shape_of h)) h.valid
  ok (new m)

-- the mask of a blob s whose header is h; "Any breach is 6."
unfoldable pub mask_in : List ℕ → Header → Bool → List ℕ → Res MaskInForce
mask_in s h reuse old =
    cond (eqb h.valid 0) (uniform h 0)
    (cond (eqb h.valid (pixels (shape_of h))) (uniform h 255)
    (cond (eqb h.mask 0) (kept h reuse old) (unrolled s h)))

-- "66 for 6"
abbrev pub mask_says : List ℕ → Header → Bool → List ℕ → Res MaskInForce
mask_says s h reuse old = marked mask_field (mask_in s h reuse old)

-- the mask in the bytes of a blob that was opened: room for it in both slices (5), its section (1), and what it says
unfoldable pub find_says : List ℕ → Header → Bool → List ℕ → ℕ → Res MaskInForce
find_says s h reuse old room = do
  _ ← require (leb (mask_length (shape_of h)) (length old) && leb (mask_length (shape_of h)) room) 5
  _ ← require (leb (ranges_at h) (length s)) 1
  mask_says s h reuse old

-- ---- prepare a mask

-- the header by value; "Room is judged right after the header's refusals and from the header alone"; the mask section
unfoldable pub prepare_says : List ℕ → Header → Bool → List ℕ → ℕ → Res MaskInForce
prepare_says b h reuse old room = do
  e ← held h (length b)
  _ ← require (leb e.mask (length old) && leb e.mask room) 5
  mask_says (take h.size b) h reuse old

-- "the spare's first (pixels+7)/8 bytes hold the new mask"
abbrev pub spare_with : MaskInForce → List ℕ → List ℕ
spare_with (reused m) spare = spare
spare_with (new m) spare = over m spare

-- which, and how long
abbrev pub MaskTold : Type 0
MaskTold = Mask

abbrev pub told : MaskInForce → MaskTold
told (reused m) = Kept (length m)
told (new m) = Spare (length m)

abbrev pub which : MaskInForce → Res MaskTold
which f = ok (told f)

pub record Prepared (m : Res MaskInForce) (r : Res MaskTold) (old new : List ℕ) : Type 0 where
  pub says : r ≡ (m >>= which)
  pub spare : new ≡ after m old (λ f. spare_with f old)

-- what a private function promises: the answer of a section's reader, with no place on a refusal, since all of a mask's have one
abbrev pub from_runs : Res ℕ → Res MaskTold
from_runs (ok n) = ok (Spare n)
from_runs (fail r) = fail (placed 0 r)

-- ---- compare a mask

-- a new mask stands at the front of the spare; a reused one need not
abbrev pub holds_mask : MaskInForce → List ℕ → Bool
holds_mask (reused m) spare = true
holds_mask (new m) spare = begins_with m spare

-- the same answer, and beside the mask whether the spare holds it
pub record Compared (m : Res MaskInForce) (r : Res MaskFound) (spare : List ℕ) : Type 0 where
  pub says : r ≡ (m >>= λ f. ok (record { mask = told f; same = holds_mask f spare }))

-- ---- the mask handed back

-- the first n entries, or nothing where there are fewer
abbrev pub first_of : ℕ → List ℕ → List ℕ
first_of n s = cond (leb n (length s)) (take n s) []

-- "handed back as a part of the kept mask (reuse) or of the spare (otherwise)"; after a refusal it "is then empty"
unfoldable pub in_force : Res MaskTold → List ℕ → List ℕ → List ℕ
in_force (ok (Kept n)) old spare = first_of n old
in_force (ok (Spare n)) old spare = first_of n spare
in_force (fail r) old spare = []

-- the place of the slice that it is the front of; nothing, after a refusal, stands at the kept mask's
abbrev pub stands_in : {P : Type 0} → Res MaskTold → P → P → P
stands_in (ok (Kept n)) old spare = old
stands_in (ok (Spare n)) old spare = spare
stands_in (fail r) old spare = old
