-- lerc_byte_image.rs: a law for each clause, by the rows of docs/CONTRACTS.md (section 6). `s` is the blob cut at its size.
-- Assumes nothing.
use Rattle.std.specs.Prelude.{◌≡◌, Bool, true, false, cond, ◌&&◌, List, ℕ, zero, suc, ◌+◌, ◌-◌, ◌*◌, ◌/◌, ◌≤◌, ◌<◌, eqb, length, get_or, take, set}
use Rattle.std.proofs.Math.Option.{none, some}
use Rattle.lerc_words.specs.declared.Refusal.{Refusal}
use Rattle.lerc_words.specs.Res.{Res, ok, fail, refuse, accepts}
use Rattle.lerc_words.specs.Lists.{count}
use Rattle.lerc_header.specs.declared.Header.{Header}
use Rattle.lerc_header.specs.declared.Extent.{Extent}
use Rattle.lerc_header.specs.Header.{shape_of, held}
use Rattle.lerc_header.specs.Shape.{Shaped, pixels, cells}
use Rattle.lerc_mask.specs.Mask.{pixel_valid, valid_below}
use Rattle.lerc_sweep.specs.Sweep.{huffman_from, swept}
use Rattle.lerc_image.specs.Geometry.{is_valid_cell}
use Rattle.lerc_byte_image.specs.Table.{Table}
use Rattle.lerc_byte_image.specs.Symbols.{Symbol, coded_at}
use Rattle.lerc_byte_image.specs.Prediction.{left_behind}
use Rattle.lerc_byte_image.specs.Prediction as ours
use Rattle.lerc_byte_image.specs.Image.{checked_image, ended, written_image}
use Rattle.lerc_validity.specs.Validity.{MaskTold}
use Rattle.lerc.specs.declared.Staged.{Staged}
use Rattle.lerc.specs.Meaning.{huffman_body}
use Rattle.lerc.specs.Parts.{Ready, BodyRead}
use Rattle.lerc_contracts.specs.Outside.{said, is_some, Parsed, table, symbol}
use Rattle.lerc_contracts.specs.ByteImage.{pixel, target, prediction, bytes_end, finish, decoded}
use Rattle.lerc_contracts.specs.Between.{order_of, place_of, imaged, bodied, image_room, their_bytes}

-- `pixel`, `target`: the k-th cell, and how many valid cells come before it
pub record PlaceClauses (h : Header) (mask : List ℕ) (delta : Bool) (k : ℕ) : Type 0 where
  -- 6.1
  pub pixel-is : pixel h delta k ≡ target h delta k / h.depth
  -- 6.2
  pub target-low : target h delta k < cells (shape_of h)
  pub target-order : order_of h delta (target h delta k) ≡ k
  -- by which a valid cell's symbol is the one that ours has
  pub place_is : pixel_valid mask (pixel h delta k) ≡ true → count k (λ j. pixel_valid mask (pixel h delta j)) ≡ place_of h delta mask (target h delta k)

-- `prediction`, with what the pixels before left behind: the nearest is carried, that of the pixel above stands in the image
pub record PredictionClauses (h : Header) (mask : List ℕ) (before : ℕ → List ℕ) (k previous : ℕ) (out : List ℕ) : Type 0 where
  -- 6.3
  pub prediction-none : prediction h false k mask out previous ≡ 0
  pub prediction-is : cond (eqb (pixel h true k) 0) 0 previous ≡ get_or (before (pixel h true k)) 0 0
      → (h.columns ≤ pixel h true k → pixel_valid mask (pixel h true k - h.columns) ≡ true → get_or out (target h true k - h.columns * h.depth) 0 ≡ get_or (before (pixel h true k - h.columns + 1)) 0 0)
      → prediction h true k mask out previous ≡ ours.prediction h.columns mask (before (pixel h true k)) (pixel h true k)

-- `finish`: its cases, cell by cell
pub record ByteFinishCases (s : List ℕ) (h : Header) (mask : List ℕ) (base : ℕ) (t : Table) (delta : Bool) (k p prev : ℕ) (out : List ℕ) : Type 0 where
  -- 6.4
  pub finish-done : (fuel : ℕ) → k ≡ cells (shape_of h) → finish s h mask base t delta k p prev out fuel ≡ bytes_end s base p out
  -- 6.5
  pub finish-out : (k ≡ cells (shape_of h) → ⊥) → finish s h mask base t delta k p prev out zero ≡ none
  -- 6.6
  pub finish-skip : (k ≡ cells (shape_of h) → ⊥) → (fuel : ℕ) → pixel_valid mask (pixel h delta k) ≡ false → finish s h mask base t delta k p prev out (suc fuel) ≡ finish s h mask base t delta (k + 1) p (cond (delta && eqb (pixel h delta k) 0) 0 prev) out fuel
  -- 6.7
  pub finish-stop : (k ≡ cells (shape_of h) → ⊥) → (fuel : ℕ) → pixel_valid mask (pixel h delta k) ≡ true → symbol s base p t ≡ none → finish s h mask base t delta k p prev out (suc fuel) ≡ none
  -- 6.8
  pub finish-step : (k ≡ cells (shape_of h) → ⊥) → (fuel : ℕ) (x : Symbol) → pixel_valid mask (pixel h delta k) ≡ true → symbol s base p t ≡ some x
      → finish s h mask base t delta k p prev out (suc fuel) ≡ (let v = ours.byte_of h.kind x.value (prediction h delta k mask out prev) in finish s h mask base t delta (k + 1) x.next v (set out (target h delta k) v) fuel)

-- `decoded`: its cases
pub record DecodedCases (s : List ℕ) (h : Header) (mask : List ℕ) (start : ℕ) (delta : Bool) (out : List ℕ) : Type 0 where
  -- 6.9
  pub decoded-none : table s start ≡ none → decoded s h mask start delta out ≡ none
  -- 6.10
  pub decoded-table : (t : Parsed) → table s start ≡ some t → decoded s h mask start delta out ≡ finish s h mask t.at t.table delta 0 0 0 out (cells (shape_of h))

-- `decode`, from the promises of `lerc_byte_image::check` and of `lerc_byte_image::write`
pub record DecodeBytesClauses (b : List ℕ) (h : Header) (mask : List ℕ) (mode : ℕ) (delta : Bool) (r : Res ℕ) (old new : List ℕ) : Type 0 where
  -- 6.11
  pub bytes-held : (q : Refusal) → held h (length b) ≡ fail q → (r ≡ fail q) × (new ≡ old)
  -- 6.15, 6.16
  pub bytes-room : (e : Extent) → held h (length b) ≡ ok e → image_room e mask old ≡ false → new ≡ old
  -- 6.18
  pub bytes-length : length new ≡ length old
  -- 6.19
  pub bytes_ok : (e : Extent) → held h (length b) ≡ ok e → image_room e mask old ≡ true → valid_below (pixels (shape_of h)) mask ≡ h.valid → accepts r ≡ is_some (their_bytes b h mask mode delta old)
  -- 6.20
  pub bytes-result : (e : Extent) → held h (length b) ≡ ok e → image_room e mask old ≡ true → valid_below (pixels (shape_of h)) mask ≡ h.valid
      → (end : ℕ) → r ≡ ok end → their_bytes b h mask mode delta old ≡ some (record { at = end; image = new })
  -- 6.21
  pub bytes_inside : (end : ℕ) → r ≡ ok end → (mode + 1 < end) × (end ≤ length (take h.size b))
  -- 6.22
  pub bytes_small : (i : ℕ) → i < length old → get_or old i 0 ≤ 255 → get_or new i 0 ≤ 255
  -- a valid cell whatever it held (6.17)
  pub bytes-valid : (e : Extent) → held h (length b) ≡ ok e → image_room e mask old ≡ true → (end : ℕ) → r ≡ ok end → (i : ℕ) → is_valid_cell (shape_of h) mask i ≡ true → get_or new i 0 ≤ 255
  -- 6.23
  pub bytes_rest : (j : ℕ) → h.columns * h.rows * h.depth ≤ j → j < length old → get_or new j 0 ≡ get_or old j 0

-- `decode`, from what a read does behind an accepted mask (6.18 and 6.23: `linear-length`, `linear-rest`, of any body)
pub record ReadBytesClauses (s : List ℕ) (h : Header) (mask : List ℕ) (mode : ℕ) (delta : Bool) (a : Res Staged) (old new : List ℕ) : Type 0 where
  -- 6.19
  pub read-bytes-ok : accepts a ≡ is_some (decoded s h mask (mode + 1) delta old)
  -- 6.20
  pub read-bytes-result : (w : Staged) → a ≡ ok w → decoded s h mask (mode + 1) delta old ≡ some (record { at = w.end; image = new })
  -- 6.21
  pub read-bytes-inside : (w : Staged) → a ≡ ok w → (mode + 1 < w.end) × (w.end ≤ length s)
  -- and where it is refused the image is as it was, which upstream leaves open (section 7)
  pub read-bytes-kept : (q : Refusal) → a ≡ fail q → new ≡ old

pub record ByteClauses : Type 0 where
  pub place-clauses : (h : Header) → Shaped (shape_of h) → (mask : List ℕ) (delta : Bool) (k : ℕ) → k < cells (shape_of h) → PlaceClauses h mask delta k
  pub prediction-clauses : (h : Header) → Shaped (shape_of h) → (mask : List ℕ) (symbols : ℕ → ℕ) (k previous : ℕ) (out : List ℕ) → PredictionClauses h mask (left_behind h.kind h.columns mask symbols) k previous out
  pub byte-finish-cases : (s : List ℕ) (h : Header) (mask : List ℕ) (base : ℕ) (t : Table) (delta : Bool) (k p prev : ℕ) (out : List ℕ) → ByteFinishCases s h mask base t delta k p prev out
  pub decoded-cases : (s : List ℕ) (h : Header) (mask : List ℕ) (start : ℕ) (delta : Bool) (out : List ℕ) → DecodedCases s h mask start delta out
  -- THE IMAGE: 6.4 to 6.10 together, over any old words (6.17)
  pub bytes-is : (s : List ℕ) (h : Header) → Shaped (shape_of h) → (mask : List ℕ) (start : ℕ) (delta : Bool) (image : List ℕ) → cells (shape_of h) ≤ length image
      → decoded s h mask start delta image ≡ said (imaged h mask delta image) (coded_at s start (valid_below (pixels (shape_of h)) mask * h.depth))
  -- the same as our body, whose pixels the mask counts
  pub huffman-is : (s : List ℕ) (h : Header) → Shaped (shape_of h) → (mask image : List ℕ) → cells (shape_of h) ≤ length image → valid_below (pixels (shape_of h)) mask ≡ h.valid
      → (mode : ℕ) (delta : Bool) → decoded s h mask (mode + 1) delta image ≡ said (bodied h mask image) (huffman_body s h delta mode)
  -- 6.12
  pub bytes-kind : (s : List ℕ) (kind error at : ℕ) (delta : Bool) (mode : ℕ) → swept s kind error at ≡ ok (huffman_from delta mode) → kind < 2
  -- 6.13
  pub bytes-start : (s : List ℕ) (start n : ℕ) → length s < start → coded_at s start n ≡ fail (refuse 1)
  pub decode-bytes-clauses : (b : List ℕ) (h : Header) (mask : List ℕ) (mode : ℕ) (delta : Bool) (r : Res ℕ) (old new : List ℕ)
      → r ≡ ended (checked_image b h mode) → new ≡ written_image b h mode delta mask old → DecodeBytesClauses b h mask mode delta r old new
  pub read-bytes-clauses : (s : List ℕ) (h : Header) (mode : ℕ) (delta : Bool) (force : Res MaskTold) (mask : List ℕ) (a : Res Staged) (old new : List ℕ) → Ready s h mask → cells (shape_of h) ≤ length old
      → BodyRead (huffman_body s h delta mode) h force mask a old new → ReadBytesClauses s h mask mode delta a old new
