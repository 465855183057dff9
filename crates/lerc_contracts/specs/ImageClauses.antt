-- lerc_image.rs: a law for each clause, by the rows of docs/CONTRACTS.md (section 5).
-- Assumes nothing.
use Rattle.std.specs.Prelude.{◌≡◌, Bool, true, false, List, ◌++◌, ℕ, suc, ◌+◌, ◌*◌, ◌≤◌, ◌<◌, ◌/◌, ◌%◌, length, get_or, set, take, replicate}
use Rattle.std.proofs.Math.Option.{some, none}
use Rattle.lerc_words.specs.Res.{Res, ok, fail, little, refuse, placed, accepts}
use Rattle.lerc_words.proofs.Little.{Bytes}
use Rattle.lerc_header.specs.declared.Header.{Header}
use Rattle.lerc_header.specs.Header.{shape_of, held, header_says}
use Rattle.lerc_header.specs.Shape.{Shaped, cells, block_count, pixels}
use Rattle.lerc_image.specs.declared.Tile.{Tile}
use Rattle.lerc_image.specs.declared.Position.{Position}
use Rattle.lerc_image.specs.Geometry.{position_of, HasTile, tile_here, next_of}
use Rattle.lerc_image.specs.Blocks.{Chain, all_blocks}
use Rattle.lerc_image.specs.Tiles.{tiles_says, Tiled}
use Rattle.lerc_numeric.specs.Numeric.{counted_sum}
use Rattle.lerc_overflow.specs.By.{chain_by, all_blocks_by}
use Rattle.lerc_overflow.specs.Changes.{AllCalm}
use Rattle.lerc_contracts.specs.Outside.{said, on_some, length_max, is_some}
use Rattle.lerc_contracts.specs.Block.{TileValid, ResultModel, block}
use Rattle.lerc_contracts.specs.Image.{PositionValid, tile, next, tiles, PlaceAndWord, linear_value, linear}
use Rattle.lerc_contracts.specs.Between.{painting, tiled_image, used_to, bodied, room_for, their_tiles, their_raw, their_constant}
use Rattle.lerc_words.specs.Lists.{count, over}
use Rattle.lerc_numeric.specs.Kinds.{type_size}
use Rattle.lerc_mask.specs.Mask.{pixel_valid, valid_below}
use Rattle.lerc_validity.specs.Validity.{MaskTold}
use Rattle.lerc.specs.Meaning.{Body, raw_body, constant_body}
use Rattle.lerc.specs.Meaning as body
use Rattle.lerc_words.specs.declared.Refusal.{Refusal}
use Rattle.lerc_header.specs.declared.Extent.{Extent}
use Rattle.lerc_header.specs.Limits.{depth_limit}
use Rattle.lerc_ranges.specs.declared.Ranges.{Ranges}
use Rattle.lerc_ranges.specs.Ranges.{constant_words}
use Rattle.lerc_image.specs.Walk.{Walk}
use Rattle.lerc.specs.declared.Staged.{Staged}
use Rattle.lerc.specs.Read.{ReadTold, Lent, room, WholeRead}
use Rattle.lerc.specs.Parts.{Ready, BodyRead}

-- `tiles`: a block, then the next position
abbrev pub TilesStep : List ℕ → Header → List ℕ → List ℕ → Type 0
TilesStep s h mask max =
    (p : Position) (at : ℕ) (out : List ℕ) (fuel : ℕ) → (p.y ≡ h.rows → ⊥)
    → tiles s h mask max p at out (suc fuel) ≡ on_some (block s h (tile p h) mask (get_or max p.d 0) at out) (λ b. tiles s h mask max (next p h) b.at b.image fuel)

-- THE TILES, from block n on: our chain of blocks over upstream's sum, painted
abbrev pub TilesFrom : List ℕ → Header → List ℕ → List ℕ → Type 0
TilesFrom s h mask max =
    (fuel f n at : ℕ) (out : List ℕ) → n + f ≡ block_count (shape_of h) → f ≤ fuel → cells (shape_of h) ≤ length out
    → tiles s h mask max (position_of (shape_of h) n) at out fuel ≡ said (painting h mask n out) (chain_by counted_sum s h max mask f n at)

-- and from the first
abbrev pub TilesIs : List ℕ → Header → List ℕ → List ℕ → Type 0
TilesIs s h mask max =
    (at : ℕ) (out : List ℕ) → cells (shape_of h) ≤ length out
    → tiles s h mask max (record { x = 0; y = 0; d = 0 }) at out (h.columns * h.rows * h.depth) ≡ said (tiled_image h mask out) (all_blocks_by counted_sum s h max mask at)

-- A CONSTANT BODY: `linear` is ours, painted
abbrev pub ConstantIs : List ℕ → Header → List ℕ → List ℕ → Type 0
ConstantIs s h mask image =
    (words rest : List ℕ) (at : ℕ) → length words ≡ h.depth
    → linear s h mask (words ++ rest) false 0 at image (h.columns * h.rows * h.depth) ≡ some (bodied h mask image (body.constant words at))

-- A RAW BODY
abbrev pub RawIs : List ℕ → Header → List ℕ → List ℕ → Type 0
RawIs s h mask image =
    (constants : List ℕ) (at : ℕ) → at ≤ length s → valid_below (pixels (shape_of h)) mask ≡ h.valid
    → linear s h mask constants true 0 at image (h.columns * h.rows * h.depth) ≡ said (bodied h mask image) (raw_body s h at)

-- `Position::current` and `Position::advance`, from the promises of the private methods of the same names
pub record PositionClauses (p : Position) (h : Header) : Type 0 where
  -- 5.12
  pub current-tile : (r : Tile) → r ≡ tile_here (shape_of h) p → r ≡ tile p h
  -- 5.13
  pub current-valid : (r : Tile) → r ≡ tile_here (shape_of h) p → TileValid r h
  -- 5.16
  pub advance-next : (r : Position) → r ≡ next_of (shape_of h) p → r ≡ next p h
  -- 5.2 to 5.5, 5.17
  pub advance-valid : (r : Position) → r ≡ next_of (shape_of h) p → PositionValid r h

-- `tiles`: its cases, then all of them
pub record TilesCases (s : List ℕ) (h : Header) (mask max : List ℕ) : Type 0 where
  -- 5.18
  pub tiles-end : (p : Position) (at : ℕ) (out : List ℕ) (fuel : ℕ) → p.y ≡ h.rows → tiles s h mask max p at out fuel ≡ some (record { at = at; image = out })
  -- 5.20 to 5.22
  pub tiles-step : TilesStep s h mask max
  -- 5.18, 5.20 to 5.22
  pub tiles-from : TilesFrom s h mask max
  -- 5.28
  pub tiles-is : TilesIs s h mask max

-- `decode_tiles`, from the promise of `lerc_image::decode_tiles`
pub record DecodeTilesClauses (b : List ℕ) (h : Header) (mask maxima : List ℕ) (at : ℕ) (r : Res Walk) (list old new : List ℕ) : Type 0 where
  -- 5.23
  pub tiles-held : (q : Refusal) → held h (length b) ≡ fail q → r ≡ fail q
  -- 5.25, 5.26
  pub tiles-room : (e : Extent) → held h (length b) ≡ ok e → room_for e mask list old ≡ false → r ≡ fail (refuse 5)
  -- 5.27
  pub tiles-length : length new ≡ length old
  -- 5.32
  pub tiles-rest : (j : ℕ) → h.columns * h.rows * h.depth ≤ j → j < length old → get_or new j 0 ≡ get_or old j 0
  -- 5.28
  pub tiles-ok : (e : Extent) → held h (length b) ≡ ok e → room_for e mask list old ≡ true → Bytes b → accepts r ≡ is_some (their_tiles b h mask maxima at old)
  -- 5.29
  pub tiles-next : (e : Extent) → held h (length b) ≡ ok e → room_for e mask list old ≡ true → Bytes b → (w : Walk) → r ≡ ok w → (t : ResultModel) → their_tiles b h mask maxima at old ≡ some t → w.end ≡ t.at
  -- 5.30: no operand of a sum is infinite
  pub tiles-result : (e : Extent) → held h (length b) ≡ ok e → room_for e mask list old ≡ true → Bytes b → ((c : Chain) → all_blocks (take h.size b) h maxima mask at ≡ ok c → AllCalm (take h.size b) h c.starts) → (w : Walk) → r ≡ ok w → their_tiles b h mask maxima at old ≡ some (record { at = w.end; image = new })
  -- 5.31
  pub tiles-inside : (e : Extent) → held h (length b) ≡ ok e → room_for e mask list old ≡ true → Bytes b → (w : Walk) → r ≡ ok w → at ≤ length (take h.size b) → (at ≤ w.end) × (w.end ≤ length (take h.size b))

-- `linear_value`: its cases
pub record LinearValueCases (s : List ℕ) (h : Header) (at k : ℕ) (constants : List ℕ) : Type 0 where
  -- 5.33
  pub value-constant : linear_value s h at k false constants ≡ some (record { at = at; value = get_or constants (k % h.depth) 0 })
  -- 5.34
  pub value-past : length s < at + type_size h.kind → linear_value s h at k true constants ≡ none
  -- 5.35
  pub value-raw : at + type_size h.kind ≤ length s → linear_value s h at k true constants ≡ some (record { at = at + type_size h.kind; value = little (type_size h.kind) s at })

-- `linear`: its cases, cell by cell
pub record LinearCases (s : List ℕ) (h : Header) (mask constants : List ℕ) (raw : Bool) : Type 0 where
  -- 5.36
  pub linear-done : (k at : ℕ) (out : List ℕ) (fuel : ℕ) → k ≡ cells (shape_of h) → linear s h mask constants raw k at out fuel ≡ some (record { at = at; image = out })
  -- 5.38
  pub linear-skip : (k at : ℕ) (out : List ℕ) → (k ≡ cells (shape_of h) → ⊥) → (fuel : ℕ) → pixel_valid mask (k / h.depth) ≡ false → linear s h mask constants raw k at out (suc fuel) ≡ linear s h mask constants raw (k + 1) at out fuel
  -- 5.39
  pub linear-stop : (k at : ℕ) (out : List ℕ) → (k ≡ cells (shape_of h) → ⊥) → (fuel : ℕ) → pixel_valid mask (k / h.depth) ≡ true → linear_value s h at k raw constants ≡ none → linear s h mask constants raw k at out (suc fuel) ≡ none
  -- 5.40
  pub linear-step : (k at : ℕ) (out : List ℕ) → (k ≡ cells (shape_of h) → ⊥) → (fuel : ℕ) (w : PlaceAndWord) → pixel_valid mask (k / h.depth) ≡ true → linear_value s h at k raw constants ≡ some w → linear s h mask constants raw k at out (suc fuel) ≡ linear s h mask constants raw (k + 1) w.at (set out k w.value) fuel

-- what `decode_linear` asks, refused: from the promise of a whole read
pub record WholeReadClauses (b : List ℕ) (r : Res ReadTold) (old : Lent) : Type 0 where
  -- 5.41
  pub whole-header : (q : Refusal) → header_says b ≡ fail q → r ≡ fail q
  -- 5.43, 5.44
  pub whole_room : (h : Header) → header_says b ≡ ok h → room h old ≡ false → r ≡ fail (refuse 5)

-- `decode_linear`: either body
pub record DecodeLinearClauses (h : Header) (old new : List ℕ) : Type 0 where
  -- 5.45
  pub linear-length : length new ≡ length old
  -- 5.50
  pub linear-rest : (j : ℕ) → h.columns * h.rows * h.depth ≤ j → j < length old → get_or new j 0 ≡ get_or old j 0

-- `decode_linear`, where `raw` is true; its constants are not looked at
pub record RawBodyClauses (s : List ℕ) (h : Header) (at : ℕ) (mask constants : List ℕ) (a : Res Staged) (old new : List ℕ) : Type 0 where
  -- 5.46
  pub raw-ok : accepts a ≡ is_some (their_raw s h mask constants at old)
  -- 5.47, 5.48
  pub raw-result : (w : Staged) → a ≡ ok w → their_raw s h mask constants at old ≡ some (record { at = w.end; image = new })
  -- 5.49
  pub raw-end : (w : Staged) → a ≡ ok w → (at ≤ w.end) × (w.end ≤ length s)

-- `decode_linear`, where `raw` is false: its words are those of `convert`, and it always accepts
pub record ConstantBodyClauses (s : List ℕ) (h : Header) (ranges : Ranges) (mask words : List ℕ) (a : Res Staged) (old new : List ℕ) : Type 0 where
  -- 5.46
  pub constant-ok : accepts a ≡ is_some (their_constant s h mask (over words (replicate depth_limit 0)) ranges.at old)
  -- 5.47, 5.48
  pub constant-result : (w : Staged) → a ≡ ok w → their_constant s h mask (over words (replicate depth_limit 0)) ranges.at old ≡ some (record { at = w.end; image = new })
  -- 5.49
  pub constant-end : (w : Staged) → a ≡ ok w → w.end ≡ ranges.at

pub record ImageClauses : Type 0 where
  -- 5.6
  pub tile-is : (p : Position) (h : Header) → tile p h ≡ tile_here (shape_of h) p
  -- 5.7 to 5.9
  pub next-is : (p : Position) (h : Header) → next p h ≡ next_of (shape_of h) p
  pub position-clauses : (p : Position) (h : Header) → Shaped (shape_of h) → HasTile (shape_of h) p → PositionClauses p h
  pub tiles-cases : (s : List ℕ) → Bytes s → length s ≤ length_max → (h : Header) → Shaped (shape_of h) → (mask max : List ℕ) → TilesCases s h mask max
  pub decode-tiles-clauses : (b : List ℕ) (h : Header) (mask maxima : List ℕ) (at : ℕ) (r : Res Walk) (list list' old new : List ℕ) → Tiled (tiles_says b h mask maxima at (length list) (length old)) h mask r list list' old new → DecodeTilesClauses b h mask maxima at r list old new
  pub linear-value-cases : (s : List ℕ) (h : Header) (at k : ℕ) (constants : List ℕ) → LinearValueCases s h at k constants
  pub linear-cases : (s : List ℕ) (h : Header) (mask constants : List ℕ) (raw : Bool) → LinearCases s h mask constants raw
  -- 5.39
  pub linear-none : (h : Header) (mask s constants : List ℕ) (at : ℕ) → length s < at + count (cells (shape_of h)) (λ c. pixel_valid mask (c / h.depth)) * type_size h.kind → (fuel k : ℕ) (out : List ℕ) → k ≤ cells (shape_of h) → used_to h mask at k ≤ length s → linear s h mask constants true k (used_to h mask at k) out fuel ≡ none
  -- 5.40
  pub constant-is : (s : List ℕ) (h : Header) → Shaped (shape_of h) → (mask image : List ℕ) → cells (shape_of h) ≤ length image → ConstantIs s h mask image
  -- 5.34, 5.35, 5.40
  pub raw-is : (s : List ℕ) (h : Header) → Shaped (shape_of h) → (mask image : List ℕ) → cells (shape_of h) ≤ length image → RawIs s h mask image
  -- 5.42
  pub raw-start : (s : List ℕ) (h : Header) (at : ℕ) → length s < at → raw_body s h at ≡ fail (placed at (refuse 1))
  pub whole-read-clauses : (b : List ℕ) (reuse : Bool) (r : Res ReadTold) (old new : Lent) → WholeRead b reuse r old new → WholeReadClauses b r old
  pub decode-linear-clauses : (m : Res Body) (h : Header) (force : Res MaskTold) (mask : List ℕ) (a : Res Staged) (old new : List ℕ) → BodyRead m h force mask a old new → DecodeLinearClauses h old new
  pub raw-body-clauses : (s : List ℕ) (h : Header) (at : ℕ) (force : Res MaskTold) (mask constants : List ℕ) (a : Res Staged) (old new : List ℕ) → Ready s h mask → cells (shape_of h) ≤ length old → BodyRead (raw_body s h at) h force mask a old new → at ≤ length s → RawBodyClauses s h at mask constants a old new
  pub constant-body-clauses : (s : List ℕ) (h : Header) (ranges : Ranges) (force : Res MaskTold) (mask words : List ℕ) (a : Res Staged) (old new : List ℕ) → Ready s h mask → cells (shape_of h) ≤ length old → length ranges.min ≡ depth_limit → BodyRead (constant_body h ranges) h force mask a old new → constant_words h.depth h.kind ranges.min ≡ ok words → ConstantBodyClauses s h ranges mask words a old new
