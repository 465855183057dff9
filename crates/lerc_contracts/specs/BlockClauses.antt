-- lerc_block.rs: a law for each clause, by the rows of docs/CONTRACTS.md (section 4).
-- Assumes nothing.
use Rattle.std.specs.Prelude.{◌≡◌, true, false, ◌||◌, List, ℕ, zero, suc, ◌+◌, ◌*◌, ◌/◌, ◌%◌, ◌≤◌, ◌<◌, eqb, length, get_or, set, take}
use Rattle.std.proofs.Math.Option.{none, some}
use Rattle.lerc_words.specs.declared.Refusal.{Refusal}
use Rattle.lerc_words.specs.Res.{Res, ok, fail, little, refuse, placed, marked, accepts, ◌>>=◌}
use Rattle.lerc_words.proofs.Little.{Bytes}
use Rattle.lerc_numeric.specs.Numeric.{finite, infinite, counted_sum, scaled}
use Rattle.lerc_numeric.specs.Kinds.{type_size}
use Rattle.lerc_numeric.specs.Steps.{step_of}
use Rattle.lerc_samples.specs.Samples.{sample_at, stored, offset_kind}
use Rattle.lerc_header.specs.declared.Header.{Header}
use Rattle.lerc_header.specs.Header.{shape_of, held}
use Rattle.lerc_header.specs.Shape.{Shaped, cells, block_count}
use Rattle.lerc_bits.specs.Bits.{Span, Counts, counts}
use Rattle.lerc_block.specs.Block.{block_says, read_block_says, BlockRead, tile_limit}
use Rattle.lerc_image.specs.declared.Tile.{Tile}
use Rattle.lerc_image.specs.Geometry.{tile_of, valid_in_tile, pixel_of, cell_of}
use Rattle.lerc_image.specs.Paint.{scattered}
use Rattle.lerc_overflow.specs.By.{step_by, block_by}
use Rattle.lerc_overflow.specs.Changes.{Calm}
use Rattle.lerc_contracts.specs.Outside.{said, length_max, is_some, width, height}
use Rattle.lerc_contracts.specs.Block.{Mode, mode, mode_offset, value, ResultModel, finished, finish, block, pixel, target, Step, TileValid}
use Rattle.lerc_contracts.specs.Between.{valid_of, Goes, Stepping, Stuck, their_fill, room_for, result, counted_plan}
use Rattle.lerc_mask.specs.Mask.{pixel_valid}
use Rattle.lerc_header.specs.declared.Extent.{Extent}
use Rattle.lerc_ranges.specs.declared.Ranges.{Ranges}
use Rattle.lerc_ranges.specs.Ranges.{pairs_right}
use Rattle.lerc_image.specs.Fill.{Filled}
use Rattle.lerc_contracts.specs.Bits.{decoded}
use Rattle.lerc_block.specs.declared.plan.BlockPlan.{BlockPlan}
use Rattle.lerc_block.specs.Plan.{plan_says}
use Rattle.lerc_contracts.specs.ReadMode.{mode_of, SecondCall, counts_taken, mode_taken, counts_number}

-- where all steps go, the words are scattered over the image
abbrev pub RunAll : Header → List ℕ → ℕ → List ℕ → List ℕ → Mode → List ℕ → ℕ → (ℕ → ℕ) → (ℕ → ℕ) → Type 0
RunAll h mask n start s m q maximum pos idx =
    (words : List ℕ) → ((i : ℕ) → i < valid_of h mask n → Goes s h m q maximum pos idx i (get_or words i 0))
    → finish s h (tile_of (shape_of h) n) m q mask maximum 0 m.at 0 start 256 ≡ finished m q (pos (valid_of h mask n)) (idx (valid_of h mask n)) (scattered (shape_of h) mask n words start)

-- where one does not go, or the end does not, there is no result
abbrev pub RunNone : Header → List ℕ → ℕ → List ℕ → List ℕ → Mode → List ℕ → ℕ → (ℕ → ℕ) → (ℕ → ℕ) → Type 0
RunNone h mask n start s m q maximum pos idx =
    ((i : ℕ) → i < valid_of h mask n → Stepping s h m q maximum pos idx i) → Stuck s h m q maximum pos idx (valid_of h mask n) 0
    → finish s h (tile_of (shape_of h) n) m q mask maximum 0 m.at 0 start 256 ≡ none

-- THE BLOCK: the mode and then the cells are our block over upstream's sum, scattered over the image
abbrev pub BlockIs : Header → List ℕ → ℕ → List ℕ → List ℕ → ℕ → ℕ → Type 0
BlockIs h mask n start s maximum at =
    block s h (tile_of (shape_of h) n) mask maximum at start
    ≡ said (result h mask n start) (block_by counted_sum s at h.kind h.error maximum (tile_of (shape_of h) n).x (valid_of h mask n))

-- `mode`: its cases in front of an offset
pub record ModeCases (s : List ℕ) (at : ℕ) (h : Header) (t : Tile) : Type 0 where
  -- 4.11
  pub mode-past : length s ≤ at → mode s at h t ≡ none
  -- 4.12
  pub mode-check : at < length s → eqb (get_or s at 0 / 4 % 16) (t.x / 8 % 16) ≡ false → mode s at h t ≡ none
  -- 4.13
  pub mode-free : at < length s → eqb (get_or s at 0 / 4 % 16) (t.x / 8 % 16) ≡ true → (eqb (get_or s at 0 % 4) 0 || eqb (get_or s at 0 % 4) 2) ≡ true → mode s at h t ≡ some (record { at = at + 1; flag = get_or s at 0 % 4; offset = 0; quant = 0; next = at + 1 })
  -- 4.14
  pub mode-kind : at < length s → eqb (get_or s at 0 / 4 % 16) (t.x / 8 % 16) ≡ true → (eqb (get_or s at 0 % 4) 0 || eqb (get_or s at 0 % 4) 2) ≡ false → (r : Refusal) → offset_kind h.kind (get_or s at 0 / 64) ≡ fail r → mode s at h t ≡ none
  -- 4.15
  pub mode-number : at < length s → eqb (get_or s at 0 / 4 % 16) (t.x / 8 % 16) ≡ true → (eqb (get_or s at 0 % 4) 0 || eqb (get_or s at 0 % 4) 2) ≡ false → (k : ℕ) → offset_kind h.kind (get_or s at 0 / 64) ≡ ok k → (r : Refusal) → sample_at k s (at + 1) ≡ fail r → mode s at h t ≡ none

-- `mode`: its cases behind an offset of the kind k
pub record OffsetCases (s : List ℕ) (at f k v : ℕ) : Type 0 where
  -- 4.16
  pub offset-wild : finite v ≡ false → mode_offset s at f k v ≡ none
  -- 4.17
  pub offset-level : finite v ≡ true → eqb f 3 ≡ true → mode_offset s at f k v ≡ some (record { at = at + 1 + type_size k; flag = f; offset = v; quant = 0; next = at + 1 + type_size k })
  -- 4.18
  pub offset-none : finite v ≡ true → eqb f 3 ≡ false → Bytes s → length s ≤ length_max → (r : Refusal) → counts s (at + 1 + type_size k) ≡ fail r → mode_offset s at f k v ≡ none
  -- 4.19
  pub offset-steps : finite v ≡ true → eqb f 3 ≡ false → Bytes s → length s ≤ length_max → (c : Counts) → counts s (at + 1 + type_size k) ≡ ok c → mode_offset s at f k v ≡ some (record { at = c.next; flag = f; offset = v; quant = at + 1 + type_size k; next = c.next })

-- `read_mode`, from the promises of `lerc_block::inspect_block` and `lerc_bits::decode_plan`
pub record ReadModeClauses (s : List ℕ) (at : ℕ) (h : Header) (t : Tile) (r : Res BlockPlan) (a : Res Span) (new : List ℕ) : Type 0 where
  -- 4.23
  pub read-mode-ok : mode_taken a r ≡ is_some (mode s at h t)
  -- 4.24
  pub read-mode-is : (p : BlockPlan) → r ≡ ok p → counts_taken a p.form ≡ true → mode s at h t ≡ some (mode_of at p)
  -- 4.25
  pub read-mode-inside : (p : BlockPlan) → r ≡ ok p → counts_taken a p.form ≡ true → (at < (mode_of at p).at) × ((mode_of at p).at ≤ length s) × ((mode_of at p).flag < 4) × (counts_number a p.form ≤ 256)
  -- 4.26
  pub read-mode-free : (p : BlockPlan) → r ≡ ok p → counts_taken a p.form ≡ true → ((mode_of at p).flag ≡ 1 → ⊥) → counts_number a p.form ≡ 0
  -- 4.27
  pub read-mode-counts : (p : BlockPlan) → r ≡ ok p → counts_taken a p.form ≡ true → (mode_of at p).flag ≡ 1 → decoded s (mode_of at p).quant ≡ some (record { end = (mode_of at p).at; values = take (counts_number a p.form) new })

-- `value`: its cases
pub record ValueCases (s : List ℕ) (h : Header) (m : Mode) (q : List ℕ) (at index maximum : ℕ) : Type 0 where
  -- 4.29
  pub raw-past : m.flag ≡ 0 → length s < at + type_size h.kind → value s h m q at index maximum ≡ none
  -- 4.30
  pub raw_word : m.flag ≡ 0 → at + type_size h.kind ≤ length s → value s h m q at index maximum ≡ some (record { value = little (type_size h.kind) s at; at = at + type_size h.kind; q = index })
  -- 4.31
  pub zero_word : m.flag ≡ 2 → value s h m q at index maximum ≡ some (record { value = 0; at = at; q = index })
  -- 4.32, 4.36
  pub level-word : m.flag ≡ 3 → (w : ℕ) → stored h.kind m.offset ≡ ok w → value s h m q at index maximum ≡ some (record { value = w; at = at; q = index })
  -- 4.35
  pub level-none : m.flag ≡ 3 → (r : Refusal) → stored h.kind m.offset ≡ fail r → value s h m q at index maximum ≡ none
  -- 4.34
  pub step_past : m.flag ≡ 1 → length q ≤ index → value s h m q at index maximum ≡ none
  -- 4.33, 4.36, over upstream's sum
  pub counted-word : m.flag ≡ 1 → index < length q → (w : ℕ) → stored h.kind (step_by counted_sum h.error maximum m.offset (get_or q index 0)) ≡ ok w → value s h m q at index maximum ≡ some (record { value = w; at = at; q = index + 1 })
  -- 4.35, over upstream's sum
  pub counted_none : m.flag ≡ 1 → index < length q → (r : Refusal) → stored h.kind (step_by counted_sum h.error maximum m.offset (get_or q index 0)) ≡ fail r → value s h m q at index maximum ≡ none
  -- 4.33, 4.36: no operand is infinite
  pub step-word : m.flag ≡ 1 → index < length q → infinite m.offset ≡ false → infinite (scaled h.error (get_or q index 0)) ≡ false → (w : ℕ) → stored h.kind (step_of m.offset h.error maximum (get_or q index 0)) ≡ ok w → value s h m q at index maximum ≡ some (record { value = w; at = at; q = index + 1 })
  -- 4.35: no operand is infinite
  pub step-none : m.flag ≡ 1 → index < length q → infinite m.offset ≡ false → infinite (scaled h.error (get_or q index 0)) ≡ false → (r : Refusal) → stored h.kind (step_of m.offset h.error maximum (get_or q index 0)) ≡ fail r → value s h m q at index maximum ≡ none

-- `finish`: its cases, step by step
pub record FinishCases (s : List ℕ) (h : Header) (t : Tile) (m : Mode) (q mask : List ℕ) (maximum : ℕ) : Type 0 where
  -- 4.46, 4.47
  pub finish-done : (k at index : ℕ) (out : List ℕ) (fuel : ℕ) → k ≡ t.w * t.h → finish s h t m q mask maximum k at index out fuel ≡ finished m q at index out
  -- 4.48
  pub finish-out : (k at index : ℕ) (out : List ℕ) → (k ≡ t.w * t.h → ⊥) → finish s h t m q mask maximum k at index out zero ≡ none
  -- 4.49
  pub finish-skip : (k at index : ℕ) (out : List ℕ) → (k ≡ t.w * t.h → ⊥) → (fuel : ℕ) → pixel_valid mask (pixel t h k) ≡ false → finish s h t m q mask maximum k at index out (suc fuel) ≡ finish s h t m q mask maximum (k + 1) at index out fuel
  -- 4.50
  pub finish-stop : (k at index : ℕ) (out : List ℕ) → (k ≡ t.w * t.h → ⊥) → (fuel : ℕ) → pixel_valid mask (pixel t h k) ≡ true → value s h m q at index maximum ≡ none → finish s h t m q mask maximum k at index out (suc fuel) ≡ none
  -- 4.51
  pub finish-step : (k at index : ℕ) (out : List ℕ) → (k ≡ t.w * t.h → ⊥) → (fuel : ℕ) (step : Step) → pixel_valid mask (pixel t h k) ≡ true → value s h m q at index maximum ≡ some step → finish s h t m q mask maximum k at index out (suc fuel) ≡ finish s h t m q mask maximum (k + 1) step.at step.q (set out (target t h k) step.value) fuel

-- `target_xy`
pub record TargetClauses (h : Header) (t : Tile) (row col : ℕ) : Type 0 where
  -- 4.55
  pub pixel-at : (t.y + row) * width h + (t.x + col) ≡ pixel t h (row * t.w + col)
  -- 4.56
  pub target_at : ((t.y + row) * width h + (t.x + col)) * h.depth + t.d ≡ target t h (row * t.w + col)
  -- 4.57
  pub pixel-below : pixel t h (row * t.w + col) < width h * height h
  -- 4.58
  pub target_below : target t h (row * t.w + col) < width h * height h * h.depth

-- `read_mode` and `reconstruct` together, for block n of an image: from the promise of `lerc_block::read_block`
pub record ReadBlockClauses (h : Header) (mask : List ℕ) (n : ℕ) (image : List ℕ) (s : List ℕ) (maximum at : ℕ) (r : Res ℕ) : Type 0 where
  -- 4.23, 4.67, 4.82
  pub read-block-ok : accepts r ≡ is_some (block s h (tile_of (shape_of h) n) mask maximum at image)
  -- 4.23
  pub read-mode-none : mode s at h (tile_of (shape_of h) n) ≡ none → accepts r ≡ false
  -- 4.68, 4.83
  pub read-block-end : (next : ℕ) (t : ResultModel) → r ≡ ok next → block s h (tile_of (shape_of h) n) mask maximum at image ≡ some t → next ≡ t.at
  -- 4.25
  pub read-block-inside : (next : ℕ) → r ≡ ok next → (at < next) × (next ≤ length s)

-- `reconstruct` and `reconstruct_float`, from the promise of `lerc_image::fill`
pub record ReconstructClauses (b : List ℕ) (h : Header) (ranges : Ranges) (mask list : List ℕ) (n : ℕ) (r : Res ℕ) (old new : List ℕ) : Type 0 where
  -- 4.21, 4.38, 4.59, 4.72
  pub fill-held : (q : Refusal) → held h (length b) ≡ fail q → r ≡ fail q
  -- 4.59, 4.72
  pub fill-number : (e : Extent) → held h (length b) ≡ ok e → e.blocks ≤ n → r ≡ fail (refuse 11)
  -- 4.64, 4.65, 4.79, 4.80
  pub fill-room : (e : Extent) → held h (length b) ≡ ok e → n < e.blocks → room_for e mask list old ≡ false → r ≡ fail (refuse 5)
  -- 4.66, 4.81
  pub fill-length : length new ≡ length old
  -- 4.71, 4.86
  pub fill-rest : (j : ℕ) → h.columns * h.rows * h.depth ≤ j → j < length old → get_or new j 0 ≡ get_or old j 0
  -- 4.67, 4.82
  pub fill-ok : (e : Extent) → held h (length b) ≡ ok e → n < e.blocks → room_for e mask list old ≡ true → pairs_right h.depth ranges ≡ true → Bytes b → accepts r ≡ is_some (their_fill b h ranges mask list n old)
  -- 4.69, 4.84: no operand of a sum is infinite
  pub fill-image : (e : Extent) → held h (length b) ≡ ok e → n < e.blocks → room_for e mask list old ≡ true → pairs_right h.depth ranges ≡ true → Bytes b → Calm (take h.size b) (get_or list n 0) h.kind h.error → (t : ResultModel) → their_fill b h ranges mask list n old ≡ some t → new ≡ t.image

pub record BlockClauses : Type 0 where
  -- 4.2 to 4.7
  pub tile-valid : (h : Header) → Shaped (shape_of h) → (n : ℕ) → n < block_count (shape_of h) → TileValid (tile_of (shape_of h) n) h
  -- 4.8
  pub pixel-is : (h : Header) (t : Tile) (k : ℕ) → pixel t h k ≡ pixel_of (shape_of h) t k
  -- 4.9
  pub target_is : (h : Header) (n k : ℕ) → target (tile_of (shape_of h) n) h k ≡ cell_of (shape_of h) n k
  pub mode-cases : (s : List ℕ) (at : ℕ) (h : Header) (t : Tile) → ModeCases s at h t
  pub offset-cases : (s : List ℕ) (at f k v : ℕ) → OffsetCases s at f k v
  -- 4.23
  pub mode-is : (s : List ℕ) → Bytes s → length s ≤ length_max → (at : ℕ) (h : Header) (t : Tile) → mode s at h t ≡ said (mode_of at) (plan_says s at h.kind t.x 0 >>= counted_plan s)
  -- 4.11 to 4.19
  pub block-is : (h : Header) (mask : List ℕ) (n : ℕ) (start : List ℕ) → Shaped (shape_of h) → n < block_count (shape_of h) → cells (shape_of h) ≤ length start → (s : List ℕ) → Bytes s → length s ≤ length_max → (maximum at : ℕ) → BlockIs h mask n start s maximum at
  -- 4.20, 4.37, 4.60, 4.73, 5.24
  pub start-past : (s : List ℕ) (at kind error top x n : ℕ) → length s ≤ at → marked at (block_says s at kind error top x n) ≡ fail (placed at (refuse 1))
  -- 4.22
  pub tile-over : (s : List ℕ) (at kind error top x n : ℕ) → tile_limit < n → marked at (read_block_says s at kind error top x n) ≡ fail (placed at (refuse 8))
  pub read-mode-clauses : (s : List ℕ) → Bytes s → length s ≤ length_max → (at : ℕ) (h : Header) (t : Tile) (r : Res BlockPlan) → r ≡ marked at (plan_says s at h.kind t.x 0) → (a : Res Span) (old new : List ℕ) → SecondCall s r a old new → ReadModeClauses s at h t r a new
  pub value-cases : (s : List ℕ) (h : Header) (m : Mode) (q : List ℕ) (at index maximum : ℕ) → ValueCases s h m q at index maximum
  -- 4.44
  pub value-inside : (s : List ℕ) (h : Header) (m : Mode) (q : List ℕ) (at index maximum : ℕ) → at ≤ length s → index ≤ length q → (step : Step) → value s h m q at index maximum ≡ some step → (at ≤ step.at) × (step.at ≤ length s) × (index ≤ step.q) × (step.q ≤ length q)
  pub finish-cases : (s : List ℕ) (h : Header) (t : Tile) (m : Mode) (q mask : List ℕ) (maximum : ℕ) → FinishCases s h t m q mask maximum
  -- 4.46, 4.47, 4.51
  pub run-all : (h : Header) (mask : List ℕ) (n : ℕ) (start : List ℕ) → Shaped (shape_of h) → n < block_count (shape_of h) → cells (shape_of h) ≤ length start → (s : List ℕ) (m : Mode) (q : List ℕ) (maximum : ℕ) (pos idx : ℕ → ℕ) → pos 0 ≡ m.at → idx 0 ≡ 0 → RunAll h mask n start s m q maximum pos idx
  -- 4.46, 4.47
  pub run_none : (h : Header) (mask : List ℕ) (n : ℕ) (start : List ℕ) → Shaped (shape_of h) → n < block_count (shape_of h) → cells (shape_of h) ≤ length start → (s : List ℕ) (m : Mode) (q : List ℕ) (maximum : ℕ) (pos idx : ℕ → ℕ) → pos 0 ≡ m.at → idx 0 ≡ 0 → RunNone h mask n start s m q maximum pos idx
  pub target-clauses : (h : Header) (t : Tile) → TileValid t h → (row col : ℕ) → row < t.h → col < t.w → TargetClauses h t row col
  pub read-block-clauses : (h : Header) (mask : List ℕ) (n : ℕ) (image : List ℕ) → Shaped (shape_of h) → n < block_count (shape_of h) → cells (shape_of h) ≤ length image → (s : List ℕ) → Bytes s → length s ≤ length_max → (maximum at : ℕ) (r : Res ℕ) (old new : List ℕ) → BlockRead (marked at (read_block_says s at h.kind h.error maximum (tile_of (shape_of h) n).x (valid_in_tile (shape_of h) mask (tile_of (shape_of h) n)))) r old new → ReadBlockClauses h mask n image s maximum at r
  pub reconstruct-clauses : (b : List ℕ) (h : Header) (ranges : Ranges) (mask list : List ℕ) (n : ℕ) (r : Res ℕ) (old new : List ℕ) → Filled b h ranges mask list n r old new → ReconstructClauses b h ranges mask list n r old new
  -- 4.70, 4.85
  pub reconstruct-inside : (s : List ℕ) (h : Header) (t : Tile) (m : Mode) (q mask : List ℕ) (maximum : ℕ) (out : List ℕ) → m.at ≤ length s → (r : ResultModel) → finish s h t m q mask maximum 0 m.at 0 out 256 ≡ some r → (m.at ≤ r.at) × (r.at ≤ length s)
