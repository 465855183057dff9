-- The table of refusals for words, values, packed counts and blocks: each line is a demand that fails, with its number;
-- the demands before it hold, for "the first failing read decides the number".
-- A word, packed counts and a block tell their refusals at one place each (`At`); a value, and counts by a plan that is given, have none.
-- Assumes nothing.
use Rattle.std.specs.Prelude.{◌≡◌, ◌≢◌, true, false, List, [], ℕ, ◌+◌, ◌*◌, ◌/◌, ◌%◌, ◌≤◌, ◌<◌, length, get_or}
use Rattle.lerc_words.specs.declared.Refusal.{Refusal}
use Rattle.lerc_words.specs.Res.{ok, refuse, placed, word_at}
use Rattle.lerc_numeric.specs.Numeric.{negative, finite}
use Rattle.lerc_numeric.specs.Kinds.{type_size, value_of, whole, bound}
use Rattle.lerc_numeric.specs.Steps.{step_of}
use Rattle.lerc_samples.specs.Samples.{no_kind, offset_kinds, offset_kind, sample_at}
use Rattle.lerc_bits.specs.declared.Plan.{Plan}
use Rattle.lerc_bits.specs.Bits.{count_bytes, plain_plan, table_plan, plan, run, all_below, keeps, Counts, counts}
use Rattle.lerc_block.specs.Block.{tile_limit}

-- what is refused here is told at a place
pub data At (place : ℕ) (Refused : Refusal → Type 0) : Refusal → Type 0 where
  at_place : {why : Refusal} → Refused why → At place Refused (placed place why)

-- ---- words and values

-- "a field, number or packed run passes the declared size"; a word has at most eight bytes
pub data WordRefused (s : List ℕ) (at size : ℕ) : Refusal → Type 0 where
  word_wide : 8 < size → WordRefused s at size (refuse 1)
  word_cut : size ≤ 8 → length s < at + size → WordRefused s at size (refuse 1)

pub data SampleRefused (kind : ℕ) (s : List ℕ) (at : ℕ) : Refusal → Type 0 where
  sample-cut : length s < at + type_size kind → SampleRefused kind s at (refuse 1)

-- "a value does not fit its integer kind"
pub data StoredRefused (kind v : ℕ) : Refusal → Type 0 where
  -- "A non-finite value is refused by kinds 0 to 5"
  not_finite : kind < 6 → finite v ≡ false → StoredRefused kind v (refuse 9)
  -- "kinds 0 to 5 cut toward zero and refuse outside the range"
  out_of_range : kind < 6 → finite v ≡ true → bound kind (negative v) ≤ whole v → StoredRefused kind v (refuse 9)

-- the same of a function for integers alone
pub data IntegerRefused (kind v : ℕ) : Refusal → Type 0 where
  no-integer : 6 ≤ kind → IntegerRefused kind v (refuse 9)
  not-stored : {n : Refusal} → StoredRefused kind v n → IntegerRefused kind v n

-- "as one table by kind and flag/64, '-' is 8"
pub data KindRefused (kind code : ℕ) : Refusal → Type 0 where
  no-kind : no_kind ≤ get_or (get_or offset_kinds kind []) code no_kind → KindRefused kind code (refuse 8)

-- the minimum of some depth does not fit
pub data ConstantsRefused (depth kind : ℕ) (values : List ℕ) : Refusal → Type 0 where
  not-constant : {n : Refusal} (i : ℕ) → i < depth → i < length values → StoredRefused kind (get_or values i 0) n → ConstantsRefused depth kind values n

-- ---- packed counts

-- "Set: bits 0 is, once n has been read, 8; one byte `entries`, under 2 is 8; entries-1 values ..; then n indices"
pub data TabledRefused (s : List ℕ) (at n bits : ℕ) : Refusal → Type 0 where
  no_bits : bits ≡ 0 → TabledRefused s at n bits (refuse 8)
  entries-cut : 0 < bits → length s < at + 1 → TabledRefused s at n bits (refuse 1)
  entries-few : (v : ℕ) → 0 < bits → word_at 1 s at ≡ ok v → v < 2 → TabledRefused s at n bits (refuse 8)
  -- "its whole length must fit (1) before its content is judged"
  table-cut : (v : ℕ) → 0 < bits → word_at 1 s at ≡ ok v → 2 ≤ v → length s < (table_plan n bits v (at + 1)).next → TabledRefused s at n bits (refuse 1)

-- behind the count n: "Bit 5 clear: n values of `bits` bits .. Set: .."
pub data PackedRefused (s : List ℕ) (at n h : ℕ) : Refusal → Type 0 where
  plain-cut : h / 32 % 2 ≡ 0 → length s < (plain_plan n (h % 32) at).next → PackedRefused s at n h (refuse 1)
  not-tabled : {j : Refusal} → h / 32 % 2 ≢ 0 → TabledRefused s at n (h % 32) j → PackedRefused s at n h j

-- "byte h; h/64 = 0, 1, 2 means a count n of 4, 2, 1 bytes, 3 is 8; n above 256 is 8"
pub data PlanRefused (s : List ℕ) (at : ℕ) : Refusal → Type 0 where
  counts-cut : length s < at + 1 → PlanRefused s at (refuse 1)
  width-wrong : (h : ℕ) → word_at 1 s at ≡ ok h → 3 ≤ h / 64 → PlanRefused s at (refuse 8)
  count_cut : (h : ℕ) → word_at 1 s at ≡ ok h → h / 64 < 3 → length s < at + 1 + count_bytes h → PlanRefused s at (refuse 1)
  count-large : (h n : ℕ) → word_at 1 s at ≡ ok h → h / 64 < 3 → word_at (count_bytes h) s (at + 1) ≡ ok n → 256 < n → PlanRefused s at (refuse 8)
  packed-refused : {j : Refusal} (h n : ℕ) → word_at 1 s at ≡ ok h → h / 64 < 3 → word_at (count_bytes h) s (at + 1) ≡ ok n → n ≤ 256
      → PackedRefused s (at + 1 + count_bytes h) n h j → PlanRefused s at j

-- "an index at or above entries is 8"
pub data CountsRefused (s : List ℕ) (at : ℕ) : Refusal → Type 0 where
  not-planned : {j : Refusal} → PlanRefused s at j → CountsRefused s at j
  index-large : (p : Plan) → plan s at ≡ ok p → p.entries ≢ 0 → all_below p.n p.entries (run s p.at p.n p.width) ≡ false → CountsRefused s at (refuse 8)

-- the counts of any plan: one that does not keep to its bounds is 8
pub data PlannedRefused (s : List ℕ) (p : Plan) : Refusal → Type 0 where
  plan-loose : keeps (length s) p ≡ false → PlannedRefused s p (refuse 8)
  planned-index : keeps (length s) p ≡ true → p.entries ≢ 0 → all_below p.n p.entries (run s p.at p.n p.width) ≡ false → PlannedRefused s p (refuse 8)

-- ---- a block

-- behind a finite offset: "3 one offset; 1 offset and packed counts"
pub data LevelsRefused (s : List ℕ) (at kind error top offset flag n : ℕ) : Refusal → Type 0 where
  level-refused : {j : Refusal} → flag % 4 ≡ 3 → 0 < n → StoredRefused kind offset j → LevelsRefused s at kind error top offset flag n j
  counts-refused : {j : Refusal} → flag % 4 ≢ 3 → CountsRefused s at j → LevelsRefused s at kind error top offset flag n j
  -- "Counts must number the tile's valid pixels, else 8, before any value is converted."
  miscounted-block : (c : Counts) → flag % 4 ≢ 3 → counts s at ≡ ok c → length c.values ≢ n → LevelsRefused s at kind error top offset flag n (refuse 8)
  value-refused : {j : Refusal} (c : Counts) (i : ℕ) → flag % 4 ≢ 3 → counts s at ≡ ok c → length c.values ≡ n → i < n
      → StoredRefused kind (step_of offset error top (get_or c.values i 0)) j → LevelsRefused s at kind error top offset flag n j

-- the offset, of the kind that the table names; "A non-finite offset is 8."
pub data OffsetRefused (s : List ℕ) (at kind error top flag n : ℕ) : Refusal → Type 0 where
  kind-refused : {j : Refusal} → KindRefused kind (flag / 64) j → OffsetRefused s at kind error top flag n j
  offset-cut : (k : ℕ) → offset_kind kind (flag / 64) ≡ ok k → length s < at + type_size k → OffsetRefused s at kind error top flag n (refuse 1)
  offset-not-finite : (k v : ℕ) → offset_kind kind (flag / 64) ≡ ok k → sample_at k s at ≡ ok v → finite v ≡ false → OffsetRefused s at kind error top flag n (refuse 8)
  levels-refused : {j : Refusal} (k v : ℕ) → offset_kind kind (flag / 64) ≡ ok k → sample_at k s at ≡ ok v → finite v ≡ true
      → LevelsRefused s (at + type_size k) kind error top v flag n j → OffsetRefused s at kind error top flag n j

-- "Flag byte: (flag/4)%16 must equal (x/8)%16. Low two bits: 0 raw words of valid pixels; 2 zero words; 3 one offset; 1 offset and packed counts."
pub data BlockRefused (s : List ℕ) (at kind error top x n : ℕ) : Refusal → Type 0 where
  flag-cut : length s < at + 1 → BlockRefused s at kind error top x n (refuse 1)
  check-wrong : (flag : ℕ) → word_at 1 s at ≡ ok flag → flag / 4 % 16 ≢ x / 8 % 16 → BlockRefused s at kind error top x n (refuse 8)
  raw-cut : (flag : ℕ) → word_at 1 s at ≡ ok flag → flag / 4 % 16 ≡ x / 8 % 16 → flag % 4 ≡ 0 → length s < at + 1 + n * type_size kind → BlockRefused s at kind error top x n (refuse 1)
  offset-refused : {j : Refusal} (flag : ℕ) → word_at 1 s at ≡ ok flag → flag / 4 % 16 ≡ x / 8 % 16 → flag % 4 ≢ 0 → flag % 4 ≢ 2
      → OffsetRefused s (at + 1) kind error top flag n j → BlockRefused s at kind error top x n j

-- a tile has at most 256 pixels
pub data ReadBlockRefused (s : List ℕ) (at kind error top x n : ℕ) : Refusal → Type 0 where
  tile-large : tile_limit < n → ReadBlockRefused s at kind error top x n (refuse 8)
  not-read : {j : Refusal} → n ≤ tile_limit → BlockRefused s at kind error top x n j → ReadBlockRefused s at kind error top x n j

-- ---- the plan of a block: how many counts there are, indices and values are not looked at

-- "the offset": its kind, its word, which is finite; behind it the packed counts' own plan
pub data OffsetPlanRefused (s : List ℕ) (at kind flag : ℕ) : Refusal → Type 0 where
  plan-kind : {j : Refusal} → KindRefused kind (flag / 64) j → OffsetPlanRefused s at kind flag j
  plan-offset-cut : (k : ℕ) → offset_kind kind (flag / 64) ≡ ok k → length s < at + type_size k → OffsetPlanRefused s at kind flag (refuse 1)
  plan-not-finite : (k w : ℕ) → offset_kind kind (flag / 64) ≡ ok k → word_at (type_size k) s at ≡ ok w → finite (value_of k w) ≡ false → OffsetPlanRefused s at kind flag (refuse 8)
  plan-counts : {j : Refusal} (k w : ℕ) → offset_kind kind (flag / 64) ≡ ok k → word_at (type_size k) s at ≡ ok w → finite (value_of k w) ≡ true → flag % 4 ≢ 3
      → PlanRefused s (at + type_size k) j → OffsetPlanRefused s at kind flag j

pub data BlockPlanRefused (s : List ℕ) (at kind x n : ℕ) : Refusal → Type 0 where
  plan-tile-large : tile_limit < n → BlockPlanRefused s at kind x n (refuse 8)
  plan-flag-cut : n ≤ tile_limit → length s < at + 1 → BlockPlanRefused s at kind x n (refuse 1)
  plan-check-wrong : (flag : ℕ) → n ≤ tile_limit → word_at 1 s at ≡ ok flag → flag / 4 % 16 ≢ x / 8 % 16 → BlockPlanRefused s at kind x n (refuse 8)
  plan-raw-cut : (flag : ℕ) → n ≤ tile_limit → word_at 1 s at ≡ ok flag → flag / 4 % 16 ≡ x / 8 % 16 → flag % 4 ≡ 0 → length s < at + 1 + n * type_size kind
      → BlockPlanRefused s at kind x n (refuse 1)
  plan-offset : {j : Refusal} (flag : ℕ) → n ≤ tile_limit → word_at 1 s at ≡ ok flag → flag / 4 % 16 ≡ x / 8 % 16 → flag % 4 ≢ 0 → flag % 4 ≢ 2
      → OffsetPlanRefused s (at + 1) kind flag j → BlockPlanRefused s at kind x n j
