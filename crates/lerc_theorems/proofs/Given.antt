-- The numbers that a table names: what holds of each of them holds of the number that is given.
-- Assumes nothing.
use mathlib.Core.Bool.{Bool}
use mathlib.Core.List.{List}
use Prim.Native.Nat.{ℕ}
use lib.ListN.{take}
use Rattle.lerc_words.specs.declared.Refusal.{Refusal}
use Rattle.lerc_bits.specs.declared.Plan.{Plan}
use Rattle.lerc_header.specs.declared.Header.{Header}
use Rattle.lerc_ranges.specs.declared.Ranges.{Ranges}
use Rattle.lerc.specs.Read.{Lent}
use Rattle.lerc_theorems.specs.BlockTable.{At, at_place, WordRefused, word_wide, word_cut, SampleRefused, sample-cut, StoredRefused, not_finite, out_of_range, IntegerRefused, no-integer, not-stored, KindRefused, no-kind, ConstantsRefused, not-constant, TabledRefused, no_bits, entries-cut, entries-few, table-cut, PackedRefused, plain-cut, not-tabled, PlanRefused, counts-cut, width-wrong, count_cut, count-large, packed-refused, CountsRefused, not-planned, index-large, LevelsRefused, level-refused, counts-refused, miscounted-block, value-refused, OffsetRefused, kind-refused, offset-cut, offset-not-finite, levels-refused, BlockRefused, flag-cut, check-wrong, raw-cut, offset-refused, ReadBlockRefused, tile-large, not-read, PlannedRefused, plan-loose, planned-index, OffsetPlanRefused, plan-kind, plan-offset-cut, plan-not-finite, plan-counts, BlockPlanRefused, plan-tile-large, plan-flag-cut, plan-check-wrong, plan-raw-cut, plan-offset}
use Rattle.lerc_theorems.specs.Table.{HeldRefused, field-wrong, ceiling-passed, blob-cut, HeaderRefused, header-cut, key-wrong, not-held, checksum-wrong, RunsRefused, runs-room, runs-breach, FindRefused, find-room, section-cut, find-wrong, PrepareRefused, mask-held, mask-room, mask-wrong, RangesRefused, ranges-cut, minimum-wrong, maximum-wrong, RangesInRefused, depths-many, ranges-not-in, ReadRangesRefused, ranges-held, ranges-wrong, PairsRefused, pair-wrong, ModeRefused, mode-cut, mode-wrong, SweepRefused, sweep-cut, sweep-wrong, mode-refused, ChainRefused, block_refused, WalkBodyRefused, walk-sweep, walk-raw, walk-huffman, walk-blocks, WalkRefused, walk-held, walk-room, walk-pairs, walk-other, walk-body, FillRefused, fill-held, fill-number, fill-room, fill-pairs, fill-block, CheckRefused, check-held, check-room, check-blocks, OwnRefused, own_held, own-blocks, TilesRefused, tiles-held, tiles-room, tiles-blocks, CheckImageRefused, image-held, image-wrong, BodyRefused, body-ranges, body-constant, body-sweep, body-raw, body-blocks, body-huffman, WholeRefused, whole-header, whole_room, whole-mask, whole-body, PublishRefused, publish-blob, publish-given}
use Rattle.lerc_theorems.proofs.Images.{image-in}
use Rattle.lerc_words.specs.Res.{Res}
use Rattle.lerc.specs.declared.Staged.{Staged}

module _ (P : ℕ → Type 0) where
  -- wherever it is told
  pub at_in : {why : Refusal} {place : ℕ} {Refused : Refusal → Type 0} → ((j : Refusal) → Refused j → P j.number) → At place Refused why → P why.number
  at_in p (at_place r) = p _ r

  pub word_in : {why : Refusal} {s : List ℕ} {at size : ℕ} → P 1 → WordRefused s at size why → P why.number
  word_in p (word_wide l) = p
  word_in p (word_cut k l) = p

  pub sample_in : {why : Refusal} {kind : ℕ} {s : List ℕ} {at : ℕ} → P 1 → SampleRefused kind s at why → P why.number
  sample_in p (sample-cut l) = p

  pub stored-in : {why : Refusal} {kind v : ℕ} → P 9 → StoredRefused kind v why → P why.number
  stored-in p (not_finite k f) = p
  stored-in p (out_of_range k f l) = p

  pub integer-in : {why : Refusal} {kind v : ℕ} → P 9 → IntegerRefused kind v why → P why.number
  integer-in p (no-integer l) = p
  integer-in p (not-stored r) = stored-in p r

  pub kind-in : {why : Refusal} {kind code : ℕ} → P 8 → KindRefused kind code why → P why.number
  kind-in p (no-kind l) = p

  pub constants-in : {why : Refusal} {depth kind : ℕ} {values : List ℕ} → P 9 → ConstantsRefused depth kind values why → P why.number
  constants-in p (not-constant i a l r) = stored-in p r

  pub tabled-in : {why : Refusal} {s : List ℕ} {at k bits : ℕ} → P 1 → P 8 → TabledRefused s at k bits why → P why.number
  tabled-in p q (no_bits z) = q
  tabled-in p q (entries-cut b l) = p
  tabled-in p q (entries-few v b d l) = q
  tabled-in p q (table-cut v b d l k) = p

  pub packed-in : {why : Refusal} {s : List ℕ} {at k h : ℕ} → P 1 → P 8 → PackedRefused s at k h why → P why.number
  packed-in p q (plain-cut z l) = p
  packed-in p q (not-tabled z r) = tabled-in p q r

  pub plan-in : {why : Refusal} {s : List ℕ} {at : ℕ} → P 1 → P 8 → PlanRefused s at why → P why.number
  plan-in p q (counts-cut l) = p
  plan-in p q (width-wrong h d l) = q
  plan-in p q (count_cut h d l k) = p
  plan-in p q (count-large h n d l e k) = q
  plan-in p q (packed-refused h n d l e k r) = packed-in p q r

  pub counts-in : {why : Refusal} {s : List ℕ} {at : ℕ} → P 1 → P 8 → CountsRefused s at why → P why.number
  counts-in p q (not-planned r) = plan-in p q r
  counts-in p q (index-large x d z a) = q

  pub levels-in : {why : Refusal} {s : List ℕ} {at kind error top offset flag k : ℕ} → P 1 → P 8 → P 9 → LevelsRefused s at kind error top offset flag k why → P why.number
  levels-in p q v (level-refused z l r) = stored-in v r
  levels-in p q v (counts-refused z r) = counts-in p q r
  levels-in p q v (miscounted-block c z d k) = q
  levels-in p q v (value-refused c i z d k l r) = stored-in v r

  pub offset-in : {why : Refusal} {s : List ℕ} {at kind error top flag k : ℕ} → P 1 → P 8 → P 9 → OffsetRefused s at kind error top flag k why → P why.number
  offset-in p q v (kind-refused r) = kind-in q r
  offset-in p q v (offset-cut k d l) = p
  offset-in p q v (offset-not-finite k w d e f) = q
  offset-in p q v (levels-refused k w d e f r) = levels-in p q v r

  pub block_in : {why : Refusal} {s : List ℕ} {at kind error top x k : ℕ} → P 1 → P 8 → P 9 → BlockRefused s at kind error top x k why → P why.number
  block_in p q v (flag-cut l) = p
  block_in p q v (check-wrong flag d c) = q
  block_in p q v (raw-cut flag d c z l) = p
  block_in p q v (offset-refused flag d c z y r) = offset-in p q v r

  pub read-block-in : {why : Refusal} {s : List ℕ} {at kind error top x k : ℕ} → P 1 → P 8 → P 9 → ReadBlockRefused s at kind error top x k why → P why.number
  read-block-in p q v (tile-large l) = q
  read-block-in p q v (not-read l r) = block_in p q v r

  pub planned-in : {why : Refusal} {s : List ℕ} {p : Plan} → P 8 → PlannedRefused s p why → P why.number
  planned-in q (plan-loose k) = q
  planned-in q (planned-index k z a) = q

  pub offset-plan-in : {why : Refusal} {s : List ℕ} {at kind flag : ℕ} → P 1 → P 8 → OffsetPlanRefused s at kind flag why → P why.number
  offset-plan-in p q (plan-kind r) = kind-in q r
  offset-plan-in p q (plan-offset-cut k d l) = p
  offset-plan-in p q (plan-not-finite k w d e f) = q
  offset-plan-in p q (plan-counts k w d e f z r) = plan-in p q r

  pub block-plan-in : {why : Refusal} {s : List ℕ} {at kind x k : ℕ} → P 1 → P 8 → BlockPlanRefused s at kind x k why → P why.number
  block-plan-in p q (plan-tile-large l) = q
  block-plan-in p q (plan-flag-cut l k) = p
  block-plan-in p q (plan-check-wrong flag l d c) = q
  block-plan-in p q (plan-raw-cut flag l d c z k) = p
  block-plan-in p q (plan-offset flag l d c z y r) = offset-plan-in p q r

  pub held_in : {why : Refusal} {h : Header} {len : ℕ} → P 1 → P 3 → P 4 → HeldRefused h len why → P why.number
  held_in one three four (field-wrong f) = three
  held_in one three four (ceiling-passed f c) = four
  held_in one three four (blob-cut f c l) = one

  pub header-in : {why : Refusal} {b : List ℕ} → P 1 → P 2 → P 3 → P 4 → P 13 → HeaderRefused b why → P why.number
  header-in one two three four thirteen (header-cut l) = one
  header-in one two three four thirteen (key-wrong l k) = two
  header-in one two three four thirteen (not-held l k r) = held_in one three four r
  header-in one two three four thirteen (checksum-wrong l k r w) = thirteen

  pub runs-in : {why : Refusal} {s : List ℕ} {count valid room : ℕ} → P 5 → P 6 → RunsRefused s count valid room why → P why.number
  runs-in five six (runs-room l) = five
  runs-in five six (runs-breach l c) = six

  pub prepare-in : {why : Refusal} {b : List ℕ} {h : Header} {reuse : Bool} {old : List ℕ} {room : ℕ} → P 1 → P 3 → P 4 → P 5 → P 6 → PrepareRefused b h reuse old room why → P why.number
  prepare-in one three four five six (mask-held r) = held_in one three four r
  prepare-in one three four five six (mask-room g s) = five
  prepare-in one three four five six (mask-wrong g u v w) = six

  pub find-in : {why : Refusal} {s : List ℕ} {h : Header} {reuse : Bool} {old : List ℕ} {room : ℕ} → P 1 → P 5 → P 6 → FindRefused s h reuse old room why → P why.number
  find-in one five six (find-room t) = five
  find-in one five six (section-cut u v l) = one
  find-in one five six (find-wrong u v l w) = six

  pub pairs-in : {why : Refusal} {depth : ℕ} {r : Ranges} → P 7 → PairsRefused depth r why → P why.number
  pairs-in seven (pair-wrong d) = seven

  pub ranges_in : {s : List ℕ} {h : Header} {why : Refusal} → P 1 → P 7 → RangesRefused s h why → P why.number
  ranges_in one seven (ranges-cut t l) = one
  ranges_in one seven (minimum-wrong i t l p f) = seven
  ranges_in one seven (maximum-wrong i t l p f w) = seven

  pub ranges-in-in : {why : Refusal} {s : List ℕ} {h : Header} → P 1 → P 4 → P 7 → RangesInRefused s h why → P why.number
  ranges-in-in one four seven (depths-many l) = four
  ranges-in-in one four seven (ranges-not-in l r) = ranges_in one seven r

  pub read-ranges-in : {why : Refusal} {b : List ℕ} {h : Header} → P 1 → P 3 → P 4 → P 7 → ReadRangesRefused b h why → P why.number
  read-ranges-in one three four seven (ranges-held r) = held_in one three four r
  read-ranges-in one three four seven (ranges-wrong g r) = ranges_in one seven r

  pub mode-in : {why : Refusal} {s : List ℕ} {at : ℕ} → P 1 → P 8 → ModeRefused s at why → P why.number
  mode-in one eight (mode-cut l) = one
  mode-in one eight (mode-wrong v d l) = eight

  pub sweep-in : {why : Refusal} {s : List ℕ} {kind error at : ℕ} → P 1 → P 8 → SweepRefused s kind error at why → P why.number
  sweep-in one eight (sweep-cut l) = one
  sweep-in one eight (sweep-wrong v d l) = eight
  sweep-in one eight (mode-refused d m r) = mode-in one eight r

  pub chain-in : {why : Refusal} {s : List ℕ} {h : Header} {maxima m : List ℕ} {f k at : ℕ} → P 1 → P 8 → P 9 → ChainRefused s h maxima m f k at why → P why.number
  chain-in one eight nine (block_refused k c l d r) = at_in (λ j. block_in one eight nine) r

  pub walk-body-in : {why : Refusal} {s : List ℕ} {h : Header} {r : Ranges} {m : List ℕ} → P 1 → P 8 → P 9 → P 10 → WalkBodyRefused s h r m why → P why.number
  walk-body-in one eight nine ten (walk-sweep r) = sweep-in one eight r
  walk-body-in one eight nine ten (walk-raw at d) = ten
  walk-body-in one eight nine ten (walk-huffman delta mode d) = ten
  walk-body-in one eight nine ten (walk-blocks at d c) = chain-in one eight nine c

  pub walk-in : {why : Refusal} {b : List ℕ} {h : Header} {r : Ranges} {m : List ℕ} {entries : ℕ} → P 1 → P 3 → P 4 → P 5 → P 7 → P 8 → P 9 → P 10 → WalkRefused b h r m entries why → P why.number
  walk-in one three four five seven eight nine ten (walk-held r) = held_in one three four r
  walk-in one three four five seven eight nine ten (walk-room g s) = five
  walk-in one three four five seven eight nine ten (walk-pairs g k p) = seven
  walk-in one three four five seven eight nine ten (walk-other g k p o) = ten
  walk-in one three four five seven eight nine ten (walk-body g k p v c r) = walk-body-in one eight nine ten r

  pub fill-in : {why : Refusal} {b : List ℕ} {h : Header} {r : Ranges} {m list : List ℕ} {i words : ℕ} → P 1 → P 3 → P 4 → P 5 → P 7 → P 8 → P 9 → P 11 → FillRefused b h r m list i words why → P why.number
  fill-in one three four five seven eight nine eleven (fill-held r) = held_in one three four r
  fill-in one three four five seven eight nine eleven (fill-number g l) = eleven
  fill-in one three four five seven eight nine eleven (fill-room g l u) = five
  fill-in one three four five seven eight nine eleven (fill-pairs g l k p) = seven
  fill-in one three four five seven eight nine eleven (fill-block g l k p r) = at_in (λ j. block_in one eight nine) r

  pub check-in : {why : Refusal} {b : List ℕ} {h : Header} {m maxima : List ℕ} {at : ℕ} → P 1 → P 3 → P 4 → P 5 → P 8 → P 9 → CheckRefused b h m maxima at why → P why.number
  check-in one three four five eight nine (check-held r) = held_in one three four r
  check-in one three four five eight nine (check-room g u) = five
  check-in one three four five eight nine (check-blocks g k c) = chain-in one eight nine c

  pub own_in : {why : Refusal} {b : List ℕ} {h : Header} {maxima : List ℕ} {at : ℕ} → P 1 → P 3 → P 4 → P 8 → P 9 → OwnRefused b h maxima at why → P why.number
  own_in one three four eight nine (own_held r) = held_in one three four r
  own_in one three four eight nine (own-blocks g c) = chain-in one eight nine c

  pub tiles-in : {why : Refusal} {b : List ℕ} {h : Header} {m maxima : List ℕ} {at entries words : ℕ} → P 1 → P 3 → P 4 → P 5 → P 8 → P 9 → TilesRefused b h m maxima at entries words why → P why.number
  tiles-in one three four five eight nine (tiles-held r) = held_in one three four r
  tiles-in one three four five eight nine (tiles-room g u) = five
  tiles-in one three four five eight nine (tiles-blocks g k c) = chain-in one eight nine c

  pub check-image-in : {why : Refusal} {b : List ℕ} {h : Header} {mode : ℕ} → P 1 → P 3 → P 4 → P 8 → CheckImageRefused b h mode why → P why.number
  check-image-in one three four eight (image-held r) = held_in one three four r
  check-image-in {b = b} {h = h} {mode = mode} one three four eight (image-wrong g r) = image-in P (take h.size b) h mode one eight r

  pub body-in : {s : List ℕ} {h : Header} {m : List ℕ} {why : Refusal} → P 1 → P 7 → P 8 → P 9 → BodyRefused s h m why → P why.number
  body-in one seven eight nine (body-ranges v r) = ranges_in one seven r
  body-in one seven eight nine (body-constant r v d c k) = constants-in nine k
  body-in one seven eight nine (body-sweep r v d c k) = sweep-in one eight k
  body-in one seven eight nine (body-raw r at k v d c w l u o) = one
  body-in one seven eight nine (body-blocks r at v d c w k) = chain-in one eight nine k
  body-in {s = s} {h = h} one seven eight nine (body-huffman r delta mode v d c w k) = image-in P s h mode one eight k

  pub whole_in : {why : Refusal} {b : List ℕ} {reuse : Bool} {l : Lent} → P 1 → P 2 → P 3 → P 4 → P 5 → P 6 → P 7 → P 8 → P 9 → P 13 → WholeRefused b reuse l why → P why.number
  whole_in one two three four five six seven eight nine thirteen (whole-header r) = header-in one two three four thirteen r
  whole_in one two three four five six seven eight nine thirteen (whole_room h d t) = five
  whole_in one two three four five six seven eight nine thirteen (whole-mask h d t w) = six
  whole_in one two three four five six seven eight nine thirteen (whole-body k d r) = body-in one seven eight nine r

  pub publish-in : {why : Refusal} {b : List ℕ} {reuse : Bool} {given : Res Staged} {l : Lent} → P 1 → P 2 → P 3 → P 4 → P 5 → P 6 → P 7 → P 8 → P 9 → P 13
      → PublishRefused b reuse given l why → P why.number
  publish-in one two three four five six seven eight nine thirteen (publish-blob w) = whole_in one two three four five six seven eight nine thirteen w
  publish-in one two three four five six seven eight nine thirteen (publish-given m d t) = three
