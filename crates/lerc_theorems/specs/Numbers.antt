-- Which number a refusal carries: each public function that refuses, by its promise.
-- `Post` is what the checker makes of the text of a function's `ensures`; the inputs are a tuple in the order of its parameters.
-- Assumes nothing.
use Rattle.std.specs.Prelude.{◌≡◌, ◌↔◌, true, List, [], ◌∷◌, ℕ, length}
use Rattle.lerc_words.specs.declared.Refusal.{Refusal}
use Rattle.lerc_image.specs.Paint.{among}
use Rattle.lerc_words.proofs.word.Reads as word
use Rattle.lerc_numeric.proofs.to_integer.Reads as to-integer
use Rattle.lerc_samples.proofs.offset_kind.Reads as offset-kind
use Rattle.lerc_samples.proofs.read.Reads as read-sample
use Rattle.lerc_samples.proofs.stored.Reads as stored
use Rattle.lerc_bits.proofs.inspect.Reads as inspect
use Rattle.lerc_bits.proofs.decode.Reads as decode-counts
use Rattle.lerc_bits.proofs.decode_plan.Reads as decode-plan
use Rattle.lerc_bits.proofs.check_plan.Reads as check-plan
use Rattle.lerc_bits.proofs.check.Reads as check-counts
use Rattle.lerc_header.proofs.Header.held.Reads as held
use Rattle.lerc_header.proofs.open_blob.Reads as open-blob
use Rattle.lerc_header.proofs.read_header.Reads as read-header
use Rattle.lerc_mask.proofs.decode.Reads as decode-mask
use Rattle.lerc_validity.proofs.prepare_mask.Reads as prepare-mask
use Rattle.lerc_validity.proofs.find_mask.Reads as find-mask
use Rattle.lerc_validity.proofs.compare_mask.Reads as compare-mask
use Rattle.lerc_mask.proofs.compare.Reads as compare-runs
use Rattle.lerc_ranges.proofs.ranges_in.Reads as ranges_in
use Rattle.lerc_ranges.proofs.pairs.Reads as pairs
use Rattle.lerc_ranges.proofs.read_ranges.Reads as read-ranges
use Rattle.lerc_ranges.proofs.convert.Reads as convert
use Rattle.lerc_block.proofs.inspect_block.Reads as inspect-block
use Rattle.lerc_block.proofs.block_end.Reads as block-end
use Rattle.lerc_block.proofs.read_block.Reads as read-block
use Rattle.lerc_block.proofs.check_block.Reads as check-block
use Rattle.lerc_sweep.proofs.read_sweep.Reads as read-sweep
use Rattle.lerc_image.proofs.walk.Reads as walk
use Rattle.lerc_image.proofs.fill.Reads as fill
use Rattle.lerc_image.proofs.check_tiles.Reads as check-tiles
use Rattle.lerc_image.proofs.check_own_tiles.Reads as check-own-tiles
use Rattle.lerc_image.proofs.decode_tiles.Reads as decode-tiles
use Rattle.lerc_byte_image.proofs.check.Reads as check-huffman
use Rattle.lerc.proofs.stage.Reads as stage
use Rattle.lerc.proofs.publish.Reads as publish
use Rattle.lerc.proofs.read.Reads as read
use Rattle.lerc_theorems.specs.Promises.{lent}
use Rattle.lerc_theorems.specs.BlockTable.{At, WordRefused, IntegerRefused, KindRefused, SampleRefused, StoredRefused, PlanRefused, CountsRefused, PlannedRefused, ConstantsRefused, BlockPlanRefused, ReadBlockRefused}
use Rattle.lerc_theorems.specs.Table.{HeldRefused, HeaderRefused, RunsRefused, PrepareRefused, FindRefused, PairsRefused, RangesInRefused, ReadRangesRefused, SweepRefused, WalkRefused, FillRefused, CheckRefused, OwnRefused, TilesRefused, CheckImageRefused, WholeRefused, PublishRefused}
use Rattle.lerc_words.specs.Res.{Res, fail}

-- an answer that is this refusal
abbrev pub By : {A : Type 0} → Res A → Refusal → Type 0
By r why = r ≡ fail why

-- what is given is what the table says, number and place
abbrev pub Exactly : (Refusal → Type 0) → (Refusal → Type 0) → Type 0
Exactly Given When = (why : Refusal) → Given why ↔ When why

-- a refusal with this number, wherever it is
abbrev pub WithNumber : (Refusal → Type 0) → ℕ → Type 0
WithNumber Given n = (why : Refusal) × Given why × (why.number ≡ n)

-- a number is given exactly where the table names it
abbrev pub ExactlyNumbered : (Refusal → Type 0) → (Refusal → Type 0) → Type 0
ExactlyNumbered Given When = (n : ℕ) → WithNumber Given n ↔ WithNumber When n

-- a promise by which the refusals that are given agree with the table
abbrev pub Promised : {K A R O : Type 0} → ((Refusal → Type 0) → (Refusal → Type 0) → Type 0) → (K → A → R → O → Type 0) → (R → Refusal → Type 0) → (A → Refusal → Type 0) → Type 0
Promised {K} {A} {R} {O} Agree Post refuses When = (k : K) (a : A) (r : R) (x : O) → Post k a r x → Agree (refuses r) (When a)

-- a promise by which no other numbers are given
abbrev pub Only : {K A R O : Type 0} → (K → A → R → O → Type 0) → (R → Refusal → Type 0) → List ℕ → Type 0
Only {K} {A} {R} {O} Post refuses numbers = (k : K) (a : A) (r : R) (x : O) → Post k a r x → (why : Refusal) → refuses r why → among numbers why.number ≡ true

-- each public function that refuses: its promise, its refusals, and its lines of the table
pub record EachRefusing (Agree : (Refusal → Type 0) → (Refusal → Type 0) → Type 0) : Type 0 where
  pub word : Promised Agree word.Post By (λ a. At a.1.0 (WordRefused a.0.now a.1.0 a.1.1.0))
  pub to-integer : Promised Agree to-integer.Post By (λ a. IntegerRefused a.1.0 a.0)
  pub offset-kind : Promised Agree offset-kind.Post By (λ a. KindRefused a.0 a.1.0)
  pub read-sample : Promised Agree read-sample.Post By (λ a. At a.1.0 (SampleRefused a.1.1.0 a.0.now a.1.0))
  pub stored : Promised Agree stored.Post By (λ a. StoredRefused a.1.0 a.0)
  pub inspect : Promised Agree inspect.Post By (λ a. At a.1.0 (PlanRefused a.0.now a.1.0))
  pub decode-plan : Promised Agree decode-plan.Post By (λ a. PlannedRefused a.0.now a.1.0)
  pub check-plan : Promised Agree check-plan.Post By (λ a. PlannedRefused a.0.now a.1.0)
  pub decode-counts : Promised Agree decode-counts.Post By (λ a. At a.1.0 (CountsRefused a.0.now a.1.0))
  pub check-counts : Promised Agree check-counts.Post By (λ a. At a.1.0 (CountsRefused a.0.now a.1.0))
  pub held : Promised Agree held.Post By (λ a. HeldRefused a.0 a.1.0)
  pub open-blob : Promised Agree open-blob.Post By (λ a. HeaderRefused a.0.now)
  pub read-header : Promised Agree read-header.Post By (λ a. HeaderRefused a.0.now)
  pub decode-mask : Promised Agree decode-mask.Post By (λ a. RunsRefused a.0.now a.1.0 a.1.1.0 (length a.1.1.1.0.now))
  pub prepare-mask : Promised Agree prepare-mask.Post By (λ a. PrepareRefused a.0.now a.1.0 a.1.1.0 a.1.1.1.0.now (length a.1.1.1.1.0.now))
  pub find-mask : Promised Agree find-mask.Post By (λ a. FindRefused a.0.now a.1.0 a.1.1.0 a.1.1.1.0.now (length a.1.1.1.1.0.now))
  pub compare-runs : Promised Agree compare-runs.Post By (λ a. RunsRefused a.0.now a.1.0 a.1.1.0 (length a.1.1.1.0.now))
  pub compare-mask : Promised Agree compare-mask.Post By (λ a. FindRefused a.0.now a.1.0 a.1.1.0 a.1.1.1.0.now (length a.1.1.1.1.0.now))
  pub pairs : Promised Agree pairs.Post By (λ a. PairsRefused a.0 a.1.0)
  pub ranges_in : Promised Agree ranges_in.Post By (λ a. RangesInRefused a.0.now a.1.0)
  pub read-ranges : Promised Agree read-ranges.Post By (λ a. ReadRangesRefused a.0.now a.1.0)
  pub convert : Promised Agree convert.Post By (λ a. ConstantsRefused a.1.0 a.1.1.0 a.0)
  pub inspect-block : Promised Agree inspect-block.Post By (λ a. At a.1.0 (BlockPlanRefused a.0.now a.1.0 a.1.1.0 a.1.1.1.0 a.1.1.1.1.0))
  pub block-end : Promised Agree block-end.Post By (λ a. At a.1.0 (BlockPlanRefused a.0.now a.1.0 a.1.1.0 a.1.1.1.0 a.1.1.1.1.0))
  pub read-block : Promised Agree read-block.Post By (λ a. At a.1.0 (ReadBlockRefused a.0.now a.1.0 a.1.1.0 a.1.1.1.0 a.1.1.1.1.0 a.1.1.1.1.1.0 a.1.1.1.1.1.1.0))
  pub check-block : Promised Agree check-block.Post By (λ a. At a.1.0 (ReadBlockRefused a.0.now a.1.0 a.1.1.0 a.1.1.1.0 a.1.1.1.1.0 a.1.1.1.1.1.0 a.1.1.1.1.1.1.0))
  pub read-sweep : Promised Agree read-sweep.Post By (λ a. SweepRefused a.0.now a.1.1.0 a.1.1.1.0 a.1.0)
  pub walk : Promised Agree walk.Post By (λ a. WalkRefused a.0.now a.1.0 a.1.1.0 a.1.1.1.0.now (length a.1.1.1.1.0.now))
  pub fill : Promised Agree fill.Post By (λ a. FillRefused a.0.now a.1.0 a.1.1.0 a.1.1.1.0.now a.1.1.1.1.0.now a.1.1.1.1.1.0 (length a.1.1.1.1.1.1.0.now))
  pub check-tiles : Promised Agree check-tiles.Post By (λ a. CheckRefused a.0.now a.1.0 a.1.1.0.now a.1.1.1.0.now a.1.1.1.1.0)
  pub check-own-tiles : Promised Agree check-own-tiles.Post By (λ a. OwnRefused a.0.now a.1.0 a.1.1.0.now a.1.1.1.0)
  pub decode-tiles : Promised Agree decode-tiles.Post By (λ a. TilesRefused a.0.now a.1.0 a.1.1.0.now a.1.1.1.0.now a.1.1.1.1.0 (length a.1.1.1.1.1.0.now) (length a.1.1.1.1.1.1.0.now))
  pub check-huffman : Promised Agree check-huffman.Post By (λ a. CheckImageRefused a.0.now a.1.0 a.1.1.0)
  pub stage : Promised Agree stage.Post By (λ a. WholeRefused a.0.now a.1.0 (record { kept = a.1.1.0.now; spare = a.1.1.1.0.now; list = a.1.1.1.1.0.now; image = a.1.1.1.1.1.0.now }))
  pub publish : Promised Agree publish.Post By (λ a. PublishRefused a.0.now a.1.0 a.1.1.0 (record { kept = a.1.1.1.0.now; spare = a.1.1.1.1.0.now; list = a.1.1.1.1.1.0.now; image = a.1.1.1.1.1.1.0.now }))
  pub read : Promised Agree read.Post By (λ a. WholeRefused a.0.now a.1.0 (lent a))

-- "given when": each number of each function, exactly
abbrev pub NumbersExactly : Type 0
NumbersExactly = EachRefusing ExactlyNumbered

-- "a place with each number": number and place of each refusal of each function, exactly
abbrev pub PlacesExactly : Type 0
PlacesExactly = EachRefusing Exactly

-- the numbers that each function can give at all
pub record NumbersOnly : Type 0 where
  pub word : Only word.Post By (1 ∷ [])
  pub to-integer : Only to-integer.Post By (9 ∷ [])
  pub offset-kind : Only offset-kind.Post By (8 ∷ [])
  pub read-sample : Only read-sample.Post By (1 ∷ [])
  pub stored : Only stored.Post By (9 ∷ [])
  pub inspect : Only inspect.Post By (1 ∷ 8 ∷ [])
  pub decode-plan : Only decode-plan.Post By (8 ∷ [])
  pub check-plan : Only check-plan.Post By (8 ∷ [])
  pub decode-counts : Only decode-counts.Post By (1 ∷ 8 ∷ [])
  pub check-counts : Only check-counts.Post By (1 ∷ 8 ∷ [])
  pub held : Only held.Post By (1 ∷ 3 ∷ 4 ∷ [])
  pub open-blob : Only open-blob.Post By (1 ∷ 2 ∷ 3 ∷ 4 ∷ 13 ∷ [])
  pub read-header : Only read-header.Post By (1 ∷ 2 ∷ 3 ∷ 4 ∷ 13 ∷ [])
  pub decode-mask : Only decode-mask.Post By (5 ∷ 6 ∷ [])
  pub prepare-mask : Only prepare-mask.Post By (1 ∷ 3 ∷ 4 ∷ 5 ∷ 6 ∷ [])
  pub find-mask : Only find-mask.Post By (1 ∷ 5 ∷ 6 ∷ [])
  pub compare-runs : Only compare-runs.Post By (5 ∷ 6 ∷ [])
  pub compare-mask : Only compare-mask.Post By (1 ∷ 5 ∷ 6 ∷ [])
  pub pairs : Only pairs.Post By (7 ∷ [])
  pub ranges_in : Only ranges_in.Post By (1 ∷ 4 ∷ 7 ∷ [])
  pub read-ranges : Only read-ranges.Post By (1 ∷ 3 ∷ 4 ∷ 7 ∷ [])
  pub convert : Only convert.Post By (9 ∷ [])
  pub inspect-block : Only inspect-block.Post By (1 ∷ 8 ∷ [])
  pub block-end : Only block-end.Post By (1 ∷ 8 ∷ [])
  pub read-block : Only read-block.Post By (1 ∷ 8 ∷ 9 ∷ [])
  pub check-block : Only check-block.Post By (1 ∷ 8 ∷ 9 ∷ [])
  pub read-sweep : Only read-sweep.Post By (1 ∷ 8 ∷ [])
  pub walk : Only walk.Post By (1 ∷ 3 ∷ 4 ∷ 5 ∷ 7 ∷ 8 ∷ 9 ∷ 10 ∷ [])
  pub fill : Only fill.Post By (1 ∷ 3 ∷ 4 ∷ 5 ∷ 7 ∷ 8 ∷ 9 ∷ 11 ∷ [])
  pub check-tiles : Only check-tiles.Post By (1 ∷ 3 ∷ 4 ∷ 5 ∷ 8 ∷ 9 ∷ [])
  pub check-own-tiles : Only check-own-tiles.Post By (1 ∷ 3 ∷ 4 ∷ 8 ∷ 9 ∷ [])
  pub decode-tiles : Only decode-tiles.Post By (1 ∷ 3 ∷ 4 ∷ 5 ∷ 8 ∷ 9 ∷ [])
  -- no Huffman image is refused 9
  pub check-huffman : Only check-huffman.Post By (1 ∷ 3 ∷ 4 ∷ 8 ∷ [])
  -- a mode byte of 1 or 2 decodes: none of these is refused 10
  pub stage : Only stage.Post By (1 ∷ 2 ∷ 3 ∷ 4 ∷ 5 ∷ 6 ∷ 7 ∷ 8 ∷ 9 ∷ 13 ∷ [])
  pub publish : Only publish.Post By (1 ∷ 2 ∷ 3 ∷ 4 ∷ 5 ∷ 6 ∷ 7 ∷ 8 ∷ 9 ∷ 13 ∷ [])
  pub read : Only read.Post By (1 ∷ 2 ∷ 3 ∷ 4 ∷ 5 ∷ 6 ∷ 7 ∷ 8 ∷ 9 ∷ 13 ∷ [])
