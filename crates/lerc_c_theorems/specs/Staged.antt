-- Staging and publishing for C: the record of an answer is handed from one to the other as it was written, and the two are a whole read.
-- Assumes nothing.
use Rattle.std.specs.Prelude.{◌≡◌, ◌↔◌, Bool, cond, List, ℕ, ◌≤◌, ◌<◌, length, get_or, set, take, eqb}
use Rattle.lerc_words.specs.declared.Refusal.{Refusal}
use Rattle.lerc_words.specs.Res.{ok}
use Rattle.lerc_header.specs.Shape.{cells}
use Rattle.lerc.specs.Meaning.{Meaning}
use Rattle.lerc.specs.Read.{Lent, read_says}
use Rattle.lerc.specs.Stage.{staged_of}
use Rattle.lerc_c.specs.Records.{staged_room, staged_numbers, staged_from}
use Rattle.lerc_c.specs.Entries.{read_room}
use Rattle.lerc_c_theorems.specs.Calls.{HoldsHeader, HoldsStaged, Told, HasPlace, Accepted, RangesInC, ReadInC, StageInC, PublishInC}
use Rattle.lerc_c_theorems.specs.Numbers.{NoAnswer}
use Rattle.lerc_c_theorems.specs.DemandThree.{Bytes, InHandInC, shape_in, Outcome, FillsInC, AnyOrderInC}

-- the record that staging a blob of bytes wrote stands for its answer, and serves as the header's record
abbrev pub StagedHanded : Type 0
StagedHanded = (b : List ℕ) (reuse : Bool) (old : Lent) (spare₁ list₁ staged₀ staged₁ : List ℕ) → Bytes b → Accepted (λ t. StageInC b reuse t old spare₁ list₁ staged₀ staged₁)
    → (m : Meaning) × (read_says b reuse old ≡ ok m) × HoldsStaged staged₁ (ok (staged_of m)) × HoldsHeader staged₁ m.header

-- a record stands for the answer that staging gives exactly where its first numbers are that answer's
abbrev pub RecordIsAnswer : Type 0
RecordIsAnswer = (b : List ℕ) (reuse : Bool) (l : Lent) (m : Meaning) (staged : List ℕ) → Bytes b → read_says b reuse l ≡ ok m → staged_room ≤ length staged
    → (staged_from staged ≡ ok (staged_of m)) ↔ (take staged_room staged ≡ staged_numbers (staged_of m))

-- "Staging refuses as whole read did": with room in both records the two tell the same number and the same place
abbrev pub StageTellsAsRead : Type 0
StageTellsAsRead = (b : List ℕ) (reuse : Bool) (old : Lent) (t : Told) (spare₁ list₁ staged₀ staged₁ : List ℕ) → StageInC b reuse t old spare₁ list₁ staged₀ staged₁ → HasPlace t → staged_room ≤ length staged₀
    → (u : Told) (new : Lent) (said₀ said₁ : List ℕ) → ReadInC b reuse u old new said₀ said₁ → HasPlace u → read_room ≤ length said₀
    → (why : Refusal) × ((t.number ≡ why.number) × (t.place₁ ≡ set t.place₀ 0 why.at)) × ((u.number ≡ why.number) × (u.place₁ ≡ set u.place₀ 0 why.at))

-- what staging accepted is published from what it left, and is then what a whole read leaves
abbrev pub StagedThenPublished : Type 0
StagedThenPublished = (b : List ℕ) (reuse : Bool) (old : Lent) (spare₁ list₁ staged₀ staged₁ : List ℕ) → Bytes b → Accepted (λ t. StageInC b reuse t old spare₁ list₁ staged₀ staged₁)
    → (u : Told) (kept₁ image₁ said₀ said₁ : List ℕ) → PublishInC b reuse staged₁ u (record { kept = old.kept; spare = spare₁; list = list₁; image = old.image }) kept₁ image₁ said₀ said₁
    → HasPlace u → 2 ≤ length said₀
    → (t : Told) (new : Lent) (read₀ read₁ : List ℕ) → ReadInC b reuse t old new read₀ read₁ → HasPlace t → read_room ≤ length read₀
    → (u.number ≡ 0) × (t.number ≡ 0) × (new ≡ record { kept = kept₁; spare = spare₁; list = list₁; image = image₁ })

-- the slice of which staging says that the mask in force is its front: staged[14] is 1 for the kept mask, 2 for the spare
abbrev pub staged_slice : List ℕ → List ℕ → List ℕ → List ℕ
staged_slice staged kept spare = cond (eqb (get_or staged 14 0) 1) kept spare

-- `lerc2_stage` and `lerc2_read_ranges`, each of which returned 0; staging told of blocks. Its record is the header's, with the count (staged[11]) and the end (staged[12]) behind it;
-- the list begins as it left it, and the mask with the told slice's first staged[15] bytes.
pub record ByStageInC (x : InHandInC) : Type 0 where
  pub old : Lent
  pub spare₁ : List ℕ
  pub list₁ : List ℕ
  pub staged₀ : List ℕ
  pub ranges₀ : List ℕ
  pub bytes : Bytes x.blob
  pub stage : Accepted (λ t. StageInC x.blob x.reuse t old spare₁ list₁ staged₀ x.header)
  pub kept : old.kept ≡ x.kept
  pub count : x.count ≡ get_or x.header 11 0
  pub end : x.end ≡ get_or x.header 12 0
  pub some : 0 < x.count
  pub ranges : Accepted (λ t. RangesInC x.blob x.header t ranges₀ x.ranges)
  pub mask : take (get_or x.header 15 0) x.mask ≡ take (get_or x.header 15 0) (staged_slice x.header old.kept spare₁)
  pub list : take x.count x.list ≡ take x.count list₁
  pub room : cells (shape_in x) ≤ length x.image

-- "Fills in any order", after staging alone
abbrev pub FillsAfterStage : Type 0
FillsAfterStage = (x : InHandInC) → ByStageInC x → (ns : List ℕ) (said : List Outcome) (new : List ℕ) → FillsInC x.blob x.header x.ranges x.mask x.list ns said x.image new
    → AnyOrderInC x ns said new

pub record StagedInC : Type 0 where
  pub staged-handed : StagedHanded
  pub record_is : RecordIsAnswer
  pub stage-tells : StageTellsAsRead
  pub stage-then-publish : StagedThenPublished
  pub fills-after-stage : FillsAfterStage
  -- which records are no answer
  pub no_answer : NoAnswer
