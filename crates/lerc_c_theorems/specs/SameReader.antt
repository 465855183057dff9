-- Each entry for C is the reader's function, on what its records hold: any call of the entry and any call of the function on the same blob, slices and numbers end alike.
-- Assumes nothing.
use Rattle.std.specs.Prelude.{◌≡◌, ◌↔◌, Bool, true, List, [], ◌∷◌, ◌++◌, ℕ, ◌≤◌, length, set}
use Rattle.lerc_words.specs.declared.Refusal.{Refusal}
use Rattle.lerc_words.specs.Res.{Res, ok, fail, accepts}
use Rattle.lerc_words.specs.Lists.{over}
use Rattle.lerc_numeric.proofs.plus.Reads as plus
use Rattle.lerc_numeric.proofs.scale.Reads as scale
use Rattle.lerc_numeric.proofs.narrow.Reads as narrow
use Rattle.lerc_numeric.proofs.number.Reads as number
use Rattle.lerc_checksum.proofs.checksum.Reads as checksum
use Rattle.lerc_numeric.proofs.float_ready.Reads as float-ready
use Rattle.lerc_header.specs.declared.Header.{Header}
use Rattle.lerc_ranges.specs.declared.Ranges.{Ranges}
use Rattle.lerc_image.specs.Walk.{Walk}
use Rattle.lerc.specs.Read.{Lent, ReadTold}
use Rattle.lerc_pack_writer.specs.Writing.{Given}
use Rattle.lerc_c.specs.Records.{why_of, header_room, header_numbers, ranges_room, ranges_numbers, staged_room, staged_numbers}
use Rattle.lerc_c.specs.Entries.{read_room, told_numbers}
use Rattle.lerc_c.specs.Packs.{entry_room, entry_numbers}
use Rattle.lerc_c.proofs.lerc2_checksum.Reads as c-checksum
use Rattle.lerc_c.proofs.lerc2_float_ready.Reads as c-ready
use Rattle.lerc_c.proofs.lerc2_sum.Reads as c-sum
use Rattle.lerc_c.proofs.lerc2_scaled.Reads as c-scaled
use Rattle.lerc_c.proofs.lerc2_narrow.Reads as c-narrow
use Rattle.lerc_c.proofs.lerc2_number.Reads as c-number
use Rattle.lerc_theorems.specs.Calls.{HeaderCall, PrepareCall, RangesCall, WalkCall, FillCall, ReadCall}
use Rattle.lerc_c_theorems.specs.Calls.{HoldsHeader, HoldsRanges, HoldsStaged, Told, HasPlace, HeaderInC, PrepareInC, RangesInC, WalkInC, FillInC, ReadInC, StageInC, PublishInC, StageCall, PublishCall, StoredInC, StoredCall, PackOpenInC, PackEntryInC, PackWriteInC, PackOpenCall, PackEntryCall, PackWriteCall}
use Rattle.lerc_validity.specs.declared.Mask.TheVariants as mask
use Rattle.lerc.specs.Stage.{PublishTold}
use Rattle.lerc_validity.specs.Validity.{MaskTold}
use Rattle.lerc.specs.declared.Staged.{Staged}
use Rattle.lerc_pack.specs.declared.Entry.{Entry}

-- What is told, and the record in which an entry says what was answered: `old` before, `new` afterwards. `numbers` are those of an accepted answer.
pub record Tells {A : Type 0} (answer : Res A) (numbers : A → List ℕ) (t : Told) (old new : List ℕ) : Type 0 where
  -- 0 exactly where the reader accepts, else the number of its refusal
  pub zero : (t.number ≡ 0) ↔ (accepts answer ≡ true)
  pub refused : (why : Refusal) → answer ≡ fail why → t.number ≡ why.number
  -- the place of its refusal, and 0 where it accepts; behind its first number the slice stays
  pub place : t.place₁ ≡ set t.place₀ 0 (why_of answer).at
  -- the record's first numbers are the answer's; after a refusal it is as it was
  pub written : (a : A) → answer ≡ ok a → new ≡ over (numbers a) old
  pub kept : (why : Refusal) → answer ≡ fail why → new ≡ old

-- ---- what answers say, and their numbers

-- 1 where the kept mask is in force, 2 where the spare is; how long it is
abbrev pub part_numbers : MaskTold → List ℕ
part_numbers (mask.Kept n) = 1 ∷ n ∷ []
part_numbers (mask.Spare n) = 2 ∷ n ∷ []

-- the count of blocks, and the end of the last
abbrev pub walked_numbers : Walk → List ℕ
walked_numbers w = w.blocks ∷ w.end ∷ []

-- the header's eleven, the count of blocks, the body's end
abbrev pub whole_numbers : ReadTold → List ℕ
whole_numbers w = header_numbers w.header ++ (w.blocks ∷ w.end ∷ [])

-- a word alone
abbrev pub alone : ℕ → List ℕ
alone w = w ∷ []

-- two functions of the same parameters that answer the same
abbrev pub SameAnswer : {K J A R O P : Type 0} → (K → A → R → O → Type 0) → (J → A → R → P → Type 0) → Type 0
SameAnswer {K} {J} {A} {R} {O} {P} Post Other = (k : K) (j : J) (a : A) (r q : R) (x : O) (y : P) → Post k a r x → Other j a q y → r ≡ q

-- ---- staging and publishing

-- with room for its record, staging is `lerc::stage`
abbrev pub SameStage : Type 0
SameStage = (b : List ℕ) (reuse : Bool) (t : Told) (old : Lent) (spare₁ list₁ staged₀ staged₁ : List ℕ) → StageInC b reuse t old spare₁ list₁ staged₀ staged₁ → HasPlace t → staged_room ≤ length staged₀
    → (answer : Res Staged) (spare list : List ℕ) → StageCall b reuse answer old spare list → Tells answer staged_numbers t staged₀ staged₁ × (spare₁ ≡ spare) × (list₁ ≡ list)

-- publishing is `lerc::publish` with the answer that the record stands for
abbrev pub SamePublish : Type 0
SamePublish = (b : List ℕ) (reuse : Bool) (staged : List ℕ) (t : Told) (old : Lent) (kept₁ image₁ said₀ said₁ : List ℕ) → PublishInC b reuse staged t old kept₁ image₁ said₀ said₁
    → (given : Res Staged) → HoldsStaged staged given → HasPlace t → 2 ≤ length said₀
    → (answer : Res PublishTold) (kept image : List ℕ) → PublishCall b reuse given answer old kept image → Tells answer told_numbers t said₀ said₁ × (kept₁ ≡ kept) × (image₁ ≡ image)

-- ---- packs

-- opening is `lerc_pack::open_pack`
abbrev pub SamePackOpen : Type 0
SamePackOpen = (b : List ℕ) (t : Told) (said₀ said₁ : List ℕ) → PackOpenInC b t said₀ said₁ → HasPlace t → 1 ≤ length said₀
    → (answer : Res ℕ) → PackOpenCall b answer → Tells answer alone t said₀ said₁

-- an entry is `lerc_pack::entry_in`
abbrev pub SamePackEntry : Type 0
SamePackEntry = (b : List ℕ) (tiles number : ℕ) (t : Told) (entry₀ entry₁ : List ℕ) → PackEntryInC b tiles number t entry₀ entry₁ → HasPlace t → entry_room ≤ length entry₀
    → (answer : Res Entry) → PackEntryCall b tiles number answer → Tells answer entry_numbers t entry₀ entry₁

-- writing is `lerc_pack_writer::write_pack`
abbrev pub SamePackWrite : Type 0
SamePackWrite = (g : Given) (t : Told) (pack₀ pack₁ said₀ said₁ : List ℕ) → PackWriteInC g t pack₀ pack₁ said₀ said₁ → HasPlace t → 1 ≤ length said₀
    → (answer : Res ℕ) (pack : List ℕ) → PackWriteCall g answer pack₀ pack → Tells answer alone t said₀ said₁ × (pack₁ ≡ pack)

-- ---- entry by entry

pub record SameReader : Type 0 where
  pub read-header : (b : List ℕ) (t : Told) (header₀ header₁ : List ℕ) → HeaderInC b t header₀ header₁ → HasPlace t → header_room ≤ length header₀
      → (answer : Res Header) → HeaderCall b answer → Tells answer header_numbers t header₀ header₁
  pub prepare-mask : (b header : List ℕ) (reuse : Bool) (kept : List ℕ) (t : Told) (spare₀ spare₁ said₀ said₁ : List ℕ) → PrepareInC b header reuse kept t spare₀ spare₁ said₀ said₁
      → (h : Header) → HoldsHeader header h → HasPlace t → 2 ≤ length said₀
      → (answer : Res MaskTold) (spare : List ℕ) → PrepareCall b h reuse kept answer spare₀ spare → Tells answer part_numbers t said₀ said₁ × (spare₁ ≡ spare)
  pub read-ranges : (b header : List ℕ) (t : Told) (ranges₀ ranges₁ : List ℕ) → RangesInC b header t ranges₀ ranges₁
      → (h : Header) → HoldsHeader header h → HasPlace t → ranges_room ≤ length ranges₀
      → (answer : Res Ranges) → RangesCall b h answer → Tells answer ranges_numbers t ranges₀ ranges₁
  pub walk : (b header ranges mask : List ℕ) (t : Told) (list₀ list₁ said₀ said₁ : List ℕ) → WalkInC b header ranges mask t list₀ list₁ said₀ said₁
      → (h : Header) (r : Ranges) → HoldsHeader header h → HoldsRanges ranges r → HasPlace t → 2 ≤ length said₀
      → (answer : Res Walk) (list : List ℕ) → WalkCall b h r mask answer list₀ list → Tells answer walked_numbers t said₀ said₁ × (list₁ ≡ list)
  pub fill : (b header ranges mask list : List ℕ) (block : ℕ) (t : Told) (image₀ image₁ said₀ said₁ : List ℕ) → FillInC b header ranges mask list block t image₀ image₁ said₀ said₁
      → (h : Header) (r : Ranges) → HoldsHeader header h → HoldsRanges ranges r → HasPlace t → 1 ≤ length said₀
      → (answer : Res ℕ) (image : List ℕ) → FillCall b h r mask list block answer image₀ image → Tells answer alone t said₀ said₁ × (image₁ ≡ image)
  pub read : (b : List ℕ) (reuse : Bool) (t : Told) (old new : Lent) (said₀ said₁ : List ℕ) → ReadInC b reuse t old new said₀ said₁ → HasPlace t → read_room ≤ length said₀
      → (answer : Res ReadTold) (left : Lent) → ReadCall b reuse answer old left → Tells answer whole_numbers t said₀ said₁ × (new ≡ left)
  pub stage : SameStage
  pub publish : SamePublish
  pub stored : (v kind : ℕ) (t : Told) (said₀ said₁ : List ℕ) → StoredInC v kind t said₀ said₁ → HasPlace t → 1 ≤ length said₀
      → (answer : Res ℕ) → StoredCall v kind answer → Tells answer alone t said₀ said₁
  pub pack-open : SamePackOpen
  pub pack-entry : SamePackEntry
  pub pack-write : SamePackWrite
  -- the arithmetic, and whether a thread's float unit is ready for it
  pub float-ready : SameAnswer c-ready.Post float-ready.Post
  pub sum : SameAnswer c-sum.Post plus.Post
  pub scaled : SameAnswer c-scaled.Post scale.Post
  pub narrow : SameAnswer c-narrow.Post narrow.Post
  pub number : SameAnswer c-number.Post number.Post
  pub checksum : SameAnswer c-checksum.Post checksum.Post
