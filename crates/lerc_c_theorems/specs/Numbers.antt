-- Which number an entry for C returns, and at which place: "A slice that is too short for its place or its record is refused first (5), then a number that its field cannot hold (3 ..), then what the function's own comment lists".
-- `Post` is what the checker makes of the text of an entry's `ensures`; the inputs are a tuple in the order of its parameters.
-- Assumes nothing.
use Rattle.std.specs.Prelude.{◌≡◌, ◌↔◌, ◌≢◌, ◌⊎◌, Bool, true, List, [], ◌∷◌, ℕ, ◌^◌, ◌≤◌, ◌<◌, length, get_or, set}
use Rattle.lerc_words.specs.declared.Refusal.{Refusal}
use Rattle.lerc_words.specs.Res.{ok, refuse, Res, fail}
use Rattle.lerc_slices.specs.Slices.{begins_with}
use Rattle.lerc_validity.specs.Validity.{holds_mask}
use Rattle.lerc_image.specs.Paint.{among}
use Rattle.lerc.specs.Meaning.{Meaning, starts_of}
use Rattle.lerc.specs.Read.{Lent, read_says}
use Rattle.lerc.specs.Stage.{staged_of}
use Rattle.lerc_c.specs.Records.{header_room, header_at, ranges_room, ranges_in, staged_room, staged_from}
use Rattle.lerc_c.specs.Entries.{read_room}
use Rattle.lerc_c.specs.Packs.{entry_room}
use Rattle.lerc_c.proofs.lerc2_read_header.Reads as read-header
use Rattle.lerc_c.proofs.lerc2_prepare_mask.Reads as prepare-mask
use Rattle.lerc_c.proofs.lerc2_read_ranges.Reads as read-ranges
use Rattle.lerc_c.proofs.lerc2_walk.Reads as walk
use Rattle.lerc_c.proofs.lerc2_fill.Reads as fill
use Rattle.lerc_c.proofs.lerc2_read.Reads as read
use Rattle.lerc_c.proofs.lerc2_stage.Reads as stage
use Rattle.lerc_c.proofs.lerc2_publish.Reads as publish
use Rattle.lerc_c.proofs.lerc2_stored.Reads as stored
use Rattle.lerc_c.proofs.lerc2_pack_open.Reads as pack-open
use Rattle.lerc_c.proofs.lerc2_pack_entry.Reads as pack-entry
use Rattle.lerc_c.proofs.lerc2_pack_write.Reads as pack-write
use Rattle.lerc_theorems.specs.Numbers.{Exactly, ExactlyNumbered}
use Rattle.lerc_theorems.specs.BlockTable.{StoredRefused}
use Rattle.lerc_theorems.specs.Table.{HeaderRefused, PrepareRefused, ReadRangesRefused, WalkRefused, FillRefused, WholeRefused}
use Rattle.lerc_c_theorems.specs.Promises.{c-lent, c-stage-lent, c-staged, c-given, c-published, c-tiles, c-written}
use Rattle.lerc_c_theorems.specs.PackTable.{PackRefused, EntryOutside, WriteRefused}
use Rattle.lerc.specs.declared.Staged.{Staged}

-- ---- the table

-- `Short`: the slice of the place or a record is too short. `Wide`: one holds a number that its field cannot hold. `Refused`: the table of the reader's function, on what the records hold.
pub data EntryRefused (Short Wide : Type 0) (Refused : Refusal → Type 0) : Refusal → Type 0 where
  slice-short : Short → EntryRefused Short Wide Refused (refuse 5)
  number-wide : (Short → ⊥) → Wide → EntryRefused Short Wide Refused (refuse 3)
  reader-refuses : {why : Refusal} → (Short → ⊥) → (Wide → ⊥) → Refused why → EntryRefused Short Wide Refused why

-- an entry that takes no number out of a record
abbrev pub NothingWide : Type 0
NothingWide = ⊥

abbrev pub Shorter : List ℕ → ℕ → Type 0
Shorter slice room = length slice < room

-- a field of 32 bits cannot hold its number; error, minimum and maximum have 64
pub data HeaderWide (header : List ℕ) : Type 0 where
  rows-wide : 2 ^ 32 ≤ get_or header 0 0 → HeaderWide header
  columns-wide : 2 ^ 32 ≤ get_or header 1 0 → HeaderWide header
  depth-wide : 2 ^ 32 ≤ get_or header 2 0 → HeaderWide header
  valid-wide : 2 ^ 32 ≤ get_or header 3 0 → HeaderWide header
  side-wide : 2 ^ 32 ≤ get_or header 4 0 → HeaderWide header
  size-wide : 2 ^ 32 ≤ get_or header 5 0 → HeaderWide header
  kind-wide : 2 ^ 32 ≤ get_or header 6 0 → HeaderWide header
  mask-wide : 2 ^ 32 ≤ get_or header 10 0 → HeaderWide header

-- a constant mark that is neither 0 nor 1
abbrev pub MarkWide : List ℕ → Type 0
MarkWide ranges = 2 ≤ get_or ranges 1 0

-- a kind of body above 4, or a mask that is neither 1 nor 2
pub data NameWide (staged : List ℕ) : Type 0 where
  body-wide : 5 ≤ get_or staged 13 0 → NameWide staged
  mask-none : get_or staged 14 0 ≡ 0 → NameWide staged
  mask-many : 3 ≤ get_or staged 14 0 → NameWide staged

-- a record stands for a refused answer exactly where a number is too wide for its field or names nothing
abbrev pub NoAnswer : Type 0
NoAnswer = (staged : List ℕ) → (staged_from staged ≡ fail (refuse 0)) ↔ (HeaderWide staged ⊎ NameWide staged)

-- staging gave this answer for this meaning, and left this spare and this list
pub record AsStaged (m : Meaning) (given : Res Staged) (l : Lent) : Type 0 where
  pub answer : given ≡ ok (staged_of m)
  pub spare : holds_mask m.mask l.spare ≡ true
  pub list : begins_with (starts_of m.body) l.list ≡ true

-- what a whole read refuses, then an answer, a spare or a list that staging did not give (3)
pub data PublishRefused (b : List ℕ) (reuse : Bool) (given : Res Staged) (l : Lent) : Refusal → Type 0 where
  publish-read : {why : Refusal} → WholeRefused b reuse l why → PublishRefused b reuse given l why
  publish-given : (m : Meaning) → read_says b reuse l ≡ ok m → (AsStaged m given l → ⊥) → PublishRefused b reuse given l (refuse 3)

-- ---- each number and each place of each entry, exactly

-- what a call told is this refusal: its number is returned, and its place is the first number of the slice
abbrev pub ToldInC : ℕ → List ℕ → Refusal → Type 0
ToldInC n place why = (n ≢ 0) × (why ≡ record { number = n; at = get_or place 0 0 })

-- `place` is the slice of the place among the inputs, `left` the same among the outputs
pub record PromisedInC {K A O : Type 0} (Agree : (Refusal → Type 0) → (Refusal → Type 0) → Type 0) (Post : K → A → ℕ → O → Type 0) (place : A → List ℕ) (left : O → List ℕ) (When : A → Refusal → Type 0) : Type 0 where
  -- 0 exactly where no line of the table applies
  pub zero : (k : K) (a : A) (n : ℕ) (x : O) → Post k a n x → (n ≡ 0) ↔ ((why : Refusal) → When a why → ⊥)
  -- another number exactly where the table gives it
  pub other : (k : K) (a : A) (n : ℕ) (x : O) → Post k a n x → Agree (ToldInC n (left x)) (When a)
  -- the place is written in every outcome, 0 with 0, and nothing behind it
  pub written : (k : K) (a : A) (n : ℕ) (x : O) → Post k a n x → (left x ≡ set (place a) 0 (get_or (left x) 0 0)) × (n ≡ 0 → get_or (left x) 0 0 ≡ 0)

abbrev pub StageNumbers : ((Refusal → Type 0) → (Refusal → Type 0) → Type 0) → Type 0
StageNumbers Agree = PromisedInC Agree stage.Post (λ a. (c-stage-lent a).2) (λ o. (c-staged o).3) (λ a. EntryRefused
    (Shorter (c-stage-lent a).2 1 ⊎ Shorter (c-stage-lent a).1 staged_room)
    NothingWide
    (WholeRefused a.0.now a.1.0 (c-stage-lent a).0))

-- numbers that its record's fields cannot hold make it no answer, which is 3 after all that the blob itself earns
abbrev pub PublishNumbers : ((Refusal → Type 0) → (Refusal → Type 0) → Type 0) → Type 0
PublishNumbers Agree = PromisedInC Agree publish.Post (λ a. (c-given a).3) (λ o. (c-published o).3) (λ a. EntryRefused
    (Shorter (c-given a).3 1 ⊎ (Shorter (c-given a).0 staged_room ⊎ Shorter (c-given a).2 2))
    NothingWide
    (PublishRefused a.0.now a.1.0 (staged_from (c-given a).0) (c-given a).1))

abbrev pub PackOpenNumbers : ((Refusal → Type 0) → (Refusal → Type 0) → Type 0) → Type 0
PackOpenNumbers Agree = PromisedInC Agree pack-open.Post (λ a. a.1.1.0.now) (λ o. o.1.1.0.now) (λ a. EntryRefused
    (Shorter a.1.1.0.now 1 ⊎ Shorter a.1.0.now 1)
    NothingWide
    (PackRefused a.0.now))

abbrev pub PackEntryNumbers : ((Refusal → Type 0) → (Refusal → Type 0) → Type 0) → Type 0
PackEntryNumbers Agree = PromisedInC Agree pack-entry.Post (λ a. a.1.1.1.1.0.now) (λ o. o.1.1.1.1.0.now) (λ a. EntryRefused
    (Shorter a.1.1.1.1.0.now 1 ⊎ Shorter a.1.1.1.0.now entry_room)
    NothingWide
    (EntryOutside a.0.now a.1.0 a.1.1.0))

abbrev pub PackWriteNumbers : ((Refusal → Type 0) → (Refusal → Type 0) → Type 0) → Type 0
PackWriteNumbers Agree = PromisedInC Agree pack-write.Post (λ a. (c-written a).2) (λ o. (c-written o).2) (λ a. EntryRefused
    (Shorter (c-written a).2 1 ⊎ Shorter (c-written a).1 1)
    NothingWide
    (WriteRefused (c-tiles a) (length (c-written a).0)))

-- each entry that refuses: its promise, the slice of its place, and its lines of the table
pub record EachEntry (Agree : (Refusal → Type 0) → (Refusal → Type 0) → Type 0) : Type 0 where
  pub read-header : PromisedInC Agree read-header.Post (λ a. a.1.1.0.now) (λ o. o.1.1.0.now) (λ a. EntryRefused
      (Shorter a.1.1.0.now 1 ⊎ Shorter a.1.0.now header_room)
      NothingWide
      (HeaderRefused a.0.now))
  pub prepare-mask : PromisedInC Agree prepare-mask.Post (λ a. a.1.1.1.1.1.1.0.now) (λ o. o.1.1.1.1.1.1.0.now) (λ a. EntryRefused
      (Shorter a.1.1.1.1.1.1.0.now 1 ⊎ (Shorter a.1.0.now header_room ⊎ Shorter a.1.1.1.1.1.0.now 2))
      (HeaderWide a.1.0.now)
      (PrepareRefused a.0.now (header_at a.1.0.now) a.1.1.0 a.1.1.1.0.now (length a.1.1.1.1.0.now)))
  pub read-ranges : PromisedInC Agree read-ranges.Post (λ a. a.1.1.1.0.now) (λ o. o.1.1.1.0.now) (λ a. EntryRefused
      (Shorter a.1.1.1.0.now 1 ⊎ (Shorter a.1.0.now header_room ⊎ Shorter a.1.1.0.now ranges_room))
      (HeaderWide a.1.0.now)
      (ReadRangesRefused a.0.now (header_at a.1.0.now)))
  pub walk : PromisedInC Agree walk.Post (λ a. a.1.1.1.1.1.1.0.now) (λ o. o.1.1.1.1.1.1.0.now) (λ a. EntryRefused
      (Shorter a.1.1.1.1.1.1.0.now 1 ⊎ ((Shorter a.1.0.now header_room ⊎ Shorter a.1.1.0.now ranges_room) ⊎ Shorter a.1.1.1.1.1.0.now 2))
      (HeaderWide a.1.0.now ⊎ MarkWide a.1.1.0.now)
      (WalkRefused a.0.now (header_at a.1.0.now) (ranges_in a.1.1.0.now) a.1.1.1.0.now (length a.1.1.1.1.0.now)))
  pub fill : PromisedInC Agree fill.Post (λ a. a.1.1.1.1.1.1.1.1.0.now) (λ o. o.1.1.1.1.1.1.1.1.0.now) (λ a. EntryRefused
      (Shorter a.1.1.1.1.1.1.1.1.0.now 1 ⊎ ((Shorter a.1.0.now header_room ⊎ Shorter a.1.1.0.now ranges_room) ⊎ Shorter a.1.1.1.1.1.1.1.0.now 1))
      (HeaderWide a.1.0.now ⊎ MarkWide a.1.1.0.now)
      (FillRefused a.0.now (header_at a.1.0.now) (ranges_in a.1.1.0.now) a.1.1.1.0.now a.1.1.1.1.0.now a.1.1.1.1.1.0 (length a.1.1.1.1.1.1.0.now)))
  pub read : PromisedInC Agree read.Post (λ a. (c-lent a).2) (λ o. (c-lent o).2) (λ a. EntryRefused
      (Shorter (c-lent a).2 1 ⊎ Shorter (c-lent a).1 read_room)
      NothingWide
      (WholeRefused a.0.now a.1.0 (c-lent a).0))
  pub stage : StageNumbers Agree
  pub publish : PublishNumbers Agree
  pub stored : PromisedInC Agree stored.Post (λ a. a.1.1.1.0.now) (λ o. o.1.1.1.0.now) (λ a. EntryRefused
      (Shorter a.1.1.1.0.now 1 ⊎ Shorter a.1.1.0.now 1)
      NothingWide
      (StoredRefused a.1.0 a.0))
  pub pack-open : PackOpenNumbers Agree
  pub pack-entry : PackEntryNumbers Agree
  pub pack-write : PackWriteNumbers Agree

-- "given when": each number of each entry, exactly
abbrev pub NumbersExactlyInC : Type 0
NumbersExactlyInC = EachEntry ExactlyNumbered

-- "a place with each number": number and place of each refusal of each entry, exactly
abbrev pub PlacesExactlyInC : Type 0
PlacesExactlyInC = EachEntry Exactly

-- ---- the numbers that each entry can return at all

abbrev pub OnlyInC : {K A O : Type 0} → (K → A → ℕ → O → Type 0) → List ℕ → Type 0
OnlyInC {K} {A} {O} Post numbers = (k : K) (a : A) (n : ℕ) (x : O) → Post k a n x → among numbers n ≡ true

-- 10 is of a walk alone
abbrev pub StageOnly : Type 0
StageOnly = OnlyInC stage.Post (0 ∷ 1 ∷ 2 ∷ 3 ∷ 4 ∷ 5 ∷ 6 ∷ 7 ∷ 8 ∷ 9 ∷ 13 ∷ [])

abbrev pub PublishOnly : Type 0
PublishOnly = OnlyInC publish.Post (0 ∷ 1 ∷ 2 ∷ 3 ∷ 4 ∷ 5 ∷ 6 ∷ 7 ∷ 8 ∷ 9 ∷ 13 ∷ [])

-- 12 is of packs alone
abbrev pub PackOpenOnly : Type 0
PackOpenOnly = OnlyInC pack-open.Post (0 ∷ 5 ∷ 12 ∷ [])

abbrev pub PackEntryOnly : Type 0
PackEntryOnly = OnlyInC pack-entry.Post (0 ∷ 5 ∷ 12 ∷ [])

abbrev pub PackWriteOnly : Type 0
PackWriteOnly = OnlyInC pack-write.Post (0 ∷ 5 ∷ 12 ∷ [])

pub record NumbersOnlyInC : Type 0 where
  pub read-header : OnlyInC read-header.Post (0 ∷ 1 ∷ 2 ∷ 3 ∷ 4 ∷ 5 ∷ 13 ∷ [])
  pub prepare-mask : OnlyInC prepare-mask.Post (0 ∷ 1 ∷ 3 ∷ 4 ∷ 5 ∷ 6 ∷ [])
  pub read-ranges : OnlyInC read-ranges.Post (0 ∷ 1 ∷ 3 ∷ 4 ∷ 5 ∷ 7 ∷ [])
  pub walk : OnlyInC walk.Post (0 ∷ 1 ∷ 3 ∷ 4 ∷ 5 ∷ 7 ∷ 8 ∷ 9 ∷ 10 ∷ [])
  pub fill : OnlyInC fill.Post (0 ∷ 1 ∷ 3 ∷ 4 ∷ 5 ∷ 7 ∷ 8 ∷ 9 ∷ 11 ∷ [])
  pub read : OnlyInC read.Post (0 ∷ 1 ∷ 2 ∷ 3 ∷ 4 ∷ 5 ∷ 6 ∷ 7 ∷ 8 ∷ 9 ∷ 13 ∷ [])
  pub stage : StageOnly
  pub publish : PublishOnly
  pub stored : OnlyInC stored.Post (0 ∷ 5 ∷ 9 ∷ [])
  pub pack-open : PackOpenOnly
  pub pack-entry : PackEntryOnly
  pub pack-write : PackWriteOnly
