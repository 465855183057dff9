-- Calls of the entries for C: what is lent, the number that is returned, the place and what is left, in any outcome that the promise allows.
-- Of a slice that is written, the first list is what it held, the second what it holds afterwards. `Post` is what the checker makes of the text of an entry's `ensures`;
-- the inputs are a tuple in the order of its parameters, the outputs the same at exit.
-- Assumes nothing.
use Rattle.std.specs.Prelude.{◌≡◌, Bool, List, ℕ, ◌≤◌, length}
use Rattle.lerc_words.specs.Res.{ok, Res}
use Rattle.lerc_samples.proofs.stored.Reads as stored-value
use Rattle.lerc_header.specs.declared.Header.{Header}
use Rattle.lerc_ranges.specs.declared.Ranges.{Ranges}
use Rattle.lerc.specs.Read.{Lent}
use Rattle.lerc.proofs.stage.Reads as staging
use Rattle.lerc.proofs.publish.Reads as publishing
use Rattle.lerc_pack.proofs.open_pack.Reads as open-pack
use Rattle.lerc_pack.proofs.entry_in.Reads as entry_in
use Rattle.lerc_pack_writer.specs.Writing.{Given}
use Rattle.lerc_pack_writer.proofs.write_pack.Reads as write-pack
use Rattle.lerc_c.specs.Records.{header_room, header_from, ranges_room, ranges_from, staged_room, staged_from}
use Rattle.lerc_c.proofs.lerc2_read_header.Reads as read-header
use Rattle.lerc_c.proofs.lerc2_prepare_mask.Reads as prepare-mask
use Rattle.lerc_c.proofs.lerc2_read_ranges.Reads as read-ranges
use Rattle.lerc_c.proofs.lerc2_walk.Reads as walk
use Rattle.lerc_c.proofs.lerc2_fill.Reads as fill
use Rattle.lerc_c.proofs.lerc2_read.Reads as read
use Rattle.lerc_c.proofs.lerc2_stage.Reads as stage
use Rattle.lerc_c.proofs.lerc2_publish.Reads as publish
use Rattle.lerc_c.proofs.lerc2_stored.Reads as stored
use Rattle.lerc_c.proofs.lerc2_pack_open.Reads as pack-open
use Rattle.lerc_c.proofs.lerc2_pack_entry.Reads as pack-entry
use Rattle.lerc_c.proofs.lerc2_pack_write.Reads as pack-write
use Rattle.lerc_theorems.specs.Calls.{Call}
use Rattle.lerc_c_theorems.specs.Promises.{c-lent, c-stage-lent, c-staged, c-given, c-published, c-tiles, c-written}
use Rattle.lerc.specs.Stage.{PublishTold}
use Rattle.lerc.specs.declared.Staged.{Staged}
use Rattle.lerc_pack.specs.declared.Entry.{Entry}

-- ---- records that are lent

-- long enough for a header, each number within its field: it holds the header h
pub record HoldsHeader (header : List ℕ) (h : Header) : Type 0 where
  pub long : header_room ≤ length header
  pub is : header_from header ≡ ok h

-- long enough for ranges, its constant mark 0 or 1: it holds the ranges r
pub record HoldsRanges (ranges : List ℕ) (r : Ranges) : Type 0 where
  pub long : ranges_room ≤ length ranges
  pub is : ranges_from ranges ≡ ok r

-- long enough for an answer of staging: it stands for the answer a
pub record HoldsStaged (staged : List ℕ) (a : Res Staged) : Type 0 where
  pub long : staged_room ≤ length staged
  pub is : staged_from staged ≡ a

-- ---- calls

-- what a call tells beside its records: the number that it returns, and the slice of the place, which is the last one that is lent
pub record Told : Type 0 where
  pub number : ℕ
  pub place₀ : List ℕ
  pub place₁ : List ℕ

-- there is room for the place
abbrev pub HasPlace : Told → Type 0
HasPlace t = 1 ≤ length t.place₀

-- a call that returned 0
abbrev pub Accepted : (Told → Type 0) → Type 0
Accepted InC = (place₀ : List ℕ) × (place₁ : List ℕ) × InC (record { number = 0; place₀ = place₀; place₁ = place₁ })

-- blob; what is told; the header's record
abbrev pub HeaderInC : List ℕ → Told → List ℕ → List ℕ → Type 0
HeaderInC b t header₀ header₁ =
    Call {S = List ℕ × List ℕ × List ℕ} {T = List ℕ × List ℕ} read-header.Post (λ a. (a.0.now, a.1.0.now, a.1.1.0.now)) (λ r. r) (λ o. (o.1.0.now, o.1.1.0.now))
    (b, header₀, t.place₀) t.number (header₁, t.place₁)

-- blob, the header's record, reuse, kept mask; what is told; the spare, and what is said
abbrev pub PrepareInC : List ℕ → List ℕ → Bool → List ℕ → Told → List ℕ → List ℕ → List ℕ → List ℕ → Type 0
PrepareInC b header reuse kept t spare₀ spare₁ said₀ said₁ =
    Call {S = List ℕ × List ℕ × Bool × List ℕ × List ℕ × List ℕ × List ℕ} {T = List ℕ × List ℕ × List ℕ} prepare-mask.Post
    (λ a. (a.0.now, a.1.0.now, a.1.1.0, a.1.1.1.0.now, a.1.1.1.1.0.now, a.1.1.1.1.1.0.now, a.1.1.1.1.1.1.0.now)) (λ r. r)
    (λ o. (o.1.1.1.1.0.now, o.1.1.1.1.1.0.now, o.1.1.1.1.1.1.0.now)) (b, header, reuse, kept, spare₀, said₀, t.place₀) t.number (spare₁, said₁, t.place₁)

-- blob, the header's record; what is told; the ranges' record
abbrev pub RangesInC : List ℕ → List ℕ → Told → List ℕ → List ℕ → Type 0
RangesInC b header t ranges₀ ranges₁ =
    Call {S = List ℕ × List ℕ × List ℕ × List ℕ} {T = List ℕ × List ℕ} read-ranges.Post (λ a. (a.0.now, a.1.0.now, a.1.1.0.now, a.1.1.1.0.now)) (λ r. r)
    (λ o. (o.1.1.0.now, o.1.1.1.0.now)) (b, header, ranges₀, t.place₀) t.number (ranges₁, t.place₁)

-- blob, the records of header and ranges, mask; what is told; the list, and what is said
abbrev pub WalkInC : List ℕ → List ℕ → List ℕ → List ℕ → Told → List ℕ → List ℕ → List ℕ → List ℕ → Type 0
WalkInC b header ranges mask t list₀ list₁ said₀ said₁ =
    Call {S = List ℕ × List ℕ × List ℕ × List ℕ × List ℕ × List ℕ × List ℕ} {T = List ℕ × List ℕ × List ℕ} walk.Post
    (λ a. (a.0.now, a.1.0.now, a.1.1.0.now, a.1.1.1.0.now, a.1.1.1.1.0.now, a.1.1.1.1.1.0.now, a.1.1.1.1.1.1.0.now)) (λ r. r)
    (λ o. (o.1.1.1.1.0.now, o.1.1.1.1.1.0.now, o.1.1.1.1.1.1.0.now)) (b, header, ranges, mask, list₀, said₀, t.place₀) t.number (list₁, said₁, t.place₁)

-- blob, the records of header and ranges, mask, list, the block's number; what is told; the image, and what is said
abbrev pub FillInC : List ℕ → List ℕ → List ℕ → List ℕ → List ℕ → ℕ → Told → List ℕ → List ℕ → List ℕ → List ℕ → Type 0
FillInC b header ranges mask list block t image₀ image₁ said₀ said₁ =
    Call {S = List ℕ × List ℕ × List ℕ × List ℕ × List ℕ × ℕ × List ℕ × List ℕ × List ℕ} {T = List ℕ × List ℕ × List ℕ} fill.Post
    (λ a. (a.0.now, a.1.0.now, a.1.1.0.now, a.1.1.1.0.now, a.1.1.1.1.0.now, a.1.1.1.1.1.0, a.1.1.1.1.1.1.0.now, a.1.1.1.1.1.1.1.0.now, a.1.1.1.1.1.1.1.1.0.now)) (λ r. r)
    (λ o. (o.1.1.1.1.1.1.0.now, o.1.1.1.1.1.1.1.0.now, o.1.1.1.1.1.1.1.1.0.now)) (b, header, ranges, mask, list, block, image₀, said₀, t.place₀) t.number (image₁, said₁, t.place₁)

-- blob, reuse; what is told; kept mask, spare, list and image, and what is said
abbrev pub ReadInC : List ℕ → Bool → Told → Lent → Lent → List ℕ → List ℕ → Type 0
ReadInC b reuse t old new said₀ said₁ =
    Call {S = List ℕ × Bool × Lent × List ℕ × List ℕ} {T = Lent × List ℕ × List ℕ} read.Post (λ a. (a.0.now, a.1.0, (c-lent a).0, (c-lent a).1, (c-lent a).2)) (λ r. r) c-lent
    (b, reuse, old, said₀, t.place₀) t.number (new, said₁, t.place₁)

-- blob, reuse; what is told; what is lent; spare and list afterwards, and the record of the answer
abbrev pub StageInC : List ℕ → Bool → Told → Lent → List ℕ → List ℕ → List ℕ → List ℕ → Type 0
StageInC b reuse t old spare₁ list₁ staged₀ staged₁ =
    Call {S = List ℕ × Bool × Lent × List ℕ × List ℕ} {T = List ℕ × List ℕ × List ℕ × List ℕ} stage.Post (λ a. (a.0.now, a.1.0, (c-stage-lent a).0, (c-stage-lent a).1, (c-stage-lent a).2)) (λ r. r) c-staged
    (b, reuse, old, staged₀, t.place₀) t.number (spare₁, list₁, staged₁, t.place₁)

-- blob, reuse, the record of an answer; what is told; what is lent; kept mask and image afterwards, and what is said
abbrev pub PublishInC : List ℕ → Bool → List ℕ → Told → Lent → List ℕ → List ℕ → List ℕ → List ℕ → Type 0
PublishInC b reuse staged t old kept₁ image₁ said₀ said₁ =
    Call {S = List ℕ × Bool × List ℕ × Lent × List ℕ × List ℕ} {T = List ℕ × List ℕ × List ℕ × List ℕ} publish.Post
    (λ a. (a.0.now, a.1.0, (c-given a).0, (c-given a).1, (c-given a).2, (c-given a).3)) (λ r. r) c-published
    (b, reuse, staged, old, said₀, t.place₀) t.number (kept₁, image₁, said₁, t.place₁)

-- the reader's own: blob, reuse; the answer; what is lent; spare and list afterwards
abbrev pub StageCall : List ℕ → Bool → Res Staged → Lent → List ℕ → List ℕ → Type 0
StageCall b reuse said old spare list =
    Call {S = List ℕ × Bool × Lent} {T = List ℕ × List ℕ} staging.Post
    (λ a. (a.0.now, a.1.0, record { kept = a.1.1.0.now; spare = a.1.1.1.0.now; list = a.1.1.1.1.0.now; image = a.1.1.1.1.1.0.now })) (λ r. r)
    (λ o. (o.1.1.1.0.now, o.1.1.1.1.0.now)) (b, reuse, old) said (spare, list)

-- blob, reuse, the answer given; the answer; what is lent; kept mask and image afterwards
abbrev pub PublishCall : List ℕ → Bool → Res Staged → Res PublishTold → Lent → List ℕ → List ℕ → Type 0
PublishCall b reuse given said old kept image =
    Call {S = List ℕ × Bool × Res Staged × Lent} {T = List ℕ × List ℕ} publishing.Post
    (λ a. (a.0.now, a.1.0, a.1.1.0, record { kept = a.1.1.1.0.now; spare = a.1.1.1.1.0.now; list = a.1.1.1.1.1.0.now; image = a.1.1.1.1.1.1.0.now })) (λ r. r)
    (λ o. (o.1.1.1.0.now, o.1.1.1.1.1.1.0.now)) (b, reuse, given, old) said (kept, image)

-- value, kind; what is told; what is said
abbrev pub StoredInC : ℕ → ℕ → Told → List ℕ → List ℕ → Type 0
StoredInC v kind t said₀ said₁ =
    Call {S = ℕ × ℕ × List ℕ × List ℕ} {T = List ℕ × List ℕ} stored.Post (λ a. (a.0, a.1.0, a.1.1.0.now, a.1.1.1.0.now)) (λ r. r) (λ o. (o.1.1.0.now, o.1.1.1.0.now))
    (v, kind, said₀, t.place₀) t.number (said₁, t.place₁)

-- the reader's own: value, kind; the answer
abbrev pub StoredCall : ℕ → ℕ → Res ℕ → Type 0
StoredCall v kind said = Call {S = ℕ × ℕ} {T = Unit {0}} stored-value.Post (λ a. (a.0, a.1.0)) (λ r. r) (λ o. tt) (v, kind) said tt

-- ---- packs

-- pack; what is told; what is said
abbrev pub PackOpenInC : List ℕ → Told → List ℕ → List ℕ → Type 0
PackOpenInC b t said₀ said₁ =
    Call {S = List ℕ × List ℕ × List ℕ} {T = List ℕ × List ℕ} pack-open.Post (λ a. (a.0.now, a.1.0.now, a.1.1.0.now)) (λ r. r) (λ o. (o.1.0.now, o.1.1.0.now))
    (b, said₀, t.place₀) t.number (said₁, t.place₁)

-- pack, the count of its tiles, the entry's number; what is told; the entry's record
abbrev pub PackEntryInC : List ℕ → ℕ → ℕ → Told → List ℕ → List ℕ → Type 0
PackEntryInC b tiles number t entry₀ entry₁ =
    Call {S = List ℕ × ℕ × ℕ × List ℕ × List ℕ} {T = List ℕ × List ℕ} pack-entry.Post (λ a. (a.0.now, a.1.0, a.1.1.0, a.1.1.1.0.now, a.1.1.1.1.0.now)) (λ r. r)
    (λ o. (o.1.1.1.0.now, o.1.1.1.1.0.now)) (b, tiles, number, entry₀, t.place₀) t.number (entry₁, t.place₁)

-- tiles; what is told; the pack's slice, and what is said
abbrev pub PackWriteInC : Given → Told → List ℕ → List ℕ → List ℕ → List ℕ → Type 0
PackWriteInC g t pack₀ pack₁ said₀ said₁ =
    Call {S = Given × List ℕ × List ℕ × List ℕ} {T = List ℕ × List ℕ × List ℕ} pack-write.Post (λ a. (c-tiles a, (c-written a).0, (c-written a).1, (c-written a).2)) (λ r. r) c-written
    (g, pack₀, said₀, t.place₀) t.number (pack₁, said₁, t.place₁)

-- the reader's own: pack; the answer
abbrev pub PackOpenCall : List ℕ → Res ℕ → Type 0
PackOpenCall b said = Call {T = Unit {0}} open-pack.Post (λ a. a.0.now) (λ r. r) (λ o. tt) b said tt

-- pack, the count of its tiles, the entry's number; the answer
abbrev pub PackEntryCall : List ℕ → ℕ → ℕ → Res Entry → Type 0
PackEntryCall b tiles number said = Call {S = List ℕ × ℕ × ℕ} {T = Unit {0}} entry_in.Post (λ a. (a.0.now, a.1.0, a.1.1.0)) (λ r. r) (λ o. tt) (b, tiles, number) said tt

-- tiles; the answer; the pack's slice
abbrev pub PackWriteCall : Given → Res ℕ → List ℕ → List ℕ → Type 0
PackWriteCall g said pack₀ pack₁ =
    Call {S = Given × List ℕ} {T = List ℕ} write-pack.Post
    (λ a. (record { rows = a.0.now; columns = a.1.0.now; lengths = a.1.1.0.now; bodies = a.1.1.1.0.now }, a.1.1.1.1.0.now)) (λ r. r) (λ o. o.1.1.1.1.0.now) (g, pack₀) said pack₁
