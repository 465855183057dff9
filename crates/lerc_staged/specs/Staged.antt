-- What is claimed of staging and publishing in calls: that the two are a whole read, what is accepted, what a refusal leaves, and fills between the two.
-- Assumes nothing.
use Rattle.std.specs.Prelude.{ℕ, ◌*◌, ◌≤◌, ◌<◌, ◌≡◌, ◌↔◌, ◌≢◌, ◌⊎◌, Bool, true, List, [], ◌∷◌, length, get_or, take}
use Rattle.lerc_words.specs.declared.Refusal.{Refusal}
use Rattle.lerc_words.specs.Res.{ok, refuse, Res, fail}
use Rattle.lerc_words.specs.Lists.{count}
use Rattle.lerc_header.specs.Header.{shape_of}
use Rattle.lerc_header.specs.Shape.{cells, mask_length}
use Rattle.lerc_validity.specs.Validity.{in_force, MaskTold}
use Rattle.lerc_image.specs.Geometry.{is_valid_cell}
use Rattle.lerc_image.specs.Paint.{among}
use Rattle.lerc.specs.declared.BodyKind.TheVariants as kind
use Rattle.lerc.specs.declared.Staged.{Staged}
use Rattle.lerc.specs.Meaning.{Meaning, end_of}
use Rattle.lerc.specs.Read.{Lent, read_says, published, ReadTold}
use Rattle.lerc_theorems.specs.Table.{WholeRefused}
use Rattle.lerc_theorems.specs.Refusals.{WholeKeeps}
use Rattle.lerc_theorems.specs.Writes.{AlikeFrom, AlikeBut}
use Rattle.lerc_theorems.specs.Calls.{HandedCall, ReadRanges, FillCalls, ReadCall}
use Rattle.lerc_theorems.specs.DemandThree.{InHand, Found, AnyOrder}
use Rattle.lerc_staged.specs.Calls.{StageCall, PublishCall, as_staged, as_published}
use Rattle.lerc_validity.specs.declared.Mask.TheVariants as mask
use Rattle.lerc.specs.Stage.{PublishTold}

-- ---- the two are a whole read

-- what staging refuses, a whole read refuses, with that number at that place; it leaves what staging did, image and kept mask as they were
abbrev pub RefusedInTwo : Type 0
RefusedInTwo =
    (b : List ℕ) (reuse : Bool) (why : Refusal) (answer : Res ReadTold) (old left : Lent) (spare list : List ℕ) → StageCall b reuse (fail why) old spare list → ReadCall b reuse answer old left
    → (answer ≡ fail why) × (left ≡ as_staged old spare list)

-- what publishing answers and leaves is what a whole read does
pub record ReadInTwo (found : Staged) (done : Res PublishTold) (answer : Res ReadTold) (left : Lent) (kept spare list image : List ℕ) : Type 0 where
  pub end : ℕ
  pub words : ℕ
  pub accepted : done ≡ ok (record { end = end; words = words })
  pub answered : answer ≡ ok (record { header = found.header; blocks = found.blocks; end = end })
  pub leaves : left ≡ record { kept = kept; spare = spare; list = list; image = image }

-- "one after the other they equal the old read, on the image, kept mask and end": publishing what staging gave is accepted, and answer and every slice are those of a whole read
abbrev pub AcceptedInTwo : Type 0
AcceptedInTwo =
    (b : List ℕ) (reuse : Bool) (found : Staged) (done : Res PublishTold) (answer : Res ReadTold) (old left : Lent) (kept spare list image : List ℕ)
    → StageCall b reuse (ok found) old spare list → PublishCall b reuse (ok found) done (as_staged old spare list) kept image → ReadCall b reuse answer old left
    → ReadInTwo found done answer left kept spare list image

-- the same by the meaning: its end, a word for each valid cell, and every slice as it is published
abbrev pub MeantInTwo : Type 0
MeantInTwo =
    (b : List ℕ) (reuse : Bool) (found : Staged) (done : Res PublishTold) (old : Lent) (kept spare list image : List ℕ)
    → StageCall b reuse (ok found) old spare list → PublishCall b reuse (ok found) done (as_staged old spare list) kept image
    → (m : Meaning) × (read_says b reuse old ≡ ok m) × (done ≡ ok (record { end = (end_of m.body); words = (m.header.valid * m.header.depth) }))
    × (record { kept = kept; spare = spare; list = list; image = image } ≡ published m old)

-- ---- what is published

abbrev pub Accepted : Res PublishTold → Type 0
Accepted said = (end : ℕ) × (words : ℕ) × (said ≡ ok (record { end = end; words = words }))

-- staging gave this answer, and left spare and list as they are
pub record Gave (given answer : Res Staged) (old : Lent) (new-spare new-list : List ℕ) : Type 0 where
  pub found : Staged
  pub staged : answer ≡ ok found
  pub same : given ≡ answer
  pub spare : new-spare ≡ old.spare
  pub list : new-list ≡ old.list

-- publishing accepts exactly what staging these inputs gives and leaves
abbrev pub PublishAccepts : Type 0
PublishAccepts =
    (b : List ℕ) (reuse : Bool) (given answer : Res Staged) (said : Res PublishTold) (old : Lent) (kept image spare list : List ℕ)
    → PublishCall b reuse given said old kept image → StageCall b reuse answer old spare list → Accepted said ↔ Gave given answer old spare list

-- ---- refusals

-- "its refusal changes no lent slice"
abbrev pub PublishKeeps : Type 0
PublishKeeps = (b : List ℕ) (reuse : Bool) (given : Res Staged) (why : Refusal) (old : Lent) (kept image : List ℕ) → PublishCall b reuse given (fail why) old kept image
    → as_published old kept image ≡ old

-- a refused stage leaves what a refused read does: the list, and the spare but for a new mask that was accepted
abbrev pub StageKeeps : Type 0
StageKeeps = (b : List ℕ) (reuse : Bool) (why : Refusal) (old : Lent) (spare list : List ℕ) → StageCall b reuse (fail why) old spare list → WholeKeeps b reuse old (as_staged old spare list)

-- "Staging refuses as whole read did": by the table of a whole read's refusals, number and place
abbrev pub StageRefuses : Type 0
StageRefuses = (b : List ℕ) (reuse : Bool) (said : Res Staged) (why : Refusal) (old : Lent) (spare list : List ℕ) → StageCall b reuse said old spare list
    → (said ≡ fail why) ↔ WholeRefused b reuse old why

-- and by a whole read of the same inputs
abbrev pub StageAsRead : Type 0
StageAsRead =
    (b : List ℕ) (reuse : Bool) (said : Res Staged) (answer : Res ReadTold) (why : Refusal) (old left : Lent) (spare list : List ℕ) → StageCall b reuse said old spare list → ReadCall b reuse answer old left
    → (said ≡ fail why) ↔ (answer ≡ fail why)

-- staging accepts, and it did not give this
pub record NotGiven (given answer : Res Staged) (old : Lent) (spare list : List ℕ) : Type 0 where
  pub found : Staged
  pub staged : answer ≡ ok found
  pub other : Gave given answer old spare list → ⊥

-- "it refuses 3, or what the blob itself earns first"
abbrev pub PublishRefuses : Type 0
PublishRefuses =
    (b : List ℕ) (reuse : Bool) (given answer : Res Staged) (said : Res PublishTold) (why : Refusal) (old : Lent) (kept image spare list : List ℕ)
    → PublishCall b reuse given said old kept image → StageCall b reuse answer old spare list
    → (said ≡ fail why) ↔ ((answer ≡ fail why) ⊎ ((why ≡ refuse 3) × NotGiven given answer old spare list))

-- the numbers of a whole read
abbrev pub numbers : List ℕ
numbers = 1 ∷ 2 ∷ 3 ∷ 4 ∷ 5 ∷ 6 ∷ 7 ∷ 8 ∷ 9 ∷ 13 ∷ []

-- staging gives no others
abbrev pub StageNumbers : Type 0
StageNumbers = (b : List ℕ) (reuse : Bool) (why : Refusal) (old : Lent) (spare list : List ℕ) → StageCall b reuse (fail why) old spare list → among numbers why.number ≡ true

-- nor does publishing
abbrev pub PublishNumbers : Type 0
PublishNumbers =
    (b : List ℕ) (reuse : Bool) (given : Res Staged) (why : Refusal) (old : Lent) (kept image : List ℕ) → PublishCall b reuse given (fail why) old kept image → among numbers why.number ≡ true

-- ---- fills between the two

-- what staging told of a body in blocks
abbrev pub staged_in : InHand → Res MaskTold → Staged
staged_in x said = record { header = x.header; body = kind.Blocks; blocks = x.count; end = x.end; mask = said }

-- Stage, that told of blocks, mask in force and read ranges. The mask that fills are lent begins with the one that was handed back, and their list with what staging listed; each
-- may be longer.
pub record ByStage (x : InHand) : Type 0 where
  pub said : Res MaskTold
  pub spare : List ℕ
  pub prepared : List ℕ
  pub part : List ℕ
  pub unlisted : List ℕ
  pub listed : List ℕ
  pub stage : StageCall x.blob x.reuse (ok (staged_in x said)) (record { kept = x.kept; spare = spare; list = unlisted; image = x.image }) prepared listed
  pub handed : HandedCall x.kept prepared said part
  pub ranges : ReadRanges x.blob x.header x.ranges
  pub mask : take (mask_length (shape_of x.header)) x.mask ≡ part
  pub list : take x.count x.list ≡ take x.count listed

-- such calls open a blob for fills
abbrev pub OpenedByStage : Type 0
OpenedByStage = (x : InHand) → ByStage x → Found x

-- demand 3 with the list that staging left
abbrev pub FillsAnyOrder : Type 0
FillsAnyOrder =
    (x : InHand) → ByStage x → (ns : List ℕ) (said : List (Res ℕ)) (new : List ℕ) → FillCalls x.blob x.header x.ranges x.mask x.list ns said x.image new → AnyOrder x ns said new

-- what staging was lent
abbrev pub before_stage : (x : InHand) → ByStage x → Lent
before_stage x w = record { kept = x.kept; spare = w.spare; list = w.unlisted; image = x.image }

-- publishing what staging left, with this image
abbrev pub ThenPublish : (x : InHand) → ByStage x → List ℕ → Res PublishTold → List ℕ → List ℕ → Type 0
ThenPublish x w old done kept image =
    PublishCall x.blob x.reuse (ok (staged_in x w.said)) done (record { kept = x.kept; spare = w.prepared; list = w.listed; image = old }) kept image

-- Any fills between the two change nothing of what publishing answers and leaves.
abbrev pub FillsBetween : Type 0
FillsBetween =
    (x : InHand) (w : ByStage x) (ns : List ℕ) (said : List (Res ℕ)) (filled : List ℕ) → FillCalls x.blob x.header x.ranges x.mask x.list ns said x.image filled
    → (done told : Res PublishTold) (kept image other-kept other-image : List ℕ) → ThenPublish x w x.image done kept image → ThenPublish x w filled told other-kept other-image
    → Accepted told × (told ≡ done) × (other-kept ≡ kept) × (other-image ≡ image)

-- Staging, any fills, then publishing end as a whole read does.
abbrev pub FillsThenRead : Type 0
FillsThenRead =
    (x : InHand) (w : ByStage x) (ns : List ℕ) (said : List (Res ℕ)) (filled : List ℕ) → FillCalls x.blob x.header x.ranges x.mask x.list ns said x.image filled
    → (told : Res PublishTold) (answer : Res ReadTold) (kept image : List ℕ) (left : Lent) → ThenPublish x w filled told kept image → ReadCall x.blob x.reuse answer (before_stage x w) left
    → (told ≡ ok (record { end = x.end; words = (x.header.valid * x.header.depth) })) × (answer ≡ ok (record { header = x.header; blocks = x.count; end = x.end }))
    × (left ≡ record { kept = kept; spare = w.prepared; list = w.listed; image = image })

-- Fills in any order that names each block leave the image that publishing does.
abbrev pub FillsComplete : Type 0
FillsComplete =
    (x : InHand) (w : ByStage x) (ns : List ℕ) (said : List (Res ℕ)) (filled : List ℕ) → FillCalls x.blob x.header x.ranges x.mask x.list ns said x.image filled
    → ((n : ℕ) → n < x.count → among ns n ≡ true) → (done : Res PublishTold) (kept image : List ℕ) → ThenPublish x w x.image done kept image → filled ≡ image

-- ---- published twice

-- a second publish of the same answer is accepted, and changes nothing more
abbrev pub PublishTwice : Type 0
PublishTwice =
    (b : List ℕ) (reuse : Bool) (given : Res Staged) (said told : Res PublishTold) (old : Lent) (kept image again-kept again-image : List ℕ)
    → PublishCall b reuse given said old kept image → Accepted said → PublishCall b reuse given told (as_published old kept image) again-kept again-image
    → (told ≡ said) × (again-kept ≡ kept) × (again-image ≡ image)

-- ---- what is written

-- Staging writes the mask's length of the spare, and as many entries of the list as there are blocks.
pub record StageWritten (found : Staged) (old : Lent) (new-spare new-list : List ℕ) : Type 0 where
  pub spare : AlikeFrom (mask_length (shape_of found.header)) old.spare new-spare
  pub list : AlikeFrom found.blocks old.list new-list
  -- a reused mask leaves the spare, and a body without blocks the list
  pub reused : (n : ℕ) → found.mask ≡ ok (mask.Kept n) → new-spare ≡ old.spare
  pub no_blocks : found.body ≢ kind.Blocks → new-list ≡ old.list

abbrev pub StageWrites : Type 0
StageWrites = (b : List ℕ) (reuse : Bool) (found : Staged) (old : Lent) (spare list : List ℕ) → StageCall b reuse (ok found) old spare list → StageWritten found old spare list

-- Publishing writes the mask's length of the kept mask, and valid cells of the image: none past its cells.
pub record PublishWritten (found : Staged) (old : Lent) (new-kept new-image : List ℕ) : Type 0 where
  pub kept : AlikeFrom (mask_length (shape_of found.header)) old.kept new-kept
  pub image : AlikeBut (is_valid_cell (shape_of found.header) (in_force found.mask old.kept old.spare)) old.image new-image
  pub past : (c : ℕ) → cells (shape_of found.header) ≤ c → get_or new-image c 0 ≡ get_or old.image c 0

abbrev pub PublishWrites : Type 0
PublishWrites =
    (b : List ℕ) (reuse : Bool) (found : Staged) (end words : ℕ) (old : Lent) (kept image : List ℕ) → PublishCall b reuse (ok found) (ok (record { end = end; words = words })) old kept image
    → PublishWritten found old kept image

-- the words that it reports: one for each valid cell
abbrev pub PublishWords : Type 0
PublishWords =
    (b : List ℕ) (reuse : Bool) (found : Staged) (end words : ℕ) (old : Lent) (kept image : List ℕ) → PublishCall b reuse (ok found) (ok (record { end = end; words = words })) old kept image
    → words ≡ count (cells (shape_of found.header)) (is_valid_cell (shape_of found.header) (in_force found.mask old.kept old.spare))

-- ---- what is not looked at

-- the same kept mask, and slices as long: what spare, list and image hold is not looked at
pub record AsLong (old other : Lent) : Type 0 where
  pub kept : other.kept ≡ old.kept
  pub spare : length other.spare ≡ length old.spare
  pub list : length other.list ≡ length old.list
  pub image : length other.image ≡ length old.image

-- by staging
abbrev pub StageUnread : Type 0
StageUnread = (b : List ℕ) (reuse : Bool) (said told : Res Staged) (old other : Lent) (spare list other-spare other-list : List ℕ) → AsLong old other
    → StageCall b reuse said old spare list → StageCall b reuse told other other-spare other-list → told ≡ said

-- nor by a whole read, which keeps the same mask
abbrev pub ReadUnread : Type 0
ReadUnread = (b : List ℕ) (reuse : Bool) (said told : Res ReadTold) (old other left other-left : Lent) → AsLong old other → ReadCall b reuse said old left → ReadCall b reuse told other other-left
    → (told ≡ said) × (other-left.kept ≡ left.kept)

-- and what staging leaves is the same: a new mask, and the starts
abbrev pub StageLeaves : Type 0
StageLeaves =
    (b : List ℕ) (reuse : Bool) (found : Staged) (old other : Lent) (spare list other-spare other-list : List ℕ) → AsLong old other
    → StageCall b reuse (ok found) old spare list → StageCall b reuse (ok found) other other-spare other-list
    → (take found.blocks other-list ≡ take found.blocks list) × ((n : ℕ) → found.mask ≡ ok (mask.Spare n) → take n other-spare ≡ take n spare)

-- Publishing looks at no more of the spare than the mask's length, and of the list than its count.
abbrev pub PublishUnread : Type 0
PublishUnread =
    (b : List ℕ) (reuse : Bool) (found : Staged) (said told : Res PublishTold) (old other : Lent) (kept image other-kept other-image : List ℕ) → AsLong old other → other.image ≡ old.image
    → take (mask_length (shape_of found.header)) other.spare ≡ take (mask_length (shape_of found.header)) old.spare → take found.blocks other.list ≡ take found.blocks old.list
    → PublishCall b reuse (ok found) said old kept image → PublishCall b reuse (ok found) told other other-kept other-image
    → (told ≡ said) × (other-kept ≡ kept) × (other-image ≡ image)

pub record StagedClaims : Type 0 where
  pub refused-in-two : RefusedInTwo
  pub accepted-in-two : AcceptedInTwo
  pub meant-in-two : MeantInTwo
  pub publish-accepts : PublishAccepts
  pub publish-keeps : PublishKeeps
  pub stage-keeps : StageKeeps
  pub stage-refuses : StageRefuses
  pub stage-as-read : StageAsRead
  pub publish-refuses : PublishRefuses
  pub stage-numbers : StageNumbers
  pub publish-numbers : PublishNumbers
  pub opened-by-stage : OpenedByStage
  pub any_order : FillsAnyOrder
  pub fills-between : FillsBetween
  pub fills-then-read : FillsThenRead
  pub fills-complete : FillsComplete
  pub publish-twice : PublishTwice
  pub stage-writes : StageWrites
  pub publish-writes : PublishWrites
  pub publish-words : PublishWords
  pub stage-unread : StageUnread
  pub read-unread : ReadUnread
  pub stage-leaves : StageLeaves
  pub publish-unread : PublishUnread
