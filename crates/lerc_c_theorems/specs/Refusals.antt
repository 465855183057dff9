-- What a refusal leaves in the C interface, where every number but 0 is a refusal: each record and each slice as it was, the spare of a whole read or of staging and the slice of the place apart.
-- Assumes nothing.
use Rattle.std.specs.Prelude.{◌≡◌, ◌≢◌, Bool, true, false, ◌&&◌, List, ℕ, length, leb}
use Rattle.lerc.specs.Read.{Lent}
use Rattle.lerc_c.specs.Records.{staged_room}
use Rattle.lerc_c.specs.Entries.{read_room}
use Rattle.lerc_c.proofs.lerc2_read_header.Reads as read-header
use Rattle.lerc_c.proofs.lerc2_prepare_mask.Reads as prepare-mask
use Rattle.lerc_c.proofs.lerc2_read_ranges.Reads as read-ranges
use Rattle.lerc_c.proofs.lerc2_walk.Reads as walk
use Rattle.lerc_c.proofs.lerc2_fill.Reads as fill
use Rattle.lerc_c.proofs.lerc2_read.Reads as read
use Rattle.lerc_c.proofs.lerc2_stage.Reads as stage
use Rattle.lerc_c.proofs.lerc2_publish.Reads as publish
use Rattle.lerc_c.proofs.lerc2_stored.Reads as stored
use Rattle.lerc_c.proofs.lerc2_pack_open.Reads as pack-open
use Rattle.lerc_c.proofs.lerc2_pack_entry.Reads as pack-entry
use Rattle.lerc_c.proofs.lerc2_pack_write.Reads as pack-write
use Rattle.lerc_c_theorems.specs.Promises.{CRead, CStage, c-lent, c-stage-lent, c-staged, c-published, c-written}
use Rattle.lerc_theorems.specs.Refusals.{WholeKeeps}

-- a promise by which any number but 0 leaves what was lent: `before` of the inputs is `left` of the outputs
abbrev pub KeepsInC : {K A O S : Type 0} → (K → A → ℕ → O → Type 0) → (A → S) → (O → S) → Type 0
KeepsInC {K} {A} {O} Post before left = (k : K) (a : A) (n : ℕ) (x : O) → Post k a n x → n ≢ 0 → left x ≡ before a

-- there is room for the place and for what is said
abbrev pub read_has_room : CRead → Bool
read_has_room a = leb 1 (length (c-lent a).2) && leb read_room (length (c-lent a).1)

-- a whole read that is refused: where there is room the four slices are as `lerc::read` leaves them, else as they were
pub record ReadKeepsInC (a x : CRead) : Type 0 where
  pub said : (c-lent x).1 ≡ (c-lent a).1
  pub room : read_has_room a ≡ true → WholeKeeps a.0.now a.1.0 (c-lent a).0 (c-lent x).0
  pub short : read_has_room a ≡ false → (c-lent x).0 ≡ (c-lent a).0

-- there is room for the place and for the record of the answer
abbrev pub stage_has_room : CStage → Bool
stage_has_room a = leb 1 (length (c-stage-lent a).2) && leb staged_room (length (c-stage-lent a).1)

-- what was lent, with the spare that staging left
abbrev pub with_spare : CStage → List ℕ → Lent
with_spare a spare = record { kept = (c-stage-lent a).0.kept; spare = spare; list = (c-stage-lent a).0.list; image = (c-stage-lent a).0.image }

-- staging that is refused: list and record as they were; the spare where there is room as `lerc::read` leaves it, else as it was
pub record StageKeepsInC (a x : CStage) : Type 0 where
  pub list : (c-staged x).1 ≡ (c-stage-lent a).0.list
  pub staged : (c-staged x).2 ≡ (c-stage-lent a).1
  pub room : stage_has_room a ≡ true → WholeKeeps a.0.now a.1.0 (c-stage-lent a).0 (with_spare a (c-staged x).0)
  pub short : stage_has_room a ≡ false → (c-staged x).0 ≡ (c-stage-lent a).0.spare

abbrev pub StageKeeps : Type 0
StageKeeps = (k : _) (a x : CStage) (n : ℕ) → stage.Post k a n x → n ≢ 0 → StageKeepsInC a x

abbrev pub PublishKeeps : Type 0
PublishKeeps = KeepsInC {S = List ℕ × List ℕ × List ℕ} publish.Post (λ a. ((c-published a).0, (c-published a).1, (c-published a).2)) (λ o. ((c-published o).0, (c-published o).1, (c-published o).2))

abbrev pub PackOpenKeeps : Type 0
PackOpenKeeps = KeepsInC pack-open.Post (λ a. a.1.0.now) (λ o. o.1.0.now)

abbrev pub PackEntryKeeps : Type 0
PackEntryKeeps = KeepsInC pack-entry.Post (λ a. a.1.1.1.0.now) (λ o. o.1.1.1.0.now)

abbrev pub PackWriteKeeps : Type 0
PackWriteKeeps = KeepsInC {S = List ℕ × List ℕ} pack-write.Post (λ a. ((c-written a).0, (c-written a).1)) (λ o. ((c-written o).0, (c-written o).1))

pub record RefusalsKeepInC : Type 0 where
  pub read-header : KeepsInC read-header.Post (λ a. a.1.0.now) (λ o. o.1.0.now)
  pub prepare-mask : KeepsInC {S = List ℕ × List ℕ} prepare-mask.Post (λ a. (a.1.1.1.1.0.now, a.1.1.1.1.1.0.now)) (λ o. (o.1.1.1.1.0.now, o.1.1.1.1.1.0.now))
  pub read-ranges : KeepsInC read-ranges.Post (λ a. a.1.1.0.now) (λ o. o.1.1.0.now)
  pub walk : KeepsInC {S = List ℕ × List ℕ} walk.Post (λ a. (a.1.1.1.1.0.now, a.1.1.1.1.1.0.now)) (λ o. (o.1.1.1.1.0.now, o.1.1.1.1.1.0.now))
  pub fill : KeepsInC {S = List ℕ × List ℕ} fill.Post (λ a. (a.1.1.1.1.1.1.0.now, a.1.1.1.1.1.1.1.0.now)) (λ o. (o.1.1.1.1.1.1.0.now, o.1.1.1.1.1.1.1.0.now))
  pub read : (k : _) (a x : CRead) (n : ℕ) → read.Post k a n x → n ≢ 0 → ReadKeepsInC a x
  pub stage : StageKeeps
  pub publish : PublishKeeps
  pub stored : KeepsInC stored.Post (λ a. a.1.1.0.now) (λ o. o.1.1.0.now)
  pub pack-open : PackOpenKeeps
  pub pack-entry : PackEntryKeeps
  pub pack-write : PackWriteKeeps
