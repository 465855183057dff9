-- "For every input a public function's promise leaves no room: answer, number, and every lent byte afterwards.": the entries for C, their records and the slice of the place included.
-- Each row is about the promise itself: `Pre` and `Post` are what the checker makes of the text of an entry's `requires` and `ensures`.
-- Assumes nothing.
use Rattle.std.specs.Prelude.{Bool, List, ℕ}
use Rattle.std.specs.Borrow.{Bor, MutBor}
use Rattle.lerc.specs.Read.{Lent}
use Rattle.lerc_pack_writer.specs.Writing.{Given}
use Rattle.lerc_c.proofs.lerc2_read_header.Reads as c-read-header
use Rattle.lerc_c.proofs.lerc2_prepare_mask.Reads as c-prepare-mask
use Rattle.lerc_c.proofs.lerc2_read_ranges.Reads as c-read-ranges
use Rattle.lerc_c.proofs.lerc2_walk.Reads as c-walk
use Rattle.lerc_c.proofs.lerc2_fill.Reads as c-fill
use Rattle.lerc_c.proofs.lerc2_read.Reads as c_read
use Rattle.lerc_c.proofs.lerc2_stage.Reads as c-stage
use Rattle.lerc_c.proofs.lerc2_publish.Reads as c-publish
use Rattle.lerc_c.proofs.lerc2_float_ready.Reads as c-ready
use Rattle.lerc_c.proofs.lerc2_sum.Reads as c-sum
use Rattle.lerc_c.proofs.lerc2_scaled.Reads as c-scaled
use Rattle.lerc_c.proofs.lerc2_narrow.Reads as c-narrow
use Rattle.lerc_c.proofs.lerc2_number.Reads as c-number
use Rattle.lerc_c.proofs.lerc2_checksum.Reads as c-checksum
use Rattle.lerc_c.proofs.lerc2_stored.Reads as c-stored
use Rattle.lerc_c.proofs.lerc2_pack_open.Reads as c-pack-open
use Rattle.lerc_c.proofs.lerc2_pack_entry.Reads as c-pack-entry
use Rattle.lerc_c.proofs.lerc2_pack_write.Reads as c-pack-write
use Rattle.lerc_theorems.specs.Promises.{Answers, Writes}

-- the slices that the C interface's whole read is lent, those of what it says and of the place among them
abbrev pub CRead : Type 0
CRead = Bor (List ℕ) × (Bool × (MutBor (List ℕ) × (MutBor (List ℕ) × (MutBor (List ℕ) × (MutBor (List ℕ) × (MutBor (List ℕ) × (MutBor (List ℕ) × Unit {0})))))))

abbrev pub c-lent : CRead → Lent × List ℕ × List ℕ
c-lent a = (record { kept = a.1.1.0.now; spare = a.1.1.1.0.now; list = a.1.1.1.1.0.now; image = a.1.1.1.1.1.0.now }, a.1.1.1.1.1.1.0.now, a.1.1.1.1.1.1.1.0.now)

-- staging is lent the same, of which it writes neither kept mask nor image
abbrev pub CStage : Type 0
CStage = Bor (List ℕ) × (Bool × (Bor (List ℕ) × (MutBor (List ℕ) × (MutBor (List ℕ) × (Bor (List ℕ) × (MutBor (List ℕ) × (MutBor (List ℕ) × Unit {0})))))))

abbrev pub c-stage-lent : CStage → Lent × List ℕ × List ℕ
c-stage-lent a = (record { kept = a.1.1.0.now; spare = a.1.1.1.0.now; list = a.1.1.1.1.0.now; image = a.1.1.1.1.1.0.now }, a.1.1.1.1.1.1.0.now, a.1.1.1.1.1.1.1.0.now)

-- what staging writes: spare, list, the record of its answer, the place
abbrev pub c-staged : CStage → List ℕ × List ℕ × List ℕ × List ℕ
c-staged o = (o.1.1.1.0.now, o.1.1.1.1.0.now, o.1.1.1.1.1.1.0.now, o.1.1.1.1.1.1.1.0.now)

-- the slices that publishing is lent: the record of an answer before the four, then what it says and the place
abbrev pub CPublish : Type 0
CPublish = Bor (List ℕ) × (Bool × (Bor (List ℕ) × (MutBor (List ℕ) × (Bor (List ℕ) × (Bor (List ℕ) × (MutBor (List ℕ) × (MutBor (List ℕ) × (MutBor (List ℕ) × Unit {0}))))))))

abbrev pub c-given : CPublish → List ℕ × Lent × List ℕ × List ℕ
c-given a = (a.1.1.0.now, record { kept = a.1.1.1.0.now; spare = a.1.1.1.1.0.now; list = a.1.1.1.1.1.0.now; image = a.1.1.1.1.1.1.0.now }, a.1.1.1.1.1.1.1.0.now, a.1.1.1.1.1.1.1.1.0.now)

-- what it writes: kept mask, image, what it says, the place
abbrev pub c-published : CPublish → List ℕ × List ℕ × List ℕ × List ℕ
c-published o = ((c-given o).1.kept, (c-given o).1.image, (c-given o).2, (c-given o).3)

abbrev pub StageFixed : Type 0
StageFixed = Writes c-stage.Pre c-stage.Post c-staged

abbrev pub PublishFixed : Type 0
PublishFixed = Writes c-publish.Pre c-publish.Post c-published

-- the slices that writing a pack is lent: the tiles, then the pack, what is said and the place
abbrev pub CWrite : Type 0
CWrite = Bor (List ℕ) × (Bor (List ℕ) × (Bor (List ℕ) × (Bor (List ℕ) × (MutBor (List ℕ) × (MutBor (List ℕ) × (MutBor (List ℕ) × Unit {0}))))))

abbrev pub c-tiles : CWrite → Given
c-tiles a = record { rows = a.0.now; columns = a.1.0.now; lengths = a.1.1.0.now; bodies = a.1.1.1.0.now }

-- what it writes: the pack, what it says, the place
abbrev pub c-written : CWrite → List ℕ × List ℕ × List ℕ
c-written o = (o.1.1.1.1.0.now, o.1.1.1.1.1.0.now, o.1.1.1.1.1.1.0.now)

abbrev pub PackOpenFixed : Type 0
PackOpenFixed = Writes {S = List ℕ × List ℕ} c-pack-open.Pre c-pack-open.Post (λ o. (o.1.0.now, o.1.1.0.now))

abbrev pub PackEntryFixed : Type 0
PackEntryFixed = Writes {S = List ℕ × List ℕ} c-pack-entry.Pre c-pack-entry.Post (λ o. (o.1.1.1.0.now, o.1.1.1.1.0.now))

abbrev pub PackWriteFixed : Type 0
PackWriteFixed = Writes c-pack-write.Pre c-pack-write.Post c-written

-- the entries of the C interface; the last slice of each that can refuse is that of the place
pub record NoRoomInC : Type 0 where
  pub read-header : Writes {S = List ℕ × List ℕ} c-read-header.Pre c-read-header.Post (λ o. (o.1.0.now, o.1.1.0.now))
  pub prepare-mask : Writes {S = List ℕ × List ℕ × List ℕ} c-prepare-mask.Pre c-prepare-mask.Post (λ o. (o.1.1.1.1.0.now, o.1.1.1.1.1.0.now, o.1.1.1.1.1.1.0.now))
  pub read-ranges : Writes {S = List ℕ × List ℕ} c-read-ranges.Pre c-read-ranges.Post (λ o. (o.1.1.0.now, o.1.1.1.0.now))
  pub walk : Writes {S = List ℕ × List ℕ × List ℕ} c-walk.Pre c-walk.Post (λ o. (o.1.1.1.1.0.now, o.1.1.1.1.1.0.now, o.1.1.1.1.1.1.0.now))
  pub fill : Writes {S = List ℕ × List ℕ × List ℕ} c-fill.Pre c-fill.Post (λ o. (o.1.1.1.1.1.1.0.now, o.1.1.1.1.1.1.1.0.now, o.1.1.1.1.1.1.1.1.0.now))
  pub read : Writes c_read.Pre c_read.Post c-lent
  pub stage : StageFixed
  pub publish : PublishFixed
  pub float-ready : Answers c-ready.Pre c-ready.Post
  pub sum : Answers c-sum.Pre c-sum.Post
  pub scaled : Answers c-scaled.Pre c-scaled.Post
  pub narrow : Answers c-narrow.Pre c-narrow.Post
  pub number : Answers c-number.Pre c-number.Post
  pub checksum : Answers c-checksum.Pre c-checksum.Post
  pub stored : Writes {S = List ℕ × List ℕ} c-stored.Pre c-stored.Post (λ o. (o.1.1.0.now, o.1.1.1.0.now))
  pub pack-open : PackOpenFixed
  pub pack-entry : PackEntryFixed
  pub pack-write : PackWriteFixed
