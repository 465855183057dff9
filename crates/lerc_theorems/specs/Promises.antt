-- "For every input a public function's promise leaves no room: answer, number, and every lent byte afterwards."
-- Each row is about the promise itself: `Pre` and `Post` are what the checker makes of the text of a function's `requires` and `ensures`.
-- Assumes nothing.
use Rattle.std.specs.Prelude.{◌≡◌, Bool, List, [], ℕ, length, take}
use Rattle.std.specs.Borrow.{Bor, MutBor}
use Rattle.lerc_words.specs.declared.Refusal.{Refusal}
use Rattle.lerc_words.specs.Res.{ok, fail}
use Rattle.lerc_header.specs.Header.{shape_of}
use Rattle.lerc_header.specs.Shape.{mask_length}
use Rattle.lerc_validity.specs.Validity.{reused, new, prepare_says, first_of}
use Rattle.lerc_words.proofs.Refusal.at.Reads as refusal-at
use Rattle.lerc_words.proofs.Refusal.of.Reads as refusal-of
use Rattle.lerc_words.proofs.marked.Reads as marked
use Rattle.lerc_words.proofs.peek.Reads as peek
use Rattle.lerc_words.proofs.bytes.Reads as bytes
use Rattle.lerc_words.proofs.word.Reads as word
use Rattle.lerc_words.proofs.words.Reads as words
use mathlib.Core.Path.{refl}
use denote.RattleType.{RattleType}
use denote.Exit.{no}
use denote.Param.{arg, layout}
use denote.Param.Laws.{Laws, IsCopy, arg_laws, array_laws, of_field, arg_copy, of_copyable}
use denote.Param.Shared.{copy_shared}
use denote.Array.{Array}
use denote.Struct.Field.{u8-field, u32-field, u64-field, usize-field, unit-field}
use denote.Struct.Laws.{u8-laws as u8-of-field, u8-copy as u8-field-copy, u64-laws as u64-of-field, u64-copy as u64-field-copy}
use denote.Struct.Laws as field
use mir.Syntax.{ty_int, w8, w64}
use Rattle.std.specs.contracts.prelude.U8Clone.TheImpl as u8-clone
use Rattle.std.specs.contracts.prelude.U64Clone.TheImpl as u64-clone
use Rattle.lerc_slices.proofs.copy.Reads as copy-entries
use Rattle.lerc_slices.proofs.fill.Reads as fill-entries
use Rattle.lerc_slices.proofs.begins_with.Reads as begins-with
use Rattle.lerc_slices.proofs.all_bytes.Reads as all-bytes
use Rattle.lerc_numeric.proofs.plus.Reads as plus
use Rattle.lerc_numeric.proofs.scale.Reads as scale
use Rattle.lerc_numeric.proofs.is_finite.Reads as is_finite
use Rattle.lerc_numeric.proofs.less.Reads as less
use Rattle.lerc_numeric.proofs.same.Reads as same
use Rattle.lerc_numeric.proofs.minimum.Reads as minimum
use Rattle.lerc_numeric.proofs.size.Reads as size
use Rattle.lerc_numeric.proofs.number.Reads as number
use Rattle.lerc_numeric.proofs.narrow.Reads as narrow
use Rattle.lerc_numeric.proofs.to_integer.Reads as to-integer
use Rattle.lerc_numeric.proofs.step.Reads as step
use Rattle.lerc_numeric.proofs.twice_whole.Reads as twice-whole
use Rattle.lerc_numeric.proofs.raised.Reads as raised
use Rattle.lerc_numeric.proofs.steps.Reads as steps
use Rattle.lerc_numeric.proofs.single_steps.Reads as single-steps
use Rattle.lerc_numeric.proofs.float_ready.Reads as float-ready
use Rattle.lerc_samples.proofs.offset_kind.Reads as offset-kind
use Rattle.lerc_samples.proofs.read.Reads as read-sample
use Rattle.lerc_samples.proofs.stored.Reads as stored
use Rattle.lerc_bits.proofs.inspect.Reads as inspect
use Rattle.lerc_bits.proofs.decode.Reads as decode-counts
use Rattle.lerc_bits.proofs.decode_plan.Reads as decode-plan
use Rattle.lerc_bits.proofs.check_plan.Reads as check-plan
use Rattle.lerc_bits.proofs.check.Reads as check-counts
use Rattle.lerc_header.proofs.pair_right.Reads as pair-right
use Rattle.lerc_header.proofs.Header.held.Reads as held
use Rattle.lerc_header.proofs.open_blob.Reads as open-blob
use Rattle.lerc_header.proofs.read_header.Reads as read-header
use Rattle.lerc_mask.proofs.is_valid.Reads as is-valid
use Rattle.lerc_checksum.proofs.checksum.Reads as checksum
use Rattle.lerc_mask.proofs.count.Reads as count-valid
use Rattle.lerc_mask.proofs.count_from.Reads as count-from
use Rattle.lerc_mask.proofs.ones_word.Reads as ones-word
use Rattle.lerc_mask.proofs.decode.Reads as decode-mask
use Rattle.lerc_mask.proofs.compare.Reads as compare-runs
use Rattle.lerc_mask.proofs.byte_from.Reads as byte-from
use Rattle.lerc_validity.proofs.prepare_mask.Reads as prepare-mask
use Rattle.lerc_validity.proofs.find_mask.Reads as find-mask
use Rattle.lerc_validity.proofs.compare_mask.Reads as compare-mask
use Rattle.lerc_validity.proofs.mask_in_force.Reads as mask-in-force
use Rattle.lerc_ranges.proofs.pairs.Reads as pairs
use Rattle.lerc_ranges.proofs.ranges_in.Reads as ranges_in
use Rattle.lerc_ranges.proofs.read_ranges.Reads as read-ranges
use Rattle.lerc_ranges.proofs.convert.Reads as convert
use Rattle.lerc_block.proofs.plan_end.Reads as block-plan-end
use Rattle.lerc_block.proofs.inspect_block.Reads as inspect-block
use Rattle.lerc_block.proofs.block_end.Reads as block-end
use Rattle.lerc_block.proofs.read_block.Reads as read-block
use Rattle.lerc_block.proofs.check_block.Reads as check-block
use Rattle.lerc_sweep.proofs.read_sweep.Reads as read-sweep
use Rattle.lerc_image.proofs.walk.Reads as walk
use Rattle.lerc_image.proofs.fill.Reads as fill
use Rattle.lerc_image.proofs.check_tiles.Reads as check-tiles
use Rattle.lerc_image.proofs.check_own_tiles.Reads as check-own-tiles
use Rattle.lerc_image.proofs.list_tiles.Reads as list-tiles
use Rattle.lerc_image.proofs.are_listed.Reads as are-listed
use Rattle.lerc_image.proofs.fill_tiles.Reads as fill-tiles
use Rattle.lerc_validity.specs.declared.Mask.TheVariants as mask
use Rattle.lerc_image.proofs.write_tiles.Reads as write-tiles
use Rattle.lerc_image.proofs.decode_tiles.Reads as decode-tiles
use Rattle.lerc_byte_image.proofs.check.Reads as check-huffman
use Rattle.lerc_byte_image.proofs.write.Reads as write-huffman
use Rattle.lerc_fills.proofs.fill_each.Reads as fill-each
use Rattle.lerc.specs.Read.{Lent}
use Rattle.lerc.proofs.stage.Reads as stage
use Rattle.lerc.proofs.publish.Reads as publish
use Rattle.lerc.proofs.read.Reads as read
use Rattle.lerc_fields.proofs.quad.Reads as quad
use Rattle.lerc_fields.proofs.fields.Reads as fields
use Rattle.lerc_text.proofs.put_line.Reads as put-line
use Rattle.lerc_text.proofs.put_refusal.Reads as put-refusal
use Rattle.lerc_text.proofs.put_shape.Reads as put-shape
use Rattle.lerc_text.proofs.put_cells.Reads as put-cells
use Rattle.lerc_bits.specs.contracts.Plan as plan-type
use Rattle.lerc_bits.proofs.Plan.TheLaws as plan-laws
use Rattle.lerc_bits.specs.contracts.Counts as counts-type
use Rattle.lerc_bits.proofs.Counts.TheLaws as counts-laws
use Rattle.lerc_header.specs.contracts.Header as header-type
use Rattle.lerc_header.proofs.Header.TheLaws as header-laws
use Rattle.lerc_header.specs.contracts.Extent as extent-type
use Rattle.lerc_header.proofs.Extent.TheLaws as extent-laws
use Rattle.lerc_header.specs.contracts.Opened as opened-type
use Rattle.lerc_header.proofs.Opened.TheLaws as opened-laws
use Rattle.lerc_mask.specs.contracts.compared.RunsFound as runs-found-type
use Rattle.lerc_mask.proofs.compared.RunsFound.TheLaws as runs-found-laws
use Rattle.lerc_validity.specs.contracts.Mask as mask-type
use Rattle.lerc_validity.proofs.Mask.TheLaws as mask-laws
use Rattle.lerc_validity.specs.contracts.compared.MaskFound as mask-found-type
use Rattle.lerc_validity.proofs.compared.MaskFound.TheLaws as mask-found-laws
use Rattle.lerc_ranges.specs.contracts.Ranges as ranges-type
use Rattle.lerc_ranges.proofs.Ranges.TheLaws as ranges-laws
use Rattle.lerc_block.specs.contracts.plan.BlockPlan as block-plan-type
use Rattle.lerc_block.proofs.plan.BlockPlan.TheLaws as block-plan-laws
use Rattle.lerc_sweep.specs.contracts.Way as way-type
use Rattle.lerc_sweep.proofs.Way.TheLaws as way-laws
use Rattle.lerc_image.specs.contracts.Walked as walked-type
use Rattle.lerc_image.proofs.Walked.TheLaws as walked-laws
use Rattle.lerc.specs.contracts.Staged as staged-type
use Rattle.lerc.proofs.Staged.TheLaws as staged-laws
use Rattle.lerc.specs.contracts.Published as published-type
use Rattle.lerc.proofs.Published.TheLaws as published-laws
use Rattle.lerc.specs.contracts.Whole as whole-type
use Rattle.lerc.proofs.Whole.TheLaws as whole-laws

-- A function's promise: `Pre lives inputs` is what it asks, `Post lives inputs answer outputs` what it gives; the outputs are the inputs at exit.
-- `told` is the answer as a caller sees it, `left` is what the slices hold that were lent to be written.
pub record Fixed {K A R O B S : Type 0} (Pre : K → A → Type 0) (Post : K → A → R → O → Type 0) (told : R → B) (left : O → S) : Type 0 where
  -- "For every input": it asks nothing
  pub asks_nothing : (k : K) (a : A) → Pre k a
  -- "any two outcomes it allows coincide"
  pub same : (k : K) (a : A) (r q : R) (x y : O) → Post k a r x → Post k a q y → (told r ≡ told q) × (left x ≡ left y)

-- a function that is lent nothing to write
abbrev pub Answers : {K A R O : Type 0} → (K → A → Type 0) → (K → A → R → O → Type 0) → Type 0
Answers Pre Post = Fixed {S = Unit {0}} Pre Post (λ r. r) (λ o. tt)

-- a function that writes to slices
abbrev pub Writes : {K A R O S : Type 0} → (K → A → Type 0) → (K → A → R → O → Type 0) → (O → S) → Type 0
Writes Pre Post left = Fixed Pre Post (λ r. r) left

-- "handed back as a part of the kept mask (reuse) or of the spare (otherwise)": which, and how long
pub record HandedBack : Type 0 where
  -- which was in force, and how long: the kept mask exactly where a mask is reused
  pub reuse : (k : _) (a : _) (r : _) (x : _) (m : List ℕ) → prepare-mask.Post k a r x → prepare_says a.0.now a.1.0 a.1.1.0 a.1.1.1.0.now (length a.1.1.1.1.0.now) ≡ ok (reused m)
      → (r ≡ ok (mask.Kept (mask_length (shape_of a.1.0)))) × (m ≡ take (mask_length (shape_of a.1.0)) a.1.1.1.0.now)
  pub otherwise : (k : _) (a : _) (r : _) (x : _) (m : List ℕ) → prepare-mask.Post k a r x → prepare_says a.0.now a.1.0 a.1.1.0 a.1.1.1.0.now (length a.1.1.1.1.0.now) ≡ ok (new m)
      → (r ≡ ok (mask.Spare (mask_length (shape_of a.1.0)))) × (m ≡ take (mask_length (shape_of a.1.0)) x.1.1.1.1.0.now)
  -- the part: where it stands, and what it holds
  pub kept : (k : _) (a : _) (r : _) (x : _) (n : ℕ) → mask-in-force.Post k a r x → a.1.1.0 ≡ ok (mask.Kept n) → (r.ref_ptr ≡ a.0.ref_ptr) × (r.now ≡ first_of n a.0.now)
  pub spare : (k : _) (a : _) (r : _) (x : _) (n : ℕ) → mask-in-force.Post k a r x → a.1.1.0 ≡ ok (mask.Spare n) → (r.ref_ptr ≡ a.1.0.ref_ptr) × (r.now ≡ first_of n a.1.0.now)
  -- "a part to be handed back is then empty"
  pub refused : (k : _) (a : _) (r : _) (x : _) (why : Refusal) → mask-in-force.Post k a r x → a.1.1.0 ≡ fail why → (r.ref_ptr ≡ a.0.ref_ptr) × (r.now ≡ [])

-- the slices that a whole read is lent, among its inputs or its outputs
abbrev pub Read : Type 0
Read = Bor (List ℕ) × (Bool × (MutBor (List ℕ) × (MutBor (List ℕ) × (MutBor (List ℕ) × (MutBor (List ℕ) × Unit {0})))))

abbrev pub lent : Read → Lent
lent a = record { kept = a.1.1.0.now; spare = a.1.1.1.0.now; list = a.1.1.1.1.0.now; image = a.1.1.1.1.1.0.now }

-- the types of the entries that `copy` and `fill` are called with
abbrev pub u8 : RattleType
u8 = arg (ty_int w8) no u8-field.row

abbrev pub u8-laws : Laws u8
u8-laws = arg_laws (ty_int w8) no u8-field.row (of_field u8-field u8-of-field refl (copy_shared u8-field u8-field-copy)) refl

abbrev pub u8-copy : IsCopy u8
u8-copy = arg_copy (ty_int w8) no u8-field.row (of_copyable u8-field u8-field-copy) refl

abbrev pub u64 : RattleType
u64 = arg (ty_int w64) no u64-field.row

abbrev pub u64-laws : Laws u64
u64-laws = arg_laws (ty_int w64) no u64-field.row (of_field u64-field u64-of-field refl (copy_shared u64-field u64-field-copy)) refl

abbrev pub u64-copy : IsCopy u64
u64-copy = arg_copy (ty_int w64) no u64-field.row (of_copyable u64-field u64-field-copy) refl

-- what an answer holds, as a call hands its type to a function over any answer
abbrev pub passed : RattleType → RattleType
passed R = arg (layout R) no R

abbrev pub passed-laws : (R : RattleType) → Laws R → Laws (passed R)
passed-laws R L = arg_laws (layout R) no R L refl

abbrev pub u32-row-laws : Laws u32-field.row
u32-row-laws = of_field u32-field field.u32-laws refl (copy_shared u32-field field.u32-copy)

abbrev pub u64-row-laws : Laws u64-field.row
u64-row-laws = of_field u64-field field.u64-laws refl (copy_shared u64-field field.u64-copy)

abbrev pub usize-row-laws : Laws usize-field.row
usize-row-laws = of_field usize-field field.usize-laws refl (copy_shared usize-field field.usize-copy)

abbrev pub unit-row-laws : Laws unit-field.row
unit-row-laws = of_field unit-field field.unit-laws refl (copy_shared unit-field field.unit-copy)

-- why an answer was refused, and the answer refused at a place: at one type that an answer holds
abbrev pub Why : (R : RattleType) → Laws R → Type 0
Why R L = Answers (refusal-of.Pre (passed R) (passed-laws R L)) (refusal-of.Post (passed R) (passed-laws R L))

abbrev pub Marks : (R : RattleType) → Laws R → Type 0
Marks R L = Answers (marked.Pre (passed R) (passed-laws R L)) (marked.Post (passed R) (passed-laws R L))

-- the two functions over any answer, whatever it holds where it was accepted, if that lends nothing
abbrev pub AnyAnswer : Type 2
AnyAnswer = (T : RattleType) (L : Laws T) → T.lives ≡ [] → Answers (refusal-of.Pre T L) (refusal-of.Post T L) × Answers (marked.Pre T L) (marked.Post T L)

-- all public functions, from the ground up; the entries for C and the program's `answer` have claims of their own
pub record NoRoom : Type 2 where
  -- lerc_words
  pub refusal-at : Answers refusal-at.Pre refusal-at.Post
  -- over any answer, and at each type that an answer of these crates holds
  pub any-answer : AnyAnswer
  pub word-refusal : Why u64-field.row u64-row-laws
  pub marked-word : Marks u64-field.row u64-row-laws
  pub peek : Answers peek.Pre peek.Post
  pub bytes : Answers bytes.Pre bytes.Post
  pub word : Answers word.Pre word.Post
  pub words : Writes words.Pre words.Post (λ o. o.1.1.1.0.now)
  -- lerc_slices
  pub copy-bytes : Writes (copy-entries.Pre u8 u8-laws u8-copy u8-clone.ghosts u8-clone.dict) (copy-entries.Post u8 u8-laws u8-copy u8-clone.ghosts u8-clone.dict) (λ o. o.1.0.now)
  pub copy-words : Writes (copy-entries.Pre u64 u64-laws u64-copy u64-clone.ghosts u64-clone.dict) (copy-entries.Post u64 u64-laws u64-copy u64-clone.ghosts u64-clone.dict) (λ o. o.1.0.now)
  pub fill-bytes : Writes (fill-entries.Pre u8 u8-laws u8-copy u8-clone.ghosts u8-clone.dict) (fill-entries.Post u8 u8-laws u8-copy u8-clone.ghosts u8-clone.dict) (λ o. o.1.0.now)
  pub fill-words : Writes (fill-entries.Pre u64 u64-laws u64-copy u64-clone.ghosts u64-clone.dict) (fill-entries.Post u64 u64-laws u64-copy u64-clone.ghosts u64-clone.dict) (λ o. o.1.0.now)
  pub begins-with : Answers begins-with.Pre begins-with.Post
  pub all-bytes : Answers all-bytes.Pre all-bytes.Post
  -- lerc_checksum
  pub checksum : Answers checksum.Pre checksum.Post
  -- lerc_numeric
  pub integer-refusal : Why u64-field.row u64-row-laws
  pub plus : Answers plus.Pre plus.Post
  pub scale : Answers scale.Pre scale.Post
  pub is_finite : Answers is_finite.Pre is_finite.Post
  pub less : Answers less.Pre less.Post
  pub same : Answers same.Pre same.Post
  pub minimum : Answers minimum.Pre minimum.Post
  pub size : Answers size.Pre size.Post
  pub number : Answers number.Pre number.Post
  pub narrow : Answers narrow.Pre narrow.Post
  pub to-integer : Answers to-integer.Pre to-integer.Post
  pub step : Answers step.Pre step.Post
  pub twice-whole : Answers twice-whole.Pre twice-whole.Post
  pub raised : Answers raised.Pre raised.Post
  pub steps : Writes steps.Pre steps.Post (λ o. o.1.1.1.1.1.0.now)
  pub single-steps : Writes single-steps.Pre single-steps.Post (λ o. o.1.1.1.1.1.0.now)
  pub float-ready : Answers float-ready.Pre float-ready.Post
  -- lerc_samples
  pub offset-refusal : Why u32-field.row u32-row-laws
  pub sample-refusal : Why u64-field.row u64-row-laws
  pub stored-refusal : Why u64-field.row u64-row-laws
  pub offset-kind : Answers offset-kind.Pre offset-kind.Post
  pub read-sample : Answers read-sample.Pre read-sample.Post
  pub stored : Answers stored.Pre stored.Post
  -- lerc_bits
  pub plan-refusal : Why plan-type.the_row plan-laws.the_row_laws
  pub marked-plan : Marks plan-type.the_row plan-laws.the_row_laws
  pub counts-refusal : Why counts-type.the_row counts-laws.the_row_laws
  pub marked-counts : Marks counts-type.the_row counts-laws.the_row_laws
  pub inspect : Answers inspect.Pre inspect.Post
  pub decode-plan : Writes decode-plan.Pre decode-plan.Post (λ o. o.1.1.0.now)
  pub check-plan : Answers check-plan.Pre check-plan.Post
  pub decode-counts : Writes decode-counts.Pre decode-counts.Post (λ o. o.1.1.0.now)
  pub check-counts : Answers check-counts.Pre check-counts.Post
  -- lerc_header
  pub header-refusal : Why header-type.the_row header-laws.the_row_laws
  pub held-refusal : Why extent-type.the_row extent-laws.the_row_laws
  pub open-refusal : Why opened-type.the_row opened-laws.the_row_laws
  pub pair-right : Answers pair-right.Pre pair-right.Post
  pub held : Answers held.Pre held.Post
  pub open-blob : Answers open-blob.Pre open-blob.Post
  pub read-header : Answers read-header.Pre read-header.Post
  -- lerc_mask
  pub runs-refusal : Why usize-field.row usize-row-laws
  pub marked-runs : Marks usize-field.row usize-row-laws
  pub runs-found-refusal : Why runs-found-type.the_row runs-found-laws.the_row_laws
  pub marked-runs-found : Marks runs-found-type.the_row runs-found-laws.the_row_laws
  pub is-valid : Answers is-valid.Pre is-valid.Post
  pub count-valid : Answers count-valid.Pre count-valid.Post
  pub count-from : Answers count-from.Pre count-from.Post
  pub ones-word : Answers ones-word.Pre ones-word.Post
  pub decode-mask : Writes decode-mask.Pre decode-mask.Post (λ o. o.1.1.1.0.now)
  pub compare-runs : Answers compare-runs.Pre compare-runs.Post
  pub byte-from : Answers byte-from.Pre byte-from.Post
  -- lerc_validity and lerc_ranges
  pub mask-refusal : Why mask-type.the_row mask-laws.the_row_laws
  pub marked-mask : Marks mask-type.the_row mask-laws.the_row_laws
  pub mask-found-refusal : Why mask-found-type.the_row mask-found-laws.the_row_laws
  pub marked-mask-found : Marks mask-found-type.the_row mask-found-laws.the_row_laws
  pub ranges-refusal : Why ranges-type.the_row ranges-laws.the_row_laws
  pub pairs-refusal : Why unit-field.row unit-row-laws
  pub constants-refusal : Why (Array u64-field.row 64) (array_laws u64-field.row u64-row-laws 64)
  pub prepare-mask : Writes prepare-mask.Pre prepare-mask.Post (λ o. o.1.1.1.1.0.now)
  pub find-mask : Writes find-mask.Pre find-mask.Post (λ o. o.1.1.1.1.0.now)
  pub compare-mask : Answers compare-mask.Pre compare-mask.Post
  -- a part of a slice: what it holds, and where it stands
  pub mask-in-force : Fixed {B = List ℕ × (ℕ × ℕ)} {S = Unit {0}} mask-in-force.Pre mask-in-force.Post (λ r. (r.now, r.ref_ptr)) (λ o. tt)
  pub pairs : Answers pairs.Pre pairs.Post
  pub ranges_in : Answers ranges_in.Pre ranges_in.Post
  pub read-ranges : Answers read-ranges.Pre read-ranges.Post
  pub convert : Answers convert.Pre convert.Post
  -- lerc_block
  pub block-refusal : Why usize-field.row usize-row-laws
  pub marked-block : Marks usize-field.row usize-row-laws
  pub block-plan-refusal : Why block-plan-type.the_row block-plan-laws.the_row_laws
  pub marked-block-plan : Marks block-plan-type.the_row block-plan-laws.the_row_laws
  pub block-plan-end : Answers block-plan-end.Pre block-plan-end.Post
  pub inspect-block : Answers inspect-block.Pre inspect-block.Post
  pub block-end : Answers block-end.Pre block-end.Post
  pub read-block : Writes read-block.Pre read-block.Post (λ o. o.1.1.1.1.1.1.1.0.now)
  pub check-block : Answers check-block.Pre check-block.Post
  -- lerc_sweep
  pub way-refusal : Why way-type.the_row way-laws.the_row_laws
  pub read-sweep : Answers read-sweep.Pre read-sweep.Post
  -- lerc_image
  pub walk-refusal : Why walked-type.the_row walked-laws.the_row_laws
  pub fill-refusal : Why usize-field.row usize-row-laws
  pub walk : Writes walk.Pre walk.Post (λ o. o.1.1.1.1.0.now)
  pub fill : Writes fill.Pre fill.Post (λ o. o.1.1.1.1.1.1.0.now)
  pub check-tiles : Answers check-tiles.Pre check-tiles.Post
  pub check-own-tiles : Answers check-own-tiles.Pre check-own-tiles.Post
  pub list-tiles : Writes list-tiles.Pre list-tiles.Post (λ o. o.1.1.1.1.0.now)
  pub are-listed : Answers are-listed.Pre are-listed.Post
  pub fill-tiles : Writes fill-tiles.Pre fill-tiles.Post (λ o. o.1.1.1.1.1.0.now)
  pub write-tiles : Writes {S = List ℕ × List ℕ} write-tiles.Pre write-tiles.Post (λ o. (o.1.1.1.1.1.0.now, o.1.1.1.1.1.1.0.now))
  pub decode-tiles : Writes {S = List ℕ × List ℕ} decode-tiles.Pre decode-tiles.Post (λ o. (o.1.1.1.1.1.0.now, o.1.1.1.1.1.1.0.now))
  -- lerc_byte_image
  pub end-refusal : Why usize-field.row usize-row-laws
  pub marked-end : Marks usize-field.row usize-row-laws
  pub check-huffman : Answers check-huffman.Pre check-huffman.Post
  pub write-huffman : Writes write-huffman.Pre write-huffman.Post (λ o. o.1.1.1.1.1.0.now)
  -- lerc_fills
  pub fill-each : Writes fill-each.Pre fill-each.Post (λ o. o.1.1.1.1.1.1.0.now)
  -- lerc
  pub stage-refusal : Why staged-type.the_row staged-laws.the_row_laws
  pub publish-refusal : Why published-type.the_row published-laws.the_row_laws
  pub read-refusal : Why whole-type.the_row whole-laws.the_row_laws
  -- spare and list; image and kept mask are lent to be looked at alone
  pub stage : Writes {S = List ℕ × List ℕ} stage.Pre stage.Post (λ o. (o.1.1.1.0.now, o.1.1.1.1.0.now))
  -- kept mask and image; spare and list are lent to be looked at alone
  pub publish : Writes {S = List ℕ × List ℕ} publish.Pre publish.Post (λ o. (o.1.1.1.0.now, o.1.1.1.1.1.1.0.now))
  pub read : Writes read.Pre read.Post lent
  -- lerc_fields
  pub quad : Answers quad.Pre quad.Post
  pub fields : Answers fields.Pre fields.Post
  -- lerc_text
  pub put-line : Writes put-line.Pre put-line.Post (λ o. o.0.now)
  pub put-refusal : Writes put-refusal.Pre put-refusal.Post (λ o. o.0.now)
  pub put-shape : Writes put-shape.Pre put-shape.Post (λ o. o.0.now)
  pub put-cells : Writes put-cells.Pre put-cells.Post (λ o. o.0.now)
