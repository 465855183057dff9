-- lerc_planes.rs: a law for each clause, by the rows of docs/CONTRACTS.md (section 3); and what is refused of a header.
-- Assumes nothing.
use Rattle.std.specs.Prelude.{◌≡◌, true, false, Bool, cond, ◌&&◌, List, ℕ, ◌≤◌, ◌<◌, length, take, get_or, replicate, leb}
use Rattle.lerc_words.specs.Res.{Res, ok, fail, refuse, accepts}
use Rattle.lerc_header.specs.declared.Header.{Header}
use Rattle.lerc_header.specs.declared.Extent.{Extent}
use Rattle.lerc_header.specs.Header.{fields_right, within_ceilings, held, shape_of}
use Rattle.lerc_contracts.specs.Outside.{length_max, data_at, said, is_some}
use Rattle.std.proofs.Math.Option.{none, some}
use Rattle.lerc_words.specs.declared.Refusal.{Refusal}
use Rattle.lerc_words.specs.Lists.{over}
use Rattle.lerc_numeric.specs.Numeric.{same}
use Rattle.lerc_header.specs.Shape.{pixels, mask_length}
use Rattle.lerc_mask.specs.Mask.{valid_below}
use Rattle.lerc_ranges.specs.declared.Ranges.{Ranges}
use Rattle.lerc_ranges.specs.Ranges.{ranges_end, uniform_ranges, ranges_says, coded_ranges, pairs_right, read_ranges_says, constant_words, constants_said}
use Rattle.lerc_validity.specs.Validity.{MaskTold, MaskInForce, bytes_of, kept, unrolled, mask_says, prepare_says, Prepared, in_force}
use Rattle.lerc_contracts.specs.Planes.{mask_size, count, validity, equal, ranges, constants}
use Rattle.lerc_contracts.specs.Between.{Sectioned, model}

-- what upstream asks of a header, refused
pub record HeaderRefusals (h : Header) (n : ℕ) : Type 0 where
  -- 3.9, 3.10, 3.25, 3.26, 4.2, 4.21, 4.38, 4.59, 4.72, 5.2, 5.23
  pub refused-3 : fields_right h ≡ false → held h n ≡ fail (refuse 3)
  -- 3.9, 3.25, 3.27, 4.2, 4.21, 4.38, 4.59, 4.72, 5.2, 5.23
  pub refused-4 : fields_right h ≡ true → within_ceilings h ≡ false → held h n ≡ fail (refuse 4)
  -- 3.10, 3.26
  pub refused-1 : fields_right h ≡ true → within_ceilings h ≡ true → n < h.size → held h n ≡ fail (refuse 1)

-- `validity`: its cases, then all of them (THE MASK), and what ours accepts
pub record ValidityCases (s : List ℕ) (h : Header) (old : List ℕ) (reuse : Bool) : Type 0 where
  -- 3.3
  pub validity-none : h.valid ≡ 0 → validity s h old reuse ≡ some (replicate (mask_length (shape_of h)) 0)
  -- 3.4
  pub validity-all : (h.valid ≡ 0 → ⊥) → h.valid ≡ pixels (shape_of h) → validity s h old reuse ≡ some (replicate (mask_length (shape_of h)) 255)
  -- 3.5, 3.6
  pub validity-kept : (h.valid ≡ 0 → ⊥) → (h.valid ≡ pixels (shape_of h) → ⊥) → h.mask ≡ 0 → validity s h old reuse ≡ said bytes_of (kept h reuse old)
  -- 3.7
  pub validity-runs : (h.valid ≡ 0 → ⊥) → (h.valid ≡ pixels (shape_of h) → ⊥) → (h.mask ≡ 0 → ⊥) → validity s h old reuse ≡ said bytes_of (unrolled s h)
  -- 3.8
  pub validity-is : Sectioned h → validity s h old reuse ≡ said bytes_of (mask_says s h reuse old)
  -- 3.3, 3.4
  pub validity-of : (f : MaskInForce) → mask_says s h reuse old ≡ ok f → validity s h old reuse ≡ some (bytes_of f)

-- `prepare`, from the promises of `lerc_validity::prepare_mask` and `mask_in_force`
pub record PrepareClauses (b : List ℕ) (h : Header) (reuse : Bool) (old : List ℕ) (r : Res MaskTold) (spare newer : List ℕ) : Type 0 where
  -- 3.9, 3.10
  pub prepare-held : (q : Refusal) → held h (length b) ≡ fail q → r ≡ fail q
  -- 3.11
  pub prepare-room : (e : Extent) → held h (length b) ≡ ok e → (leb e.mask (length old) && leb e.mask (length spare)) ≡ false → r ≡ fail (refuse 5)
  -- 3.12
  pub prepare-length : length newer ≡ length spare
  -- 3.15
  pub prepare-rest : (i : ℕ) → mask_size h ≤ i → get_or newer i 0 ≡ get_or spare i 0
  -- 3.13
  pub prepare-ok : (e : Extent) → held h (length b) ≡ ok e → mask_size h ≤ length old → mask_size h ≤ length spare → Sectioned h → accepts r ≡ is_some (validity (take h.size b) h old reuse)
  -- 3.14
  pub prepare-mask : (e : Extent) → held h (length b) ≡ ok e → mask_size h ≤ length old → mask_size h ≤ length spare → accepts r ≡ true → validity (take h.size b) h old reuse ≡ some (in_force r old newer)

-- `ranges`: its cases
pub record RangesCases (s : List ℕ) (h : Header) : Type 0 where
  -- 3.21
  pub ranges-alike : same h.min h.max ≡ true → ranges s h ≡ some (model (uniform_ranges h))
  -- 3.22
  pub ranges-past : same h.min h.max ≡ false → length s < ranges_end h → ranges s h ≡ none
  -- 3.23, 3.24
  pub ranges-here : same h.min h.max ≡ false → ranges_end h ≤ length s → ranges s h ≡ cond (pairs_right h.depth (coded_ranges s h)) (some (model (coded_ranges s h))) none

-- `read_ranges`, from the promise of `lerc_ranges::read_ranges`
pub record ReadRangesClauses (b : List ℕ) (h : Header) (r : Res Ranges) : Type 0 where
  -- 3.25, 3.26
  pub read-ranges-held : (q : Refusal) → held h (length b) ≡ fail q → r ≡ fail q
  -- 3.28
  pub read-ranges-ok : (e : Extent) → held h (length b) ≡ ok e → accepts r ≡ is_some (ranges (take h.size b) h)
  -- 3.29
  pub read-ranges-model : (e : Extent) → held h (length b) ≡ ok e → (g : Ranges) → r ≡ ok g → ranges (take h.size b) h ≡ some (model g)
  -- 3.30
  pub read-ranges-inside : (e : Extent) → held h (length b) ≡ ok e → (g : Ranges) → r ≡ ok g → (data_at h ≤ g.at) × (g.at ≤ length (take h.size b))

-- `convert`, from the promise of `lerc_ranges::convert`
pub record ConvertClauses (values : List ℕ) (depth kind : ℕ) (r : Res (List ℕ)) : Type 0 where
  -- 3.34
  pub convert-ok : accepts r ≡ is_some (constants values depth kind)
  -- 3.35
  pub convert-words : (words : List ℕ) → r ≡ ok words → constants values depth kind ≡ some words

pub record PlanesClauses : Type 0 where
  pub header-refusals : (h : Header) (n : ℕ) → HeaderRefusals h n
  -- 2.5, 2.22, 3.27
  pub blob-short : (b : List ℕ) (h : Header) {e : Extent} → held h (length b) ≡ ok e → length (take h.size b) ≤ length_max
  -- 3.10, 3.26
  pub blob-holds : (b : List ℕ) (h : Header) {e : Extent} → held h (length b) ≡ ok e → data_at h ≤ length (take h.size b)
  -- 3.1
  pub size_is : (h : Header) → mask_size h ≡ mask_length (shape_of h)
  -- 3.2
  pub count-is : (s : List ℕ) (n : ℕ) → count s n ≡ valid_below n s
  pub validity-cases : (s : List ℕ) (h : Header) (old : List ℕ) (reuse : Bool) → ValidityCases s h old reuse
  pub prepare-clauses : (b : List ℕ) (h : Header) (reuse : Bool) (old : List ℕ) (r : Res MaskTold) (spare newer : List ℕ) → Prepared (prepare_says b h reuse old (length spare)) r spare newer → PrepareClauses b h reuse old r spare newer
  -- 3.16
  pub equal_is : (a b : ℕ) → equal a b ≡ same a b
  -- 3.17
  pub same_ok : (a b : ℕ) (r : Bool) → r ≡ same a b → r ≡ equal a b
  pub ranges-cases : (s : List ℕ) (h : Header) → RangesCases s h
  -- 3.24
  pub ranges-is : (s : List ℕ) (h : Header) → ranges s h ≡ said model (ranges_says s h)
  pub read-ranges-clauses : (b : List ℕ) (h : Header) (r : Res Ranges) → r ≡ read_ranges_says b h → ReadRangesClauses b h r
  -- 3.31, 3.32
  pub constants-is : (values : List ℕ) (depth kind : ℕ) → depth ≤ 64 → depth ≤ length values → constants values depth kind ≡ said (λ ws. over ws (replicate 64 0)) (constant_words depth kind values)
  pub convert-clauses : (values : List ℕ) (depth kind : ℕ) (r : Res (List ℕ)) → length values ≡ 64 → r ≡ constants_said (constant_words depth kind values) → depth ≤ 64 → ConvertClauses values depth kind r
