-- "a place with each number", and nothing else: with the place taken off (`marked 0`), each operation says and leaves what it did without places.
-- A call is any outcome that the promise of the code allows (`Calls`).
-- Assumes nothing.
use Rattle.std.specs.Prelude.{◌≡◌, ◌↔◌, Bool, List, ℕ, length}
use Rattle.lerc_words.specs.Res.{Res, ok, fail, ◌>>=◌, marked, after, accepts}
use Rattle.lerc_words.specs.Lists.{over}
use Rattle.lerc_header.specs.declared.Header.{Header}
use Rattle.lerc_header.specs.Header.{shape_of, header_says}
use Rattle.lerc_validity.specs.Validity.{MaskInForce, which, spare_with, MaskTold}
use Rattle.lerc_validity.proofs.find_mask.Reads as find-mask
use Rattle.lerc_ranges.specs.declared.Ranges.{Ranges}
use Rattle.lerc_ranges.specs.Ranges.{}
use Rattle.lerc_ranges.proofs.ranges_in.Reads as ranges_in
use Rattle.lerc_block.specs.Block.{Block}
use Rattle.lerc_image.specs.Blocks.{Chain}
use Rattle.lerc_image.specs.Paint.{scattered}
use Rattle.lerc_image.specs.Walk.{walk_count, Walk}
use Rattle.lerc_image.specs.Fill.{fill_count}
use Rattle.lerc.specs.Meaning.{Meaning, meaning}
use Rattle.lerc.specs.Read.{Lent, Masked, read_after, read_count, ReadTold}
use Rattle.lerc_theorems.specs.Calls.{Call, HeaderCall, PrepareCall, RangesCall, WalkCall, FillCall, ReadCall}
use Rattle.lerc_places.specs.Without.{ranges_in_plain, read_ranges_plain, find_plain, prepare_plain, walk_plain, fill_plain, meaning_plain, masked_plain, read_plain}

-- ---- what a place changes of any answer

-- the number of a refusal; 0 where it is none
abbrev pub number_of : {A : Type 0} → Res A → ℕ
number_of (ok a) = 0
number_of (fail why) = why.number

-- neither whether it is accepted, nor the value, nor the number, nor what is left behind
pub record OnlyPlaces (A : Type 0) : Type 0 where
  pub accepted : (p : ℕ) (m : Res A) → accepts (marked p m) ≡ accepts m
  pub value : (p : ℕ) (m : Res A) (a : A) → (marked p m ≡ ok a) ↔ (m ≡ ok a)
  pub number : (p : ℕ) (m : Res A) → number_of (marked p m) ≡ number_of m
  pub left : (p : ℕ) (m : Res A) (old : List ℕ) (new : A → List ℕ) → after (marked p m) old new ≡ after m old new

-- every type of an answer below
pub record AnyAnswer : Type 0 where
  pub header : OnlyPlaces Header
  pub mask : OnlyPlaces MaskInForce
  pub ranges : OnlyPlaces Ranges
  pub chain : OnlyPlaces Chain
  pub block : OnlyPlaces Block
  pub meaning : OnlyPlaces Meaning

-- ---- calls

-- `find_mask`, as `PrepareCall`
abbrev pub FindCall : List ℕ → Header → Bool → List ℕ → Res MaskTold → List ℕ → List ℕ → Type 0
FindCall s h reuse kept said old new =
    Call {S = List ℕ × Header × Bool × List ℕ × List ℕ} find-mask.Post (λ a. (a.0.now, a.1.0, a.1.1.0, a.1.1.1.0.now, a.1.1.1.1.0.now)) (λ r. r) (λ o. o.1.1.1.1.0.now)
    (s, h, reuse, kept, old) said new

-- `ranges_in`, as `RangesCall`
abbrev pub RangesInCall : List ℕ → Header → Res Ranges → Type 0
RangesInCall s h said = Call {S = List ℕ × Header} {T = Unit {0}} ranges_in.Post (λ a. (a.0.now, a.1.0)) (λ r. r) (λ o. tt) (s, h) said tt

-- ---- the answer with its place taken off, and what is left, are those of an answer without places

abbrev pub HeaderAsPlain : List ℕ → Res Header → Type 0
HeaderAsPlain b r = marked 0 r ≡ header_says b

abbrev pub MaskAsPlain : Res MaskInForce → Res MaskTold → List ℕ → List ℕ → Type 0
MaskAsPlain m r old new = (marked 0 r ≡ (m >>= which)) × (new ≡ after m old (λ f. spare_with f old))

abbrev pub RangesAsPlain : Res Ranges → Res Ranges → Type 0
RangesAsPlain m r = marked 0 r ≡ m

abbrev pub WalkAsPlain : Header → Res Chain → Res Walk → List ℕ → List ℕ → Type 0
WalkAsPlain h m r old new = (marked 0 r ≡ (m >>= walk_count h)) × (new ≡ after m old (λ c. over c.starts old))

abbrev pub FillAsPlain : Header → List ℕ → ℕ → Res Block → Res ℕ → List ℕ → List ℕ → Type 0
FillAsPlain h mask n m r old new = (marked 0 r ≡ (m >>= fill_count h mask n)) × (new ≡ after m old (λ k. scattered (shape_of h) mask n k.words old))

abbrev pub ReadAsPlain : Res Meaning → Res Masked → Res ReadTold → Lent → Lent → Type 0
ReadAsPlain m k r old new = (marked 0 r ≡ (m >>= read_count)) × (new ≡ read_after m k old)

-- ---- all of it

pub record Unplaced : Type 0 where
  -- a place on any answer
  pub any-answer : AnyAnswer
  -- "read header": it tells no place, so that it is its own
  pub read-header : (b : List ℕ) (r : Res Header) → HeaderCall b r → HeaderAsPlain b r
  -- "prepare a mask": the answer, and the spare afterwards; then the same in the bytes of a blob that was opened
  pub prepare-mask : (b : List ℕ) (h : Header) (reuse : Bool) (kept : List ℕ) (r : Res MaskTold) (old new : List ℕ) → PrepareCall b h reuse kept r old new → MaskAsPlain (prepare_plain b h reuse kept (length old)) r old new
  pub find-mask : (s : List ℕ) (h : Header) (reuse : Bool) (kept : List ℕ) (r : Res MaskTold) (old new : List ℕ) → FindCall s h reuse kept r old new → MaskAsPlain (find_plain s h reuse kept (length old)) r old new
  -- "read ranges": the answer, and the ranges that are handed out; then the same in the bytes of a blob that was opened
  pub read-ranges : (b : List ℕ) (h : Header) (r : Res Ranges) → RangesCall b h r → RangesAsPlain (read_ranges_plain b h) r
  pub ranges_in : (s : List ℕ) (h : Header) (r : Res Ranges) → RangesInCall s h r → RangesAsPlain (ranges_in_plain s h) r
  -- "walk": the answer, and the list afterwards
  pub walk : (b : List ℕ) (h : Header) (g : Ranges) (m : List ℕ) (r : Res Walk) (old new : List ℕ) → WalkCall b h g m r old new → WalkAsPlain h (walk_plain b h g m (length old)) r old new
  -- "fill": the answer, and the image afterwards
  pub fill : (b : List ℕ) (h : Header) (g : Ranges) (m list : List ℕ) (n : ℕ) (r : Res ℕ) (old new : List ℕ) → FillCall b h g m list n r old new → FillAsPlain h m n (fill_plain b h g m list n (length old)) r old new
  -- "whole read": the answer, and all four slices afterwards
  pub read : (b : List ℕ) (reuse : Bool) (r : Res ReadTold) (old new : Lent) → ReadCall b reuse r old new → ReadAsPlain (read_plain b reuse old) (masked_plain b reuse old) r old new
  -- and what a blob means
  pub meaning : (b : List ℕ) (reuse : Bool) (old : List ℕ) → marked 0 (meaning b reuse old) ≡ meaning_plain b reuse old
