-- The records of the C interface: arrays of 64-bit numbers that stand for a header, for ranges, for an answer of staging or for what an entry says.
-- Assumes nothing.
use Rattle.std.specs.Prelude.{ℕ, ◌+◌, ◌^◌, Bool, cond, ◌&&◌, List, [], ◌∷◌, ◌++◌, get_or, take, drop, ltb, eqb}
use Rattle.lerc_words.specs.declared.Refusal.{Refusal}
use Rattle.lerc_words.specs.Res.{Res, ok, fail, ◌>>=◌, refuse, require}
use Rattle.lerc_header.specs.declared.Header.{Header}
use Rattle.lerc_header.specs.Limits.{depth_limit}
use Rattle.lerc_ranges.specs.declared.Ranges.{Ranges}
use Rattle.lerc.specs.declared.BodyKind.{BodyKind}
use Rattle.lerc.specs.declared.BodyKind.TheVariants as kind
use Rattle.lerc.specs.declared.Staged.{Staged}
use Rattle.lerc.specs.Stage.{kind_number}
use Rattle.lerc_validity.specs.declared.Mask.TheVariants as mask
use Rattle.lerc_validity.specs.Validity.{MaskTold}

-- why an entry refuses: number 0, at 0, where it accepts
abbrev pub why_of : {A : Type 0} → Res A → Refusal
why_of (ok a) = refuse 0
why_of (fail r) = r

-- what it returns: 0 where it accepts, else the number of the refusal
abbrev pub number_of : {A : Type 0} → Res A → ℕ
number_of m = (why_of m).number

-- ---- a header: eleven numbers

abbrev pub header_room : ℕ
header_room = 11

abbrev pub header_numbers : Header → List ℕ
header_numbers h =
    h.rows ∷ h.columns ∷ h.depth ∷ h.valid ∷ h.side ∷ h.size ∷ h.kind
    ∷ h.error ∷ h.min ∷ h.max ∷ h.mask ∷ []

-- a field of 32 bits holds it
abbrev pub narrow : ℕ → Bool
narrow n = ltb n (2 ^ 32)

-- every number of a header fits its field; error, minimum and maximum have 64 bits
unfoldable pub fields_fit : List ℕ → Bool
fields_fit l =
    narrow (get_or l 0 0) && narrow (get_or l 1 0) && narrow (get_or l 2 0) && narrow (get_or l 3 0)
    && narrow (get_or l 4 0) && narrow (get_or l 5 0) && narrow (get_or l 6 0) && narrow (get_or l 10 0)

abbrev pub header_at : List ℕ → Header
header_at l =
    record {
      rows = get_or l 0 0;
      columns = get_or l 1 0;
      depth = get_or l 2 0;
      valid = get_or l 3 0;
      side = get_or l 4 0;
      size = get_or l 5 0;
      kind = get_or l 6 0;
      error = get_or l 7 0;
      min = get_or l 8 0;
      max = get_or l 9 0;
      mask = get_or l 10 0;
    }

-- a number that its field cannot hold: 3
unfoldable pub header_from : List ℕ → Res Header
header_from l = do
  _ ← require (fields_fit l) 3
  ok (header_at l)

-- ---- ranges: the body's place, the constant mark, minima, maxima

-- where the maxima stand
abbrev pub maxima_place : ℕ
maxima_place = 2 + depth_limit

abbrev pub ranges_room : ℕ
ranges_room = maxima_place + depth_limit

abbrev pub ranges_numbers : Ranges → List ℕ
ranges_numbers r = r.at ∷ cond r.constant 1 0 ∷ (r.min ++ r.max)

abbrev pub ranges_in : List ℕ → Ranges
ranges_in l = record { at = get_or l 0 0; constant = eqb (get_or l 1 0) 1; min = take depth_limit (drop 2 l); max = take depth_limit (drop maxima_place l) }

-- a constant mark that is neither 0 nor 1: 3
unfoldable pub ranges_from : List ℕ → Res Ranges
ranges_from l = do
  _ ← require (ltb (get_or l 1 0) 2) 3
  ok (ranges_in l)

-- ---- an answer of staging: the header's numbers, the count of blocks, the end, the kind of body, which mask is in force and how long it is

abbrev pub staged_room : ℕ
staged_room = header_room + 5

-- 1 for the kept mask, 2 for the spare; staging answers with no other
abbrev pub mask_number : Res MaskTold → ℕ
mask_number (ok (mask.Kept n)) = 1
mask_number (ok (mask.Spare n)) = 2
mask_number (fail r) = 0

abbrev pub mask_length : Res MaskTold → ℕ
mask_length (ok (mask.Kept n)) = n
mask_length (ok (mask.Spare n)) = n
mask_length (fail r) = 0

abbrev pub staged_numbers : Staged → List ℕ
staged_numbers s =
    header_numbers s.header ++ (s.blocks ∷ s.end ∷ kind_number s.body ∷ mask_number s.mask ∷ mask_length s.mask ∷ [])

-- the kind of body that a number below 5 stands for
unfoldable pub kind_from : ℕ → BodyKind
kind_from n = cond (eqb n 0) kind.Empty (cond (eqb n 1) kind.Constant (cond (eqb n 2) kind.Raw (cond (eqb n 3) kind.Blocks kind.Huffman)))

-- the mask that 1 or 2 stands for
unfoldable pub mask_from : ℕ → ℕ → MaskTold
mask_from which n = cond (eqb which 1) (mask.Kept n) (mask.Spare n)

-- a kind of body above 4, or a mask that is neither 1 nor 2, is none
unfoldable pub names_right : List ℕ → Bool
names_right l = ltb (get_or l 13 0) 5 && ltb 0 (get_or l 14 0) && ltb (get_or l 14 0) 3

unfoldable pub staged_in : List ℕ → Res Staged
staged_in l = do
  h ← header_from l
  _ ← require (names_right l) 3
  ok (record { header = h; body = kind_from (get_or l 13 0); blocks = get_or l 11 0; end = get_or l 12 0; mask = ok (mask_from (get_or l 14 0) (get_or l 15 0)) })

-- a record that is no answer stands for a refused one
abbrev pub answer_in : Res Staged → Res Staged
answer_in (ok s) = ok s
answer_in (fail r) = fail (refuse 0)

abbrev pub staged_from : List ℕ → Res Staged
staged_from l = answer_in (staged_in l)
