-- What upstream's files use and do not define, each name standing for a definition of ours: the float model (`num::`),
-- `ns::word`, `zb::value`, `sample::`, `mask::`, `huff::` and the header. The rest of this folder is upstream's own text, function by
-- function, under the names and in the shape it has there. Casts are left out: no number that is cast leaves its word.
-- Upstream: JD-P/verified-tiff, commit 9a6464383f, MIT licence (NOTICE).
-- Assumes nothing.
use Rattle.std.specs.Prelude.{ℕ, ◌+◌, ◌-◌, ◌/◌, ◌%◌, ◌^◌, Bool, true, false, List, length, take, drop, leb}
use Rattle.std.proofs.Math.Option.{Option, none, some}
use Rattle.lerc_words.specs.Res.{Res, ok, fail, little}
use Rattle.lerc_samples.specs.Samples.{sample_at, stored, offset_kind}
use Rattle.lerc_header.specs.declared.Header.{Header}
use Rattle.lerc_header.specs.Header.{ranges_at}
use Rattle.lerc_mask.specs.Mask.{mask_runs}
use Rattle.lerc_byte_image.specs.Table.{Table, table_at}
use Rattle.lerc_byte_image.specs.Symbols.{Symbol, symbol_at}

-- ---- upstream answers `Option` and `Result`, whose error no clause tells: an answer of ours without its number

abbrev pub said : {A B : Type 0} → (A → B) → Res A → Option B
said f (ok a) = some (f a)
said f (fail r) = none

abbrev pub is_some : {A : Type 0} → Option A → Bool
is_some (some a) = true
is_some none = false

-- `unwrap`, which upstream's functions ask only of what is there
abbrev pub unwrap : {A : Type 0} → A → Option A → A
unwrap d (some a) = a
unwrap d none = d

-- `if x.is_none(){None}else{..}`, the rest from `x.unwrap()`
abbrev pub on_some : {A B : Type 0} → Option A → (A → Option B) → Option B
on_some none f = none
on_some (some a) f = f a

-- ---- numbers

-- `usize::MAX/8`
abbrev pub length_max : ℕ
length_max = (2 ^ 64 - 1) / 8

-- `ns::word(s,at,size,true)`
abbrev pub word : List ℕ → ℕ → ℕ → ℕ
word s at size = little size s at

-- `range_ok`
abbrev pub range_ok : ℕ → ℕ → ℕ → Bool
range_ok len at size = leb (at + size) len

-- `zb::value(s,bit,n)`: n bits of s from a bit on, the lowest first. All of s is one little-endian number
unfoldable pub bits_at : List ℕ → ℕ → ℕ → ℕ
bits_at s bit n = little (length s) s 0 / 2 ^ bit % 2 ^ n

-- ---- `sample::number`, `sample::storage`, `sample::reduced`

abbrev pub number : List ℕ → ℕ → ℕ → Option ℕ
number s at kind = said (λ v. v) (sample_at kind s at)

abbrev pub storage : ℕ → ℕ → Option ℕ
storage v kind = said (λ w. w) (stored kind v)

abbrev pub reduced : ℕ → ℕ → Option ℕ
reduced kind code = said (λ k. k) (offset_kind kind code)

-- ---- `mask::result`: the runs of the section from a place on to another; `mask::valid` is `pixel_valid`

abbrev pub runs_of : List ℕ → ℕ → ℕ → ℕ → Option (List ℕ)
runs_of s at end size = said (λ m. m) (mask_runs size (take (end - at) (drop at s)))

-- ---- `huff::table(s,start)`: a table, and where it ends; `huff::symbol(s,base,p,t)`: the symbol at bit p behind `base`, and the bit behind it

pub record Parsed : Type 0 where
  pub at : ℕ
  pub table : Table

abbrev pub table : List ℕ → ℕ → Option Parsed
table s start = said (λ t. record { at = t.start; table = t }) (table_at s start)

abbrev pub symbol : List ℕ → ℕ → ℕ → Table → Option Symbol
symbol s base p t = said (λ x. x) (symbol_at s (record { range = t.range; lengths = t.lengths; codes = t.codes; start = base }) p)

-- ---- the header's `width`, `height`, `block` and `data`

abbrev pub width : Header → ℕ
width h = h.columns

abbrev pub height : Header → ℕ
height h = h.rows

abbrev pub side : Header → ℕ
side h = h.side

-- behind the mask section
abbrev pub data_at : Header → ℕ
data_at h = ranges_at h
