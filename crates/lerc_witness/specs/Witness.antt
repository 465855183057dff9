-- No promise is empty: a blob or call for each refusal number, for each rule of its place and for each kind of body, computed by the checker.
-- Assumes nothing.
use Rattle.std.specs.Prelude.{ℕ, ◌+◌, ◌≡◌, refl, true, false, List, [], ◌∷◌, ◌++◌, length, replicate, take, drop}
use Rattle.std.specs.Float.Ieee.{size, span, climb}
use Rattle.lerc_words.specs.declared.Refusal.{Refusal}
use Rattle.lerc_words.specs.Res.{Res, ok, fail, ◌>>=◌, refuse, placed, word_at, little, each}
use Rattle.lerc_words.specs.Lists.{from, count, all_to}
use Rattle.lerc_numeric.specs.Numeric.{mag, code, sum, counted_sum, scaled, less, same, lesser}
use Rattle.lerc_numeric.specs.Kinds.{integer, widened, value_of, whole, cut}
use Rattle.lerc_numeric.specs.Steps.{step_of}
use Rattle.lerc_samples.specs.Samples.{sample_at, stored, offset_kinds, offset_kind}
use Rattle.lerc_bits.specs.Bits.{tabled, plan, digits, chosen, looked_up, values_of, unpacked, counts}
use Rattle.lerc_bits.specs.Packing.{bytes_of as bytes}
use Rattle.lerc_mask.specs.Mask.{pixel_valid, valid_from, copy_at, repeat_at, end_at, signed_at, step_at, runs, coded}
use Rattle.lerc_checksum.specs.Checksum.{word, half, fold, sums_to, closed_to, with_last, joined, checksum}
use Rattle.lerc_header.specs.Shape.{strips}
use Rattle.lerc_header.specs.Header.{error_right, pair_right, fields_right, within_ceilings, held, key_right, header_of, checksum_right, header_says}
use Rattle.lerc_validity.specs.Validity.{uniform, kept, unrolled, mask_in}
use Rattle.lerc_ranges.specs.declared.Ranges.{Ranges}
use Rattle.lerc_ranges.specs.Ranges.{uniform_ranges, number_at, by_depth, coded_ranges, pairs_right, first_wrong, wrong_number_at, ranges_says, read_ranges_says, constant_words}
use Rattle.lerc_block.specs.Block.{raw_words, level_block, stepped_block, offset_at, finite_offset, offset_block, formed, flag_at, block_says}
use Rattle.lerc_image.specs.Geometry.{tile_of, pixel_of, block_of, place_in, rank, is_valid_cell}
use Rattle.lerc_image.specs.Paint.{painted, index_of}
use Rattle.lerc_sweep.specs.Sweep.{mode_byte, moded, sweep_byte, swept}
use Rattle.lerc_image.specs.Blocks.{block_at, chain}
use Rattle.lerc_image.specs.Fill.{fill_says}
use Rattle.lerc_image.specs.Walk.{way_walked, body_walked, walk_says}
use Rattle.lerc.specs.Meaning.{raw_body, block_body, swept_body, constant_body, body_says, cell_word, meaning_from, starts_of, end_of}
use Rattle.lerc.specs.Read.{Lent, room, masked, read_says, published, refused_after, read_after}
use Rattle.lerc_slices.specs.Slices.{begins_with}
use Rattle.lerc.specs.declared.Staged.{Staged}
use Rattle.lerc.specs.Stage.{kind_number, stage_says, same_staged, publish_says}

pub record Fields : Type 0 where
  pub rows : ℕ
  pub columns : ℕ
  pub depth : ℕ
  pub valid : ℕ
  pub side : ℕ
  pub kind : ℕ
  pub error : ℕ
  pub min : ℕ
  pub max : ℕ
  pub mask : List ℕ
  pub rest : List ℕ

-- key, version and a checksum, and the bytes that it is of
abbrev pub sealed : ℕ → List ℕ → List ℕ
sealed stored summed = 76 ∷ 101 ∷ 114 ∷ 99 ∷ 50 ∷ 32 ∷ 4 ∷ 0 ∷ 0 ∷ 0 ∷ [] ++ bytes 4 stored ++ summed

-- a blob with these fields, its size the true one: the bytes behind the checksum
abbrev pub unsealed : Fields → List ℕ
unsealed f =
    bytes 4 f.rows ++ bytes 4 f.columns ++ bytes 4 f.depth ++ bytes 4 f.valid ++ bytes 4 f.side
    ++ bytes 4 (70 + length f.mask + length f.rest) ++ bytes 4 f.kind
    ++ bytes 8 f.error ++ bytes 8 f.min ++ bytes 8 f.max ++ bytes 4 (length f.mask) ++ f.mask ++ f.rest

-- and with its true checksum
abbrev pub blob : Fields → List ℕ
blob f = let summed = unsealed f in sealed (checksum summed) summed

-- 1 row, 3 columns, depth 1, kind 1 (u8), error 0.5
abbrev pub row : ℕ → ℕ → ℕ → ℕ → List ℕ → List ℕ → List ℕ
row side valid low high section body = blob (record {
  rows = 1;
  columns = 3;
  depth = 1;
  valid = valid;
  side = side;
  kind = 1;
  error = 0x3FE0000000000000;
  min = low;
  max = high;
  mask = section;
  rest = body;
})

abbrev pub ten : ℕ
ten = 0x4024000000000000

abbrev pub twelve : ℕ
twelve = 0x4028000000000000

abbrev pub three_hundred : ℕ
three_hundred = 0x4072C00000000000

-- the whole blob of the rules, 79 bytes
abbrev pub whole-blob : List ℕ
whole-blob = row 8 3 ten twelve [] (0x0A ∷ 0x0C ∷ 0x00 ∷ 0x00 ∷ 0x01 ∷ 0x0A ∷ 0x82 ∷ 0x03 ∷ 0x24 ∷ [])

-- the same with what is stored for its checksum
abbrev pub resealed : ℕ → List ℕ
resealed stored = sealed stored (drop 14 whole-blob)

-- the same with a byte between the body's end and the size, which is 80, and the checksum for a byte there
abbrev pub gapped : ℕ → ℕ → List ℕ
gapped summed byte =
    let front = drop 14 (row 8 3 ten twelve [] (0x0A ∷ 0x0C ∷ 0x00 ∷ 0x00 ∷ 0x01 ∷ 0x0A ∷ 0x82 ∷ 0x03 ∷ 0x24 ∷ 0x00 ∷ [])) in
    sealed (checksum (take 65 front ++ (summed ∷ []))) (take 65 front ++ (byte ∷ []))

-- 2 rows, 2 columns, depth 2, tiles of one pixel, kind 1, error 1, minima 0 and maxima 200: eight blocks with one offset each
abbrev pub grid : List ℕ
grid = blob (record {
  rows = 2;
  columns = 2;
  depth = 2;
  valid = 4;
  side = 1;
  kind = 1;
  error = 0x3FF0000000000000;
  min = 0;
  max = 0x4069000000000000;
  mask = [];
  rest = 0x00 ∷ 0x00 ∷ 0xC8 ∷ 0xC8 ∷ 0x00 ∷ 0x03 ∷ 0x01 ∷ 0x03 ∷ 0x02 ∷ 0x03 ∷ 0x03 ∷ 0x03 ∷ 0x04 ∷ 0x03 ∷ 0x05 ∷ 0x03 ∷ 0x06 ∷ 0x03 ∷ 0x07 ∷ 0x03 ∷ 0x08 ∷ [];
})

-- slices with some room, marked so that what is not written shows
abbrev pub lent : ℕ → ℕ → Lent
lent entries cells = record { kept = 7 ∷ []; spare = 7 ∷ 7 ∷ []; list = replicate entries 7; image = replicate cells 7 }

-- ---- what each body gives: the answer, and every lent slice afterwards

-- how many blocks, and where the body ends
pub record CountAndEnd : Type 0 where
  pub blocks : ℕ
  pub end : ℕ

pub record Shown : Type 0 where
  pub said : Res CountAndEnd
  pub left : Lent

abbrev pub read_into : Lent → List ℕ → Shown
read_into l b = record { said = read_says b false l >>= λ m. ok (record { blocks = length (starts_of m.body); end = end_of m.body }); left = read_after (read_says b false l) (masked b false l) l }

abbrev pub shown : List ℕ → Shown
shown = read_into (lent 3 4)

abbrev pub gives : ℕ → ℕ → List ℕ → List ℕ → List ℕ → Shown
gives blocks end mask list image = record {
  said = ok (record { blocks = blocks; end = end });
  left = record { kept = mask; spare = mask ++ (7 ∷ []); list = list; image = image };
}

abbrev pub bodies : List Shown
bodies =
    shown whole-blob
    -- raw words, of which the mask's runs make two valid
    ∷ shown (row 8 2 ten twelve (0x01 ∷ 0x00 ∷ 0xA0 ∷ 0x00 ∷ 0x80 ∷ []) (0x0A ∷ 0x0C ∷ 0x01 ∷ 0x0B ∷ 0x0C ∷ []))
    -- constant, by the header
    ∷ shown (row 8 3 ten ten [] [])
    -- empty
    ∷ shown (row 8 0 ten twelve [] [])
    -- tiles of one pixel: one offset, zeros, raw words
    ∷ shown (row 1 3 ten twelve [] (0x0A ∷ 0x0C ∷ 0x00 ∷ 0x00 ∷ 0x03 ∷ 0x0B ∷ 0x02 ∷ 0x00 ∷ 0x0C ∷ []))
    -- a block refused behind an accepted mask: only the spare changes
    ∷ shown (row 8 3 ten twelve [] (0x0A ∷ 0x0C ∷ 0x00 ∷ 0x00 ∷ 0x05 ∷ []))
    -- blocks by depth, then across, then down
    ∷ read_into (lent 8 9) grid
    ∷ []

-- ---- a call for each number

-- the refusal; number 0 at place 0 where there is none
abbrev pub refusal_of : {A : Type 0} → Res A → Refusal
refusal_of (ok a) = refuse 0
refusal_of (fail r) = r

abbrev pub refused : ℕ → List ℕ → Refusal
refused cells b = refusal_of (read_says b false (lent 3 cells))

-- block n of the whole blob, its starts listed
abbrev pub fill : ℕ → List ℕ → Refusal
fill n starts = refusal_of (read_ranges_says whole-blob (header_of whole-blob) >>= λ r. fill_says whole-blob (header_of whole-blob) r (255 ∷ []) starts n 3)

-- a walk with the ranges that were read
abbrev pub read_walked : List ℕ → Refusal
read_walked b = refusal_of (read_ranges_says b (header_of b) >>= λ r. walk_says b (header_of b) r (255 ∷ []) 3)

abbrev pub refusals : List Refusal
refusals =
    refused 3 []
    ∷ refused 3 (75 ∷ drop 1 whole-blob)
    ∷ refused 3 (row 0 3 ten twelve [] [])
    ∷ refused 3 (row 17 3 ten twelve [] [])
    ∷ refused 2 whole-blob
    ∷ refused 3 (row 8 2 ten twelve [] [])
    ∷ refused 3 (row 8 3 ten twelve [] (0x0C ∷ 0x0A ∷ []))
    ∷ refused 3 (row 8 3 ten twelve [] (0x0A ∷ 0x0C ∷ 0x00 ∷ 0x00 ∷ 0x05 ∷ []))
    ∷ refused 3 (row 8 3 three_hundred three_hundred [] [])
    -- a walk alone is refused 10: here by the mode byte
    ∷ read_walked (row 8 3 ten twelve [] (0x0A ∷ 0x0C ∷ 0x00 ∷ 0x01 ∷ []))
    ∷ fill 1 (74 ∷ [])
    ∷ fill 0 (74 ∷ [])
    ∷ refused 3 (resealed 0)
    ∷ []

-- ---- the checksum: "after the header's own refusals and before room"

-- no slice has an entry
abbrev pub nothing : Lent
nothing = record { kept = []; spare = []; list = []; image = [] }

abbrev pub checksums : List Refusal
checksums =
    -- that of the rules' blob is DA 3D 6B 38; one bit of it is another; it is 0
    refused 3 (resealed 0x386B3DDA)
    ∷ refused 3 (resealed 0x386B3DDB)
    ∷ refused 3 (resealed 0)
    -- another key is 2, no row 3, a side past its ceiling 4, a slice shorter than the size 1, whatever the checksum
    ∷ refused 3 (75 ∷ drop 1 (resealed 0))
    ∷ refused 3 (sealed 0 (drop 14 (row 0 3 ten twelve [] [])))
    ∷ refused 3 (sealed 0 (drop 14 (row 17 3 ten twelve [] [])))
    ∷ refused 3 (take 78 (resealed 0))
    -- slices without an entry: 13, and 5 with a true checksum
    ∷ refusal_of (read_says (resealed 0) false nothing)
    ∷ refusal_of (read_says whole-blob false nothing)
    -- bytes between the body's end and the size are summed
    ∷ refused 3 (gapped 0x00 0x01)
    ∷ refused 3 (gapped 0x01 0x01)
    -- bytes behind the size are not
    ∷ refused 3 (whole-blob ++ (0x01 ∷ []))
    -- a header by value is not tested again
    ∷ refusal_of (read_ranges_says (resealed 0) (header_of whole-blob) >>= λ r. fill_says (resealed 0) (header_of whole-blob) r (255 ∷ []) (74 ∷ []) 0 3)
    ∷ []

-- ---- a call for each rule of the place

-- 1 pixel of depth 2, kind 6 (f32): the minima of depths 0 and 1, then the maxima
abbrev pub pairs : ℕ → ℕ → ℕ → ℕ → List ℕ
pairs low0 low1 high0 high1 = blob (record {
  rows = 1;
  columns = 1;
  depth = 2;
  valid = 1;
  side = 8;
  kind = 6;
  error = 0;
  min = ten;
  max = twelve;
  mask = [];
  rest = bytes 4 low0 ++ bytes 4 low1 ++ bytes 4 high0 ++ bytes 4 high1;
})

-- 10, 12 and infinity as words of kind 6
abbrev pub ten_f : ℕ
ten_f = 0x41200000

abbrev pub twelve_f : ℕ
twelve_f = 0x41400000

abbrev pub infinity_f : ℕ
infinity_f = 0x7F800000

-- 1 row, 3 columns, kind 3 (u16), minimum 10 and maximum 12, sweep byte 1: raw words of two bytes
abbrev pub raw_row : List ℕ → List ℕ
raw_row words = blob (record {
  rows = 1;
  columns = 3;
  depth = 1;
  valid = 3;
  side = 8;
  kind = 3;
  error = 0;
  min = ten;
  max = twelve;
  mask = [];
  rest = 0x0A ∷ 0x00 ∷ 0x0C ∷ 0x00 ∷ 0x01 ∷ words;
})

-- a walk with ranges by value
abbrev pub walked : List ℕ → Ranges → Refusal
walked b r = refusal_of (walk_says b (header_of b) r (255 ∷ []) 3)

-- block 0 of a blob, whose ranges by value go from 10 up to a maximum
abbrev pub filled_up_to : ℕ → List ℕ → Refusal
filled_up_to most b = refusal_of (fill_says b (header_of b) (record { at = 72; constant = false; min = ten ∷ []; max = most ∷ [] }) (255 ∷ []) (74 ∷ []) 0 3)

abbrev pub places : List Refusal
places =
    -- 6 where the mask has bytes and must have none: the header's count of them
    refused 3 (row 8 3 ten twelve (0x00 ∷ 0x80 ∷ []) [])
    -- and where a reused mask has another count: two of three pixels, and all are
    ∷ refusal_of (read_says (row 8 2 ten twelve [] []) true (lent 3 3))
    -- ranges that do not fit: the first range byte, behind five mask bytes
    ∷ refused 3 (row 8 2 ten twelve (0x01 ∷ 0x00 ∷ 0xA0 ∷ 0x00 ∷ 0x80 ∷ []) (0x0A ∷ []))
    -- depth 0's lesser maximum comes before depth 1's minimum that is not finite, though that stands in front of it
    ∷ refused 3 (pairs twelve_f infinity_f ten_f twelve_f)
    -- a minimum that is not finite: depth 1's, behind a right pair
    ∷ refused 3 (pairs ten_f infinity_f twelve_f twelve_f)
    -- of two numbers of a depth that are not finite, the minimum
    ∷ refused 3 (pairs infinity_f ten_f infinity_f twelve_f)
    -- a maximum that is not finite: depth 1's
    ∷ refused 3 (pairs ten_f ten_f twelve_f infinity_f)
    -- ranges by value: no place
    ∷ walked whole-blob (record { at = 72; constant = false; min = twelve ∷ []; max = ten ∷ [] })
    -- a missing sweep byte: where it should be; a wrong one; one that tells a walk of raw words
    ∷ refused 3 (row 8 3 ten twelve [] (0x0A ∷ 0x0C ∷ []))
    ∷ refused 3 (row 8 3 ten twelve [] (0x0A ∷ 0x0C ∷ 0x02 ∷ []))
    ∷ read_walked (row 8 3 ten twelve [] (0x0A ∷ 0x0C ∷ 0x01 ∷ 0x0A ∷ 0x0B ∷ 0x0C ∷ []))
    -- looked for where the ranges that are given say
    ∷ walked whole-blob (record { at = 0xFFFFFFFFFFFFFFFF; constant = false; min = ten ∷ []; max = twelve ∷ [] })
    -- a walk of a constant or an empty body has none
    ∷ read_walked (row 8 3 ten ten [] [])
    ∷ read_walked (row 8 0 ten ten [] [])
    -- a missing mode byte: where it should be; a wrong one
    ∷ refused 3 (row 8 3 ten twelve [] (0x0A ∷ 0x0C ∷ 0x00 ∷ []))
    ∷ refused 3 (row 8 3 ten twelve [] (0x0A ∷ 0x0C ∷ 0x00 ∷ 0x03 ∷ []))
    -- raw words cut in the middle of the second: its first byte, not the first that is missing
    ∷ refused 3 (raw_row (0x0A ∷ 0x00 ∷ 0x0B ∷ []))
    -- raw words that are cut in a block: its flag byte
    ∷ refused 3 (row 8 3 ten twelve [] (0x0A ∷ 0x0C ∷ 0x00 ∷ 0x00 ∷ 0x00 ∷ 0x0A ∷ []))
    -- a value that its kind does not hold, beside a maximum by value
    ∷ filled_up_to three_hundred (row 8 3 ten twelve [] (0x0A ∷ 0x0C ∷ 0x00 ∷ 0x00 ∷ 0x01 ∷ 0xFF ∷ 0x82 ∷ 0x03 ∷ 0x24 ∷ []))
    -- a missing flag byte: where it should be
    ∷ refused 3 (row 8 3 ten twelve [] (0x0A ∷ 0x0C ∷ 0x00 ∷ 0x00 ∷ []))
    -- a fault in the packed counts of the second of two blocks: that block's flag byte
    ∷ refused 3 (row 2 3 ten twelve [] (0x0A ∷ 0x0C ∷ 0x00 ∷ 0x00 ∷ 0x03 ∷ 0x0B ∷ 0x01 ∷ 0x0A ∷ 0xC2 ∷ []))
    -- a fill whose listed start is 2^64 - 1: that number
    ∷ fill 0 (0xFFFFFFFFFFFFFFFF ∷ [])
    ∷ []

pub witnesses :
    (bodies
    ≡ gives 1 79 (255 ∷ []) (74 ∷ 7 ∷ 7 ∷ []) (10 ∷ 11 ∷ 12 ∷ 7 ∷ [])
    ∷ gives 0 80 (160 ∷ []) (7 ∷ 7 ∷ 7 ∷ []) (11 ∷ 7 ∷ 12 ∷ 7 ∷ [])
    ∷ gives 0 70 (255 ∷ []) (7 ∷ 7 ∷ 7 ∷ []) (10 ∷ 10 ∷ 10 ∷ 7 ∷ [])
    ∷ gives 0 70 (0 ∷ []) (7 ∷ 7 ∷ 7 ∷ []) (7 ∷ 7 ∷ 7 ∷ 7 ∷ [])
    ∷ gives 3 79 (255 ∷ []) (74 ∷ 76 ∷ 77 ∷ []) (11 ∷ 0 ∷ 12 ∷ 7 ∷ [])
    ∷ record { said = fail (placed 74 (refuse 8)); left = record { kept = 7 ∷ []; spare = 255 ∷ 7 ∷ []; list = 7 ∷ 7 ∷ 7 ∷ []; image = replicate 4 7 } }
    ∷ gives 8 91 (255 ∷ []) (75 ∷ 77 ∷ 79 ∷ 81 ∷ 83 ∷ 85 ∷ 87 ∷ 89 ∷ []) (1 ∷ 2 ∷ 3 ∷ 4 ∷ 5 ∷ 6 ∷ 7 ∷ 8 ∷ 7 ∷ [])
    ∷ [])
    × (refusals
    ≡ refuse 1
    ∷ refuse 2
    ∷ refuse 3
    ∷ refuse 4
    ∷ refuse 5
    ∷ placed 66 (refuse 6)
    ∷ placed 71 (refuse 7)
    ∷ placed 74 (refuse 8)
    ∷ refuse 9
    ∷ placed 73 (refuse 10)
    ∷ refuse 11
    ∷ refuse 0
    ∷ refuse 13
    ∷ [])
    × (checksums
    ≡ refuse 0
    ∷ refuse 13
    ∷ refuse 13
    ∷ refuse 2
    ∷ refuse 3
    ∷ refuse 4
    ∷ refuse 1
    ∷ refuse 13
    ∷ refuse 5
    ∷ refuse 13
    ∷ refuse 0
    ∷ refuse 0
    ∷ refuse 0
    ∷ [])
    × (places
    ≡ placed 66 (refuse 6)
    ∷ placed 66 (refuse 6)
    ∷ placed 75 (refuse 1)
    ∷ placed 78 (refuse 7)
    ∷ placed 74 (refuse 7)
    ∷ placed 70 (refuse 7)
    ∷ placed 82 (refuse 7)
    ∷ refuse 7
    ∷ placed 72 (refuse 1)
    ∷ placed 72 (refuse 8)
    ∷ placed 72 (refuse 10)
    ∷ placed 0xFFFFFFFFFFFFFFFF (refuse 1)
    ∷ refuse 10
    ∷ refuse 10
    ∷ placed 73 (refuse 1)
    ∷ placed 73 (refuse 8)
    ∷ placed 77 (refuse 1)
    ∷ placed 74 (refuse 1)
    ∷ placed 74 (refuse 9)
    ∷ placed 74 (refuse 1)
    ∷ placed 76 (refuse 8)
    ∷ placed 0xFFFFFFFFFFFFFFFF (refuse 1)
    ∷ [])
unfolding word_at little each from count all_to mag code sum counted_sum scaled less same lesser integer value_of whole cut sample_at stored offset_kinds offset_kind
    bytes counts plan tabled unpacked values_of looked_up digits chosen pixel_valid copy_at repeat_at end_at signed_at step_at runs coded strips error_right pair_right fields_right within_ceilings
    held key_right header_of word half fold sums_to closed_to with_last joined checksum checksum_right header_says uniform kept unrolled mask_in uniform_ranges number_at by_depth coded_ranges pairs_right first_wrong wrong_number_at ranges_says constant_words raw_words
    level_block step_of stepped_block offset_at finite_offset offset_block formed flag_at block_says tile_of pixel_of block_of place_in rank is_valid_cell painted index_of block_at chain mode_byte moded
    sweep_byte swept raw_body block_body swept_body constant_body body_says cell_word meaning_from room masked read_says published refused_after size span climb widened read_ranges_says fill_says walk_says body_walked way_walked
witnesses = (refl, refl, refl, refl)

-- ---- stage, then publish

-- raw words, a constant body, and three blocks of one pixel each
abbrev pub raw-blob : List ℕ
raw-blob = row 8 2 ten twelve (0x01 ∷ 0x00 ∷ 0xA0 ∷ 0x00 ∷ 0x80 ∷ []) (0x0A ∷ 0x0C ∷ 0x01 ∷ 0x0B ∷ 0x0C ∷ [])

abbrev pub constant-blob : List ℕ
constant-blob = row 8 3 ten ten [] []

abbrev pub three-blocks : List ℕ
three-blocks = row 1 3 ten twelve [] (0x0A ∷ 0x0C ∷ 0x00 ∷ 0x00 ∷ 0x03 ∷ 0x0B ∷ 0x02 ∷ 0x00 ∷ 0x0C ∷ [])

-- two of three pixels valid, and a block that is wrong
abbrev pub broken-blob : List ℕ
broken-blob = row 8 2 ten twelve (0x01 ∷ 0x00 ∷ 0xA0 ∷ 0x00 ∷ 0x80 ∷ []) (0x0A ∷ 0x0C ∷ 0x00 ∷ 0x00 ∷ 0x05 ∷ [])

abbrev pub answered : Res Staged → Res Staged
answered (ok s) = ok s
answered (fail r) = fail r

-- what staging answers, with slices as a whole read is lent them
abbrev pub staged_as : List ℕ → Res Staged
staged_as b = answered (stage_says b false (lent 3 4))

-- kind of body, count of blocks, end
abbrev pub outlined : Res Staged → List ℕ
outlined (ok s) = kind_number s.body ∷ s.blocks ∷ s.end ∷ []
outlined (fail r) = r.number ∷ r.at ∷ []

abbrev pub stagings : List (List ℕ)
stagings =
    outlined (stage_says whole-blob false (lent 3 4))
    ∷ outlined (stage_says raw-blob false (lent 3 4))
    ∷ outlined (stage_says constant-blob false (lent 3 4))
    ∷ outlined (stage_says (row 8 0 ten twelve [] []) false (lent 3 4))
    ∷ outlined (stage_says broken-blob false (lent 3 4))
    -- room for the image is judged, though nothing is written there
    ∷ outlined (stage_says whole-blob false (lent 3 2))
    ∷ []

-- an answer, published with this spare and this list
abbrev pub publishing : List ℕ → Res Staged → List ℕ → List ℕ → Refusal
publishing b a spare list = refusal_of (publish_says b false a (record { kept = 7 ∷ []; spare = spare; list = list; image = replicate 4 7 }))

abbrev pub publishings : List Refusal
publishings =
    -- as staging gave and left it
    publishing whole-blob (staged_as whole-blob) (255 ∷ 7 ∷ []) (74 ∷ 7 ∷ 7 ∷ [])
    -- what stands behind is not looked at
    ∷ publishing whole-blob (staged_as whole-blob) (255 ∷ 9 ∷ []) (74 ∷ 9 ∷ 9 ∷ [])
    -- another spare, another start, the last of three starts
    ∷ publishing whole-blob (staged_as whole-blob) (254 ∷ 7 ∷ []) (74 ∷ 7 ∷ 7 ∷ [])
    ∷ publishing whole-blob (staged_as whole-blob) (255 ∷ 7 ∷ []) (75 ∷ 7 ∷ 7 ∷ [])
    ∷ publishing three-blocks (staged_as three-blocks) (255 ∷ 7 ∷ []) (74 ∷ 76 ∷ 78 ∷ [])
    -- a refused answer, and that of another blob
    ∷ publishing whole-blob (fail (refuse 0)) (255 ∷ 7 ∷ []) (74 ∷ 7 ∷ 7 ∷ [])
    ∷ publishing whole-blob (staged_as constant-blob) (255 ∷ 7 ∷ []) (74 ∷ 7 ∷ 7 ∷ [])
    -- the list of a body without blocks
    ∷ publishing raw-blob (staged_as raw-blob) (160 ∷ 7 ∷ []) (9 ∷ 9 ∷ 9 ∷ [])
    -- what the blob itself earns comes first, whatever the answer, the spare and the list are
    ∷ publishing broken-blob (staged_as whole-blob) (0 ∷ 0 ∷ []) (0 ∷ 0 ∷ 0 ∷ [])
    ∷ publishing whole-blob (staged_as whole-blob) (255 ∷ 7 ∷ []) []
    ∷ []

pub in_two :
    (stagings ≡ (3 ∷ 1 ∷ 79 ∷ []) ∷ (2 ∷ 0 ∷ 80 ∷ []) ∷ (1 ∷ 0 ∷ 70 ∷ []) ∷ (0 ∷ 0 ∷ 70 ∷ []) ∷ (8 ∷ 79 ∷ []) ∷ (5 ∷ 0 ∷ []) ∷ [])
    × (publishings
    ≡ refuse 0
    ∷ refuse 0
    ∷ refuse 3
    ∷ refuse 3
    ∷ refuse 3
    ∷ refuse 3
    ∷ refuse 3
    ∷ refuse 0
    ∷ placed 79 (refuse 8)
    ∷ refuse 5
    ∷ [])
unfolding word_at little each from count all_to mag code sum counted_sum scaled less same lesser integer value_of whole cut sample_at stored offset_kinds offset_kind
    bytes counts plan tabled unpacked values_of looked_up digits chosen pixel_valid copy_at repeat_at end_at signed_at step_at runs coded strips error_right pair_right fields_right within_ceilings
    held key_right header_of word half fold sums_to closed_to with_last joined checksum checksum_right header_says uniform kept unrolled mask_in uniform_ranges number_at by_depth coded_ranges pairs_right first_wrong wrong_number_at ranges_says constant_words raw_words
    level_block step_of stepped_block offset_at finite_offset offset_block formed flag_at block_says tile_of pixel_of block_of place_in rank is_valid_cell painted index_of block_at chain mode_byte moded
    sweep_byte swept raw_body block_body swept_body constant_body body_says cell_word meaning_from room masked read_says published refused_after size span climb widened read_ranges_says fill_says walk_says body_walked way_walked begins_with same_staged publish_says
in_two = (refl, refl)

-- ---- how many pixels of a part are valid: of the rules' mask of ten pixels, 0, 2 and 9 valid, its spare bits set

abbrev pub in_part : ℕ → ℕ → ℕ
in_part first n = valid_from first n (0xA0 ∷ 0x7F ∷ [])

-- all ten; one byte cut at both ends; two bytes, cut at both ends; none of them valid; the last; past the end
pub parts : in_part 0 10 ∷ in_part 1 2 ∷ in_part 2 8 ∷ in_part 3 6 ∷ in_part 9 1 ∷ in_part 16 5 ∷ [] ≡ 3 ∷ 1 ∷ 2 ∷ 0 ∷ 1 ∷ 0 ∷ []
unfolding count pixel_valid
parts = refl
