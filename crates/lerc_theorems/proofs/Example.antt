-- The premise of demand 3 holds of a blob: two rows, two columns and depth 2 in tiles of one pixel, its mask lent with a byte more than it has.
-- Assumes nothing.
use Prim.Native.Nat.{ℕ}
use mathlib.Core.Path.{◌≡◌, refl}
use mathlib.Core.Bool.{false}
use mathlib.Core.List.{List, [], ◌∷◌, ◌++◌}
use native.Mathlib.Omega.{arith}
use lib.ListN.{length, replicate, get_or-append}
use lib.Ieee.{size, span, climb}
use Rattle.lerc_words.specs.Res.{Res, ok, fail, ◌>>=◌, refuse, word_at, little, each}
use Rattle.lerc_words.specs.Lists.{from, count, all_to}
use Rattle.lerc_numeric.specs.Numeric.{mag, code, sum, counted_sum, scaled, less, same, lesser}
use Rattle.lerc_numeric.specs.Kinds.{integer, value_of, whole, cut}
use Rattle.lerc_samples.specs.Samples.{sample_at, stored, offset_kinds, offset_kind}
use Rattle.lerc_bits.specs.Packing.{bytes_of}
use Rattle.lerc_mask.specs.Mask.{pixel_valid}
use Rattle.lerc_checksum.specs.Checksum.{word, fold, sums_to, closed_to, with_last, joined, checksum}
use Rattle.lerc_header.specs.declared.Header.{Header}
use Rattle.lerc_header.specs.Shape.{strips}
use Rattle.lerc_header.specs.Header.{error_right, pair_right, fields_right, within_ceilings, held, key_right, header_of, checksum_right, header_says}
use Rattle.lerc_ranges.specs.declared.Ranges.{Ranges}
use Rattle.lerc_validity.specs.Validity.{new, uniform, mask_in}
use Rattle.lerc_ranges.specs.Ranges.{number_at, by_depth, coded_ranges, pairs_right, ranges_says, read_ranges_says}
use Rattle.lerc_block.specs.Block.{level_block, offset_at, finite_offset, offset_block, formed, flag_at, block_says}
use Rattle.lerc_image.specs.Geometry.{tile_of, pixel_of, block_of, place_in, rank, is_valid_cell}
use Rattle.lerc_image.specs.Paint.{painted, in_block, index_of}
use Rattle.lerc_sweep.specs.Sweep.{moded, sweep_byte, swept}
use Rattle.lerc_image.specs.Blocks.{block_at, chain}
use Rattle.lerc_image.specs.Fill.{fill_says, fill_count, fill_image}
use Rattle.lerc_fills.specs.Each.{fill_each}
use Rattle.lerc.specs.Meaning.{block_body, swept_body, body_says, meaning_from, meaning}
use Rattle.lerc_witness.specs.Witness.{grid}
use Rattle.lerc_theorems.specs.Calls.{FillCalls, none, more}
use Rattle.lerc_theorems.specs.DemandThree.{Case, Opened, CaseFills}
use Rattle.lerc_theorems.proofs.Calls.{fill-calls}
use Rattle.lerc_theorems.proofs.Made.{ranges-made, fill-made}
use Rattle.lerc_theorems.proofs.OpenedFills.{answered}

-- ---- calls

abbrev answer_of : Res ℕ → Res ℕ
answer_of (ok n) = ok n
answer_of (fail r) = fail r

answer-says : (a : Res ℕ) → (answer_of a) ≡ a
answer-says (ok n) = refl
answer-says (fail r) = refl

module _ (b : List ℕ) (h : Header) (r : Ranges) (m list : List ℕ) where
  abbrev pub answers_made : List ℕ → List ℕ → List (Res ℕ)
  answers_made [] image = []
  answers_made (n ∷ ns) image = answer_of (fill_says b h r m list n (length image) >>= fill_count h m n) ∷ answers_made ns (fill_image b h r m list n image)

  -- any list of numbers has calls
  pub fills-made : (ns image : List ℕ) → FillCalls b h r m list ns (answers_made ns image) image (fill_each b h r m list ns image)
  unfolding fill_each
  fills-made [] image = none image
  fills-made (n ∷ ns) image = more n ns _ _ image (fill_image b h r m list n image) (fill_each b h r m list ns (fill_image b h r m list n image)) (fill-made b h r m list n _ image _ (record { says = answer-says _; image = refl })) (fills-made ns (fill_image b h r m list n image))

-- ---- the blob

abbrev pub grid_starts : List ℕ
grid_starts = 75 ∷ 77 ∷ 79 ∷ 81 ∷ 83 ∷ 85 ∷ 87 ∷ 89 ∷ []

abbrev pub example : Case
example = record {
  blob = grid;
  reuse = false;
  kept = 7 ∷ [];
  header = header_of grid;
  means = new (255 ∷ []);
  chain = record {
    starts = grid_starts;
    words = (1 ∷ []) ∷ (2 ∷ []) ∷ (3 ∷ []) ∷ (4 ∷ []) ∷ (5 ∷ []) ∷ (6 ∷ []) ∷ (7 ∷ []) ∷ (8 ∷ []) ∷ [];
    end = 91;
  };
  ranges = coded_ranges grid (header_of grid);
  mask = 255 ∷ 9 ∷ [];
  list = grid_starts ++ (9 ∷ []);
  image = replicate 9 9;
}

pub opened : Opened example
unfolding bytes_of word_at little each from count all_to mag code sum counted_sum scaled less same lesser integer value_of whole cut sample_at stored offset_kinds offset_kind pixel_valid strips error_right pair_right
    fields_right within_ceilings held key_right header_of word fold sums_to closed_to with_last joined checksum checksum_right header_says uniform mask_in number_at by_depth coded_ranges pairs_right ranges_says read_ranges_says level_block
    offset_at finite_offset offset_block formed flag_at block_says tile_of pixel_of rank block_at chain moded sweep_byte swept block_body swept_body body_says meaning_from meaning size span climb
opened = record {
  means = refl;
  kept = omega arith;
  ranges = ranges-made grid (header_of grid) _ refl;
  mask = refl;
  long = omega arith;
  starts = λ n l. get_or-append grid_starts (9 ∷ []) 0 n l;
  room = omega arith;
}

-- the last block, the first, the last again, and one that there is not: there are such calls, and in any of them the cells between are as they were
abbrev some : List ℕ
some = 7 ∷ 0 ∷ 7 ∷ 9 ∷ []

pub some-calls : CaseFills example some (answers_made example.blob example.header example.ranges example.mask example.list some example.image)
    (fill_each example.blob example.header example.ranges example.mask example.list some example.image)
some-calls = fills-made example.blob example.header example.ranges example.mask example.list some example.image

pub some-answers : (said : List (Res ℕ)) (left : List ℕ) → CaseFills example some said left → said ≡ ok 1 ∷ ok 1 ∷ ok 1 ∷ fail (refuse 11) ∷ []
unfolding bytes_of little from count all_to pixel_valid strips header_of tile_of pixel_of rank block_of place_in size span climb
some-answers said left f = answered example opened some said example.image left opened.room f

pub some-filled : (said : List (Res ℕ)) (left : List ℕ) → CaseFills example some said left → left ≡ 1 ∷ 9 ∷ 9 ∷ 9 ∷ 9 ∷ 9 ∷ 9 ∷ 8 ∷ 9 ∷ []
unfolding bytes_of word_at little each from count all_to mag code sum counted_sum scaled less same lesser integer value_of whole cut sample_at stored offset_kinds offset_kind pixel_valid strips error_right pair_right
    fields_right within_ceilings held key_right header_of number_at by_depth coded_ranges pairs_right level_block offset_at finite_offset offset_block formed flag_at block_says tile_of pixel_of block_of place_in rank
    is_valid_cell painted in_block index_of block_at fill_says fill_image fill_each size span climb
some-filled said left f = fill-calls some said example.image left f
