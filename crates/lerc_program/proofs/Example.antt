-- The text of four blobs, computed by the checker: the rules' own example, an invalid cell, two refusals.
-- Assumes nothing.
use Prim.Native.Nat.{ℕ}
use mathlib.Core.Path.{◌≡◌, refl}
use mathlib.Core.List.{List, [], ◌∷◌, ◌++◌}
use lib.Ieee.{size, span, climb}
use Rattle.lerc_words.specs.Res.{word_at, little, each}
use Rattle.lerc_words.specs.Lists.{from, count, all_to}
use Rattle.lerc_numeric.specs.Numeric.{mag, code, sum, counted_sum, scaled, less, same, lesser}
use Rattle.lerc_numeric.specs.Kinds.{integer, value_of, whole, cut}
use Rattle.lerc_numeric.specs.Steps.{step_of}
use Rattle.lerc_samples.specs.Samples.{sample_at, stored, offset_kinds, offset_kind}
use Rattle.lerc_bits.specs.Bits.{tabled, plan, chosen, looked_up, values_of, unpacked, counts}
use Rattle.lerc_bits.specs.Bits as bits
use Rattle.lerc_mask.specs.Mask.{pixel_valid, copy_at, repeat_at, end_at, signed_at, step_at, runs, coded}
use Rattle.lerc_checksum.specs.Checksum.{word, fold, sums_to, closed_to, with_last, joined, checksum}
use Rattle.lerc_header.specs.Shape.{strips}
use Rattle.lerc_header.specs.Header.{error_right, pair_right, fields_right, within_ceilings, held, key_right, header_of, checksum_right, header_says}
use Rattle.lerc_validity.specs.Validity.{uniform, kept, unrolled, mask_in}
use Rattle.lerc_ranges.specs.Ranges.{uniform_ranges, number_at, by_depth, coded_ranges, pairs_right, first_wrong, wrong_number_at, ranges_says, constant_words}
use Rattle.lerc_block.specs.Block.{raw_words, level_block, stepped_block, offset_at, finite_offset, offset_block, formed, flag_at, block_says}
use Rattle.lerc_image.specs.Geometry.{tile_of, pixel_of, block_of, place_in, rank}
use Rattle.lerc_image.specs.Paint.{index_of}
use Rattle.lerc_sweep.specs.Sweep.{mode_byte, moded, sweep_byte, swept}
use Rattle.lerc_image.specs.Blocks.{block_at, chain}
use Rattle.lerc_text.specs.Ascii.{ascii}
use Rattle.lerc_text.specs.Text.{digits, line, refusal_line, shape_line, cell_line, cell_lines}
use Rattle.lerc.specs.Meaning.{raw_body, block_body, swept_body, constant_body, body_says, cell_word, meaning_from, meaning}
use Rattle.lerc_program.specs.Program.{program_says, image_text, program_text}

-- "rows 1, columns 3, depth 1, .. side 8, .. kind 1, error 0.5, min 10, max 12", with a checksum, so many valid, a size and so many mask bytes
abbrev pub front : List ℕ → ℕ → ℕ → ℕ → List ℕ
front checksum valid size mask =
    (76 ∷ 101 ∷ 114 ∷ 99 ∷ 50 ∷ 32 ∷ 4 ∷ 0 ∷ 0 ∷ 0 ∷ [])
    ++ checksum
    ++ (1 ∷ 0 ∷ 0 ∷ 0 ∷ 3 ∷ 0 ∷ 0 ∷ 0 ∷ 1 ∷ 0 ∷ 0 ∷ 0 ∷ valid ∷ 0 ∷ 0 ∷ 0 ∷ 8 ∷ 0 ∷ 0 ∷ 0 ∷ size ∷ 0 ∷ 0 ∷ 0 ∷ 1 ∷ 0 ∷ 0 ∷ 0 ∷ [])
    ++ (0 ∷ 0 ∷ 0 ∷ 0 ∷ 0 ∷ 0 ∷ 224 ∷ 63 ∷ 0 ∷ 0 ∷ 0 ∷ 0 ∷ 0 ∷ 0 ∷ 36 ∷ 64 ∷ 0 ∷ 0 ∷ 0 ∷ 0 ∷ 0 ∷ 0 ∷ 40 ∷ 64 ∷ [])
    ++ (mask ∷ 0 ∷ 0 ∷ 0 ∷ [])

pub record Computed : Type 0 where
  -- the whole blob of the rules: "valid 3, .. size 79, .. mask bytes 0, then 0A 0C 00 00 01 0A 82 03 24"
  pub rules :
      program_text (front (0xDA ∷ 0x3D ∷ 0x6B ∷ 0x38 ∷ []) 3 79 0 ++ (0x0A ∷ 0x0C ∷ 0x00 ∷ 0x00 ∷ 0x01 ∷ 0x0A ∷ 0x82 ∷ 0x03 ∷ 0x24 ∷ []))
      ≡ ascii "width 3 height 1 depth 1 kind 1 valid 3\nblocks 1\ncell 0 10\ncell 1 11\ncell 2 12\nend 79\n"
  -- raw words of two valid pixels
  pub invalid :
      program_text (front (0xD8 ∷ 0xC9 ∷ 0x3A ∷ 0x22 ∷ []) 2 80 5 ++ (0x01 ∷ 0x00 ∷ 0xA0 ∷ 0x00 ∷ 0x80 ∷ 0x0A ∷ 0x0C ∷ 0x01 ∷ 0x0B ∷ 0x0C ∷ []))
      ≡ ascii "width 3 height 1 depth 1 kind 1 valid 2\nblocks 0\ncell 0 11\ncell 1 -\ncell 2 12\nend 80\n"
  -- a block whose check bits are wrong
  pub refused : program_text (front (0xCC ∷ 0x97 ∷ 0xAC ∷ 0x90 ∷ []) 3 75 0 ++ (0x0A ∷ 0x0C ∷ 0x00 ∷ 0x00 ∷ 0x05 ∷ [])) ≡ ascii "refused 8 at 74\n"
  -- the rules' blob as it first was, with 0 for its checksum
  pub unsummed : program_text (front (0 ∷ 0 ∷ 0 ∷ 0 ∷ []) 3 79 0 ++ (0x0A ∷ 0x0C ∷ 0x00 ∷ 0x00 ∷ 0x01 ∷ 0x0A ∷ 0x82 ∷ 0x03 ∷ 0x24 ∷ [])) ≡ ascii "refused 13 at 0\n"

pub computed : Computed
unfolding word_at little each from count all_to mag code sum counted_sum scaled less same lesser integer value_of whole cut sample_at stored offset_kinds offset_kind
    counts plan tabled unpacked values_of looked_up bits.digits chosen pixel_valid copy_at repeat_at end_at signed_at step_at runs coded strips error_right pair_right fields_right within_ceilings
    held key_right header_of word fold sums_to closed_to with_last joined checksum checksum_right header_says uniform kept unrolled mask_in uniform_ranges number_at by_depth coded_ranges pairs_right first_wrong wrong_number_at ranges_says constant_words raw_words
    level_block step_of stepped_block offset_at finite_offset offset_block formed flag_at block_says tile_of pixel_of block_of place_in rank index_of block_at chain mode_byte moded
    sweep_byte swept raw_body block_body swept_body constant_body body_says cell_word meaning_from meaning size span climb digits line refusal_line shape_line cell_line cell_lines program_says image_text
computed = record { rules = refl; invalid = refl; refused = refl; unsummed = refl }
