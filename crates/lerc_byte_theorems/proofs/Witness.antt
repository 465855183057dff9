-- The definitions on the rows of the witness, computed.
-- Assumes nothing.
use mathlib.Core.Path.{◌≡◌, refl}
use mathlib.Core.Bool.{true, false}
use mathlib.Core.List.{[], ◌∷◌, map}
use lib.ListN.{take, replicate}
use lib.Ieee.{size, span, climb}
use Rattle.lerc_words.specs.Res.{ok, fail, little, word_at}
use Rattle.lerc_words.specs.Lists.{from, count, total, all_to}
use Rattle.lerc_numeric.specs.Numeric.{mag, less}
use Rattle.lerc_bits.specs.Bits.{tabled, plan, digits, chosen, looked_up, values_of, unpacked, counts}
use Rattle.lerc_bits.specs.Packing.{bytes_of}
use Rattle.lerc_header.specs.Header.{error_right, pair_right, fields_right, within_ceilings, held}
use Rattle.lerc_mask.specs.Mask.{pixel_valid}
use Rattle.lerc_image.specs.Geometry.{is_valid_cell}
use Rattle.lerc_image.specs.Paint.{painted}
use Rattle.lerc_byte_image.specs.Table.{range_at, lengths_at, bits_at, begins, prefix_free, table_at}
use Rattle.lerc_byte_image.specs.Symbols.{first_of, agrees, symbol_at, symbols_from, coded_at}
use Rattle.lerc_byte_image.specs.Prediction.{byte_of, prediction, left_behind, byte_word}
use Rattle.lerc_byte_image.specs.Image.{image_at, spot, symbol_no, by_table, write_table, written_image}
use Rattle.lerc_byte_theorems.specs.Witness.{TableRow, CodedRow, WordRow, tables, codes, words, words_of, blob, header, Computed}

tables-are : map (λ (r : TableRow). table_at r.bytes 0) tables ≡ map (λ (r : TableRow). r.says) tables
unfolding table_at range_at lengths_at bits_at begins prefix_free word_at little bytes_of from total all_to counts plan tabled unpacked values_of looked_up digits chosen size span climb
tables-are = refl

codes-are : map (λ (r : CodedRow). coded_at r.bytes 0 r.n) codes ≡ map (λ (r : CodedRow). r.says) codes
unfolding coded_at symbols_from symbol_at agrees first_of table_at range_at lengths_at bits_at begins prefix_free word_at little bytes_of from total all_to counts plan unpacked values_of digits
codes-are = refl

words_are : map words_of words ≡ map (λ (r : WordRow). r.words) words
unfolding painted is_valid_cell pixel_valid byte_word left_behind prediction byte_of from count
words_are = refl

image : image_at (blob 0) (header 107) 74 ≡ ok (record { symbols = 2 ∷ 0 ∷ 1 ∷ 1 ∷ 2 ∷ []; end = 106 })
unfolding image_at coded_at symbols_from symbol_at agrees first_of table_at range_at lengths_at bits_at begins prefix_free word_at little bytes_of from total all_to counts plan unpacked values_of digits
image = refl

cut : image_at (take 105 (blob 0)) (header 105) 74 ≡ fail (record { number = 1; at = 74 })
unfolding image_at coded_at symbols_from symbol_at agrees first_of table_at range_at lengths_at bits_at begins prefix_free word_at little bytes_of from total all_to counts plan unpacked values_of digits
cut = refl

delta : written_image (blob 0) (header 107) 74 true (0xF4 ∷ []) (replicate 7 999) ≡ 2 ∷ 2 ∷ 3 ∷ 3 ∷ 999 ∷ 5 ∷ 999 ∷ []
unfolding written_image write_table by_table symbol_no spot symbol_at agrees first_of table_at range_at lengths_at bits_at begins prefix_free word_at little bytes_of from total all_to counts plan unpacked values_of digits painted is_valid_cell pixel_valid byte_word left_behind prediction byte_of count held fields_right within_ceilings error_right pair_right mag less
delta = refl

plain : written_image (blob 0) (header 107) 74 false (0xF4 ∷ []) (replicate 7 999) ≡ 2 ∷ 0 ∷ 1 ∷ 1 ∷ 999 ∷ 2 ∷ 999 ∷ []
unfolding written_image write_table by_table symbol_no spot symbol_at agrees first_of table_at range_at lengths_at bits_at begins prefix_free word_at little bytes_of from total all_to counts plan unpacked values_of digits painted is_valid_cell pixel_valid byte_word left_behind prediction byte_of count held fields_right within_ceilings error_right pair_right mag less
plain = refl

pub computed : Computed
computed = record { tables = tables-are; codes = codes-are; words = words_are; image = image; cut = cut; delta = delta; plain = plain }
