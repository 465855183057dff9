-- The definitions on the rows of the witness, computed.
-- Assumes nothing.
use mathlib.Core.Path.{◌≡◌, refl}
use mathlib.Core.List.{[], ◌∷◌, map}
use Rattle.lerc_words.specs.Res.{little}
use Rattle.lerc_words.specs.Lists.{all_to, total}
use Rattle.lerc_numeric.specs.Numeric.{mag, less}
use Rattle.lerc_checksum.specs.Checksum.{word, fold, sums_to, closed_to, with_last, joined as summed, checksum}
use Rattle.lerc_header.specs.Header.{error_right, pair_right, fields_right, within_ceilings, held, key_right, header_of, checksum_right, header_says}
use Rattle.lerc_pack.specs.Contents.{before, matches, tile_right, tiles_right, in_bytes, entry_bytes, head_bytes, joined, bytes_of}
use Rattle.lerc_pack.specs.Pack.{head_right, entry_of, zeros_right, pack_says}
use Rattle.lerc_pack_writer.specs.Writing.{given_right, adds_up, write_says, pack_given}
use Rattle.lerc_pack_theorems.specs.Witness.{PackRow, WriteRow, packs, writes, lent, blob, one, entry, Computed}

reads : map (λ (r : PackRow). pack_says r.pack) packs ≡ map (λ (r : PackRow). r.says) packs
unfolding pack_says head_right zeros_right entry_of tiles_right tile_right before matches all_to little mag less error_right pair_right fields_right within_ceilings held key_right header_of word fold sums_to closed_to with_last summed checksum checksum_right header_says
reads = refl

written : map (λ (r : WriteRow). write_says r.given r.room) writes ≡ map (λ (r : WriteRow). r.says) writes
unfolding write_says given_right adds_up total tiles_right tile_right before matches all_to little mag less error_right pair_right fields_right within_ceilings held key_right header_of word fold sums_to closed_to with_last summed checksum checksum_right header_says
written = refl

bytes : pack_given (lent (0 ∷ []) (0 ∷ []) (79 ∷ []) blob) ≡ one (entry 0 0 1 0 0 24 79)
unfolding bytes_of head_bytes entry_bytes in_bytes joined total header_of little
bytes = refl

pub computed : Computed
computed = record { reads = reads; written = written; bytes = bytes }
