-- When the functions of packs refuse: "A breach is new refusal 12", and a pack that its slice cannot hold is 5. Every refusal is at 0.
-- Assumes nothing.
use Rattle.std.specs.Prelude.{◌≡◌, ◌≢◌, true, false, List, ℕ, suc, ◌≤◌, ◌<◌, length}
use Rattle.lerc_words.specs.declared.Refusal.{Refusal}
use Rattle.lerc_words.specs.Res.{refuse}
use Rattle.lerc_words.specs.Lists.{all_to}
use Rattle.lerc_pack.specs.Contents.{entry_place, body_end, body_place, tiles_right}
use Rattle.lerc_pack.specs.Pack.{count_of, head_right, entry_part, zeros_right, entry_at, tile_of}
use Rattle.lerc_pack_writer.specs.Writing.{Given, given_right, adds_up, tile_given, pack_length}

-- version, zeros and count, the entries' zeros, the rules of contents, bodies to the end
pub data PackRefused (b : List ℕ) : Refusal → Type 0 where
  head-wrong : head_right b ≡ false → PackRefused b (refuse 12)
  zeros-wrong : all_to (count_of b) (λ i. zeros_right (entry_part b i)) ≡ false → PackRefused b (refuse 12)
  tiles-wrong : tiles_right (count_of b) (tile_of b) ≡ false → PackRefused b (refuse 12)
  end-wrong : body_place (count_of b) (tile_of b) (count_of b) ≢ length b → PackRefused b (refuse 12)

-- a number at or above the count; an entry or a body that does not lie in the slice
pub data EntryOutside (b : List ℕ) (tiles number : ℕ) : Refusal → Type 0 where
  no_tile : tiles ≤ number → EntryOutside b tiles number (refuse 12)
  entry-outside : length b < entry_place (suc number) → EntryOutside b tiles number (refuse 12)
  body-outside : length b < body_end (entry_at b number) → EntryOutside b tiles number (refuse 12)

-- "the writer refuses 12, then 5"
pub data WriteRefused (g : Given) (room : ℕ) : Refusal → Type 0 where
  given-wrong : given_right g ≡ false → WriteRefused g room (refuse 12)
  sum-wrong : adds_up g ≡ false → WriteRefused g room (refuse 12)
  given-tiles-wrong : tiles_right (length g.rows) (tile_given g) ≡ false → WriteRefused g room (refuse 12)
  room-short : given_right g ≡ true → adds_up g ≡ true → tiles_right (length g.rows) (tile_given g) ≡ true → room < pack_length g → WriteRefused g room (refuse 5)
