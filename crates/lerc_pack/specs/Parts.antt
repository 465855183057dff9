-- What the reader's loop goes by.
-- Assumes nothing.
use Rattle.std.specs.Prelude.{ℕ, zero, suc, ◌+◌, ◌*◌, Bool, ◌&&◌, List, length, leb, eqb}
use Rattle.lerc_words.specs.Lists.{all_to}
use Rattle.lerc_pack.specs.Contents.{depth_most, body_end, body_place, matches}
use Rattle.lerc_pack.specs.Pack.{entry_part, entry_at, zeros_right, tile_of, body_of}

-- row and column as one number: they have two bytes each
abbrev pub key_of : ℕ → ℕ → ℕ
key_of row column = row * 65536 + column

-- the least that may follow the tiles before the i-th
abbrev pub least_key : (ℕ → ℕ) → ℕ → ℕ
least_key key zero = 0
least_key key (suc i) = suc (key i)

abbrev pub key_at : List ℕ → ℕ → ℕ
key_at b i = key_of (entry_at b i).row (entry_at b i).column

-- the i-th of n entries by itself and behind those before it; its body begins where they end, and lies in the pack
unfoldable pub entry_right : List ℕ → ℕ → ℕ → Bool
entry_right b n i =
    zeros_right (entry_part b i) && leb (entry_at b i).depth depth_most && eqb (entry_at b i).start (body_place n (tile_of b) i)
    && leb (least_key (key_at b) i) (key_at b i) && leb (body_end (entry_at b i)) (length b)

-- and with its blob
abbrev pub entry_matched : List ℕ → ℕ → ℕ → Bool
entry_matched b n i = entry_right b n i && matches (entry_at b i) (body_of b (entry_at b i))

-- all entries, to the end
unfoldable pub entries_right : List ℕ → ℕ → Bool
entries_right b n = all_to n (entry_matched b n) && eqb (body_place n (tile_of b) n) (length b)
