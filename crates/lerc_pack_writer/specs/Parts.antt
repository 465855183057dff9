-- What the writer's loops go by.
-- Assumes nothing.
use Rattle.std.specs.Prelude.{ℕ, suc, ◌*◌, ◌≤◌, ◌<◌, ◌≡◌, Bool, ◌&&◌, List, length, get_or, leb, eqb}
use Rattle.lerc_words.specs.Lists.{all_to}
use Rattle.lerc_slices.specs.Slices.{accepts_with}
use Rattle.lerc_header.specs.Limits.{size_limit}
use Rattle.lerc_header.specs.Header.{header_bytes, header_of, header_says}
use Rattle.lerc_pack.specs.Contents.{tile_limit, entry_bytes, joined}
use Rattle.lerc_pack.specs.Parts.{key_of, least_key}
use Rattle.lerc_pack_writer.specs.Writing.{Given, body_start, blob_given, tile_given, pack_length}

-- the header of a blob is accepted, and its size is all of the bytes
unfoldable pub is_whole : List ℕ → Bool
is_whole blob = accepts_with (header_says blob) (λ h. eqb (length blob) h.size)

abbrev pub given_key : Given → ℕ → ℕ
given_key g i = key_of (get_or g.rows i 0) (get_or g.columns i 0)

-- the i-th tile behind those before it; its body lies in the bodies, and is all of its blob
unfoldable pub given_tile : Given → ℕ → Bool
given_tile g i = leb (least_key (given_key g) i) (given_key g i) && leb (body_start g (suc i)) (length g.bodies) && is_whole (blob_given g i)

-- all tiles, to the end of the bodies
unfoldable pub given_tiles : Given → Bool
given_tiles g = all_to (length g.rows) (given_tile g) && eqb (body_start g (length g.rows)) (length g.bodies)

-- the first k entries
abbrev pub table_given : Given → ℕ → List ℕ
table_given g k = joined k (λ i. entry_bytes (tile_given g i).entry)

-- what is written was judged: each body has a header, of a depth above 0, and lies in the bodies
pub record Judged (g : Given) : Type 0 where
  pub few : length g.rows ≤ tile_limit
  pub columns : length g.columns ≡ length g.rows
  pub lengths : length g.lengths ≡ length g.rows
  pub headed : (i : ℕ) → i < length g.rows → header_bytes ≤ get_or g.lengths i 0
  pub deep : (i : ℕ) → i < length g.rows → 0 < (header_of (blob_given g i)).depth
  pub inside : (i : ℕ) → i < length g.rows → body_start g (suc i) ≤ length g.bodies
  pub all : body_start g (length g.rows) ≡ length g.bodies
  pub small : length g.bodies ≤ tile_limit * size_limit

-- and there is room for all entries
pub record ToPut (g : Given) (room : ℕ) : Type 0 where
  pub judged : Judged g
  pub fits : room ≡ 16 * length g.rows

-- and for the pack
pub record ToWrite (g : Given) (room : ℕ) : Type 0 where
  pub judged : Judged g
  pub fits : pack_length g ≤ room
