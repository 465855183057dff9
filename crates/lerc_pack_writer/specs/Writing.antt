-- The pack writer: rows, columns and lengths as slices, bodies end to end in one.
-- "the writer refuses 12, then 5, and then writes nothing"
-- Assumes nothing.
use Rattle.std.specs.Prelude.{ℕ, ◌+◌, ◌≡◌, Bool, ◌&&◌, List, length, get_or, take, drop, leb, eqb}
use Rattle.lerc_words.specs.Res.{Res, ok, ◌>>=◌, require, after}
use Rattle.lerc_words.specs.Lists.{total, over}
use Rattle.lerc_header.specs.Header.{header_of}
use Rattle.lerc_pack.specs.Contents.{Tile, tile_limit, entry_place, tiles_right, bytes_of}

-- what the writer is lent
pub record Given : Type 0 where
  pub rows : List ℕ
  pub columns : List ℕ
  pub lengths : List ℕ
  pub bodies : List ℕ

-- where the i-th body begins among the bodies, which stand end to end
abbrev pub body_start : Given → ℕ → ℕ
body_start g i = total i (λ k. get_or g.lengths k 0)

abbrev pub blob_given : Given → ℕ → List ℕ
blob_given g i = take (get_or g.lengths i 0) (drop (body_start g i) g.bodies)

-- kind and depth are those of the blob's header
abbrev pub tile_given : Given → ℕ → Tile
tile_given g i =
    record {
      entry = record {
        row = get_or g.rows i 0;
        column = get_or g.columns i 0;
        kind = (header_of (blob_given g i)).kind;
        depth = (header_of (blob_given g i)).depth;
        start = entry_place (length g.rows) + body_start g i;
        length = get_or g.lengths i 0;
      };
      blob = blob_given g i;
    }

-- one row, column and length for each tile, of which there are not too many
unfoldable pub given_right : Given → Bool
given_right g = eqb (length g.columns) (length g.rows) && eqb (length g.lengths) (length g.rows) && leb (length g.rows) tile_limit

-- lengths that add up to the bodies
unfoldable pub adds_up : Given → Bool
adds_up g = eqb (body_start g (length g.rows)) (length g.bodies)

-- how many bytes the pack has
abbrev pub pack_length : Given → ℕ
pack_length g = entry_place (length g.rows) + length g.bodies

-- how many bytes are written, where there is room for so many
unfoldable pub write_says : Given → ℕ → Res ℕ
write_says g room = do
  _ ← require (given_right g) 12
  _ ← require (adds_up g) 12
  _ ← require (tiles_right (length g.rows) (tile_given g)) 12
  _ ← require (leb (pack_length g) room) 5
  ok (pack_length g)

-- the pack that is written
abbrev pub pack_given : Given → List ℕ
pack_given g = bytes_of (length g.rows) (tile_given g)

-- ---- the answer, and what the buffer holds afterwards

-- the pack in front, the rest as it was; all as it was after a refusal
pub record PackWritten (g : Given) (r : Res ℕ) (out₀ out₁ : List ℕ) : Type 0 where
  pub says : r ≡ write_says g (length out₀)
  pub out : out₁ ≡ after (write_says g (length out₀)) out₀ (λ n. over (pack_given g) out₀)
