-- The pack reader: which bytes are a pack, and what its tiles are. "A breach is new refusal 12."
-- Assumes nothing.
use Rattle.std.specs.Prelude.{ℕ, suc, ◌+◌, Bool, ◌&&◌, ◌||◌, List, [], length, take, drop, leb, ltb, eqb}
use Rattle.lerc_words.specs.Res.{Res, ok, fail, ◌>>=◌, require, little}
use Rattle.lerc_words.specs.Lists.{all_to, tabulate}
use Rattle.lerc_pack.specs.declared.Entry.{Entry}
use Rattle.lerc_pack.specs.Contents.{Tile, version, tile_limit, entry_place, body_end, body_place, tiles_right}

-- "a 4-byte count .., little-endian", behind version and zeros
abbrev pub count_of : List ℕ → ℕ
count_of b = little 4 b 4

-- "Byte 0 is version 1, three zero bytes, a 4-byte count of 0 to 256", and as many entries behind them
unfoldable pub head_right : List ℕ → Bool
head_right b = leb 8 (length b) && eqb (little 1 b 0) version && eqb (little 3 b 1) 0 && leb (count_of b) tile_limit && leb (entry_place (count_of b)) (length b)

-- "Each entry has 16 bytes"
abbrev pub entry_part : List ℕ → ℕ → List ℕ
entry_part b i = take 16 (drop (entry_place i) b)

-- "tile row and tile column (2 each), kind, depth less one (0 to 63), two zero bytes, start .. and length (4 each)"
unfoldable pub entry_of : List ℕ → Entry
entry_of s = record { row = little 2 s 0; column = little 2 s 2; kind = little 1 s 4; depth = little 1 s 5 + 1; start = little 4 s 8; length = little 4 s 12 }

-- "two zero bytes"
unfoldable pub zeros_right : List ℕ → Bool
zeros_right s = eqb (little 2 s 6) 0

abbrev pub entry_at : List ℕ → ℕ → Entry
entry_at b i = entry_of (entry_part b i)

-- "start from the pack's first byte and length"
abbrev pub body_of : List ℕ → Entry → List ℕ
body_of b e = take e.length (drop e.start b)

abbrev pub tile_of : List ℕ → ℕ → Tile
tile_of b i = record { entry = entry_at b i; blob = body_of b (entry_at b i) }

-- the tiles of a pack, in their order
unfoldable pub contents : List ℕ → List Tile
contents b = tabulate (count_of b) (tile_of b)

-- The count of a pack's tiles. The entries' zeros, then the rules of contents, then "to the end".
unfoldable pub pack_says : List ℕ → Res ℕ
pack_says b = do
  _ ← require (head_right b) 12
  _ ← require (all_to (count_of b) (λ i. zeros_right (entry_part b i))) 12
  _ ← require (tiles_right (count_of b) (tile_of b)) 12
  _ ← require (eqb (body_place (count_of b) (tile_of b) (count_of b)) (length b)) 12
  ok (count_of b)

-- ---- by slice and count, which may be any

-- "A refusal carries .. 0 for each count"
abbrev pub count_said : Res ℕ → ℕ
count_said (ok n) = n
count_said (fail r) = 0

-- the count that a pack reader holds
abbrev pub count_in : List ℕ → ℕ
count_in b = count_said (pack_says b)

-- What opening said, told by a slice and the count that it left: the pack's own count behind a right head, or 0 of "01 and seven zeros".
-- Of a refused pack 0 is left, and 0 tiles in more than eight bytes are no pack. With any other count it is refused too.
unfoldable pub opened_says : List ℕ → ℕ → Res ℕ
opened_says b n = do
  _ ← require (head_right b && eqb n (count_of b) && (ltb 0 n || eqb (length b) 8)) 12
  ok n

-- An index at or above the count is refused, and so are an entry and a body that do not lie in the slice. Nothing else is judged again.
unfoldable pub entry_says : List ℕ → ℕ → ℕ → Res Entry
entry_says b n i = do
  _ ← require (ltb i n) 12
  _ ← require (leb (entry_place (suc i)) (length b)) 12
  _ ← require (leb (body_end (entry_at b i)) (length b)) 12
  ok (entry_at b i)

-- "a part to be handed back is then empty"
abbrev pub body_said : List ℕ → Res Entry → List ℕ
body_said b (ok e) = body_of b e
body_said b (fail r) = []

abbrev pub body_says : List ℕ → ℕ → ℕ → List ℕ
body_says b n i = body_said b (entry_says b n i)

-- where that part begins, from the pack's first byte on; an empty one at the front
abbrev pub start_said : Res Entry → ℕ
start_said (ok e) = e.start
start_said (fail r) = 0

abbrev pub start_says : List ℕ → ℕ → ℕ → ℕ
start_says b n i = start_said (entry_says b n i)

-- so many bytes behind a place in memory, which is a block and an offset in it
abbrev pub behind : ℕ × ℕ → ℕ → ℕ × ℕ
behind (block, offset) n = (block, n + offset)
