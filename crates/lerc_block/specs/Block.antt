-- One block.
-- Assumes nothing.
use Rattle.std.specs.Prelude.{ℕ, ◌+◌, ◌*◌, ◌/◌, ◌%◌, ◌≡◌, cond, List, length, replicate, leb, eqb}
use Rattle.lerc_words.specs.Res.{Res, ok, ◌>>=◌, require, word_at, little, each, after}
use Rattle.lerc_words.specs.Lists.{tabulate, over}
use Rattle.lerc_numeric.specs.Numeric.{finite}
use Rattle.lerc_numeric.specs.Kinds.{type_size}
use Rattle.lerc_numeric.specs.Steps.{step_of}
use Rattle.lerc_samples.specs.Samples.{sample_at, stored, offset_kind}
use Rattle.lerc_bits.specs.Bits.{counts}

-- the word of each valid pixel of the tile, in order, and where the next block begins
pub record Block : Type 0 where
  pub words : List ℕ
  pub next : ℕ

-- n words of a kind, one after the other, which must all fit (1): also a raw body
unfoldable pub raw_words : List ℕ → ℕ → ℕ → ℕ → Res Block
raw_words s at kind n = do
  _ ← require (leb (at + n * type_size kind) (length s)) 1
  ok (record { words = tabulate n (λ k. little (type_size kind) s (at + k * type_size kind)); next = at + n * type_size kind })

-- "3 one offset"; "Low bits 3 is not clamped."
unfoldable pub level_block : ℕ → ℕ → ℕ → ℕ → Res Block
level_block at kind offset n = do
  words ← each (stored kind) (replicate n offset)
  ok (record { words = words; next = at })

-- "1 offset and packed counts"; "Counts must number the tile's valid pixels, else 8, before any value is converted."
unfoldable pub stepped_block : List ℕ → ℕ → ℕ → ℕ → ℕ → ℕ → ℕ → Res Block
stepped_block s at kind error top offset n = do
  c ← counts s at
  _ ← require (eqb (length c.values) n) 8
  words ← each (λ q. stored kind (step_of offset error top q)) c.values
  ok (record { words = words; next = c.next })

-- an offset's value, and where it ends
pub record Offset : Type 0 where
  pub value : ℕ
  pub next : ℕ

-- the offset at `at`, of the kind that the table names
unfoldable pub offset_at : List ℕ → ℕ → ℕ → ℕ → Res Offset
offset_at s at kind flag = do
  k ← offset_kind kind (flag / 64)
  value ← sample_at k s at
  ok (record { value = value; next = at + type_size k })

-- "A non-finite offset is 8."
unfoldable pub finite_offset : List ℕ → ℕ → ℕ → ℕ → Res Offset
finite_offset s at kind flag = do
  o ← offset_at s at kind flag
  _ ← require (finite o.value) 8
  ok o

-- low bits 1 and 3
unfoldable pub offset_block : List ℕ → ℕ → ℕ → ℕ → ℕ → ℕ → ℕ → Res Block
offset_block s at kind error top flag n = do
  o ← finite_offset s at kind flag
  cond (eqb (flag % 4) 3) (level_block o.next kind o.value n) (stepped_block s o.next kind error top o.value n)

-- "Low two bits: 0 raw words of valid pixels; 2 zero words; 3 one offset; 1 offset and packed counts."
unfoldable pub formed : List ℕ → ℕ → ℕ → ℕ → ℕ → ℕ → ℕ → Res Block
formed s at kind error top flag n =
    cond (eqb (flag % 4) 0) (raw_words s at kind n)
    (cond (eqb (flag % 4) 2) (ok (record { words = replicate n 0; next = at }))
    (offset_block s at kind error top flag n))

-- "Flag byte: (flag/4)%16 must equal (x/8)%16."
unfoldable pub flag_at : List ℕ → ℕ → ℕ → Res ℕ
flag_at s at x = do
  flag ← word_at 1 s at
  _ ← require (eqb (flag / 4 % 16) (x / 8 % 16)) 8
  ok flag

-- the block at `at`, of a tile that begins in column x and has n valid pixels; `top` is its depth's maximum
unfoldable pub block_says : List ℕ → ℕ → ℕ → ℕ → ℕ → ℕ → ℕ → Res Block
block_says s at kind error top x n = do
  flag ← flag_at s at x
  formed s (at + 1) kind error top flag n

-- ---- reading a block: a tile has at most 256 pixels, so more are 8

abbrev pub tile_limit : ℕ
tile_limit = 256

unfoldable pub read_block_says : List ℕ → ℕ → ℕ → ℕ → ℕ → ℕ → ℕ → Res Block
read_block_says s at kind error top x n = do
  _ ← require (leb n tile_limit) 8
  block_says s at kind error top x n

-- where the next block begins
abbrev pub next_block : Res Block → Res ℕ
next_block m = m >>= λ b. ok b.next

-- the words stand in front; a refusal leaves the array
pub record BlockRead (m : Res Block) (r : Res ℕ) (old new : List ℕ) : Type 0 where
  pub says : r ≡ next_block m
  pub words : new ≡ after m old (λ b. over b.words old)
