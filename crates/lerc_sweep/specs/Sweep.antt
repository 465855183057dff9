-- The bytes in front of a body that is not constant.
-- Assumes nothing.
use Rattle.std.specs.Prelude.{ℕ, ◌+◌, Bool, cond, ◌&&◌, List, ltb, eqb}
use Rattle.lerc_words.specs.Res.{Res, ok, ◌>>=◌, marked, require, word_at}
use Rattle.lerc_sweep.specs.declared.Way.{Way as Found}
use Rattle.lerc_sweep.specs.declared.Way.TheVariants as found

-- raw words, or blocks, from a place on; or a Huffman image, with prediction or without, whose mode byte has a place
abbrev pub Way : Type 0
Way = Found

pattern abbrev pub raw_from : ℕ → Way
raw_from at = found.Raw at

pattern abbrev pub blocks_from : ℕ → Way
blocks_from at = found.Blocks at

pattern abbrev pub huffman_from : Bool → ℕ → Way
huffman_from delta at = found.Huffman delta at

-- "Kinds 0 and 1 with error exactly 0.5 have a mode byte"
abbrev pub has_mode_byte : ℕ → ℕ → Bool
has_mode_byte kind error = ltb kind 2 && eqb error 0x3fe0000000000000

-- "0 blocks; .. others 8"; "Mode bytes 1 (delta) and 2 now decode"
unfoldable pub mode_byte : List ℕ → ℕ → Res Way
mode_byte s at = do
  mode ← word_at 1 s at
  _ ← require (ltb mode 3) 8
  ok (cond (eqb mode 0) (blocks_from (at + 1)) (huffman_from (eqb mode 1) at))

-- "the sweep or mode byte for a fault in it .., or where the missing one should be"
abbrev pub mode_at : List ℕ → ℕ → Res Way
mode_at s at = marked at (mode_byte s at)

-- where the blocks begin, or the mode byte of a Huffman image stands
unfoldable pub moded : List ℕ → ℕ → ℕ → ℕ → Res Way
moded s kind error at = cond (has_mode_byte kind error) (mode_at s at) (ok (blocks_from at))

-- "Else a sweep byte: 1 is raw words ..; 0 goes on; others are 8."
unfoldable pub sweep_byte : List ℕ → ℕ → Res ℕ
sweep_byte s at = do
  sweep ← word_at 1 s at
  _ ← require (ltb sweep 2) 8
  ok sweep

-- the sweep byte, whose faults are at its place, and the mode byte behind it
unfoldable pub swept : List ℕ → ℕ → ℕ → ℕ → Res Way
swept s kind error at = do
  sweep ← marked at (sweep_byte s at)
  cond (eqb sweep 1) (ok (raw_from (at + 1))) (moded s kind error (at + 1))
