-- Numbers of a kind out of bytes, values as stored words, and the kinds of a block's offset.
-- Assumes nothing.
use Rattle.std.specs.Prelude.{cond, List, [], ◌∷◌, ℕ, get_or, ltb, eqb}
use Rattle.lerc_words.specs.Res.{Res, ok, ◌>>=◌, require, word_at}
use Rattle.lerc_numeric.specs.Kinds.{type_size, value_of, narrowed, cut}

-- a number of the kind at a place, as a binary64; "passes the declared size": 1
unfoldable pub sample_at : ℕ → List ℕ → ℕ → Res ℕ
sample_at kind s at = do
  w ← word_at (type_size kind) s at
  ok (value_of kind w)

-- "Storing: kinds 0 to 5 cut ..; 6 rounds to binary32 ..; 7 keeps the bits."
unfoldable pub stored : ℕ → ℕ → Res ℕ
stored kind w = cond (ltb kind 6) (cut kind w) (ok (cond (eqb kind 6) (narrowed w) w))

-- the number in the table that means refused
abbrev pub no_kind : ℕ
no_kind = 9

-- "Offset kinds, as one table by kind and flag/64"
unfoldable pub offset_kinds : List (List ℕ)
offset_kinds =
    (0 ∷ 9 ∷ 9 ∷ 9 ∷ [])
    ∷ (1 ∷ 9 ∷ 9 ∷ 9 ∷ [])
    ∷ (2 ∷ 1 ∷ 0 ∷ 9 ∷ [])
    ∷ (3 ∷ 1 ∷ 9 ∷ 9 ∷ [])
    ∷ (4 ∷ 3 ∷ 2 ∷ 1 ∷ [])
    ∷ (5 ∷ 3 ∷ 1 ∷ 9 ∷ [])
    ∷ (6 ∷ 2 ∷ 1 ∷ 9 ∷ [])
    ∷ (7 ∷ 6 ∷ 4 ∷ 2 ∷ [])
    ∷ []

-- "'-' is 8"; so are a kind and a code that the table does not have
unfoldable pub offset_kind : ℕ → ℕ → Res ℕ
offset_kind kind code = do
  let k = get_or (get_or offset_kinds kind []) code no_kind
  _ ← require (ltb k no_kind) 8
  ok k
