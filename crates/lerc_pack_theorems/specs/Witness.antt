-- Packs by their bytes, accepted and refused, and what the writer is lent: the definitions at work, computed by the checker.
-- Assumes nothing.
use Rattle.std.specs.Prelude.{ℕ, ◌≡◌, List, [], ◌∷◌, ◌++◌, map}
use Rattle.lerc_words.specs.Res.{Res, ok, fail, refuse}
use Rattle.lerc_pack.specs.Pack.{pack_says}
use Rattle.lerc_pack_writer.specs.Writing.{Given, write_says, pack_given}

-- the whole blob of the rules, 79 bytes, with its last byte and the first of its checksum open
abbrev pub blob_with : ℕ → ℕ → List ℕ
blob_with sum last =
    (76 ∷ 101 ∷ 114 ∷ 99 ∷ 50 ∷ 32 ∷ 4 ∷ 0 ∷ 0 ∷ 0 ∷ sum ∷ 61 ∷ 107 ∷ 56 ∷ 1 ∷ 0 ∷ 0 ∷ 0 ∷ 3 ∷ 0 ∷ 0 ∷ 0 ∷ 1 ∷ 0 ∷ 0 ∷ 0 ∷ 3 ∷ 0 ∷ 0 ∷ 0 ∷ [])
    ++ (8 ∷ 0 ∷ 0 ∷ 0 ∷ 79 ∷ 0 ∷ 0 ∷ 0 ∷ 1 ∷ 0 ∷ 0 ∷ 0 ∷ 0 ∷ 0 ∷ 0 ∷ 0 ∷ 0 ∷ 0 ∷ 224 ∷ 63 ∷ 0 ∷ 0 ∷ 0 ∷ 0 ∷ 0 ∷ 0 ∷ 36 ∷ 64 ∷ 0 ∷ 0 ∷ 0 ∷ 0 ∷ 0 ∷ 0 ∷ 40 ∷ 64 ∷ [])
    ++ (0 ∷ 0 ∷ 0 ∷ 0 ∷ 10 ∷ 12 ∷ 0 ∷ 0 ∷ 1 ∷ 10 ∷ 130 ∷ 3 ∷ last ∷ [])

abbrev pub blob : List ℕ
blob = blob_with 218 36

-- version, zeros and count
abbrev pub head : ℕ → ℕ → ℕ → List ℕ
head version spare count = version ∷ 0 ∷ 0 ∷ spare ∷ count ∷ 0 ∷ 0 ∷ 0 ∷ []

-- row, column, kind, depth less one, a zero byte, start, length
abbrev pub entry : ℕ → ℕ → ℕ → ℕ → ℕ → ℕ → ℕ → List ℕ
entry row column kind depth spare start long = row ∷ 0 ∷ column ∷ 0 ∷ kind ∷ depth ∷ 0 ∷ spare ∷ start ∷ 0 ∷ 0 ∷ 0 ∷ long ∷ 0 ∷ 0 ∷ 0 ∷ []

abbrev pub one : List ℕ → List ℕ
one e = head 1 0 1 ++ e ++ blob

abbrev pub two : List ℕ → List ℕ → List ℕ
two e f = head 1 0 2 ++ e ++ f ++ blob ++ blob

pub record PackRow : Type 0 where
  pub pack : List ℕ
  pub says : Res ℕ

abbrev pub right : List ℕ → ℕ → PackRow
right b n = record { pack = b; says = ok n }

abbrev pub wrong : List ℕ → PackRow
wrong b = record { pack = b; says = fail (refuse 12) }

abbrev pub packs : List PackRow
packs =
    -- "The empty pack is 01 and seven zeros."
    right (head 1 0 0) 0
    ∷ right (one (entry 0 0 1 0 0 24 79)) 1
    ∷ right (two (entry 0 5 1 0 0 40 79) (entry 1 2 1 0 0 119 79)) 2
    ∷ right (two (entry 3 5 1 0 0 40 79) (entry 3 6 1 0 0 119 79)) 2
    -- under 8 bytes, a byte behind the end, version, a zero byte
    ∷ wrong (1 ∷ 0 ∷ 0 ∷ 0 ∷ 0 ∷ 0 ∷ 0 ∷ [])
    ∷ wrong (head 1 0 0 ++ (0 ∷ []))
    ∷ wrong (head 2 0 0)
    ∷ wrong (head 1 1 0)
    -- contents cut short
    ∷ wrong (head 1 0 1)
    -- kind, depth, a zero byte, start with a gap, length of an entry
    ∷ wrong (one (entry 0 0 2 0 0 24 79))
    ∷ wrong (one (entry 0 0 1 1 0 24 79))
    ∷ wrong (one (entry 0 0 1 0 1 24 79))
    ∷ wrong (one (entry 0 0 1 0 0 25 79))
    ∷ wrong (one (entry 0 0 1 0 0 24 78))
    -- equal, falling by column, falling by row
    ∷ wrong (two (entry 3 5 1 0 0 40 79) (entry 3 5 1 0 0 119 79))
    ∷ wrong (two (entry 3 5 1 0 0 40 79) (entry 3 4 1 0 0 119 79))
    ∷ wrong (two (entry 3 5 1 0 0 40 79) (entry 2 6 1 0 0 119 79))
    -- bodies in another order
    ∷ wrong (two (entry 0 5 1 0 0 119 79) (entry 1 2 1 0 0 40 79))
    -- a header that is refused: 13
    ∷ wrong (head 1 0 1 ++ entry 0 0 1 0 0 24 79 ++ blob_with 219 36)
    ∷ wrong (head 1 0 1 ++ entry 0 0 1 0 0 24 79 ++ blob_with 218 37)
    -- a last body that is short of the end
    ∷ wrong (one (entry 0 0 1 0 0 24 79) ++ (0 ∷ []))
    ∷ []

pub record WriteRow : Type 0 where
  pub given : Given
  pub room : ℕ
  pub says : Res ℕ

abbrev pub lent : List ℕ → List ℕ → List ℕ → List ℕ → Given
lent rows columns lengths bodies = record { rows = rows; columns = columns; lengths = lengths; bodies = bodies }

abbrev pub writes : List WriteRow
writes =
    record { given = lent [] [] [] []; room = 8; says = ok 8 }
    ∷ record { given = lent (0 ∷ []) (0 ∷ []) (79 ∷ []) blob; room = 103; says = ok 103 }
    ∷ record { given = lent (0 ∷ []) (0 ∷ []) (79 ∷ []) blob; room = 102; says = fail (refuse 5) }
    -- "12, then 5"
    ∷ record { given = lent (0 ∷ []) (0 ∷ []) (78 ∷ []) blob; room = 0; says = fail (refuse 12) }
    ∷ record { given = lent (0 ∷ []) [] (79 ∷ []) blob; room = 103; says = fail (refuse 12) }
    ∷ record { given = lent (1 ∷ 0 ∷ []) (0 ∷ 7 ∷ []) (79 ∷ 79 ∷ []) (blob ++ blob); room = 300; says = fail (refuse 12) }
    ∷ record { given = lent (0 ∷ []) (0 ∷ []) (79 ∷ []) (blob_with 219 36); room = 103; says = fail (refuse 12) }
    ∷ []

pub record Computed : Type 0 where
  pub reads : map (λ (r : PackRow). pack_says r.pack) packs ≡ map (λ (r : PackRow). r.says) packs
  pub written : map (λ (r : WriteRow). write_says r.given r.room) writes ≡ map (λ (r : WriteRow). r.says) writes
  -- byte by byte
  pub bytes : pack_given (lent (0 ∷ []) (0 ∷ []) (79 ∷ []) blob) ≡ one (entry 0 0 1 0 0 24 79)
