-- Lists of bytes of which the rule and the sentence give different checksums, one for each of the four, and two words whose change of places the rule misses.
-- Assumes nothing.
use Rattle.std.specs.Prelude.{ℕ, ◌-◌, ◌*◌, ◌%◌, ◌≡◌, true, false, List, [], ◌∷◌, ◌++◌, replicate, eqb}
use Rattle.lerc_checksum.specs.Checksum.{word, by_the_words, last_sums, checksum, exceptional}
use Rattle.lerc_checksum.specs.Laws.{Bytes, difference, Swapped}

-- the sums before the last fold, a and b, and what the rule and the sentence give
pub record Differs (s : List ℕ) (a b r w : ℕ) : Type 0 where
  pub bytes : Bytes s
  pub sums : last_sums s ≡ record { first = a; second = b }
  pub is-exceptional : exceptional s ≡ true
  pub rule : checksum s ≡ r
  pub sentence : by_the_words s ≡ w

-- words changed places, how far they stand apart times their difference is no multiple of 65,535, and yet the checksum is the same: of one list the sums are one of the four, of the other they are none
pub record Missed (i j : ℕ) (s t : List ℕ) : Type 0 where
  pub bytes-before : Bytes s
  pub bytes_after : Bytes t
  pub swapped : Swapped i j s t
  pub is-exceptional : exceptional s ≡ true
  pub is-usual : exceptional t ≡ false
  pub apart : eqb ((j - i) * difference (word s i) (word s j) % 65535) 0 ≡ false
  pub same : checksum s ≡ checksum t

-- the bytes from 14 on of what Esri's encoder writes for the four 8-bit cells 82 5 160 140 in one row, raw words
unfoldable pub encoded : List ℕ
encoded =
    1 ∷ 0 ∷ 0 ∷ 0 ∷ 4 ∷ 0 ∷ 0 ∷ 0 ∷ 1 ∷ 0 ∷ 0 ∷ 0 ∷ 4 ∷ 0 ∷ 0 ∷ 0 ∷ 8 ∷ 0 ∷ 0 ∷ 0 ∷ 77 ∷ 0 ∷ 0 ∷ 0 ∷ 1 ∷ 0 ∷ 0 ∷ 0 ∷ 0 ∷ 0 ∷ 0 ∷ 0 ∷ 0 ∷ 0 ∷ 224 ∷ 63 ∷ 0 ∷ 0 ∷ 0 ∷ 0 ∷ 0 ∷ 0 ∷ 20 ∷ 64 ∷ 0 ∷ 0 ∷ 0 ∷ 0
    ∷ 0 ∷ 0 ∷ 100 ∷ 64 ∷ 0 ∷ 0 ∷ 0 ∷ 0 ∷ 5 ∷ 160 ∷ 1 ∷ 82 ∷ 5 ∷ 160 ∷ 140 ∷ []

-- and of a blob with the cells 5 23 139 144 in one block, which Esri's decoder reads with this checksum and refuses with the sentence's
unfoldable pub decoded : List ℕ
decoded =
    1 ∷ 0 ∷ 0 ∷ 0 ∷ 4 ∷ 0 ∷ 0 ∷ 0 ∷ 1 ∷ 0 ∷ 0 ∷ 0 ∷ 4 ∷ 0 ∷ 0 ∷ 0 ∷ 8 ∷ 0 ∷ 0 ∷ 0 ∷ 79 ∷ 0 ∷ 0 ∷ 0 ∷ 1 ∷ 0 ∷ 0 ∷ 0 ∷ 0 ∷ 0 ∷ 0 ∷ 0 ∷ 0 ∷ 0 ∷ 224 ∷ 63 ∷ 0 ∷ 0 ∷ 0 ∷ 0 ∷ 0 ∷ 0 ∷ 20 ∷ 64 ∷ 0 ∷ 0 ∷ 0 ∷ 0
    ∷ 0 ∷ 0 ∷ 98 ∷ 64 ∷ 0 ∷ 0 ∷ 0 ∷ 0 ∷ 5 ∷ 144 ∷ 0 ∷ 0 ∷ 0 ∷ 5 ∷ 23 ∷ 139 ∷ 144 ∷ []

-- a group of zeros, then 65,534; and the same with the group's last zero and 65,534 changed
abbrev pub before : List ℕ
before = replicate 718 0 ++ (255 ∷ 254 ∷ (replicate 36 255 ++ (0 ∷ 237 ∷ 255 ∷ 39 ∷ 255 ∷ [])))

abbrev pub changed : List ℕ
changed = replicate 716 0 ++ (255 ∷ 254 ∷ 0 ∷ 0 ∷ (replicate 36 255 ++ (0 ∷ 237 ∷ 255 ∷ 39 ∷ 255 ∷ [])))

pub record Witnesses : Type 0 where
  -- 256 words of 65,535 and one of 256 are 2^24
  pub first-131071 : Differs (replicate 512 255 ++ (1 ∷ 0 ∷ 255 ∷ [])) 131071 196862 0x1010000 0x1010001
  pub second-131071 : Differs (0 ∷ 1 ∷ 128 ∷ 126 ∷ 255 ∷ []) 98175 131071 0x7F80 0x17F80
  pub second-196606 : Differs (replicate 38 255 ++ (0 ∷ 216 ∷ 255 ∷ 59 ∷ 255 ∷ [])) 130835 196606 0xFF14 0x1FF14
  pub second-196607 : Differs (replicate 38 255 ++ (0 ∷ 217 ∷ 255 ∷ 58 ∷ 255 ∷ [])) 130835 196607 0x1FF14 0x2FF14
  -- Esri's encoder stores 00005153
  pub written : Differs encoded 86354 131071 0x5153 0x15153
  pub taken : Differs decoded 91616 131071 0x65E1 0x165E1
  -- so `two-words-by-rule` needs what it asks
  pub missed : Missed 358 359 before changed
