-- What is claimed of the checksum in calls: where 13 is given, what it leaves, what it finds out, and that what is not refused 13 is answered as it was.
-- Assumes nothing.
use Rattle.std.specs.Prelude.{ℕ, ◌%◌, ◌≤◌, ◌≡◌, ◌↔◌, ◌≢◌, Bool, true, List, [], ◌∷◌, length, take, leb}
use Rattle.lerc_words.specs.declared.Refusal.{Refusal}
use Rattle.lerc_words.specs.Res.{Res, ok, fail, ◌>>=◌, refuse, require, accepts, little}
use Rattle.lerc_checksum.specs.Checksum.{word, checksum}
use Rattle.lerc_checksum.specs.Laws.{Bytes, OneChanged, ChecksumLaws}
use Rattle.lerc_checksum.specs.Witness.{Witnesses}
use Rattle.lerc_header.specs.declared.Header.{Header}
use Rattle.lerc_header.specs.Header.{header_bytes, key_right, header_of, held, summed_bytes, checksum_right, header_says}
use Rattle.lerc_validity.specs.Validity.{mask_says}
use Rattle.lerc.specs.Meaning.{Meaning, meaning_from, meaning}
use Rattle.lerc.specs.Read.{Lent, room, Masked, read_count, read_after, ReadTold}
use Rattle.lerc_theorems.specs.Table.{HeldRight, ChecksumWrong}
use Rattle.lerc_theorems.specs.Calls.{HeaderCall, ReadCall}

-- the header has none of "the header's own refusals", and the checksum is wrong
pub record WronglySummed (b : List ℕ) : Type 0 where
  pub long : header_bytes ≤ length b
  pub key : key_right b ≡ true
  pub right : HeldRight (header_of b) (length b)
  pub wrong : ChecksumWrong b (header_of b).size

-- ---- the rules as they were, "the checksum field is ignored": a header, a meaning, and whole read

unfoldable pub unsummed_header : List ℕ → Res Header
unsummed_header b = do
  _ ← require (leb header_bytes (length b)) 1
  _ ← require (key_right b) 2
  _ ← held (header_of b) (length b)
  ok (header_of b)

unfoldable pub unsummed_meaning : List ℕ → Bool → List ℕ → Res Meaning
unsummed_meaning b reuse old = do
  h ← unsummed_header b
  m ← mask_says (take h.size b) h reuse old
  meaning_from b h m

unfoldable pub unsummed_masked : List ℕ → Bool → Lent → Res Masked
unsummed_masked b reuse l = do
  h ← unsummed_header b
  _ ← require (room h l) 5
  m ← mask_says (take h.size b) h reuse l.kept
  ok (record { header = h; mask = m })

unfoldable pub unsummed_read : List ℕ → Bool → Lent → Res Meaning
unsummed_read b reuse l = do
  m ← unsummed_masked b reuse l
  meaning_from b m.header m.mask

-- ---- the claims

-- "Refusal 13, after the header's own refusals", exactly: by header reading
abbrev pub HeaderRefuses : Type 0
HeaderRefuses = (b : List ℕ) (said : Res Header) → HeaderCall b said → (said ≡ fail (refuse 13)) ↔ WronglySummed b

-- "and before room": by whole read, whatever the slices
abbrev pub ReadRefuses : Type 0
ReadRefuses = (b : List ℕ) (reuse : Bool) (said : Res ReadTold) (old new : Lent) → ReadCall b reuse said old new → (said ≡ fail (refuse 13)) ↔ WronglySummed b

-- and every slice is as it was, the spare too
abbrev pub ReadKeeps : Type 0
ReadKeeps = (b : List ℕ) (reuse : Bool) (old new : Lent) → ReadCall b reuse (fail (refuse 13)) old new → new ≡ old

-- what is read has the checksum of its bytes: by header reading, so that all laws of checksums apply
abbrev pub HeaderSummed : Type 0
HeaderSummed = (b : List ℕ) (h : Header) → HeaderCall b (ok h) → little 4 b 10 ≡ checksum (summed_bytes b h.size)

-- and by whole read
abbrev pub ReadSummed : Type 0
ReadSummed = (b : List ℕ) (reuse : Bool) (h : Header) (n end : ℕ) (old new : Lent) → ReadCall b reuse (ok (record { header = h; blocks = n; end = end })) old new → little 4 b 10 ≡ checksum (summed_bytes b h.size)

-- "A stored 0 is never right"
abbrev pub ZeroRefused : Type 0
ZeroRefused = (b : List ℕ) (said : Res Header) → Bytes b → HeaderCall b said → little 4 b 10 ≡ 0 → (h : Header) → said ≢ ok h

-- of two blobs of one size that store the same and differ in one word, not by a multiple of 65,535, not both are read. (Where the word is of the size itself, other bytes are summed: `SizeMissed`.)
abbrev pub WordRefused : Type 0
WordRefused =
    (i : ℕ) (b c : List ℕ) (h g : Header) → Bytes b → Bytes c → little 4 b 10 ≡ little 4 c 10 → OneChanged i (summed_bytes b h.size) (summed_bytes c g.size)
    → word (summed_bytes b h.size) i % 65535 ≢ word (summed_bytes c g.size) i % 65535 → HeaderCall b (ok h) → HeaderCall c (ok g) → ⊥

-- a header is accepted exactly where it was and the checksum is right
abbrev pub HeaderAsBefore : Type 0
HeaderAsBefore = (b : List ℕ) (h : Header) (said : Res Header) → HeaderCall b said → (said ≡ ok h) ↔ ((unsummed_header b ≡ ok h) × (checksum_right b h.size ≡ true))

-- and refused otherwise than 13 exactly where it was, by that number at that place
abbrev pub HeaderRefusedAsBefore : Type 0
HeaderRefusedAsBefore = (b : List ℕ) (why : Refusal) (said : Res Header) → HeaderCall b said → why.number ≢ 13 → (said ≡ fail why) ↔ (unsummed_header b ≡ fail why)

-- a blob has a meaning exactly where it had one and its checksum is right, and means what it meant
abbrev pub MeaningAsBefore : Type 0
MeaningAsBefore = (b : List ℕ) (reuse : Bool) (old : List ℕ) (m : Meaning) → (meaning b reuse old ≡ ok m) ↔ ((unsummed_meaning b reuse old ≡ ok m) × (checksum_right b m.header.size ≡ true))

-- and a whole read of a blob with a right checksum answers and leaves what it did: number, place and every slice
abbrev pub ReadAsBefore : Type 0
ReadAsBefore =
    (b : List ℕ) (reuse : Bool) (said : Res ReadTold) (old new : Lent) → ReadCall b reuse said old new → checksum_right b (header_of b).size ≡ true
    → (said ≡ (unsummed_read b reuse old >>= read_count)) × (new ≡ read_after (unsummed_read b reuse old) (unsummed_masked b reuse old) old)

-- ---- what it does not find out

-- one row and column, one cell, constant: size 80, and the same with 72 for its size; both store one checksum, and both are read
abbrev pub sized : ℕ → List ℕ
sized size =
    76 ∷ 101 ∷ 114 ∷ 99 ∷ 50 ∷ 32 ∷ 4 ∷ 0 ∷ 0 ∷ 0 ∷ 0xFF ∷ 0xD3 ∷ 0x46 ∷ 0x05 ∷ 1 ∷ 0 ∷ 0 ∷ 0 ∷ 1 ∷ 0 ∷ 0 ∷ 0 ∷ 1 ∷ 0 ∷ 0 ∷ 0 ∷ 1 ∷ 0 ∷ 0 ∷ 0 ∷ 8 ∷ 0 ∷ 0 ∷ 0 ∷ size ∷ 0 ∷ 0 ∷ 0 ∷ 1 ∷ 0 ∷ 0 ∷ 0
    ∷ 0 ∷ 0 ∷ 0 ∷ 0 ∷ 0 ∷ 0 ∷ 0xE0 ∷ 0x3F ∷ 0 ∷ 0 ∷ 0 ∷ 0 ∷ 0 ∷ 0 ∷ 0x24 ∷ 0x40 ∷ 0 ∷ 0 ∷ 0 ∷ 0 ∷ 0 ∷ 0 ∷ 0x24 ∷ 0x40 ∷ 0 ∷ 0 ∷ 0 ∷ 0 ∷ 0x56 ∷ 0x3F ∷ 0 ∷ 0 ∷ 0 ∷ 0 ∷ 0 ∷ 0 ∷ 0xF7 ∷ 0xFF ∷ []

abbrev pub SizeMissed : Type 0
SizeMissed = (accepts (header_says (sized 80)) ≡ true) × (accepts (header_says (sized 72)) ≡ true)

pub record Summed : Type 0 where
  -- the rule and the sentence, what no blob stores, and which changes are found out
  pub laws : ChecksumLaws
  -- each case in which rule and sentence differ, computed
  pub witnesses : Witnesses
  pub header_refused : HeaderRefuses
  pub read-refused : ReadRefuses
  pub read_keeps : ReadKeeps
  pub header-summed : HeaderSummed
  pub read-summed : ReadSummed
  pub zero-stored : ZeroRefused
  pub one_word : WordRefused
  pub size-missed : SizeMissed
  pub header-as-before : HeaderAsBefore
  pub header-refused-as-before : HeaderRefusedAsBefore
  pub meaning-as-before : MeaningAsBefore
  pub read-as-before : ReadAsBefore
