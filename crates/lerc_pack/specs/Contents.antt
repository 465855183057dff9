-- The contents of a pack: its tiles, each an entry and a blob; the rules that they keep; and the bytes of a pack with these contents.
-- Assumes nothing.
use Rattle.std.specs.Prelude.{ℕ, zero, suc, ◌+◌, ◌-◌, ◌*◌, ◌/◌, ◌%◌, Bool, true, ◌&&◌, ◌||◌, List, [], ◌∷◌, ◌++◌, length, get_or, leb, ltb, eqb}
use Rattle.lerc_words.specs.Lists.{all_to}
use Rattle.lerc_slices.specs.Slices.{accepts_with}
use Rattle.lerc_header.specs.Header.{header_says}
use Rattle.lerc_pack.specs.declared.Entry.{Entry}

-- "entries and blob bytes"
pub record Tile : Type 0 where
  pub entry : Entry
  pub blob : List ℕ

-- ---- where things stand

-- "Byte 0 is version 1"
abbrev pub version : ℕ
version = 1

-- "a 4-byte count of 0 to 256"
abbrev pub tile_limit : ℕ
tile_limit = 256

-- "depth less one (0 to 63)"
abbrev pub depth_most : ℕ
depth_most = 64

-- "Each entry has 16 bytes": where the i-th begins, behind version, zeros and count; and where i of them end
abbrev pub entry_place : ℕ → ℕ
entry_place i = 8 + 16 * i

-- "start from the pack's first byte and length": over whole numbers, so that no sum wraps
abbrev pub body_end : Entry → ℕ
body_end e = e.start + e.length

-- "bodies follow without gaps, in that order": the first of n behind the contents, each other behind the one before it
abbrev pub body_place : ℕ → (ℕ → Tile) → ℕ → ℕ
body_place n tiles zero = entry_place n
body_place n tiles (suc i) = body_end (tiles i).entry

-- ---- what n tiles, by number, must keep

-- "by row, then column"
unfoldable pub before : Entry → Entry → Bool
before e f = ltb e.row f.row || (eqb e.row f.row && ltb e.column f.column)

-- "Entries rise strictly"
abbrev pub rises_at : (ℕ → Tile) → ℕ → Bool
rises_at tiles zero = true
rises_at tiles (suc i) = before (tiles i).entry (tiles (suc i)).entry

-- "Kind, depth and length must match the blob's header, which must itself be accepted."
unfoldable pub matches : Entry → List ℕ → Bool
matches e blob = accepts_with (header_says blob) (λ h. eqb e.kind h.kind && eqb e.depth h.depth && eqb e.length h.size)

-- "tile row and tile column (2 each)"
abbrev pub two_bytes : ℕ → Bool
two_bytes v = ltb v 65536

-- the i-th of n tiles
unfoldable pub tile_right : ℕ → (ℕ → Tile) → ℕ → Bool
tile_right n tiles i =
    let t = tiles i in
    two_bytes t.entry.row && two_bytes t.entry.column && leb t.entry.depth depth_most
    && eqb t.entry.start (body_place n tiles i) && rises_at tiles i
    && eqb t.entry.length (length t.blob) && matches t.entry t.blob

unfoldable pub tiles_right : ℕ → (ℕ → Tile) → Bool
tiles_right n tiles = leb n tile_limit && all_to n (tile_right n tiles)

-- ---- contents as a list

abbrev pub none : Tile
none = record { entry = record { row = 0; column = 0; kind = 0; depth = 0; start = 0; length = 0 }; blob = [] }

abbrev pub numbered : List Tile → ℕ → Tile
numbered ts i = get_or ts i none

-- contents that a pack can have
abbrev pub contents_right : List Tile → Bool
contents_right ts = tiles_right (length ts) (numbered ts)

-- ---- their bytes

-- a number in so many bytes, "little-endian"; what does not fit is cut
unfoldable pub in_bytes : ℕ → ℕ → List ℕ
in_bytes zero v = []
in_bytes (suc n) v = v % 256 ∷ in_bytes n (v / 256)

-- "tile row and tile column (2 each), kind, depth less one .., two zero bytes, start .. and length (4 each)". Four bytes hold every start:
-- 255 blobs of the most bytes, behind the most entries, end below 2^32.
unfoldable pub entry_bytes : Entry → List ℕ
entry_bytes e =
    in_bytes 2 e.row ++ in_bytes 2 e.column ++ in_bytes 1 e.kind ++ in_bytes 1 (e.depth - 1) ++ in_bytes 2 0
    ++ in_bytes 4 e.start ++ in_bytes 4 e.length

-- "version 1, three zero bytes, a 4-byte count"
unfoldable pub head_bytes : ℕ → List ℕ
head_bytes n = in_bytes 1 version ++ in_bytes 3 0 ++ in_bytes 4 n

-- the lists of 0, 1, .., n - 1, end to end
unfoldable pub joined : ℕ → (ℕ → List ℕ) → List ℕ
joined zero part = []
joined (suc n) part = joined n part ++ part n

-- "a table of contents first, then the bodies"
unfoldable pub bytes_of : ℕ → (ℕ → Tile) → List ℕ
bytes_of n tiles = head_bytes n ++ joined n (λ i. entry_bytes (tiles i).entry) ++ joined n (λ i. (tiles i).blob)

-- the pack with these contents
abbrev pub pack_bytes : List Tile → List ℕ
pack_bytes ts = bytes_of (length ts) (numbered ts)
