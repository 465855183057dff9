-- What is claimed of packs: which bytes are one, that packs and contents correspond one to one, what is handed out of a pack, what the writer writes, and what is refused.
-- `Bytes` and `Twos` say of a list what the type of a slice says: every entry is a byte, or has two bytes.
-- Assumes nothing.
use Rattle.std.specs.Prelude.{ℕ, ◌≤◌, ◌<◌, ◌≡◌, ◌↔◌, Bool, true, List, [], ◌∷◌, length, get_or, take, drop}
use Rattle.lerc_words.specs.declared.Refusal.{Refusal}
use Rattle.lerc_words.specs.Res.{ok, Res, fail}
use Rattle.lerc_words.specs.Lists.{tabulate}
use Rattle.lerc_words.proofs.Little.{Bytes}
use Rattle.lerc_header.specs.declared.Header.{Header}
use Rattle.lerc_header.specs.Header.{header_says}
use Rattle.lerc_header.proofs.is_tile.Reads as is-tile
use Rattle.lerc_image.specs.Paint.{among}
use Rattle.lerc_pack.specs.declared.Entry.{Entry}
use Rattle.lerc_pack.specs.Contents.{Tile, entry_place, contents_right, joined, pack_bytes}
use Rattle.lerc_pack.specs.Pack.{count_of, entry_at, tile_of, contents, pack_says, count_in, opened_says, body_says, behind}
use Rattle.lerc_pack.proofs.open_pack.Reads as open-pack
use Rattle.lerc_pack.proofs.count_tiles.Reads as count-tiles
use Rattle.lerc_pack.proofs.pack_answer.Reads as pack-answering
use Rattle.lerc_pack.proofs.entry_in.Reads as entry_in
use Rattle.lerc_pack.proofs.body_in.Reads as body-in
use Rattle.lerc_pack.specs.contracts.Entry as entry-type
use Rattle.lerc_pack.proofs.Entry.TheLaws as entry-laws
use denote.Struct.Field.{usize-field}
use Rattle.lerc_pack_writer.specs.Writing.{Given, tile_given, pack_length, pack_given}
use Rattle.lerc_pack_writer.proofs.Judging.{Twos}
use Rattle.lerc_pack_writer.proofs.write_pack.Reads as write-pack
use Rattle.lerc.specs.Read.{Lent}
use Rattle.lerc_theorems.specs.Promises.{Fixed, Answers, Writes, Why, usize-row-laws}
use Rattle.lerc_theorems.specs.Table.{HeaderRefused}
use Rattle.lerc_theorems.specs.Writes.{AlikeFrom}
use Rattle.lerc_staged.specs.Calls.{StageCall}
use Rattle.lerc_pack_theorems.specs.Table.{PackRefused, EntryRefused, WriteRefused}
use Rattle.lerc_pack_theorems.specs.Witness.{Computed}
use Rattle.lerc_pack_theorems.specs.Calls.{OpenCall, EntryCall, BodyCall, WriteCall}

-- ---- no promise leaves room

-- each public function of both crates, and the judge of a tile's header; but for the methods of `Pack`, whose promises say the answer by the same definitions, of slice and count
pub record PacksNoRoom : Type 0 where
  pub is-tile : Answers is-tile.Pre is-tile.Post
  pub pack-refusal : Why usize-field.row usize-row-laws
  pub entry-refusal : Why entry-type.the_row entry-laws.the_row_laws
  pub open-pack : Answers open-pack.Pre open-pack.Post
  pub count-tiles : Answers count-tiles.Pre count-tiles.Post
  pub pack-answer : Answers pack-answering.Pre pack-answering.Post
  pub entry_in : Answers entry_in.Pre entry_in.Post
  -- what the part holds, and where it stands
  pub body-in : Fixed {B = List ℕ × (ℕ × ℕ)} {S = Unit {0}} body-in.Pre body-in.Post (λ r. (r.now, r.ref_ptr)) (λ o. tt)
  pub write-refusal : Why usize-field.row usize-row-laws
  pub write-pack : Writes write-pack.Pre write-pack.Post (λ o. o.1.1.1.1.0.now)

-- ---- refusals: each number exactly where the table says, at 0

abbrev pub OpenRefuses : Type 0
OpenRefuses = (b : List ℕ) (said : Res ℕ) (why : Refusal) → Bytes b → OpenCall b said → (said ≡ fail why) ↔ PackRefused b why

abbrev pub EntryRefuses : Type 0
EntryRefuses = (b : List ℕ) (n i : ℕ) (said : Res Entry) (why : Refusal) → EntryCall b n i said → (said ≡ fail why) ↔ EntryRefused b n i why

abbrev pub WriteRefuses : Type 0
WriteRefuses = (g : Given) (said : Res ℕ) (why : Refusal) (old new : List ℕ) → Twos g → WriteCall g said old new → (said ≡ fail why) ↔ WriteRefused g (length old) why

-- "and then writes nothing"
abbrev pub WriteKeeps : Type 0
WriteKeeps = (g : Given) (why : Refusal) (old new : List ℕ) → WriteCall g (fail why) old new → new ≡ old

-- which numbers there are at all
abbrev pub OpenNumbers : Type 0
OpenNumbers = (b : List ℕ) (why : Refusal) → OpenCall b (fail why) → among (12 ∷ []) why.number ≡ true

abbrev pub EntryNumbers : Type 0
EntryNumbers = (b : List ℕ) (n i : ℕ) (why : Refusal) → EntryCall b n i (fail why) → among (12 ∷ []) why.number ≡ true

abbrev pub WriteNumbers : Type 0
WriteNumbers = (g : Given) (why : Refusal) (old new : List ℕ) → WriteCall g (fail why) old new → among (5 ∷ 12 ∷ []) why.number ≡ true

-- ---- one to one

-- "Equal contents (entries and blob bytes) exactly when equal bytes"
abbrev pub SameContents : Type 0
SameContents = (a b : List ℕ) (n m : ℕ) → Bytes a → Bytes b → OpenCall a (ok n) → OpenCall b (ok m) → (contents a ≡ contents b) ↔ (a ≡ b)

abbrev pub SameBytes : Type 0
SameBytes = (s t : List Tile) → contents_right s ≡ true → contents_right t ≡ true → (pack_bytes s ≡ pack_bytes t) ↔ (s ≡ t)

-- the pack of contents that keep the rules is accepted, and has these contents
abbrev pub PackHolds : Type 0
PackHolds = (ts : List Tile) (said : Res ℕ) → contents_right ts ≡ true → OpenCall (pack_bytes ts) said → (said ≡ ok (length ts)) × (contents (pack_bytes ts) ≡ ts)

-- contents of an accepted pack keep the rules, and it is the pack of them
abbrev pub ContentsHold : Type 0
ContentsHold = (b : List ℕ) (n : ℕ) → Bytes b → OpenCall b (ok n) → (length (contents b) ≡ n) × (contents_right (contents b) ≡ true) × (pack_bytes (contents b) ≡ b)

-- "The empty pack is 01 and seven zeros."
abbrev pub empty_pack : List ℕ
empty_pack = 1 ∷ 0 ∷ 0 ∷ 0 ∷ 0 ∷ 0 ∷ 0 ∷ 0 ∷ []

abbrev pub EmptyPack : Type 0
EmptyPack = (b : List ℕ) (said : Res ℕ) → Bytes b → OpenCall b said → (said ≡ ok 0) ↔ (b ≡ empty_pack)

-- ---- reader and writer

-- what the writer is given, as contents
abbrev pub tiles_given : Given → List Tile
tiles_given g = tabulate (length g.rows) (tile_given g)

-- reading what the writer wrote gives what it was given
abbrev pub ReadWritten : Type 0
ReadWritten = (g : Given) (n : ℕ) (old new : List ℕ) (said : Res ℕ) → WriteCall g (ok n) old new → OpenCall (take n new) said
    → (said ≡ ok (length g.rows)) × (contents (take n new) ≡ tiles_given g)

-- an accepted pack, as the writer is given it
abbrev pub given_of : List ℕ → Given
given_of b =
    record {
      rows = tabulate (count_of b) (λ i. (entry_at b i).row);
      columns = tabulate (count_of b) (λ i. (entry_at b i).column);
      lengths = tabulate (count_of b) (λ i. (entry_at b i).length);
      bodies = drop (entry_place (count_of b)) b;
    }

-- writing what the reader read gives the bytes
abbrev pub WrittenRead : Type 0
WrittenRead = (b : List ℕ) (n : ℕ) (said : Res ℕ) (old new : List ℕ) → Bytes b → OpenCall b (ok n) → length b ≤ length old → WriteCall (given_of b) said old new
    → (said ≡ ok (length b)) × (take (length b) new ≡ b)

-- "success writes exactly the pack's length and reports it"
abbrev pub WriteWrites : Type 0
WriteWrites = (g : Given) (n : ℕ) (old new : List ℕ) → WriteCall g (ok n) old new → (n ≡ pack_length g) × (take n new ≡ pack_given g) × AlikeFrom n old new

-- ---- what is handed out of an accepted pack

-- what opening said is told by slice and count
abbrev pub ReaderHolds : Type 0
ReaderHolds = (b : List ℕ) → opened_says b (count_in b) ≡ pack_says b

-- each entry and each body, the part of the pack that the entry says
abbrev pub TileHanded : Type 0
TileHanded = (b : List ℕ) (n i : ℕ) (said : Res Entry) (place at : ℕ × ℕ) (part : List ℕ) → OpenCall b (ok n) → i < n → EntryCall b n i said → BodyCall b place n i part at
    → (said ≡ ok (entry_at b i)) × (record { entry = entry_at b i; blob = part } ≡ get_or (contents b) i (tile_of b i)) × (at ≡ behind place (entry_at b i).start)

-- "a part to be handed back is then empty"
abbrev pub RefusedEmpty : Type 0
RefusedEmpty = (b : List ℕ) (n i : ℕ) (why : Refusal) (place at : ℕ × ℕ) (part : List ℕ) → EntryCall b n i (fail why) → BodyCall b place n i part at → (part ≡ []) × (at ≡ place)

-- bodies partition the bytes behind the contents
abbrev pub BodiesPartition : Type 0
BodiesPartition = (b : List ℕ) (n : ℕ) → OpenCall b (ok n) → joined n (body_says b n) ≡ drop (entry_place n) b

-- each tile's header is accepted, and says what its entry says
pub record Headed (e : Entry) (blob : List ℕ) : Type 0 where
  pub header : Header
  pub read : header_says blob ≡ ok header
  pub kind : e.kind ≡ header.kind
  pub depth : e.depth ≡ header.depth
  pub size : e.length ≡ header.size
  pub whole : length blob ≡ header.size

abbrev pub TilesHeaded : Type 0
TilesHeaded = (b : List ℕ) (n i : ℕ) (place at : ℕ × ℕ) (part : List ℕ) → OpenCall b (ok n) → i < n → BodyCall b place n i part at → Headed (entry_at b i) part

-- so that staging one refuses by none of the header's lines, and by no number but these
abbrev pub TilesStage : Type 0
TilesStage =
    (b : List ℕ) (n i : ℕ) (place at : ℕ × ℕ) (part : List ℕ) (reuse : Bool) (why : Refusal) (old : Lent) (spare list : List ℕ) → OpenCall b (ok n) → i < n → BodyCall b place n i part at
    → StageCall part reuse (fail why) old spare list → ((other : Refusal) → HeaderRefused part other → ⊥) × (among (1 ∷ 5 ∷ 6 ∷ 7 ∷ 8 ∷ 9 ∷ []) why.number ≡ true)

pub record PackClaims : Type 0 where
  pub no_room : PacksNoRoom
  pub open-refuses : OpenRefuses
  pub entry-refuses : EntryRefuses
  pub write-refuses : WriteRefuses
  pub write_keeps : WriteKeeps
  pub open-numbers : OpenNumbers
  pub entry-numbers : EntryNumbers
  pub write-numbers : WriteNumbers
  pub same-contents : SameContents
  pub same_bytes : SameBytes
  pub pack-holds : PackHolds
  pub contents-hold : ContentsHold
  pub empty-pack : EmptyPack
  pub read-written : ReadWritten
  pub written_read : WrittenRead
  pub write-writes : WriteWrites
  pub reader-holds : ReaderHolds
  pub tile-handed : TileHanded
  pub refused-empty : RefusedEmpty
  pub bodies-partition : BodiesPartition
  pub tiles-headed : TilesHeaded
  pub tiles-stage : TilesStage
  -- the definitions on packs by their bytes, computed
  pub computed : Computed
