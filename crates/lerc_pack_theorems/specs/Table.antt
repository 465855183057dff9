-- When a pack, an entry and a writer's call are refused: each breach in a line of its own.
-- Assumes nothing.
use Rattle.std.specs.Prelude.{ℕ, suc, ◌≤◌, ◌<◌, ◌≡◌, ◌≢◌, false, List, length, get_or}
use Rattle.lerc_words.specs.declared.Refusal.{Refusal}
use Rattle.lerc_words.specs.Res.{ok, fail, refuse, little}
use Rattle.lerc_header.specs.declared.Header.{Header}
use Rattle.lerc_header.specs.Header.{header_says}
use Rattle.lerc_pack.specs.Contents.{version, tile_limit, depth_most, entry_place, body_end, body_place, before}
use Rattle.lerc_pack.specs.Pack.{count_of, entry_part, entry_at, body_of, tile_of}
use Rattle.lerc_pack_writer.specs.Writing.{Given, body_start, blob_given, tile_given, pack_length}

-- "A breach is new refusal 12."
pub data PackWrong (b : List ℕ) : Type 0 where
  short : length b < 8 → PackWrong b
  other-version : little 1 b 0 ≢ version → PackWrong b
  no-zeros : little 3 b 1 ≢ 0 → PackWrong b
  too_many : tile_limit < count_of b → PackWrong b
  cut_short : length b < entry_place (count_of b) → PackWrong b
  no-zeros-at : (i : ℕ) → i < count_of b → little 2 (entry_part b i) 6 ≢ 0 → PackWrong b
  too-deep : (i : ℕ) → i < count_of b → depth_most < (entry_at b i).depth → PackWrong b
  -- a gap, or bodies that overlap
  apart : (i : ℕ) → i < count_of b → (entry_at b i).start ≢ body_place (count_of b) (tile_of b) i → PackWrong b
  unordered : (i : ℕ) → suc i < count_of b → before (entry_at b i) (entry_at b (suc i)) ≡ false → PackWrong b
  past_end : (i : ℕ) → i < count_of b → length b < body_end (entry_at b i) → PackWrong b
  header_refused : (i : ℕ) (why : Refusal) → i < count_of b → header_says (body_of b (entry_at b i)) ≡ fail why → PackWrong b
  other-kind : (i : ℕ) (h : Header) → i < count_of b → header_says (body_of b (entry_at b i)) ≡ ok h → (entry_at b i).kind ≢ h.kind → PackWrong b
  other-depth : (i : ℕ) (h : Header) → i < count_of b → header_says (body_of b (entry_at b i)) ≡ ok h → (entry_at b i).depth ≢ h.depth → PackWrong b
  other_length : (i : ℕ) (h : Header) → i < count_of b → header_says (body_of b (entry_at b i)) ≡ ok h → (entry_at b i).length ≢ h.size → PackWrong b
  -- "to the end"
  other-end : body_place (count_of b) (tile_of b) (count_of b) ≢ length b → PackWrong b

pub data PackRefused (b : List ℕ) : Refusal → Type 0 where
  pack-wrong : PackWrong b → PackRefused b (refuse 12)

-- an entry by number, of slice and count
pub data EntryRefused (b : List ℕ) (n i : ℕ) : Refusal → Type 0 where
  number_past : n ≤ i → EntryRefused b n i (refuse 12)
  entry_past : length b < entry_place (suc i) → EntryRefused b n i (refuse 12)
  body-past : length b < body_end (entry_at b i) → EntryRefused b n i (refuse 12)

pub data GivenWrong (g : Given) : Type 0 where
  columns-differ : length g.columns ≢ length g.rows → GivenWrong g
  lengths_differ : length g.lengths ≢ length g.rows → GivenWrong g
  given-many : tile_limit < length g.rows → GivenWrong g
  no-sum : body_start g (length g.rows) ≢ length g.bodies → GivenWrong g
  given-unordered : (i : ℕ) → suc i < length g.rows → before (tile_given g i).entry (tile_given g (suc i)).entry ≡ false → GivenWrong g
  given-refused : (i : ℕ) (why : Refusal) → i < length g.rows → header_says (blob_given g i) ≡ fail why → GivenWrong g
  -- "a length that is not the size"
  given-length : (i : ℕ) (h : Header) → i < length g.rows → header_says (blob_given g i) ≡ ok h → get_or g.lengths i 0 ≢ h.size → GivenWrong g

-- "the writer refuses 12, then 5"
pub data WriteRefused (g : Given) (room : ℕ) : Refusal → Type 0 where
  given-wrong : GivenWrong g → WriteRefused g room (refuse 12)
  no_room : (GivenWrong g → ⊥) → room < pack_length g → WriteRefused g room (refuse 5)
