-- Packs for C. Each definition refuses, or gives what is then written to the lent slices.
-- A slice too short for the place is refused first (5), then a record slice that is too short (5), then what the function refuses.
-- Assumes nothing.
use Rattle.std.specs.Prelude.{ℕ, ◌≡◌, List, [], ◌∷◌, length, leb}
use Rattle.lerc_words.specs.declared.Refusal.{Refusal}
use Rattle.lerc_words.specs.Res.{Res, ◌>>=◌, require, after}
use Rattle.lerc_words.specs.Lists.{over}
use Rattle.lerc_pack.specs.declared.Entry.{Entry}
use Rattle.lerc_pack.specs.Pack.{pack_says, entry_says}
use Rattle.lerc_pack_writer.specs.Writing.{Given, write_says, pack_given}
use Rattle.lerc_c.specs.Records.{why_of}

-- ---- open: pack, said

unfoldable pub pack_entry : List ℕ → List ℕ → Res ℕ
pack_entry b said = do
  _ ← require (leb 1 (length said)) 5
  pack_says b

-- the count of tiles is said
pub record PackOpenDone (m : Res ℕ) (r : Refusal) (said₀ said₁ : List ℕ) : Type 0 where
  pub why : r ≡ why_of m
  pub said : said₁ ≡ after m said₀ (λ n. over (n ∷ []) said₀)

-- ---- one entry: pack, tiles, number, entry

abbrev pub entry_room : ℕ
entry_room = 6

abbrev pub entry_numbers : Entry → List ℕ
entry_numbers e = e.row ∷ e.column ∷ e.kind ∷ e.depth ∷ e.start ∷ e.length ∷ []

unfoldable pub entry_entry : List ℕ → ℕ → ℕ → List ℕ → Res Entry
entry_entry b tiles number entry = do
  _ ← require (leb entry_room (length entry)) 5
  entry_says b tiles number

pub record PackEntryDone (m : Res Entry) (r : Refusal) (entry₀ entry₁ : List ℕ) : Type 0 where
  pub why : r ≡ why_of m
  pub entry : entry₁ ≡ after m entry₀ (λ e. over (entry_numbers e) entry₀)

-- ---- write: what is given, the room for the pack, said

unfoldable pub pack_write_entry : Given → ℕ → List ℕ → Res ℕ
pack_write_entry g room said = do
  _ ← require (leb 1 (length said)) 5
  write_says g room

-- the pack in front of its slice; its length is said
pub record PackWriteDone (g : Given) (m : Res ℕ) (r : Refusal) (pack₀ pack₁ said₀ said₁ : List ℕ) : Type 0 where
  pub why : r ≡ why_of m
  pub pack : pack₁ ≡ after m pack₀ (λ n. over (pack_given g) pack₀)
  pub said : said₁ ≡ after m said₀ (λ n. over (n ∷ []) said₀)
