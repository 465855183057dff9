-- Demand 2 for C: with slices that have room, `lerc2_read` returns 0 exactly for the blobs that have a meaning, and leaves exactly that meaning.
-- Assumes nothing.
use Rattle.std.specs.Prelude.{◌≡◌, Bool, List, ℕ, ◌≤◌, length}
use Rattle.lerc_words.specs.Res.{ok}
use Rattle.lerc.specs.Meaning.{Meaning, end_of, starts_of, meaning}
use Rattle.lerc.specs.Read.{Lent}
use Rattle.lerc_c.specs.Entries.{read_room, read_numbers}
use Rattle.lerc_theorems.specs.DemandTwo.{Roomy, Exact}
use Rattle.lerc_c_theorems.specs.Calls.{Told, HasPlace, ReadInC}
use Rattle.lerc_c_theorems.specs.SameReader.{Tells}

pub record DemandTwoInC : Type 0 where
  -- 0 exactly where the blob has a meaning, else the number of the meaning's refusal, at its place; accepted, the 13 numbers said are the meaning's header, its count of blocks and its end
  pub meaning-told : (b : List ℕ) (reuse : Bool) (t : Told) (old new : Lent) (said₀ said₁ : List ℕ) → ReadInC b reuse t old new said₀ said₁ → HasPlace t → read_room ≤ length said₀ → Roomy b old
      → Tells (meaning b reuse old.kept) read_numbers t said₀ said₁
  -- kept mask, spare, list and every valid cell are that meaning, as a read that answers so leaves them; all other cells keep their words
  pub cells-exact-in-c : (b : List ℕ) (reuse : Bool) (t : Told) (old new : Lent) (said₀ said₁ : List ℕ) → ReadInC b reuse t old new said₀ said₁ → HasPlace t → read_room ≤ length said₀ → Roomy b old
      → (m : Meaning) → meaning b reuse old.kept ≡ ok m → Exact m (ok (record { header = m.header; blocks = (length (starts_of m.body)); end = (end_of m.body) })) old new
