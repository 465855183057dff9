-- What the public functions promise.
-- Assumes nothing.
use Rattle.std.specs.Prelude.{ℕ, zero, suc, ◌+◌, ◌*◌, Bool, ◌&&◌, List, length, take, nat_le}
use Rattle.lerc_words.specs.Res.{Res, ok, fail, ◌>>=◌, marked, require, after}
use Rattle.lerc_header.specs.declared.Header.{Header}
use Rattle.lerc_header.specs.Header.{shape_of, held}
use Rattle.lerc_image.specs.Geometry.{is_valid_cell}
use Rattle.lerc_image.specs.Paint.{painted}
use Rattle.lerc_byte_image.specs.Table.{Table, table_at}
use Rattle.lerc_byte_image.specs.Symbols.{Symbol, symbol_at, Coded, coded_at}
use Rattle.lerc_byte_image.specs.Prediction.{byte_word}

-- ---- check: nothing is written

-- "both at the mode byte's place": the image whose mode byte stands at `mode`, a symbol for each valid cell
unfoldable pub image_at : List ℕ → Header → ℕ → Res Coded
image_at s h mode = marked mode (coded_at s (mode + 1) (h.valid * h.depth))

-- 3, 4, 1, then table and symbols
unfoldable pub checked_image : List ℕ → Header → ℕ → Res Coded
checked_image b h mode = do
  _ ← held h (length b)
  image_at (take h.size b) h mode

-- where it ends
abbrev pub ended : Res Coded → Res ℕ
ended c = c >>= λ x. ok x.end

-- ---- write: nothing is refused

-- the symbol at a bit; where there is none it is 0, and no bit on
abbrev pub or_none : ℕ → Res Symbol → Symbol
or_none p (ok x) = x
or_none p (fail r) = record { value = 0; next = p }

abbrev pub symbol_on : List ℕ → Table → ℕ → Symbol
symbol_on s t p = or_none p (symbol_at s t p)

-- where symbol i begins, of those from bit p on
unfoldable pub spot : List ℕ → Table → ℕ → ℕ → ℕ
spot s t p zero = p
spot s t p (suc i) = (symbol_on s t (spot s t p i)).next

-- symbol i; where all are accepted it is the i-th of them (law `coded-symbol`)
unfoldable pub symbol_no : List ℕ → Table → ℕ → ℕ → ℕ
symbol_no s t p i = (symbol_on s t (spot s t p i)).value

-- the valid cells of an image with this table
unfoldable pub by_table : List ℕ → Header → Bool → List ℕ → List ℕ → Table → List ℕ
by_table s h delta m image t =
    painted image (is_valid_cell (shape_of h) m) (byte_word (shape_of h) h.kind delta m (symbol_no s t 0))

-- the table, once there is room for mask and image; `write` tells no number
unfoldable pub write_table : List ℕ → Header → ℕ → ℕ → ℕ → Res Table
write_table b h mode mask image = do
  e ← held h (length b)
  _ ← require (nat_le e.mask mask && nat_le e.cells image) 5
  table_at (take h.size b) (mode + 1)

-- every valid cell, where header, room and table are right; else nothing is written. Symbols are not judged here: what reads a body does so before it writes
unfoldable pub written_image : List ℕ → Header → ℕ → Bool → List ℕ → List ℕ → List ℕ
written_image b h mode delta m image =
    after (write_table b h mode (length m) (length image)) image (by_table (take h.size b) h delta m image)
