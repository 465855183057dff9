-- What the program writes for what it reads: the text, as a list of bytes.
-- Assumes nothing.
use Rattle.std.specs.Prelude.{ℕ, ◌≡◌, Bool, false, List, [], ◌++◌, length, leb}
use Rattle.lerc_words.specs.declared.Refusal.{Refusal}
use Rattle.lerc_words.specs.Res.{Res, ok, fail, ◌>>=◌, require}
use Rattle.lerc_words.specs.Lists.{over}
use Rattle.lerc_header.specs.declared.Header.{Header}
use Rattle.lerc_header.specs.Header.{shape_of, header_says}
use Rattle.lerc_header.specs.Shape.{cells}
use Rattle.lerc_validity.specs.Validity.{bytes_of}
use Rattle.lerc_text.specs.Ascii.{ascii}
use Rattle.lerc_text.specs.Text.{line, refusal_line, shape_line, cell_lines, valid_in}
use Rattle.lerc.specs.Meaning.{Meaning, meaning, starts_of, end_of, cell_word}

abbrev pub bytes_most : ℕ
bytes_most = 16384

abbrev pub cells_most : ℕ
cells_most = 4096

-- "over 16,384 bytes: 4; over 4,096 cells: 5; no reuse"
unfoldable pub program_says : List ℕ → Res Meaning
program_says b = do
  _ ← require (leb (length b) bytes_most) 4
  h ← header_says b
  _ ← require (leb (cells (shape_of h)) cells_most) 5
  meaning b false []

-- the first line, the count of blocks, a line for each cell, the end
unfoldable pub image_text : Header → ℕ → ℕ → (ℕ → Bool) → (ℕ → ℕ) → List ℕ
image_text h blocks end valid word =
    shape_line h.columns h.rows h.depth h.kind h.valid ++ line (ascii "blocks ") blocks ++ cell_lines (cells (shape_of h)) valid word ++ line (ascii "end ") end

abbrev pub whole_text : Meaning → List ℕ
whole_text m =
    let h = m.header in
    let mask = bytes_of m.mask in
    image_text h (length (starts_of m.body)) (end_of m.body) (valid_in h.depth mask) (cell_word h mask m.body)

-- "The program writes 'refused 8 at 74'", and nothing else
abbrev pub refusal_text : Refusal → List ℕ
refusal_text r = refusal_line r.number r.at

abbrev pub said_text : Res Meaning → List ℕ
said_text (ok m) = whole_text m
said_text (fail r) = refusal_text r

-- "The program reads one blob from standard input .. and writes exactly"
abbrev pub program_text : List ℕ → List ℕ
program_text b = said_text (program_says b)

-- the text at the start of a buffer, its length, and every byte behind it as it was
pub record Answered (input old : List ℕ) (r : ℕ) (new : List ℕ) : Type 0 where
  pub count : r ≡ length (program_text input)
  pub holds : new ≡ over (program_text input) old
