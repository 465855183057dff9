-- The text that the program writes, as bytes: numbers, lines, cells; and text put into a buffer.
-- Assumes nothing.
use Rattle.std.specs.Prelude.{ℕ, zero, suc, ◌+◌, ◌/◌, ◌%◌, min, ◌≡◌, Bool, cond, List, [], ◌∷◌, ◌++◌, length, get_or, ltb}
use Rattle.std.proofs.lemmas.List.Edits.{sets}
use Rattle.lerc_text.specs.Ascii.{ascii}
use Rattle.lerc_mask.specs.Mask.{pixel_valid}

-- ---- numbers

-- the last k digits of n, highest first and no zeros in front; 48 is '0'
unfoldable pub digits : ℕ → ℕ → List ℕ
digits zero n = []
digits (suc k) n = cond (ltb n 10) ((48 + n) ∷ []) (digits k (n / 10) ++ ((48 + n % 10) ∷ []))

-- "Words are unsigned decimals": a number of 64 bits has at most 20 digits
abbrev pub decimal : ℕ → List ℕ
decimal n = digits 20 n

-- ---- lines

abbrev pub line_end : List ℕ
line_end = ascii "\n"

-- a label and a number
abbrev pub field : List ℕ → ℕ → List ℕ
field label n = label ++ decimal n

-- a line of one label and one number
unfoldable pub line : List ℕ → ℕ → List ℕ
line label n = field label n ++ line_end

-- "refused 8 at 74"
unfoldable pub refusal_line : ℕ → ℕ → List ℕ
refusal_line number place = field (ascii "refused ") number ++ line (ascii " at ") place

-- "width 3 height 1 depth 1 kind 1 valid 3"
unfoldable pub shape_line : ℕ → ℕ → ℕ → ℕ → ℕ → List ℕ
shape_line columns rows depth kind valid =
    field (ascii "width ") columns ++ field (ascii " height ") rows ++ field (ascii " depth ") depth ++ field (ascii " kind ") kind ++ field (ascii " valid ") valid ++ line_end

-- "cell 0 10"; "invalid cells show "-""
unfoldable pub cell_line : ℕ → Bool → ℕ → List ℕ
cell_line cell valid word = field (ascii "cell ") cell ++ ascii " " ++ cond valid (decimal word) (ascii "-") ++ line_end

-- the lines of the first n cells
unfoldable pub cell_lines : ℕ → (ℕ → Bool) → (ℕ → ℕ) → List ℕ
cell_lines zero valid word = []
cell_lines (suc n) valid word = cell_lines n valid word ++ cell_line n (valid n) (word n)

-- whether a cell's pixel is valid, and its word, in a mask and an image
abbrev pub valid_in : ℕ → List ℕ → ℕ → Bool
valid_in depth mask c = pixel_valid mask (c / depth)

abbrev pub word_in : List ℕ → ℕ → ℕ
word_in image c = get_or image c 0

-- ---- text in a buffer

-- Text put at a place: as much of it as there is room for, every other byte as it was; and the place behind it, at most the end.
pub record Put (old : List ℕ) (at : ℕ) (text : List ℕ) (next : ℕ) (new : List ℕ) : Type 0 where
  pub holds : new ≡ sets old at text
  pub behind : next ≡ min (at + length text) (length old)
