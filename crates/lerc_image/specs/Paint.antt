-- An image with the cells of a set put to their words. Images are stated pointwise: which cells, which word, and every other cell as it was.
-- Assumes nothing.
use Rattle.std.specs.Prelude.{ℕ, Bool, false, cond, ◌&&◌, ◌||◌, List, [], ◌∷◌, length, get_or, ltb, eqb}
use Rattle.lerc_words.specs.Lists.{tabulate}
use Rattle.lerc_header.specs.declared.Shape.{Shape}
use Rattle.lerc_header.specs.Shape.{block_count}
use Rattle.lerc_image.specs.Geometry.{tile_of, rank, block_of, place_in, is_valid_cell}

-- "all other cells keep their words"
unfoldable pub painted : List ℕ → (ℕ → Bool) → (ℕ → ℕ) → List ℕ
painted image which word = tabulate (length image) (λ c. cond (which c) (word c) (get_or image c 0))

-- the valid cells of block n
unfoldable pub in_block : Shape → List ℕ → ℕ → ℕ → Bool
in_block h m n c = is_valid_cell h m c && eqb (block_of h c) n

-- a cell's index among the valid pixels of its tile
unfoldable pub index_of : Shape → List ℕ → ℕ → ℕ
index_of h m c = rank h m (tile_of h (block_of h c)) (place_in h c)

-- the word of a cell, where each block has its words
abbrev pub word_of : Shape → List ℕ → (ℕ → List ℕ) → ℕ → ℕ
word_of h m words c = get_or (words (block_of h c)) (index_of h m c) 0

-- the words of block n at its valid cells, every other cell as it was
abbrev pub scattered : Shape → List ℕ → ℕ → List ℕ → List ℕ → List ℕ
scattered h m n words image = painted image (in_block h m n) (word_of h m (λ i. words))

-- ---- any list of block numbers

-- block n filled; a number at or above the count changes nothing
abbrev pub filled_block : Shape → List ℕ → (ℕ → List ℕ) → ℕ → List ℕ → List ℕ
filled_block h m words n image = cond (ltb n (block_count h)) (scattered h m n (words n) image) image

abbrev pub fills : Shape → List ℕ → (ℕ → List ℕ) → List ℕ → List ℕ → List ℕ
fills h m words [] image = image
fills h m words (n ∷ ns) image = fills h m words ns (filled_block h m words n image)

-- is b one of the numbers
abbrev pub among : List ℕ → ℕ → Bool
among [] b = false
among (n ∷ ns) b = eqb b n || among ns b
