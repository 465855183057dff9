-- What private functions promise; not part of the rules.
-- What writes a constant or raw body, pixel by pixel.
-- Assumes nothing.
use Rattle.std.specs.Prelude.{ℕ, ◌+◌, ◌*◌, ◌/◌, ◌%◌, ◌≤◌, List, length, get_or}
use Rattle.lerc_words.specs.Res.{little}
use Rattle.lerc_header.specs.declared.Shape.{Shape}
use Rattle.lerc_header.specs.Shape.{pixels, cells, Shaped}
use Rattle.lerc_mask.specs.Mask.{valid_below}

-- a constant body's word, by depth
abbrev pub depth_word : Shape → List ℕ → ℕ → ℕ
depth_word h words c = get_or words (c % h.depth) 0

-- a raw body's word: valid pixels in order, depth innermost
abbrev pub raw_word : List ℕ → ℕ → ℕ → Shape → List ℕ → ℕ → ℕ
raw_word s at size h m c = little size s (at + (valid_below (c / h.depth) m * h.depth + c % h.depth) * size)

-- what writing a raw body asks: the words of all valid pixels stand in s from `at` on
pub record RawAsked (h : Shape) (s : List ℕ) (at size : ℕ) (m image : List ℕ) : Type 0 where
  pub shaped : Shaped h
  pub small : size ≤ 8
  pub words : at + valid_below (pixels h) m * h.depth * size ≤ length s
  pub room : cells h ≤ length image
