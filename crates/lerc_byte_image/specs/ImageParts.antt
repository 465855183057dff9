-- What private functions promise that write an image; not part of the rules.
-- Assumes nothing.
use Rattle.std.specs.Prelude.{ℕ, zero, suc, ◌-◌, ◌/◌, ◌%◌, ◌≤◌, Bool, cond, ◌&&◌, List, length, ◌==◌, nat_lt}
use Rattle.lerc_header.specs.declared.Shape.{Shape}
use Rattle.lerc_header.specs.Shape.{cells, Shaped}
use Rattle.lerc_mask.specs.Mask.{valid_below}
use Rattle.lerc_image.specs.Geometry.{is_valid_cell}
use Rattle.lerc_image.specs.Cells.{within}
use Rattle.lerc_byte_image.specs.Table.{Table}
use Rattle.lerc_byte_image.specs.Prediction.{byte_of, left_valid, above_valid, delta_byte}
use Rattle.lerc_byte_image.specs.Image.{symbol_no}
use Rattle.lerc_byte_image.specs.Parts.{Ready}

-- what it asks: a symbol can be found at bit p, and there is room for every cell
pub record Asked (h : Shape) (s : List ℕ) (t : Table) (entries : List ℕ) (p : ℕ) (image : List ℕ) : Type 0 where
  pub shaped : Shaped h
  pub ready : Ready s t entries p
  pub room : cells h ≤ length image

-- ---- without prediction

-- the word of a cell, of those from `base` on, whose symbols begin at bit p
unfoldable pub plain_run : List ℕ → Table → ℕ → ℕ → ℕ → ℕ → ℕ
plain_run s t kind p base c = byte_of kind (symbol_no s t p (c - base)) 0

-- ---- with it

-- a prediction from the last value and the word above
abbrev pub guess : ℕ → List ℕ → ℕ → ℕ → ℕ → ℕ
guess columns m p last above = cond (left_valid columns m p) last (cond (above_valid columns m p) above last)

-- one depth's cells of the n pixels from `first` on
unfoldable pub strip : ℕ → ℕ → ℕ → ℕ → ℕ → Bool
strip depth d first n c = c % depth == d && within first n (c / depth)

-- the last of n bytes, each predicted by the one before it; that one's own value is `first` where there is none
unfoldable pub chained : ℕ → (ℕ → ℕ) → ℕ → ℕ → ℕ
chained kind symbol first zero = first
chained kind symbol first (suc n) = byte_of kind (symbol n) (chained kind symbol first n)

-- the valid cells of one depth, of the pixels below q
unfoldable pub plane_upto : Shape → List ℕ → ℕ → ℕ → ℕ → Bool
plane_upto h m d q c = is_valid_cell h m c && (c % h.depth == d && nat_lt (c / h.depth) q)

-- the word of a cell of one depth, whose symbols begin at bit p
unfoldable pub plane_word : Shape → ℕ → List ℕ → List ℕ → Table → ℕ → ℕ → ℕ
plane_word h kind m s t p c = delta_byte kind h.columns m (λ q. symbol_no s t p (valid_below q m)) (c / h.depth)

-- the valid cells of the depths below d
unfoldable pub planes : Shape → List ℕ → ℕ → ℕ → Bool
planes h m d c = is_valid_cell h m c && nat_lt (c % h.depth) d
