-- What private functions promise; not part of the rules.
-- Cells in order, for what is written pixel by pixel.
-- Assumes nothing.
use Rattle.std.specs.Prelude.{ℕ, ◌+◌, Bool, ◌&&◌, List, leb, ltb}
use Rattle.lerc_header.specs.declared.Shape.{Shape}
use Rattle.lerc_image.specs.Geometry.{is_valid_cell}

-- the n cells from `base` on
unfoldable pub within : ℕ → ℕ → ℕ → Bool
within base n c = leb base c && ltb c (base + n)

-- the valid cells below k
unfoldable pub valid_upto : Shape → List ℕ → ℕ → ℕ → Bool
valid_upto h m k c = is_valid_cell h m c && ltb c k
