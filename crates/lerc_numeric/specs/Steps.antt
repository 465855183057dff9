-- "Value for count q: the lesser of sum(offset, scaled(error, q)) and the depth's maximum, the maximum on a tie."
-- Assumes nothing.
use Rattle.std.specs.Prelude.{ℕ, min, List, length, get_or}
use Rattle.lerc_words.specs.Lists.{tabulate, over}
use Rattle.lerc_numeric.specs.Numeric.{sum, scaled, lesser}

-- of offset, error, maximum and q
unfoldable pub step_of : ℕ → ℕ → ℕ → ℕ → ℕ
step_of offset error top q = lesser (sum offset (scaled error q)) top

-- f of each entry of xs in front, as many as both lists have, and the rest as it was
abbrev pub mapped : (ℕ → ℕ) → List ℕ → List ℕ → List ℕ
mapped f xs old = over (tabulate (min (length xs) (length old)) (λ k. f (get_or xs k 0))) old
