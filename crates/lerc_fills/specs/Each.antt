-- Fill by a list of numbers, one after the other.
-- Assumes nothing.
use Rattle.std.specs.Prelude.{ℕ, ◌+◌, ◌≡◌, cond, List, [], ◌∷◌, length}
use Rattle.lerc_words.specs.Res.{accepts}
use Rattle.lerc_header.specs.declared.Header.{Header}
use Rattle.lerc_ranges.specs.declared.Ranges.{Ranges}
use Rattle.lerc_image.specs.Fill.{fill_says, fill_image}

-- 1 where number n is filled, 0 where it is refused
abbrev pub one : List ℕ → Header → Ranges → List ℕ → List ℕ → ℕ → ℕ → ℕ
one b h r m list room n = cond (accepts (fill_says b h r m list n room)) 1 0

-- how many of the numbers are filled
unfoldable pub filled_of : List ℕ → Header → Ranges → List ℕ → List ℕ → ℕ → List ℕ → ℕ
filled_of b h r m list room [] = 0
filled_of b h r m list room (n ∷ ns) = one b h r m list room n + filled_of b h r m list room ns

-- the image after each of the numbers; a refused one leaves it, and the next goes on
unfoldable pub fill_each : List ℕ → Header → Ranges → List ℕ → List ℕ → List ℕ → List ℕ → List ℕ
fill_each b h r m list [] image = image
fill_each b h r m list (n ∷ ns) image = fill_each b h r m list ns (fill_image b h r m list n image)

pub record EachFilled (b : List ℕ) (h : Header) (ranges : Ranges) (m list numbers : List ℕ) (r : ℕ) (old new : List ℕ) : Type 0 where
  pub says : r ≡ filled_of b h ranges m list (length old) numbers
  pub image : new ≡ fill_each b h ranges m list numbers old
