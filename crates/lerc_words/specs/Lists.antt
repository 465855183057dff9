-- Lists by place, and counts over places.
-- Assumes nothing.
use Rattle.std.specs.Prelude.{ℕ, zero, suc, ◌+◌, Bool, true, cond, ◌&&◌, List, [], ◌∷◌, ◌++◌, length, drop}

-- f i, f (i + 1), ..: n of them
unfoldable pub from : {A : Type 0} → ℕ → ℕ → (ℕ → A) → List A
from zero i f = []
from (suc n) i f = f i ∷ from n (suc i) f

-- f 0, f 1, ..: n of them
abbrev pub tabulate : {A : Type 0} → ℕ → (ℕ → A) → List A
tabulate n f = from n 0 f

-- new entries in front, the rest as it was
abbrev pub over : {A : Type 0} → List A → List A → List A
over front old = front ++ drop (length front) old

-- how many i below n have the property
unfoldable pub count : ℕ → (ℕ → Bool) → ℕ
count zero p = 0
count (suc n) p = count n p + cond (p n) 1 0

-- the sum of f i over all i below n
unfoldable pub total : ℕ → (ℕ → ℕ) → ℕ
total zero f = 0
total (suc n) f = total n f + f n

-- all i below n have the property
unfoldable pub all_to : ℕ → (ℕ → Bool) → Bool
all_to zero p = true
all_to (suc n) p = all_to n p && p n
