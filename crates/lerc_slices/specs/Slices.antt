-- What a slice holds after a copy, and what it begins with.
-- Assumes nothing.
use Rattle.std.specs.Prelude.{ℕ, Bool, false, ◌&&◌, List, length, take, get_or, leb, eqb}
use Rattle.lerc_words.specs.Res.{Res, ok, fail}
use Rattle.lerc_words.specs.Lists.{over, all_to}

-- as many entries of `from` as there is room for, in front of the rest
abbrev pub copied : {A : Type 0} → List A → List A → List A
copied from to = over (take (length to) from) to

-- s begins with these entries
unfoldable pub begins_with : List ℕ → List ℕ → Bool
begins_with front s = leb (length front) (length s) && all_to (length front) (λ i. eqb (get_or s i 0) (get_or front i 0))

-- a value was accepted, and the test holds of it
abbrev pub accepts_with : {A : Type 0} → Res A → (A → Bool) → Bool
accepts_with (ok a) test = test a
accepts_with (fail r) test = false
