-- What private functions promise; not part of the rules.
-- Assumes nothing.
use Rattle.std.specs.Prelude.{ℕ, ◌^◌, ◌≤◌, ◌<◌, ◌≡◌, Bool, true, false, List, get_or}
use Rattle.lerc_words.specs.Res.{Res, ok, ◌>>=◌}
use Rattle.lerc_words.specs.Lists.{over}
use Rattle.lerc_numeric.specs.Steps.{step_of}
use Rattle.lerc_samples.specs.Samples.{stored}

-- the word of count q
abbrev pub step_word : ℕ → ℕ → ℕ → ℕ → ℕ → Res ℕ
step_word kind error top offset q = stored kind (step_of offset error top q)

-- all words stand in front and `next` is answered, or the first refusal is; nothing is said of a refusal's array
pub record BlockConverted (m : Res (List ℕ)) (next : ℕ) (r : Res ℕ) (old new : List ℕ) : Type 0 where
  pub says : r ≡ (m >>= λ words. ok next)
  pub words : (front : List ℕ) → m ≡ ok front → new ≡ over front old

-- all words stand in front
pub record StepsPut (m : Res (List ℕ)) (old new : List ℕ) : Type 0 where
  pub words : List ℕ
  pub is : m ≡ ok words
  pub front : new ≡ over words old

-- all words stand in front, or nothing was written
pub record StepsTried (m : Res (List ℕ)) (r : Bool) (old new : List ℕ) : Type 0 where
  pub put : r ≡ true → StepsPut m old new
  pub left : r ≡ false → new ≡ old

-- counts of at most so many bits
pub record CountsOf (bits : ℕ) (counts : List ℕ) : Type 0 where
  pub narrow : bits ≤ 31
  pub below : (k : ℕ) → get_or counts k 0 < 2 ^ bits
